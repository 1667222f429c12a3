use Rattle.std.proofs.Common.{ap, ◌∙◌, map}
use Rattle.re_labels.specs.Lists.{place_of}
use Rattle.re_step.proofs.ConfigurationLemmas.{places_below}
use Rattle.re_closure.proofs.constraints.config_of.Goals as goal

pub from_labels-requires-clause-below : goal.from_labels-requires-clause-below
from_labels-requires-clause-below c = places_below c.args.sets.now c.args.line.now c.as_slice.result.now c.requires.few c.requires.there
    (c.as_slice.ensures.value ∙ c.labels_of-labels.ensures ∙ ap (map (place_of c.args.sets.now)) c.sets.ensures.sets)
