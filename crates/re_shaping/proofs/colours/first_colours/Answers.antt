use Rattle.std.proofs.Common.{ap, ◌∙◌, length}
use Rattle.re_labels.specs.declared.TheConstants.{MAX_LABELS}
use Rattle.re_shaping.specs.Colours.{colours_by, first_colours, refined}
use Rattle.re_shaping.specs.declared.colours.TheConstants.{FIRST}
use Rattle.re_shaping.proofs.colours.first_colours.Goals as goal

pub returns-clause-colours : goal.returns-clause-colours
unfolding first_colours
returns-clause-colours c =
    c.refined.ensures
    ∙ ap (refined MAX_LABELS c.args.problem.now) (c.alike.ensures ∙ ap (colours_by (λ label. FIRST)) (c.len.ensures.len ∙ ap length c.names.ensures.names))
