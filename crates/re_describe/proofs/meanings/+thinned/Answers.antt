use Rattle.re_boxes.specs.HeldStrength.{ups_in}
use Rattle.re_describe.proofs.Thinning.{apart_on, least_on}
use Rattle.re_describe.proofs.meanings.+thinned.Goals as goal

pub returns-clause-apart : goal.returns-clause-apart
returns-clause-apart t c =
    apart_on (ups_in c.args.strength.now.ups.items) c.thinned_at-kept.result c.thinned.result c.args.label c.thinned.ensures.within c.thinned_at-kept.ensures.apart c.thinned.ensures.apart

pub returns-clause-least : goal.returns-clause-least
returns-clause-least t c =
    least_on (ups_in c.args.strength.now.ups.items) c.args.set c.thinned_at-kept.result c.thinned.result c.args.label c.thinned.ensures.within c.thinned_at-kept.ensures.stays c.thinned_at-kept.ensures.apart c.thinned.ensures.least
