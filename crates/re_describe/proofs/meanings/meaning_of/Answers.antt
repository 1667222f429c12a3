use Rattle.re_boxes.specs.HeldStrength.{ups_in}
use Rattle.re_describe.proofs.Thinning.{weakest_tell}
use Rattle.re_describe.proofs.meanings.meaning_of.Goals as goal

pub returns-then-is_up : goal.returns-then-is_up
returns-then-is_up c =
    let closed = c.is_up.ensures.0 c.if-is_up.true in
    (closed, weakest_tell (ups_in c.args.strength.now.ups.items) c.args.strength.now.labels c.args.set c.thinned.result c.requires.holds c.requires.set closed c.thinned.ensures.within c.thinned.ensures.whole c.thinned.ensures.apart c.thinned.ensures.least)
