use Rattle.std.proofs.Common.{◌∙◌, ap, sym}
use Rattle.re_labels.proofs.Sets.{has-IsIn}
use Rattle.re_labels.specs.Sets.{has}
use Rattle.re_boxes.specs.HeldStrength.{ups_in}
use Rattle.re_describe.proofs.Thinning.{has_told}
use Rattle.re_describe.proofs.meanings.goes_up.Goals as goal

pub returns : goal.returns
returns c =
    let told = has_told (ups_in c.args.strength.now.ups.items c.args.other) c.args.label c.has-2.result (c.has-2.ensures ∙ ap (λ s. has s c.args.label) c.up.ensures.up) in
    ((λ t. (has-IsIn c.args.set c.args.other (sym c.has.ensures ∙ c.if-not-has.false), told.0 t)), (λ both. told.1 both.1))
