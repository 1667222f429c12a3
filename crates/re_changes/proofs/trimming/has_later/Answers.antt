use Rattle.std.proofs.Common.{◌<◌, arith, length, sym, ◌∙◌}
use Rattle.re_changes.proofs.StillCovered.{after-read}
use Rattle.re_changes.proofs.trimming.has_later.Goals as goal

pub returns-in-Some : goal.returns-in-Some
returns-in-Some c = λ t.
    let within : c.args.label < length c.args.covers.now = omega (arith, c.if-label-covers.false) in
    let two = after-read c.args.covers.now c.args.label c.in-Some.field-0 c.index-covers-label.result within c.index-covers-label.is (sym c.after.ensures ∙ c.in-Some.is) in
    (within, c.in-Some.field-0, two.0, two.1)
