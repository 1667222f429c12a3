use Rattle.std.proofs.Common.{◌&&◌, arith, length, sym, ◌∙◌}
use Rattle.re_labels.proofs.Tests.{true-and}
use Rattle.re_changes.proofs.Counted.{any-counted, any-none}
use Rattle.re_changes.specs.Classes.{is_stronger, strong_by}
use Rattle.re_changes.proofs.classes.stands_between.Goals as goal

pub returns-then-is_stronger-2 : goal.returns-then-is_stronger-2
returns-then-is_stronger-2 c =
    sym (any-counted (λ z. is_stronger (strong_by c.args.ups.now) z c.args.weak && is_stronger (strong_by c.args.ups.now) c.args.strong z) (length c.args.ups.now) c.loop-middle.middle (omega (arith, c.loop-middle-test.true))
    (true-and (is_stronger (strong_by c.args.ups.now) c.loop-middle.middle c.args.weak) (is_stronger (strong_by c.args.ups.now) c.args.strong c.loop-middle.middle)
    (sym c.is_stronger.ensures ∙ c.if-is_stronger.true) (sym c.is_stronger-then-is_stronger.ensures ∙ c.if-is_stronger-2.true)))

pub returns : goal.returns
returns c =
    sym (any-none (λ z. is_stronger (strong_by c.args.ups.now) z c.args.weak && is_stronger (strong_by c.args.ups.now) c.args.strong z) (length c.args.ups.now) (λ k l. c.loop-middle.invariant k (omega (arith, c.loop-middle-test.false))))
