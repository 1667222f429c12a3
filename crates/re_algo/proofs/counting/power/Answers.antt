use Rattle.std.proofs.Common.{◌≡◌, ◌*◌, ◌^◌, ◌+◌, ap, sym, ◌∙◌, add-one, arith}
use Rattle.std.proofs.Math.Nat.{pow-suc}
use Rattle.re_algo.proofs.CountCode.{power_past}
use Rattle.re_algo.proofs.counting.power.Goals as goal

pub returns-then-done-from : goal.returns-then-done-from
returns-then-done-from c =
    let so_far : c.loop.done ≡ c.args.base ^ c.loop.counter = c.loop.invariant.0 in
    let next : c.loop.done * c.args.base ≡ c.args.base ^ (c.loop.counter + 1) = ap (λ n. n * c.args.base) so_far ∙ (sym (pow-suc c.args.base c.loop.counter) ∙ ap (λ n. c.args.base ^ n) (sym (add-one c.loop.counter))) in
    power_past c.args.base c.loop.counter c.args.exponent (c.loop.done * c.args.base) c.requires.base next c.loop-test.true (let past = c.if-done-from.true in let is = c.from.ensures in omega arith)
