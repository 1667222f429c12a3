use Rattle.std.proofs.Common.{◌≡◌, ℕ, ◌+◌, ◌*◌, ◌%◌, ◌^◌, ap, arith, ◌∙◌}
use Rattle.std.proofs.Math.Nat.{mod-add-mod}
use Rattle.re_shaping.specs.Marks.{constraint_mark, problem_mark}
use Rattle.re_shaping.proofs.marks.problem_mark.Goals as goal

pub returns : goal.returns
unfolding problem_mark
returns c =
    let one = c.constraint_mark-active.ensures ∙ ap constraint_mark c.active.ensures.active in
    let two = c.constraint_mark-passive.ensures ∙ ap constraint_mark c.passive.ensures.passive in
    mod-add-mod (c.constraint_mark-active.result * 3) (2 ^ 64) c.constraint_mark-passive.result
    ∙ ap (λ s. s % 2 ^ 64) (together c.constraint_mark-active.result c.constraint_mark-passive.result (constraint_mark c.args.problem.now.active) (constraint_mark c.args.problem.now.passive) one two)
  where
    together : (a p m n : ℕ) → a ≡ m → p ≡ n → a * 3 + p ≡ 3 * m + n
    together a p m n e f = omega arith
