use Rattle.std.proofs.Common.{◌≡◌, ℕ, ◌<◌, get_or, []}
use Rattle.re_step.proofs.settling.is_listed.Given as goal

abbrev pub invariant-loop-other : goal.invariant-loop-other
invariant-loop-other l = (k : ℕ) → k < l.other-index → l.row ≡ get_or l.rows k [] → ⊥
