use Rattle.std.proofs.Common.{◌≡◌, ℕ, ◌<◌, ◌-◌, [], drop, false, get_or}
use Rattle.re_problem.specs.Zero.{shows_zero}
use Rattle.re_problem.proofs.zero.first_fit.Given as goal

abbrev pub invariant-loop-place : goal.invariant-loop-place
invariant-loop-place l = record {
  left : l.left ≡ drop l.place l.active.configs;
  before : (k : ℕ) → k < l.place → shows_zero l.passive (get_or l.active.configs k []) ≡ false;
}

abbrev pub decreases-loop-place : goal.decreases-loop-place
decreases-loop-place l = l.place-end - l.place
