-- Each bound gives the next weaker one.
use Rattle.std.proofs.Common.{◌≡◌, ℕ, suc, ◌+◌, ◌*◌, ◌^◌, ◌≤◌, sym, subst, arith}
use Rattle.std.proofs.Math.Nat.{pow-le-pow_right}
use Rattle.re_forests.specs.OnForests.{SolvableOnForests}
use Rattle.re_forests.proofs.TowerRooms.{power_room}
use Rattle.re_forests.specs.Classes.{HasNoSolution, IsAboveLinear, IsAboveLogOnForests, IsAboveLogStarOnForests, IsBelowLinear, IsBelowLogOnForests, IsBelowLogStarOnForests, IsConstantOnForests}
use Rattle.re_forests.specs.ClassLaws.{WeakerLaw}
use Rattle.re_layers.proofs.Locality.{local_most}
use Rattle.re_layers.specs.Towers.{tower}
use Rattle.re_layers.proofs.Towers.{above, below_power, power_of}
use Rattle.re_problem.specs.Problems.{Problem}

pub later : (problem : Problem) (N T more : ℕ) → T ≤ more → SolvableOnForests problem N T → SolvableOnForests problem N more
later problem N T more l (algorithm, local, solves) = (algorithm, local_most T more algorithm l local, solves)

constant_below : (problem : Problem) → IsConstantOnForests problem → IsBelowLogStarOnForests problem
constant_below problem (k, solved) = (0, k, λ h N few. later problem N k (0 * h + k) (omega arith) (solved N))

log_star_below : (problem : Problem) → IsBelowLogStarOnForests problem → IsBelowLogOnForests problem
log_star_below problem (c, K, solved) = (
  c + K,
  λ N b few. (
      let high : suc b ≤ tower b = above b in
      let power : 2 ^ b ≤ 2 ^ tower b = pow-le-pow_right (omega arith) (omega (arith, high)) in
      let room : N ≤ tower (suc b) = omega (arith, few, power) in
      later problem N (c * suc b + K) ((c + K) * suc b) (omega arith) (solved (suc b) N room)
      ),
)

log_below : (problem : Problem) → IsBelowLogOnForests problem → IsBelowLinear problem
log_below problem (K, solved) = (K, λ N. solved N N (let high : suc N ≤ 2 ^ N = below_power N in omega (arith, high)))

none_above : (problem : Problem) → HasNoSolution problem → IsAboveLinear problem
none_above problem (M, beyond) = (M, λ N T room. beyond N T (many N T room))
  where
    many : (N T : ℕ) → M * (T + 4) ≤ N → M ≤ N
    many N T room = omega (arith, room)

linear_above : (problem : Problem) → IsAboveLinear problem → IsAboveLogOnForests problem
linear_above problem (M, beyond) = (
  2 ^ (4 * M),
  λ T N many solvable. (
      let power : 2 ^ (4 * M * (T + 1)) ≡ (2 ^ (4 * M)) ^ (T + 1) = power_of 2 (4 * M) (T + 1) in
      let low : suc (4 * M * (T + 1)) ≤ 2 ^ (4 * M * (T + 1)) = below_power (4 * M * (T + 1)) in
      let less : M * (T + 4) ≤ 4 * M * (T + 1) = omega arith in
      beyond N T (omega (arith, many, power, low, less)) solvable
      ),
)

log_above : (problem : Problem) → IsAboveLogOnForests problem → IsAboveLogStarOnForests problem
log_above problem (C, beyond) = (
  C + 1,
  λ T N many solvable. (
      let room : C ^ (T + 1) ≤ tower (T + (C + 1)) = power_room C T in
      let enough : tower (T + (C + 1)) ≤ N = many in
      beyond T N (omega (arith, room, enough)) solvable
      ),
)

pub weaker : WeakerLaw
weaker problem = (constant_below problem, log_star_below problem, log_below problem, none_above problem, linear_above problem, log_above problem)
