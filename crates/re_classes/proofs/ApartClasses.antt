-- The classes of problems are apart.
use Rattle.std.proofs.Common.{◌≡◌, ℕ, suc, ◌+◌, ◌*◌, ◌^◌, ◌≤◌, subst, arith}
use Rattle.std.proofs.Math.Nat.{mul-le-mul, pow-le-pow_right}
use Rattle.std.proofs.lemmas.Nat.{pow-add}
use Rattle.re_classes.specs.Classes.{IsAboveLog, IsAboveLogStar, IsBelowLogStar, IsConstantLocal, IsMoreThanConstant}
use Rattle.re_classes.specs.Laws.{ApartLaw, WeakerLaw}
use Rattle.re_local.proofs.MoreLocal.{SolvableLocal-later}
use Rattle.re_layers.proofs.Towers.{above, below_power, power_below, tower-power}
use Rattle.re_layers.specs.Towers.{tower}
use Rattle.re_problem.specs.Problems.{Problem}

-- a tower with so many twos more is at least the power
power-tower : (C T : ℕ) → C ^ (T + 1) ≤ tower (T + (C + 2))
power-tower C T =
    let base : suc C ≤ 2 ^ C = below_power C in
    let power : C ^ (T + 1) ≤ 2 ^ (C * (T + 1)) = power_below C C (T + 1) (T + 1) (omega (arith, base)) (omega arith) in
    let exponent : suc T ≤ 2 ^ T = below_power T in
    let product : C * (T + 1) ≤ 2 ^ C * 2 ^ T = mul-le-mul (omega (arith, base)) (omega (arith, exponent)) in
    let joined : 2 ^ (C + T) ≡ 2 ^ C * 2 ^ T = pow-add 2 C T in
    let height : suc (C + T) ≤ tower (C + T) = above (C + T) in
    let inner : 2 ^ (C + T) ≤ 2 ^ tower (C + T) = pow-le-pow_right (omega arith) (omega (arith, height)) in
    let outer : 2 ^ (C * (T + 1)) ≤ 2 ^ (2 ^ tower (C + T)) = pow-le-pow_right (omega arith) (omega (arith, product, joined, inner)) in
    let same : suc (suc (C + T)) ≡ T + (C + 2) = omega arith in
    subst (λ h. C ^ (T + 1) ≤ tower h) same (omega (arith, power, outer))

log_above_log_star : (problem : Problem) → IsAboveLog problem → IsAboveLogStar problem
log_above_log_star problem (C, beyond) = (
  C + 2,
  λ T N many solvable. let enough : C ^ (T + 1) ≤ tower (T + (C + 2)) = power-tower C T in beyond T N (omega (arith, enough, many)) solvable,
)

pub log_star_above_constant : (problem : Problem) → IsAboveLogStar problem → IsMoreThanConstant problem
log_star_above_constant problem (c, beyond) T = (tower (T + c), λ more many solvable. beyond T more many solvable)

constant_below_log_star : (problem : Problem) → IsConstantLocal problem → IsBelowLogStar problem
constant_below_log_star problem (k, local) = (k, λ h N few. SolvableLocal-later problem N (2 * h) k (local N))

pub weaker : WeakerLaw
weaker problem = (log_above_log_star problem, log_star_above_constant problem, constant_below_log_star problem)

pub log_apart : (problem : Problem) → IsBelowLogStar problem → IsAboveLog problem → ⊥
log_apart problem (K, local) (C, beyond) =
    let (h, few) = tower-power C C (K + 1) (let l : suc C ≤ 2 ^ C = below_power C in omega (arith, l)) in
    let exponent : 2 * h + (K + 1) ≡ 2 * h + K + 1 = omega arith in
    beyond (2 * h + K) (tower h) (subst (λ e. C ^ e ≤ tower h) exponent few) (local h (tower h) (omega arith))

pub constant_apart : (problem : Problem) → IsConstantLocal problem → IsMoreThanConstant problem → ⊥
constant_apart problem (k, local) more = let (N, beyond) = more k in beyond N (omega arith) (local N)

pub classes_apart : ApartLaw
classes_apart problem = (constant_apart problem, log_apart problem)
