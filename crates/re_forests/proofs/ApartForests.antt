-- The classes of problems on forests are apart.
use Rattle.std.proofs.Common.{◌≡◌, ℕ, suc, ◌+◌, ◌*◌, ◌^◌, ◌≤◌, sym, ◌∙◌, ap, subst, arith}
use Rattle.std.proofs.Math.Nat.{mul-le-mul, pow-le-pow_left, pow-le-pow_right}
use Rattle.std.proofs.lemmas.Nat.{pow-add}
use Rattle.re_forests.specs.Classes.{HasNoSolution, IsAboveLinear, IsAboveLogOnForests, IsAboveLogStarOnForests, IsBelowLinear, IsBelowLogOnForests, IsBelowLogStarOnForests, IsConstantOnForests}
use Rattle.re_forests.specs.ClassLaws.{ApartLaw}
use Rattle.re_layers.specs.Towers.{tower}
use Rattle.re_layers.proofs.Towers.{above, below_power, power_of, tower-power}
use Rattle.re_problem.specs.Problems.{Problem}

pub constant_apart : (problem : Problem) → IsConstantOnForests problem → IsAboveLogStarOnForests problem → ⊥
constant_apart problem (k, solved) (c, beyond) = beyond k (tower (k + c)) (omega arith) (solved (tower (k + c)))

log_star_apart : (problem : Problem) → IsBelowLogStarOnForests problem → IsAboveLogOnForests problem → ⊥
log_star_apart problem (c, K, solved) (C, beyond) =
    let B : ℕ = suc C ^ suc c in
    let base : suc B ≤ 2 ^ B = below_power B in
    let (h, few) = tower-power B B (K + 1) (omega (arith, base)) in
    let exponent : c * h + K + 1 ≤ suc c * (2 * h + (K + 1)) = omega arith in
    let one : C ^ (c * h + K + 1) ≤ suc C ^ (c * h + K + 1) = pow-le-pow_left (omega arith) (c * h + K + 1) in
    let two : suc C ^ (c * h + K + 1) ≤ suc C ^ (suc c * (2 * h + (K + 1))) = pow-le-pow_right (omega arith) exponent in
    let three : suc C ^ (suc c * (2 * h + (K + 1))) ≡ B ^ (2 * h + (K + 1)) = power_of (suc C) (suc c) (2 * h + (K + 1)) in
    let enough : C ^ (c * h + K + 1) ≤ tower h = omega (arith, one, two, three, few) in
    beyond (c * h + K) (tower h) enough (solved h (tower h) (omega arith))

log_apart : (problem : Problem) → IsBelowLogOnForests problem → IsAboveLinear problem → ⊥
log_apart problem (K, solved) (M, beyond) =
    let A : ℕ = M * K + 4 * M in
    let b : ℕ = A + (A + 4) in
    let low : suc A ≤ 2 ^ A = below_power A in
    let most : A * suc b ≤ 2 ^ A * (2 ^ A * 2 ^ 4) = mul-le-mul (omega (arith, low)) (omega (arith, low)) in
    let same : 2 ^ b ≡ 2 ^ A * (2 ^ A * 2 ^ 4) = pow-add 2 A (A + 4) ∙ ap (λ z. 2 ^ A * z) (pow-add 2 A 4) in
    let room : M * (K * suc b + 4) ≤ A * suc b = rounds b in
    beyond (2 ^ b) (K * suc b) (omega (arith, most, same, room)) (solved (2 ^ b) b (omega arith))
  where
    rounds : (b : ℕ) → M * (K * suc b + 4) ≤ (M * K + 4 * M) * suc b
    rounds b = omega arith

none_apart : (problem : Problem) → HasNoSolution problem
    → (IsConstantOnForests problem → ⊥) × (IsBelowLogStarOnForests problem → ⊥) × (IsBelowLogOnForests problem → ⊥) × (IsBelowLinear problem → ⊥)
none_apart problem (M, beyond) = (
  (λ (k, solved). beyond M k (omega arith) (solved M)),
  (λ (c, K, solved). beyond M (c * M + K) (omega arith) (solved M M (let high : suc M ≤ tower M = above M in omega (arith, high)))),
  (λ (K, solved). beyond M (K * suc M) (omega arith) (solved M M (let high : suc M ≤ 2 ^ M = below_power M in omega (arith, high)))),
  (λ (K, solved). beyond M (K * suc M) (omega arith) (solved M)),
)

pub apart : ApartLaw
apart problem = (constant_apart problem, log_star_apart problem, log_apart problem, none_apart problem)
