-- How many colours are left after a step.
use Rattle.std.proofs.Common.{◌≡◌, ℕ, ◌+◌, ◌*◌, ◌^◌, ◌≤◌, sym, subst, arith}
use Rattle.std.proofs.Math.Nat.{pow-le-pow_left, pow-le-pow_right}
use Rattle.std.proofs.lemmas.Nat.{mul-le, pow-add}
use Rattle.re_layers.proofs.Towers.{own_power, power_of}

-- so many bits do for as many colours as are left where x stands for a tower of them
abbrev pub bits : ℕ → ℕ → ℕ
bits e x = 11 * x * e

-- the number of colours that a step leaves of so many bits
abbrev pub colours : ℕ → ℕ → ℕ
colours e x = (2 * bits e x) ^ e

-- a power of 2 instead of x
pub colours-bits : (e x : ℕ) → e ≤ 30 → 1 ≤ x → colours e (2 ^ x) ≤ 2 ^ bits e x
colours-bits e x small some = subst (λ k. colours e (2 ^ x) ≤ k) (sym (power_of 2 (11 * x) e)) (pow-le-pow_left within e)
  where
    product : 2 ^ x * e ≤ 2 ^ x * 30
    product = mul-le (2 ^ x) e (2 ^ x) 30 (omega arith) small

    ten : 2 ^ (10 + x) ≡ 2 ^ 10 * 2 ^ x
    ten = pow-add 2 10 x

    more : 2 ^ (10 + x) ≤ 2 ^ (11 * x)
    more = pow-le-pow_right (omega arith) (omega (arith, some))

    same : 2 * (11 * 2 ^ x * e) ≡ 22 * (2 ^ x * e)
    same = grind arith

    within : 2 * (11 * 2 ^ x * e) ≤ 2 ^ (11 * x)
    within = omega (arith, same, product, ten, more)

-- there are no fewer colours than x, and than twice the degree
pub colours_enough : (e x : ℕ) → 1 ≤ e → 1 ≤ x → (x ≤ colours e x) × (22 * e ≤ colours e x)
colours_enough e x some positive =
    let whole : 2 * bits e x ≤ colours e x = own_power (2 * bits e x) e some in
    let one : x * 1 ≤ x * e = mul-le x 1 x e (omega arith) some in
    let other : 1 * e ≤ x * e = mul-le 1 e x e positive (omega arith) in
    let same : 2 * (11 * x * e) ≡ 22 * (x * e) = grind arith in
    (omega (arith, whole, one, same), omega (arith, whole, other, same))
