-- What a tower has room for: powers with few twos, and the places behind a forest.
use Rattle.std.proofs.Common.{◌≡◌, ℕ, zero, suc, ◌+◌, ◌*◌, ◌^◌, ◌≤◌, subst, arith}
use Rattle.std.proofs.Math.Nat.{mul-le-mul, pow-le-pow_right, pow-succ'}
use Rattle.std.proofs.lemmas.Nat.{pow-add}
use Rattle.re_layers.proofs.Towers.{above, below_power, power_below, tower-le}
use Rattle.re_layers.specs.Towers.{tower}

twice : (y : ℕ) → 2 * y ≤ 2 ^ y
twice zero = omega arith
twice (suc z) = let low : suc z ≤ 2 ^ z = below_power z in rw (pow-succ' 2 z) (omega (arith, low))

five_times : (q : ℕ) → 5 * (5 + q) ≤ 2 ^ (5 + q)
five_times zero = omega arith
five_times (suc q) =
    let before : 5 * (5 + q) ≤ 2 ^ (5 + q) = five_times q in
    let next : 5 + suc q ≡ suc (5 + q) = omega arith in
    rw next (rw (pow-succ' 2 (5 + q)) (omega (arith, before)))

five_most : (z : ℕ) → 5 ≤ z → 5 * z ≤ 2 ^ z
five_most z some = let (q, e) = split z some in subst (λ z. 5 * z ≤ 2 ^ z) e (five_times q)
  where
    split : (z : ℕ) → 5 ≤ z → (q : ℕ) × (5 + q ≡ z)
    split (suc (suc (suc (suc (suc q))))) some = (q, omega arith)
    split zero some = absurd (omega (arith, some))
    split (suc zero) some = absurd (omega (arith, some))
    split (suc (suc zero)) some = absurd (omega (arith, some))
    split (suc (suc (suc zero))) some = absurd (omega (arith, some))
    split (suc (suc (suc (suc zero)))) some = absurd (omega (arith, some))

-- ---- powers
products : (C T : ℕ) → C * (T + 1) ≤ tower (T + C)
products C zero = let high : suc C ≤ tower C = above C in let same : C ≡ 0 + C = omega arith in subst (λ e. C * 1 ≤ tower e) same (omega (arith, high))
products C (suc T) =
    let before : C * (T + 1) ≤ tower (T + C) = products C T in
    let high : suc (T + C) ≤ tower (T + C) = above (T + C) in
    let double : 2 * tower (T + C) ≤ tower (suc (T + C)) = twice (tower (T + C)) in
    let same : suc (T + C) ≡ suc T + C = omega arith in
    subst (λ e. C * (suc T + 1) ≤ tower e) same (omega (arith, before, high, double))

pub power_room : (C T : ℕ) → C ^ (T + 1) ≤ tower (T + (C + 1))
power_room C T =
    let base : suc C ≤ 2 ^ C = below_power C in
    let power : C ^ (T + 1) ≤ 2 ^ (C * (T + 1)) = power_below C C (T + 1) (T + 1) (omega (arith, base)) (omega arith) in
    let outer : 2 ^ (C * (T + 1)) ≤ tower (suc (T + C)) = pow-le-pow_right (omega arith) (products C T) in
    let same : suc (T + C) ≡ T + (C + 1) = omega arith in
    subst (λ e. C ^ (T + 1) ≤ tower e) same (omega (arith, power, outer))

-- ---- places
pub places_room : (K h N : ℕ) → N ≤ tower h → N * 7 ^ (2 * (h + (K + 11)) + K + 2) ≤ tower (h + (K + 11))
places_room K h N few =
    let e : ℕ = 2 * (h + (K + 11)) + K + 2 in
    let n : ℕ = h + K + 8 in
    let y : ℕ = tower n in
    let power : 7 ^ e ≤ 2 ^ (3 * e) = power_below 7 3 e e (omega arith) (omega arith) in
    let own : suc (tower h) ≤ 2 ^ tower h = below_power (tower h) in
    let product : N * 7 ^ e ≤ 2 ^ tower h * 2 ^ (3 * e) = mul-le-mul (omega (arith, own, few)) power in
    let joined : 2 ^ (tower h + 3 * e) ≡ 2 ^ tower h * 2 ^ (3 * e) = pow-add 2 (tower h) (3 * e) in
    let less : tower h ≤ y = tower-le h n (omega arith) in
    let high : suc n ≤ y = above n in
    let double : 2 * y ≤ 2 ^ y = twice y in
    let more : 5 * 2 ^ y ≤ 2 ^ (2 ^ y) = five_most (2 ^ y) (omega (arith, double, high)) in
    let exponent : tower h + 3 * e ≤ tower (suc (suc n)) = omega (arith, less, high, double, more) in
    let outer : 2 ^ (tower h + 3 * e) ≤ tower (suc (suc (suc n))) = pow-le-pow_right (omega arith) exponent in
    let same : suc (suc (suc n)) ≡ h + (K + 11) = omega arith in
    subst (λ t. N * 7 ^ e ≤ tower t) same (omega (arith, product, joined, outer))
