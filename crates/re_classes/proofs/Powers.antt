-- The powers of the bounds.
use Rattle.std.proofs.Common.{◌≡◌, ℕ, suc, ◌+◌, ◌*◌, ◌^◌, ◌≤◌, sym, subst, arith}
use Rattle.std.proofs.Math.Nat.{mul-le-mul, mul-le-mul_left, mul-le-mul_right, one-le-mul, pow-le-pow_left, pow-le-pow_right, pow-suc, pow-succ'}
use Rattle.std.proofs.lemmas.Nat.{mul-pow, pow-add}
use Rattle.re_layers.proofs.Towers.{below_power, own_power, power_of}
use Rattle.re_classes.specs.RandomLaws.{id_views, random_base}
use Rattle.re_local.specs.SeparatingLaws.{identifier_base}

exponents : (d l n : ℕ) → 1 ≤ d → 1 ≤ n → suc ((d + l * n) * d ^ suc n) ≤ random_base d l ^ n
exponents d l n some some' =
    let parts : (2 * d * d * (d + l)) ^ n ≡ (2 * d * d) ^ n * (d + l) ^ n = mul-pow (2 * d * d) (d + l) n in
    let parts' : (2 * d * d) ^ n ≡ (2 * d) ^ n * d ^ n = mul-pow (2 * d) d n in
    let parts'' : (2 * d) ^ n ≡ 2 ^ n * d ^ n = mul-pow 2 d n in
    rw (parts, parts', parts'', pow-suc d n) (compare (2 ^ n) (d ^ n) ((d + l) ^ n) (below_power n) (own_power d n some') (own_power (d + l) n some'))
  where
    compare : (p x w : ℕ) → suc n ≤ p → d ≤ x → d + l ≤ w → suc ((d + l * n) * (x * d)) ≤ p * x * x * w
    compare p x w low low' low'' =
        let one : suc n * (d + l) ≤ p * w = mul-le-mul low low'' in
        let two : x * d ≤ x * x = mul-le-mul_left x low' in
        let three : suc n * (d + l) * (x * d) ≤ p * w * (x * x) = mul-le-mul one two in
        let pos : 1 ≤ x * d = one-le-mul (omega (arith, some, low')) some in
        let four : 1 ≤ n * d = one-le-mul some' some in
        let five : 1 ≤ n * d * (x * d) = one-le-mul four pos in
        omega (arith, three, five)

-- the views with (2 ^ l) ^ (T + 1) identifiers
pub views_few : (d l T : ℕ) → 1 ≤ d → id_views d ((2 ^ l) ^ (T + 1)) T ≤ 2 ^ (random_base d l ^ (T + 1))
views_few d l T some =
    let ids : (2 ^ l) ^ (T + 1) ≡ 2 ^ (l * (T + 1)) = sym (power_of 2 l (T + 1)) in
    let ports : d ≤ 2 ^ d = (let l = below_power d in omega (arith, l)) in
    let one : d * 2 ^ (l * (T + 1)) ≤ 2 ^ d * 2 ^ (l * (T + 1)) = mul-le-mul_right (2 ^ (l * (T + 1))) ports in
    let one' : d * 2 ^ (l * (T + 1)) ≤ 2 ^ (d + l * (T + 1)) = subst (λ z. d * 2 ^ (l * (T + 1)) ≤ z) (sym (pow-add 2 d (l * (T + 1)))) one in
    let all : (d * 2 ^ (l * (T + 1))) ^ (d ^ (T + 2)) ≤ (2 ^ (d + l * (T + 1))) ^ (d ^ (T + 2)) = pow-le-pow_left one' (d ^ (T + 2)) in
    let all' : (d * 2 ^ (l * (T + 1))) ^ (d ^ (T + 2)) ≤ 2 ^ ((d + l * (T + 1)) * d ^ (T + 2)) =
    subst (λ z. (d * 2 ^ (l * (T + 1))) ^ (d ^ (T + 2)) ≤ z) (sym (power_of 2 (d + l * (T + 1)) (d ^ (T + 2)))) all in
    let twice : 2 ^ suc ((d + l * (T + 1)) * d ^ (T + 2)) ≡ 2 * 2 ^ ((d + l * (T + 1)) * d ^ (T + 2)) = pow-succ' 2 ((d + l * (T + 1)) * d ^ (T + 2)) in
    let radius : T + 2 ≡ suc (T + 1) = omega arith in
    let low : suc ((d + l * (T + 1)) * d ^ (T + 2)) ≤ random_base d l ^ (T + 1) =
    subst (λ r. suc ((d + l * (T + 1)) * d ^ r) ≤ random_base d l ^ (T + 1)) (sym radius) (exponents d l (T + 1) some (omega arith)) in
    let high : 2 ^ suc ((d + l * (T + 1)) * d ^ (T + 2)) ≤ 2 ^ (random_base d l ^ (T + 1)) = pow-le-pow_right (omega arith) low in
    rw ids (finish ((d * 2 ^ (l * (T + 1))) ^ (d ^ (T + 2))) (2 ^ ((d + l * (T + 1)) * d ^ (T + 2))) (2 ^ suc ((d + l * (T + 1)) * d ^ (T + 2)))
    (2 ^ (random_base d l ^ (T + 1))) all' twice high)
  where
    finish : (x y z w : ℕ) → x ≤ y → z ≡ 2 * y → z ≤ w → 2 * x ≤ w
    finish x y z w h e h' = omega (arith, h, e, h')

-- the bits of the base for identifiers, for 3 ports and 2 labels
pub sinkless_bits : identifier_base 3 2 2 ≤ 2 ^ 989
sinkless_bits = omega arith
