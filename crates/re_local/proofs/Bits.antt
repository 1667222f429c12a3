-- Tests of the bits of numbers.
use Rattle.std.proofs.Common.{◌≡◌, ℕ, zero, suc, ◌+◌, ◌*◌, ◌^◌, ◌/◌, ◌%◌, ◌<◌, Bool, true, false, eqb, refl, arith}
use Rattle.std.proofs.Math.Nat.{pow-suc, pow-zero}
use Rattle.std.proofs.lemmas.Bool.Decides.{nat_tests}
use Rattle.std.proofs.lemmas.Nat.{div-add-mod', div_below, mod_below}

-- whether a number passes a test of its bits: test 2 k says that bit k is 0, and test 2 k + 1 that it is 1
abbrev pub passes : ℕ → ℕ → Bool
passes zero x = eqb (x % 2) 0
passes (suc zero) x = eqb (x % 2) 1
passes (suc (suc t)) x = passes t (x / 2)

-- one of two different numbers of b bits passes a test of them that the other fails
pub separating : (b x v : ℕ) → x < 2 ^ b → v < 2 ^ b → (x ≡ v → ⊥) → (t : ℕ) × (t < 2 * b) × (passes t x ≡ true) × (passes t v ≡ false)
separating zero x v l m apart =
    let one : 2 ^ 0 ≡ 1 = pow-zero 2 in
    let same : x ≡ v = omega (arith, l, m, one) in
    absurd (apart same)
separating (suc b) x v l m apart = by (eqb (x % 2) 0) (eqb (v % 2) 0) refl refl (separating b (x / 2) (v / 2) x_half v_half)
  where
    more : 2 ^ suc b ≡ 2 ^ b * 2
    more = pow-suc 2 b

    x_half : x / 2 < 2 ^ b
    x_half = div_below x 2 (2 ^ b) (omega arith) (omega (arith, l, more))

    v_half : v / 2 < 2 ^ b
    v_half = div_below v 2 (2 ^ b) (omega arith) (omega (arith, m, more))

    halves : x % 2 ≡ v % 2 → x / 2 ≡ v / 2 → x ≡ v
    halves e f =
        let one : x / 2 * 2 + x % 2 ≡ x = div-add-mod' x 2 in
        let other : v / 2 * 2 + v % 2 ≡ v = div-add-mod' v 2 in
        omega (arith, one, other, e, f)

    further : x % 2 ≡ v % 2 → ((x / 2 ≡ v / 2 → ⊥) → (t : ℕ) × (t < 2 * b) × (passes t (x / 2) ≡ true) × (passes t (v / 2) ≡ false))
        → (t : ℕ) × (t < 2 * suc b) × (passes t x ≡ true) × (passes t v ≡ false)
    further e next =
        let (t, low, holds, fails) = next (λ f. apart (halves e f)) in
        (suc (suc t), omega (arith, low), holds, fails)

    by : (i j : Bool) → eqb (x % 2) 0 ≡ i → eqb (v % 2) 0 ≡ j
        → ((x / 2 ≡ v / 2 → ⊥) → (t : ℕ) × (t < 2 * b) × (passes t (x / 2) ≡ true) × (passes t (v / 2) ≡ false))
        → (t : ℕ) × (t < 2 * suc b) × (passes t x ≡ true) × (passes t v ≡ false)
    by true false e f next = (0, omega arith, e, f)
    by true true e f next =
        let same : x % 2 ≡ v % 2 = grind (arith, nat_tests) in
        further same next
    by false false e f next =
        let i : x % 2 < 2 = mod_below x 2 (omega arith) in
        let j : v % 2 < 2 = mod_below v 2 (omega arith) in
        let same : x % 2 ≡ v % 2 = grind (arith, nat_tests) in
        further same next
    by false true e f next =
        let i : x % 2 < 2 = mod_below x 2 (omega arith) in
        let one : eqb (x % 2) 1 ≡ true = grind (arith, nat_tests) in
        let none : eqb (v % 2) 1 ≡ false = grind (arith, nat_tests) in
        (1, omega arith, one, none)
