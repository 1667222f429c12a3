-- Tests of the bits of numbers: of two different numbers the first passes one that the second fails.
use Rattle.std.proofs.Common.{◌≡◌, ℕ, zero, suc, ◌+◌, ◌*◌, ◌^◌, ◌/◌, ◌%◌, ◌<◌, Bool, true, false, cond, eqb, refl, arith}
use Rattle.std.proofs.Math.Nat.{pow-suc, pow-zero}
use Rattle.std.proofs.lemmas.Bool.{eqb-false, eqb-true}
use Rattle.std.proofs.lemmas.Bool.Decides.{nat_tests}
use Rattle.std.proofs.lemmas.Nat.{div-add-mod', div_below, mod_below}

-- whether a number passes a test of its bits: test 2 k says that bit k is 0, and test 2 k + 1 that it is 1
abbrev pub passes : ℕ → ℕ → Bool
passes zero x = eqb (x % 2) 0
passes (suc zero) x = eqb (x % 2) 1
passes (suc (suc t)) x = passes t (x / 2)

-- the test of one of b + 1 bits that x passes, and v fails if one of the first b bits tells them apart
abbrev pub separating : ℕ → ℕ → ℕ → ℕ
separating zero x v = x % 2
separating (suc b) x v = cond (eqb (x % 2) (v % 2)) (suc (suc (separating b (x / 2) (v / 2)))) (x % 2)

pub separating_low : (b x v : ℕ) → separating b x v < 2 * suc b
separating_low zero x v = mod_below x 2 (omega arith)
separating_low (suc b) x v = by (eqb (x % 2) (v % 2)) (separating_low b (x / 2) (v / 2))
  where
    by : (i : Bool) → separating b (x / 2) (v / 2) < 2 * suc b → cond i (suc (suc (separating b (x / 2) (v / 2)))) (x % 2) < 2 * suc (suc b)
    by true l = omega (arith, l)
    by false l = let m : x % 2 < 2 = mod_below x 2 (omega arith) in omega (arith, m)

passes_own : (x : ℕ) → passes (x % 2) x ≡ true
passes_own x = by (x % 2) refl (mod_below x 2 (omega arith))
  where
    by : (r : ℕ) → x % 2 ≡ r → r < 2 → passes r x ≡ true
    by zero e l = grind (arith, nat_tests)
    by (suc zero) e l = grind (arith, nat_tests)
    by (suc (suc r)) e l = absurd (omega (arith, l))

fails_other : (x v : ℕ) → (x % 2 ≡ v % 2 → ⊥) → passes (x % 2) v ≡ false
fails_other x v other = by (x % 2) refl (mod_below x 2 (omega arith))
  where
    by : (r : ℕ) → x % 2 ≡ r → r < 2 → passes r v ≡ false
    by zero e l = grind (arith, nat_tests, other)
    by (suc zero) e l = grind (arith, nat_tests, other)
    by (suc (suc r)) e l = absurd (omega (arith, l))

pub separating_passes : (b x v : ℕ) → passes (separating b x v) x ≡ true
separating_passes zero x v = passes_own x
separating_passes (suc b) x v = by (eqb (x % 2) (v % 2)) (separating_passes b (x / 2) (v / 2))
  where
    by : (i : Bool) → passes (separating b (x / 2) (v / 2)) (x / 2) ≡ true → passes (cond i (suc (suc (separating b (x / 2) (v / 2)))) (x % 2)) x ≡ true
    by true rest = rest
    by false rest = passes_own x

pub separating_fails : (b x v : ℕ) → x < 2 ^ b → v < 2 ^ b → (x ≡ v → ⊥) → passes (separating b x v) v ≡ false
separating_fails zero x v l m other =
    let one : 2 ^ 0 ≡ 1 = pow-zero 2 in
    let same : x ≡ v = omega (arith, l, m, one) in
    absurd (other same)
separating_fails (suc b) x v l m other = by (eqb (x % 2) (v % 2)) refl (separating_fails b (x / 2) (v / 2) x_half v_half)
  where
    more : 2 ^ suc b ≡ 2 ^ b * 2
    more = pow-suc 2 b

    x_half : x / 2 < 2 ^ b
    x_half = div_below x 2 (2 ^ b) (omega arith) (omega (arith, l, more))

    v_half : v / 2 < 2 ^ b
    v_half = div_below v 2 (2 ^ b) (omega arith) (omega (arith, m, more))

    halves : x % 2 ≡ v % 2 → x / 2 ≡ v / 2 → x ≡ v
    halves e f =
        let one : x / 2 * 2 + x % 2 ≡ x = div-add-mod' x 2 in
        let other : v / 2 * 2 + v % 2 ≡ v = div-add-mod' v 2 in
        omega (arith, one, other, e, f)

    by : (i : Bool) → eqb (x % 2) (v % 2) ≡ i → ((x / 2 ≡ v / 2 → ⊥) → passes (separating b (x / 2) (v / 2)) (v / 2) ≡ false)
        → passes (cond i (suc (suc (separating b (x / 2) (v / 2)))) (x % 2)) v ≡ false
    by true e rest = rest (λ f. other (halves (eqb-true (x % 2) (v % 2) e) f))
    by false e rest = fails_other x v (eqb-false (x % 2) (v % 2) e)
