-- The sets of numbers below n, each by a number whose digits in base 2 say what it holds.
use Rattle.std.proofs.Common.{◌≡◌, ℕ, zero, suc, ◌+◌, ◌*◌, ◌/◌, ◌%◌, ◌^◌, ◌<◌, Bool, true, false, cond, eqb, refl, ◌∙◌, ap, arith}
use Rattle.std.proofs.Math.Nat.{pow-succ', pow-zero}
use Rattle.std.proofs.lemmas.Nat.{div-mul-add, mod-mul-add}

-- the set with this number
abbrev pub set : ℕ → ℕ → Bool
set i zero = eqb (i % 2) 1
set i (suc x) = set (i / 2) x

-- the number of a set of numbers below n
abbrev pub number_of : (ℕ → Bool) → ℕ → ℕ
number_of s zero = 0
number_of s (suc n) = number_of (λ x. s (suc x)) n * 2 + cond (s 0) 1 0

digit_below : (b : Bool) → cond b 1 0 < 2
digit_below false = omega arith
digit_below true = omega arith

pub number_below : (s : ℕ → Bool) (n : ℕ) → number_of s n < 2 ^ n
number_below s zero = rw (pow-zero 2) (omega arith)
number_below s (suc n) =
    let rest = number_below (λ x. s (suc x)) n in
    let here = digit_below (s 0) in
    rw (pow-succ' 2 n) (omega (arith, rest, here))

pub set_number : (s : ℕ → Bool) (n x : ℕ) → x < n → set (number_of s n) x ≡ s x
set_number s zero x l = absurd (omega arith)
set_number s (suc n) zero l = ap (λ d. eqb d 1) (mod-mul-add (number_of (λ x. s (suc x)) n) 2 (cond (s 0) 1 0) (digit_below (s 0))) ∙ back (s 0)
  where
    back : (b : Bool) → eqb (cond b 1 0) 1 ≡ b
    back false = refl
    back true = refl
set_number s (suc n) (suc x) l =
    ap (λ i. set i x) (div-mul-add (number_of (λ x. s (suc x)) n) 2 (cond (s 0) 1 0) (digit_below (s 0))) ∙ set_number (λ x. s (suc x)) n x (omega arith)
