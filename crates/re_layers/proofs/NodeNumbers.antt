-- Numbers of active and passive nodes: even ones and odd ones.
use Rattle.std.proofs.Common.{◌≡◌, ℕ, suc, ◌+◌, ◌*◌, ◌/◌, ◌%◌, ◌≤◌, ◌<◌, Bool, true, false, eqb, ap, ◌∙◌, inl, inr, arith}
use Rattle.std.specs.Prelude.{not}
use Rattle.std.proofs.lemmas.Bool.Decides.{eqb_tells}

abbrev pub number : Bool → ℕ → ℕ
number true i = 2 * i
number false i = suc (2 * i)

abbrev pub kind : ℕ → Bool
kind v = eqb (v % 2) 0

abbrev pub place : ℕ → ℕ
place v = v / 2

pub number_of : (v : ℕ) → number (kind v) (place v) ≡ v
number_of v = elim (eqb_tells (v % 2) 0) [
  | inl t ↦ ap (λ b. number b (v / 2)) t.0 ∙ even t.1
  | inr t ↦ ap (λ b. number b (v / 2)) t.0 ∙ odd t.1
]
  where
    even : v % 2 ≡ 0 → 2 * (v / 2) ≡ v
    even e = omega arith

    odd : (v % 2 ≡ 0 → ⊥) → suc (2 * (v / 2)) ≡ v
    odd e = omega arith

pub kind_number : (k : Bool) (i : ℕ) → kind (number k i) ≡ k
kind_number true i = let e : (2 * i) % 2 ≡ 0 = omega arith in ap (λ r. eqb r 0) e
kind_number false i = let e : suc (2 * i) % 2 ≡ 1 = omega arith in ap (λ r. eqb r 0) e

pub place_number : (k : Bool) (i : ℕ) → place (number k i) ≡ i
place_number true i = omega arith
place_number false i = omega arith

pub number_later : (k : Bool) (i j : ℕ) → j ≤ i → number (not k) j < number k (suc i)
number_later true i j l = omega arith
number_later false i j l = omega arith

pub number_most : (k : Bool) (i s : ℕ) → i ≤ s → number k i ≤ 2 * s + 1
number_most true i s l = omega arith
number_most false i s l = omega arith

pub number_least : (k : Bool) (i : ℕ) → 2 * i ≤ number k i
number_least true i = omega arith
number_least false i = omega arith

pub number_same : (k : Bool) (i j : ℕ) → number k i ≡ number k j → i ≡ j
number_same true i j e = omega arith
number_same false i j e = omega arith
