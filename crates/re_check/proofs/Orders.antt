-- Rows in order, none of which dominates another.
use Rattle.std.proofs.Common.{◌≡◌, ℕ, zero, suc, ◌+◌, ◌<◌, false, not, eqb, List, [], ◌∷◌, length, get_or, ap, subst, arith}
use Rattle.std.specs.Ordering.{ordering_index}
use Rattle.std.specs.declared.cmp.Ordering.{Ordering}
use Rattle.std.specs.declared.cmp.Ordering.TheVariants.{Less}
use Rattle.re_labels.specs.Rows.{row_cmp}
use Rattle.re_labels.specs.Lists.{IsRising}

abbrev pub Rises : List (List (List ℕ)) → Type 0
Rises rows = IsRising (λ row other. row_cmp row other ≡ Less) rows

pub rising_from_at : (rows : List (List (List ℕ))) → ((k : ℕ) → k + 1 < length rows → row_cmp (get_or rows k []) (get_or rows (k + 1) []) ≡ Less) → Rises rows
rising_from_at [] h = tt
rising_from_at (row ∷ []) h = tt
rising_from_at (row ∷ other ∷ rows) h = (
  h zero (omega arith),
  rising_from_at (other ∷ rows) (λ k b.
      let e : suc k + 1 ≡ suc (k + 1) = omega arith in
      subst (λ j. row_cmp (get_or (other ∷ rows) k []) (get_or (row ∷ other ∷ rows) j []) ≡ Less) e (h (suc k) (omega (arith, b)))),
)

pub rising_at : (rows : List (List (List ℕ))) → Rises rows → (k : ℕ) → suc k < length rows → row_cmp (get_or rows k []) (get_or rows (suc k) []) ≡ Less
rising_at [] h k b = absurd (omega arith)
rising_at (row ∷ []) h k b = absurd (omega arith)
rising_at (row ∷ other ∷ rows) h zero b = h.0
rising_at (row ∷ other ∷ rows) h (suc k) b = rising_at (other ∷ rows) h.1 k (omega arith)

-- ---- comparisons
pub less_told : (o : Ordering) → o ≡ Less → not (eqb (ordering_index o) 0) ≡ false
less_told o e = ap (λ v. not (eqb (ordering_index v) 0)) e
