-- Rows that the order of rows tells to be equal.
use Rattle.std.proofs.Common.{◌≡◌, ℕ, Bool, true, false, not, eqb, List, map, refl, sym, ap, ◌∙◌, inl, inr}
use Rattle.std.specs.Ordering.{nat_cmp, ordering_index}
use Rattle.std.proofs.lemmas.Bool.{false≢true}
use Rattle.std.specs.declared.cmp.Ordering.{Ordering}
use Rattle.std.specs.declared.cmp.Ordering.TheVariants.{Equal, Greater, Less}
use Rattle.re_labels.proofs.Rows.{same_sets}
use Rattle.re_labels.specs.Rows.{row_cmp}
use Rattle.re_labels.proofs.Before.{slice_cmp-same, three_orders}
use Rattle.re_labels.specs.Sets.{number}
use Rattle.re_boxes.specs.Sets.{AreSets}

pub equal_rows : (n : ℕ) (row other : List (List ℕ)) → AreSets n row → AreSets n other → row_cmp row other ≡ Equal → row ≡ other
equal_rows n row other h k e = elim (three_orders (map number row) (map number other)) [
  | inl less ↦ absurd (let f : Less ≡ Equal = sym less ∙ e in cc)
  | inr (inl both) ↦ same_sets n row other h k both.1
  | inr (inr both) ↦ absurd (let f = sym both.0 ∙ e in cc)
]

pub row_cmp-same : (row : List (List ℕ)) → row_cmp row row ≡ Equal
row_cmp-same row = slice_cmp-same (map number row)

-- ---- comparisons
pub equal_told : (o : Ordering) → o ≡ Equal → not (eqb (ordering_index o) 1) ≡ false
equal_told o e = ap (λ v. not (eqb (ordering_index v) 1)) e

pub equal_from : (o : Ordering) → not (eqb (ordering_index o) 1) ≡ false → o ≡ Equal
equal_from Less e = absurd (false≢true (sym e))
equal_from Equal e = refl
equal_from Greater e = absurd (false≢true (sym e))

pub equal_seen : (o : Ordering) → o ≡ Equal → eqb (ordering_index o) 1 ≡ true
equal_seen o e = ap (λ v. eqb (ordering_index v) 1) e

pub equal_when : (o : Ordering) → eqb (ordering_index o) 1 ≡ true → o ≡ Equal
equal_when Less e = absurd (false≢true e)
equal_when Equal e = refl
equal_when Greater e = absurd (false≢true e)
