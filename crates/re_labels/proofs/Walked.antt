-- What is left of a list that was walked up to a place.
use Rattle.std.proofs.Common.{◌≡◌, ℕ, ◌<◌, ◌≤◌, ◌+◌, List, [], ◌∷◌, length, get_or, drop, sym, ◌∙◌, arith, inl, inr}
use Rattle.std.proofs.lemmas.List.{drop_all, drop_more}
use Rattle.re_labels.proofs.Before.{three_ways}

module _ {X : Type 0} (xs : List X) (place : ℕ) (d : X) where
  -- one element more: it is the one at the place
  pub walked-more : (x : X) (rest : List X) → drop place xs ≡ x ∷ rest → (place < length xs) × (x ≡ get_or xs place d) × (rest ≡ drop (place + 1) xs)
  walked-more x rest e = elim (three_ways place (length xs)) [
    | inl less ↦ let here = sym e ∙ drop_more xs place d less in (less, cc, cc)
    | inr (inl same) ↦ absurd (let none = sym (drop_all place xs (omega arith)) ∙ e in cc)
    | inr (inr more) ↦ absurd (let none = sym (drop_all place xs (omega arith)) ∙ e in cc)
  ]

  -- nothing more: the walk is over
  pub walked-all : drop place xs ≡ [] → length xs ≤ place
  walked-all e = elim (three_ways place (length xs)) [
    | inl less ↦ absurd (let here = sym e ∙ drop_more xs place d less in cc)
    | inr (inl same) ↦ omega arith
    | inr (inr more) ↦ omega arith
  ]
