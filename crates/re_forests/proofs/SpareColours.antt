-- Colours of at most n beside some that are taken: each is another one than those and than the ones before it.
use Rattle.std.proofs.Common.{◌≡◌, ℕ, zero, suc, ◌+◌, ◌-◌, ◌≤◌, ◌<◌, List, ◌∷◌, length, get_or, sym, ◌∙◌, subst, arith, inl, inr}
use Rattle.std.specs.Prelude.{Contains}
use Rattle.std.proofs.lemmas.Bool.{cases_lt}
use Rattle.std.proofs.lemmas.List.Elements.{Contains-get_or}
use Rattle.re_layers.proofs.FreeNumbers.{free, free_other}
use Rattle.re_labels.proofs.Membership.{Contains-here, Contains-later}

-- the taken colours and the first j spare ones
abbrev pub extended : ℕ → List ℕ → ℕ → List ℕ
extended n taken zero = taken
extended n taken (suc j) = free n (extended n taken j) ∷ extended n taken j

-- the spare colour number j
abbrev pub spare : ℕ → List ℕ → ℕ → ℕ
spare n taken j = free n (extended n taken j)

length-extended : (n : ℕ) (taken : List ℕ) (j : ℕ) → length (extended n taken j) ≡ j + length taken
length-extended n taken zero = omega arith
length-extended n taken (suc j) = let before = length-extended n taken j in omega arith

extended_taken : (n : ℕ) (taken : List ℕ) (j x : ℕ) → Contains taken x → Contains (extended n taken j) x
extended_taken n taken zero x held = held
extended_taken n taken (suc j) x held = Contains-later x (free n (extended n taken j)) (extended n taken j) (extended_taken n taken j x held)

extended_spare : (n : ℕ) (taken : List ℕ) (i j : ℕ) → i < j → Contains (extended n taken j) (spare n taken i)
extended_spare n taken i zero less = absurd (omega arith)
extended_spare n taken i (suc j) less = elim (cases_lt i j) [
  | inl before ↦ Contains-later (spare n taken i) (free n (extended n taken j)) (extended n taken j) (extended_spare n taken i j before)
  | inr last ↦ (let same : j ≡ i = omega arith in subst (λ m. Contains (extended n taken (suc j)) (spare n taken m)) same (Contains-here (spare n taken j) (extended n taken j)))
]

pub spare_other : (n : ℕ) (taken : List ℕ) (j : ℕ) → j + length taken ≤ n → Contains (extended n taken j) (spare n taken j) → ⊥
spare_other n taken j few held = free_other n (extended n taken j) (let size = length-extended n taken j in omega arith) held

-- what lists the taken colours, and then the spare ones, lists different ones where the taken ones differ
pub apart_spare : (n : ℕ) (taken : List ℕ) (f : ℕ → ℕ) → ((k : ℕ) → k < length taken → f k ≡ get_or taken k 0) → ((k : ℕ) → length taken ≤ k → f k ≡ spare n taken (k - length taken))
    → ((j k : ℕ) → j < k → k < length taken → get_or taken j 0 ≡ get_or taken k 0 → ⊥) → (j k : ℕ) → j < k → k ≤ n → f j ≡ f k → ⊥
apart_spare n taken f low high apart j k less most same = elim (cases_lt k (length taken)) [
  | inl there ↦ apart j k less there (sym (low j (omega arith)) ∙ same ∙ low k there)
  | inr past ↦ spare_other n taken (k - length taken) (omega arith) (elim (cases_lt j (length taken)) [
    | inl there ↦
        subst (Contains (extended n taken (k - length taken))) (sym (low j there) ∙ same ∙ high k past)
        (extended_taken n taken (k - length taken) (get_or taken j 0) (Contains-get_or taken j 0 there))
    | inr later ↦
        subst (Contains (extended n taken (k - length taken))) (sym (high j later) ∙ same ∙ high k past)
        (extended_spare n taken (j - length taken) (k - length taken) (omega arith))
  ])
]
