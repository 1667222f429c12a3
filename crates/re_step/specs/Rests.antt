-- What is left of configurations when one label is taken out of each.
use Rattle.std.specs.Prelude.{◌≡◌, ℕ, ◌-◌, List, [], ◌∷◌, ◌++◌, filter, map, Contains}
use Rattle.re_labels.specs.Configs.{sorted}
use Rattle.re_labels.specs.Orders.{multisets, splits}
use Rattle.re_labels.specs.Rows.{placed}
use Rattle.re_labels.specs.Sets.{IsIn, has}
use Rattle.re_labels.specs.Constraints.{Constraint}
use Rattle.re_labels.specs.GoodRows.{is_allowed}

-- the multisets that are left of a configuration when one of its labels that lie in the set is taken out
abbrev pub rests_of : List ℕ → List ℕ → List (List ℕ)
rests_of set config = map (λ (split : ℕ × List ℕ). sorted split.1) (filter (λ (split : ℕ × List ℕ). has set split.0) (splits config))

-- exactly the multisets that a label of the set makes one of the configurations
pub record AreRests (configs : List (List ℕ)) (set : List ℕ) (rests : List (List ℕ)) : Type 0 where
  pub from : (rest : List ℕ) → Contains rests rest → (x : ℕ) × IsIn x set × Contains configs (sorted (x ∷ rest))
  pub all : (x : ℕ) (others : List ℕ) → IsIn x set → Contains configs (sorted (x ∷ others)) → Contains rests (sorted others)

-- some label of the set makes the label this pair
abbrev pub MakesPair : List ℕ → ℕ → List ℕ → Type 0
MakesPair set y pair = (x : ℕ) × IsIn x set × (sorted (x ∷ y ∷ []) ≡ pair)

-- some label is in both sets
abbrev pub SharesLabel : List ℕ → List ℕ → Type 0
SharesLabel labels set = (label : ℕ) × IsIn label labels × IsIn label set

-- the constraint of these configurations
abbrev pub constraint_of : ℕ → List (List ℕ) → Constraint
constraint_of degree configs = record { degree = degree; configs = configs }

-- the multisets of so many sets, by their places, of the k places from lo on, that are allowed by these configurations
abbrev pub allowed_from : List (List ℕ) → List (List ℕ) → ℕ → ℕ → ℕ → List (List ℕ)
allowed_from configs sets size lo k = filter (λ places. is_allowed (constraint_of size configs) (placed sets places)) (multisets size lo k)

-- those of them that begin with the place lo
abbrev pub allowed_on : List (List ℕ) → List (List ℕ) → ℕ → ℕ → ℕ → List (List ℕ)
allowed_on configs sets size lo k =
    filter (λ places. is_allowed (constraint_of size configs) (placed sets places)) (map (λ others. lo ∷ others) (multisets (size - 1) lo k))

-- the places behind those with which they begin, each multiset as its ascending list
abbrev pub all_begun : List ℕ → List (List ℕ) → List (List ℕ)
all_begun first rests = map (λ places. sorted (first ++ places)) rests
