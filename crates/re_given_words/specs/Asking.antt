-- The question of three rounds as clauses: a variable for each label of each set that is made, and one for each order of each active configuration at each choice.
use Rattle.std.specs.Prelude.{◌≡◌, ℕ, ◌+◌, ◌*◌, ◌<◌, ◌==◌, Bool, true, List, [], length, map, filter, slice_index_or, Contains}
use Rattle.std.specs.List.{AllByRecursion, AllZip}
use Rattle.re_clauses.specs.Clauses.{Satisfies}
use Rattle.re_given.specs.UpSets.{IsUpSet}
use Rattle.re_labels.specs.Lists.{count_from}
use Rattle.re_labels.specs.Constraints.{Constraint, Has}
use Rattle.re_labels.specs.GoodRows.{IsAllowed, IsGood}

-- ---- sets by numbers
-- the spots of a port, where these are the ports of all spots
abbrev pub port_spots : List ℕ → ℕ → List ℕ
port_spots ports port = filter (λ spot. slice_index_or ports spot 0 == port) (count_from 0 (length ports))

-- the sets at the ports of a meeting have their numbers behind those of the meetings before: this is the number of one at the spot
abbrev pub IsSetAt : List ℕ → List (List ℕ) → ℕ → ℕ → ℕ → Type 0
IsSetAt ports meetings degree spot set =
    (k : ℕ) × (k < length meetings) × (slice_index_or (slice_index_or meetings k []) (slice_index_or ports spot 0) 0 ≡ spot) × (set ≡ k * degree + slice_index_or ports spot 0)

-- the numbers of a set at each of the spots of a type
abbrev pub IsChoiceOf : List ℕ → List (List ℕ) → ℕ → ℕ → ℕ → List ℕ → Type 0
IsChoiceOf ports meetings degree size t choice = AllZip (IsSetAt ports meetings degree) (count_from (t * size) size) choice

-- ---- what clauses say
-- the variable of a label in a set: that it is in there
abbrev pub variable : ℕ → ℕ → ℕ → ℕ
variable n set label = set * n + label

-- each label is in the set at its place, by the values of the variables
abbrev pub AreIn : (ℕ → Bool) → ℕ → List ℕ → List ℕ → Type 0
AreIn values n sets labels = AllZip (λ set label. values (variable n set label) ≡ true) sets labels

-- values that satisfy the clauses satisfy those with more behind them, too, where they meet the condition
abbrev pub AreMore : List (List ℕ) → List (List ℕ) → ((ℕ → Bool) → Type 0) → Type 0
AreMore clauses more Condition = (values : ℕ → Bool) → Condition values → Satisfies values clauses → Satisfies values more

-- some of the variables from this one on holds, one for each list of labels, and each says of its list that the labels are in the sets
pub record IsTried (values : ℕ → Bool) (n first : ℕ) (sets : List ℕ) (orders : List (List ℕ)) : Type 0 where
  pub some : (k : ℕ) × (k < length orders) × (values (first + k) ≡ true)
  pub tried : (k : ℕ) → k < length orders → values (first + k) ≡ true → AreIn values n sets (slice_index_or orders k [])

-- ---- what is asked
-- labels below n that aren't a configuration
abbrev pub IsBad : Constraint → ℕ → List ℕ → Type 0
IsBad constraint n labels = AllByRecursion (λ label. label < n) labels × (Has constraint labels → ⊥)

-- sets of labels below n, by their numbers: the rows of so many meetings of passive nodes of degree p, good and of up-sets, and an active choice of the sets of
-- each choice
pub record AreMade (active passive : Constraint) (n p meetings : ℕ) (choices : List (List ℕ)) (sets : ℕ → List ℕ) : Type 0 where
  pub good : (k : ℕ) → k < meetings → IsGood passive (map sets (count_from (k * p) p))
  pub up_sets : (set : ℕ) → set < meetings * p → IsUpSet passive n (sets set)
  pub choice : (choice : List ℕ) → Contains choices choice → AllByRecursion (λ set. set < meetings * p) choice × IsAllowed active (map sets choice)
