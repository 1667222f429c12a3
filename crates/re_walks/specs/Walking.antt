-- Walks over lists of labels in lexicographic order.
use Rattle.std.specs.Prelude.{◌≡◌, ℕ, zero, suc, ◌==◌, ◌<◌, nat_lt, Bool, true, false, ◌&&◌, List, [], ◌∷◌, ◌++◌, length, take, if◌then◌else◌, Option, None, Some}
use Rattle.std.specs.List.{AllByRecursion}
use Rattle.re_labels.specs.Lists.{IsBefore}

-- ---- from one list to the next
-- the first label with what is raised behind it, or, where nothing is, the next label in its place
abbrev pub or_raised : ℕ → ℕ → Option (List ℕ) → Option (List ℕ)
or_raised n label (Some labels) = Some (label ∷ labels)
or_raised n label None = if nat_lt (suc label) n then Some (suc label ∷ []) else None

-- the first list of labels below n behind all that begin with this one: the last label that isn't the greatest becomes the next
-- one, and those behind it are left out
abbrev pub raised : ℕ → List ℕ → Option (List ℕ)
raised n [] = None
raised n (label ∷ labels) = or_raised n label (raised n labels)

-- the first list that begins with this one
abbrev pub deeper : ℕ → List ℕ → Option (List ℕ)
deeper n labels = if nat_lt 0 n then Some (labels ++ 0 ∷ []) else None

-- the list to try next: below one that passes, and else behind it
abbrev pub following : ℕ → Bool → List ℕ → Option (List ℕ)
following n passes labels = if passes then deeper n labels else raised n labels

-- ---- walks
-- what a walk comes to: a list, or that there is none, or the end of its tries
pub data Walk : Type 0 where
  found : List ℕ → Walk
  nowhere : Walk
  cut : Walk

-- from this list on, with so many tries: the first list with a label for each place that passes, where no list is gone below that doesn't
unfoldable pub walk_from : (List ℕ → Bool) → ℕ → ℕ → ℕ → Option (List ℕ) → Walk
walk_from passes n places zero None = nowhere
walk_from passes n places zero (Some labels) = cut
walk_from passes n places (suc tries) None = nowhere
walk_from passes n places (suc tries) (Some labels) =
    if passes labels && length labels == places then found labels else walk_from passes n places tries (following n (passes labels) labels)

-- from the empty list on
abbrev pub walk : (List ℕ → Bool) → ℕ → ℕ → ℕ → Walk
walk passes n places tries = walk_from passes n places tries (Some [])

-- ---- what they mean
-- a label below n for each place
abbrev pub IsAssignment : ℕ → ℕ → List ℕ → Type 0
IsAssignment n places labels = (length labels ≡ places) × AllByRecursion (λ label. label < n) labels

-- an assignment that passes, and none before it in lexicographic order does
pub record IsFirst (passes : List ℕ → Bool) (n places : ℕ) (labels : List ℕ) : Type 0 where
  pub assignment : IsAssignment n places labels
  pub meets : passes labels ≡ true
  pub first : (other : List ℕ) → IsAssignment n places other → IsBefore other labels → passes other ≡ false

-- no assignment passes
abbrev pub NonePasses : (List ℕ → Bool) → ℕ → ℕ → Type 0
NonePasses passes n places = (labels : List ℕ) → IsAssignment n places labels → passes labels ≡ false

-- the beginnings of an assignment that passes do
abbrev pub BeginningsPass : (List ℕ → Bool) → ℕ → ℕ → Type 0
BeginningsPass passes n places = (labels : List ℕ) → IsAssignment n places labels → passes labels ≡ true → (k : ℕ) → passes (take k labels) ≡ true

-- the walk tells of all assignments
abbrev pub Tells : (List ℕ → Bool) → ℕ → ℕ → Walk → Type 0
Tells passes n places (found labels) = IsFirst passes n places labels
Tells passes n places nowhere = NonePasses passes n places
Tells passes n places cut = Unit {0}
