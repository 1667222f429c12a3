-- Lines that are kept, and lines that wait.
use Rattle.std.specs.Prelude.{◌≡◌, ℕ, zero, suc, ◌+◌, ◌*◌, ◌<◌, ◌≤◌, ◌⊎◌, List, [], ◌∷◌, length, Contains}
use Rattle.re_labels.specs.Orders.{factorial}
use Rattle.re_labels.specs.Rearranging.{Rearranged}
use Rattle.re_labels.specs.Rows.{Dominates, combined}
use Rattle.re_labels.specs.declared.TheConstants.{MAX_ROWS}
use Rattle.re_labels.specs.GoodRows.{IsDominated}
use Rattle.re_closure_laws.specs.Closures.{IsGenerated}
use Rattle.re_closure_laws.specs.Lines.{AreApart}
use Rattle.re_closure.specs.Combining.{IsCombination}
use Rattle.re_closure.specs.declared.topmost.TheConstants.{MAX_COMBINATIONS}

-- all lines are of d sets
abbrev pub AreOfLength : ℕ → List (List (List ℕ)) → Type 0
AreOfLength d lines = (line : List (List ℕ)) → Contains lines line → length line ≡ d

-- neither of the two lines dominates the other
abbrev pub AreUnrelated : List (List ℕ) → List (List ℕ) → Type 0
AreUnrelated line other = (Dominates line other → ⊥) × (Dominates other line → ⊥)

-- none of the lines dominates another one; so none stands twice
abbrev pub IsAntichain : List (List (List ℕ)) → Type 0
IsAntichain [] = Unit {0}
IsAntichain (line ∷ lines) = ((other : List (List ℕ)) → Contains lines other → AreUnrelated line other) × IsAntichain lines

-- more than `MAX_ROWS` lines of which none dominates another come from the starts by combinations
pub record HasManyLines (d : ℕ) (starts : List (List (List ℕ))) : Type 0 where
  pub lines : List (List (List ℕ))
  pub generated : (line : List (List ℕ)) → Contains lines line → IsGenerated d starts line
  pub unrelated : IsAntichain lines
  pub many : MAX_ROWS < length lines

-- no line is another one in another order
abbrev pub AreDifferent : List (List (List ℕ)) → Type 0
AreDifferent [] = Unit {0}
AreDifferent (line ∷ lines) = ((other : List (List ℕ)) → Contains lines other → Rearranged line other → ⊥) × AreDifferent lines

-- how many pairs n lines make, where each makes one with itself too
abbrev pub pairs_of : ℕ → ℕ
pairs_of zero = 0
pairs_of (suc n) = pairs_of n + suc n

-- how many combinations two lines of d sets have: one for each place, in each order of the second line's sets
abbrev pub combinations_of : ℕ → ℕ
combinations_of d = d * factorial d

-- so many different lines come from the starts by combinations that the starts, and the combinations of two of these lines or of one with itself, are
-- more than `MAX_COMBINATIONS`
pub record HasManyCombinations (d : ℕ) (starts : List (List (List ℕ))) : Type 0 where
  pub lines : List (List (List ℕ))
  pub generated : (line : List (List ℕ)) → Contains lines line → IsGenerated d starts line
  pub different : AreDifferent lines
  pub many : MAX_COMBINATIONS < length starts + pairs_of (length lines) * combinations_of d

-- a kept line or one that waits dominates the line
abbrev pub IsCovered : List (List (List ℕ)) → List (List (List ℕ)) → List (List ℕ) → Type 0
IsCovered kept waiting line = IsDominated kept line ⊎ IsDominated waiting line

-- kept lines and those that wait are of d sets and come from the starts; no kept one dominates another; each start, and each combination of two kept lines, in
-- any order, is dominated by a kept line or one that waits
pub record IsKept (d : ℕ) (starts kept waiting : List (List (List ℕ))) : Type 0 where
  pub generated : (line : List (List ℕ)) → Contains kept line ⊎ Contains waiting line → IsGenerated d starts line
  pub count : (line : List (List ℕ)) → Contains kept line ⊎ Contains waiting line → length line ≡ d
  pub apart : AreApart kept
  pub begun : (line : List (List ℕ)) → Contains starts line → IsCovered kept waiting line
  pub combinations : (line other moved : List (List ℕ)) (i : ℕ) → Contains kept line → Contains kept other → Rearranged other moved → i < d → IsCovered kept waiting (combined i line moved)

-- the line is taken from the list
pub record IsTaken (old : List (List (List ℕ))) (line : List (List ℕ)) (new : List (List (List ℕ))) : Type 0 where
  pub had : (other : List (List ℕ)) → Contains old other → Contains (line ∷ new) other
  pub has : (other : List (List ℕ)) → Contains (line ∷ new) other → Contains old other

-- the lines that were found wait, beside the old ones, unless a kept line dominates them
pub record AreOffered (kept found old new : List (List (List ℕ))) : Type 0 where
  pub stays : (line : List (List ℕ)) → Contains old line → Contains new line
  pub made : (line : List (List ℕ)) → Contains new line → Contains old line ⊎ Contains found line
  pub all : (line : List (List ℕ)) → Contains found line → IsCovered kept new line

-- combinations of the line with kept ones of its length wait, beside the old ones; what isn't of them is dominated
pub record AreSettledBefore (kept : List (List (List ℕ))) (line : List (List ℕ)) (before : List (List (List ℕ))) (old new : List (List (List ℕ))) : Type 0 where
  pub stays : (other : List (List ℕ)) → Contains old other → Contains new other
  pub made : (both : List (List ℕ)) → Contains new both → Contains old both ⊎ ((other : List (List ℕ)) × Contains kept other × (length other ≡ length line) × IsCombination line other both)
  pub all : (other moved : List (List ℕ)) (i : ℕ) → Contains kept line → Contains before other → length other ≡ length line → Rearranged other moved → i < length line
      → IsCovered kept new (combined i line moved)

abbrev pub AreSettled : List (List (List ℕ)) → List (List ℕ) → List (List (List ℕ)) → List (List (List ℕ)) → Type 0
AreSettled kept line old new = AreSettledBefore kept line kept old new

-- lines that were settled, so many of which were looked at: different ones that come from the starts, each of them dominated by a kept one; as many as the
-- kept ones at least; and those that were looked at and those that wait are no more than the starts and the combinations of these lines
pub record IsCounted (d : ℕ) (starts kept waiting : List (List (List ℕ))) (looked : ℕ) : Type 0 where
  pub lines : List (List (List ℕ))
  pub generated : (line : List (List ℕ)) → Contains lines line → IsGenerated d starts line
  pub different : AreDifferent lines
  pub covered : (line : List (List ℕ)) → Contains lines line → IsDominated kept line
  pub few : length kept ≤ length lines
  pub count : looked + length waiting ≤ length starts + pairs_of (length lines) * combinations_of d
