-- The combinations of two lines, as far as neither of the two dominates them.
use Rattle.std.specs.Prelude.{ℕ, ◌<◌, ◌⊎◌, List, ◌∷◌, ◌++◌, length, Contains}
use Rattle.std.specs.List.{remove}
use Rattle.re_labels.specs.Sets.{union}
use Rattle.re_labels.specs.Rearranging.{Rearranged}
use Rattle.re_labels.specs.Rows.{combined, meets, set_at}
use Rattle.re_labels.specs.GoodRows.{IsDominated}

-- the list has the line, in some order
abbrev pub HasAlike : List (List (List ℕ)) → List (List ℕ) → Type 0
HasAlike lines line = (other : List (List ℕ)) × Contains lines other × Rearranged line other

-- the line is, in some order, the chosen sets with what each of the rest has in common with one of those left
abbrev pub IsMeeting : List (List ℕ) → List (List ℕ) → List (List ℕ) → List (List ℕ) → Type 0
IsMeeting chosen rest left line = (moved : List (List ℕ)) × Rearranged left moved × Rearranged (chosen ++ meets rest moved) line

-- beside the old lines there are, in some order, all such lines, and no others
pub record AreMeetings (chosen rest left : List (List ℕ)) (old new : List (List (List ℕ))) : Type 0 where
  pub stays : (line : List (List ℕ)) → Contains old line → Contains new line
  pub made : (line : List (List ℕ)) → Contains new line → Contains old line ⊎ IsMeeting chosen rest left line
  pub all : (moved : List (List ℕ)) → Rearranged left moved → HasAlike new (chosen ++ meets rest moved)

-- the line is a combination of the one with the other, each in some order
abbrev pub IsCombination : List (List ℕ) → List (List ℕ) → List (List ℕ) → Type 0
IsCombination line other both = (i : ℕ) × (moved : List (List ℕ)) × (i < length line) × Rearranged other moved × Rearranged (combined i line moved) both

-- the union of the sets at two places, with what the other sets have in common, in this order of the others of the second line
abbrev pub joined : List (List ℕ) → List (List ℕ) → ℕ → ℕ → List (List ℕ) → List (List ℕ)
joined sets others place against moved = union (set_at sets place) (set_at others against) ∷ meets (remove sets place) moved

-- one of the two lines or one of the list dominates each such line
abbrev pub AreDominatedAt : List (List ℕ) → List (List ℕ) → ℕ → ℕ → List (List (List ℕ)) → Type 0
AreDominatedAt sets others place against lines =
    (moved : List (List ℕ)) → Rearranged (remove others against) moved → IsDominated (sets ∷ others ∷ lines) (joined sets others place against moved)

-- beside the old lines there are combinations, and what isn't of them is dominated: of those with the union at two places
pub record AreAllAt (sets others : List (List ℕ)) (place against : ℕ) (old new : List (List (List ℕ))) : Type 0 where
  pub stays : (line : List (List ℕ)) → Contains old line → Contains new line
  pub made : (line : List (List ℕ)) → Contains new line → Contains old line ⊎ IsCombination sets others line
  pub all : AreDominatedAt sets others place against new

-- of those with the union at a place of the first line, and at a place below another of the second line
pub record AreAllBefore (sets others : List (List ℕ)) (place before : ℕ) (old new : List (List (List ℕ))) : Type 0 where
  pub stays : (line : List (List ℕ)) → Contains old line → Contains new line
  pub made : (line : List (List ℕ)) → Contains new line → Contains old line ⊎ IsCombination sets others line
  pub all : (against : ℕ) → against < before → AreDominatedAt sets others place against new

-- of those with the union at a place of the first line
abbrev pub AreAllAgainst : List (List ℕ) → List (List ℕ) → ℕ → List (List (List ℕ)) → List (List (List ℕ)) → Type 0
AreAllAgainst sets others place old new = AreAllBefore sets others place (length others) old new

-- of all
pub record AreAllOf (line other : List (List ℕ)) (lines : List (List (List ℕ))) : Type 0 where
  pub made : (both : List (List ℕ)) → Contains lines both → IsCombination line other both
  pub all : (i : ℕ) (moved : List (List ℕ)) → i < length line → Rearranged other moved → IsDominated (line ∷ other ∷ lines) (combined i line moved)
