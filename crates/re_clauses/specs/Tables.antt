-- A list of lists as one list, and where each of them ends in it.
use Rattle.std.specs.Prelude.{◌≡◌, ◌≤◌, ℕ, List, [], ◌∷◌, slice_range}

-- the lists that end at these places, the first of which begins at the given one
unfoldable pub pieces : List ℕ → ℕ → List ℕ → List (List ℕ)
pieces all start [] = []
pieces all start (end ∷ ends) = slice_range all start end ∷ pieces all end ends

-- the places don't descend, from the given first place to the last one
unfoldable pub AreEnds : ℕ → List ℕ → ℕ → Type 0
AreEnds start [] last = start ≡ last
AreEnds start (end ∷ ends) last = (start ≤ end) × AreEnds end ends last
