-- Lists of rows that grow.
use Rattle.std.specs.Prelude.{◌≡◌, ℕ, List, ◌++◌}

-- the second list has the first one in front
abbrev pub IsLonger : List (List (List ℕ)) → List (List (List ℕ)) → Type 0
IsLonger rows all = (more : List (List (List ℕ))) × (all ≡ rows ++ more)
