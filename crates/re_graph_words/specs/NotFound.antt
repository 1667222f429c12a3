-- The answer of `cover` where no graph was found.
use Rattle.std.specs.Prelude.{◌≡◌, ℕ, List, ◌++◌, codes}
use Rattle.std.specs.Fmt.{decimal}
use Rattle.re_frame.specs.Outcomes.{Outcome, refused}

abbrev pub not_found_line : ℕ → List ℕ
not_found_line graphs = codes "not found: graphs " ++ decimal graphs ++ codes "\n"

-- no such graph was found; this says nothing of the problem
abbrev pub IsNotFound : Outcome → Type 0
IsNotFound outcome = (graphs : ℕ) × (outcome ≡ refused (not_found_line graphs))
