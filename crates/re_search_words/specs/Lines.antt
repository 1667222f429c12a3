-- The lines of a search for a fixed point without success: they tell how far it looked, and nothing of the problem.
use Rattle.std.specs.Prelude.{ℕ, List, ◌++◌, codes}
use Rattle.std.specs.Fmt.{decimal}
use Rattle.re_frame.specs.Outcomes.{Outcome, limit, refused}

-- how many problems were looked at, and how many were cut off
abbrev pub searched_outcome : ℕ → ℕ → Outcome
searched_outcome nodes cut = refused (codes "not found: searched nodes " ++ decimal nodes ++ codes ", cut " ++ decimal cut ++ codes "\n")

-- that these were as many as may be
abbrev pub searched_limit : ℕ → Outcome
searched_limit nodes = limit (codes "limit: searched more than " ++ decimal nodes ++ codes " nodes\n")
