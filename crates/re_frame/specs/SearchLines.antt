-- The lines of searches without success, and of chains that a word has no answer for.
use Rattle.std.specs.Prelude.{ℕ, List, [], ◌++◌, codes, slice_index_or}
use Rattle.std.specs.Fmt.{decimal}
use Rattle.re_problem.specs.CanonicalTexts.{config_text}
use Rattle.re_problem.specs.NamedProblems.{NamedProblem}

-- the line with the counts of the nodes that were looked at and of those that were cut off
abbrev pub not_found_line : ℕ → ℕ → List ℕ
not_found_line nodes cut = codes "not found: nodes " ++ decimal nodes ++ codes ", cut " ++ decimal cut ++ codes "\n"

-- the line for a problem that is solvable without communication, with its first configuration that shows it
abbrev pub solvable_line : NamedProblem → ℕ → List ℕ
solvable_line problem place = codes "not found: solvable without communication: " ++ config_text problem.names (slice_index_or problem.active.configs place []) ++ codes "\n"

-- the lines for a chain of the kind that a word doesn't go on from
abbrev pub not_lower_line : List ℕ
not_lower_line = codes "no: not a lower chain\n"

abbrev pub not_upper_line : List ℕ
not_upper_line = codes "no: not an upper chain\n"
