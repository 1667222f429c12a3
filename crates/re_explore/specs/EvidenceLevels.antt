-- The part of evidence that a problem's levels of labels are.
use Rattle.std.specs.Prelude.{ℕ, List, [], ◌∷◌, ◌++◌, codes}
use Rattle.std.specs.Fmt.{decimal}
use Rattle.re_flexible.specs.declared.levels.Flexibility.{Flexibility}
use Rattle.re_flexible.specs.declared.levels.Flexibility.TheVariants.{Flexible, Length, NoSolution}
use Rattle.re_forest_words.specs.Answers.{labels_text}
use Rattle.re_texts.specs.SetTexts.{named_text}
use Rattle.re_problem.specs.CanonicalTexts.{canonical}
use Rattle.re_problem.specs.NamedProblems.{NamedProblem}

-- the names of the labels, with one blank between
abbrev pub set_text : List (List ℕ) → List ℕ → List ℕ
set_text names [] = []
set_text names (label ∷ set) = named_text names label ++ labels_text names set

-- a flexible set, or how many levels there are: none where trimming leaves no label
abbrev pub levels_text : List (List ℕ) → Flexibility → List ℕ
levels_text names (Flexible set) = codes "== flexible\n" ++ (set_text names set ++ codes "\n")
levels_text names (Length count) = codes "== length\n" ++ (decimal count ++ codes "\n")
levels_text names NoSolution = codes "== length\n0\n"

-- the problem, and these
abbrev pub levels_part : NamedProblem → Flexibility → List ℕ
levels_part problem levels = canonical problem ++ levels_text problem.names levels
