-- Maps that make a problem another one.
use Rattle.std.specs.Prelude.{◌≡◌, ◌<◌, ℕ, List, length}
use Rattle.std.specs.List.{AllByRecursion}
use Rattle.re_problem.specs.Verdicts.{renaming_verdict}
use Rattle.re_problem.specs.declared.verdict.MapVerdict.TheVariants.{Yes}
use Rattle.re_problem.specs.NamedProblems.{NamedProblem, unnamed}

-- each label of the first problem has one of the second as its image, and the map makes the first one the second
pub record IsRenaming (from to : NamedProblem) (images : List ℕ) : Type 0 where
  pub count : length images ≡ length from.names
  pub labels : AllByRecursion (λ image. image < length to.names) images
  pub renames : renaming_verdict (unnamed from) (unnamed to) images ≡ Yes
