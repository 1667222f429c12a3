-- What the verdict Yes means.
use Rattle.std.specs.Prelude.{◌≡◌, ◌<◌, ◌↔◌, ℕ, List, length}
use Rattle.std.specs.List.{AllByRecursion}
use Rattle.re_labels.specs.Configs.{image_at}
use Rattle.re_labels.specs.Rows.{set_at}
use Rattle.re_problem.specs.Problems.{IsProblem, Problem}
use Rattle.re_problem.specs.Steps.{IsRelaxed, IsRenamed, IsUpper}
use Rattle.re_problem.specs.Verdicts.{relaxation_verdict, renaming_verdict, restriction_verdict}
use Rattle.re_problem.specs.declared.verdict.MapVerdict.TheVariants.{Yes}

-- Yes is the verdict exactly where the second problem is a relaxation of the first
abbrev pub RelaxesLaw : Type 0
RelaxesLaw = (from to : Problem) (images : List ℕ) → (relaxation_verdict from to images ≡ Yes) ↔ IsRelaxed from to (image_at images)

-- Yes is the verdict exactly where the second problem is an upper step of the first, and no set is empty
abbrev pub RestrictsLaw : Type 0
RestrictsLaw = (from to : Problem) (sets : List (List ℕ)) →
    (restriction_verdict from to sets ≡ Yes) ↔ (IsUpper from to (set_at sets) × AllByRecursion (λ set. 0 < length set) sets)

-- with an image for each label, Yes is the verdict exactly where the second problem is the first under other labels
abbrev pub RenamesLaw : Type 0
RenamesLaw = (from to : Problem) (images : List ℕ) → IsProblem from → IsProblem to → length images ≡ from.labels →
    (renaming_verdict from to images ≡ Yes) ↔ IsRenamed from to images
