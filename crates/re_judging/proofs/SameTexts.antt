-- Problems with the same canonical text are the same.
use Rattle.std.proofs.Common.{◌≡◌, sym, ap, ◌∙◌}
use Rattle.re_problem.specs.CanonicalTexts.{canonical}
use Rattle.re_problem.specs.NamedProblems.{IsNamedProblem, NamedProblem}
use Rattle.re_problem.specs.ProblemTexts.{lines_of, problem_of}
use Rattle.re_texts.proofs.ReadBack.{canonical_law}
use Rattle.re_texts.specs.CanonicalLines.{IsWithinLimits}

pub same_texts : (problem other : NamedProblem) → IsNamedProblem problem → IsNamedProblem other → IsWithinLimits problem → IsWithinLimits other → canonical problem ≡ canonical other
    → problem ≡ other
same_texts problem other is other_is within other_within same =
    sym (canonical_law problem is within).1 ∙ (ap (λ text. problem_of (lines_of text)) same ∙ (canonical_law other other_is other_within).1)
