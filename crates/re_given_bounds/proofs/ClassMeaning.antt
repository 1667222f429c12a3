-- What certificates say of the class of a problem.
use Rattle.std.proofs.Common.{ℕ, ◌+◌, ◌≤◌, List, [], ◌∷◌, length, subst, arith}
use Rattle.std.specs.List.{AllByRecursion}
use Rattle.re_cert.specs.Bounds.{next_problems}
use Rattle.re_cert.specs.declared.certificate.Kind.TheVariants.{Fixed, Lower, Upper}
use Rattle.re_check.proofs.Meaning.{verdict_means}
use Rattle.re_check.specs.Verdicts.{Means, verdict_of}
use Rattle.re_check.specs.declared.verdict.Verdict.{Verdict}
use Rattle.re_check.specs.declared.verdict.Verdict.TheVariants.{Accepted, Refused}
use Rattle.re_classes.proofs.ApartClasses.{log_apart}
use Rattle.re_classes.proofs.Decided.{below_log_star, constant}
use Rattle.re_given_bounds.proofs.LocalMeaning.{logarithmic_bound}
use Rattle.re_given_bounds.specs.ClassBounds.{AboveLogLaw, ClassLaw, MeansClass, NoTwoClassesLaw}
use Rattle.re_given_bounds.specs.LocalBounds.{MeansLogarithmic}
use Rattle.re_labels.proofs.Membership.{AllByRecursion-weaker}
use Rattle.re_problem.specs.NamedProblems.{NamedProblem, unnamed}
use Rattle.re_problem.specs.Problems.{IsProblem, Problem}
use Rattle.re_local.specs.SeparatingLaws.{identifier_base}

-- at least as many as each of the problems has labels
abbrev labels_of : List NamedProblem → ℕ
labels_of [] = 0
labels_of (problem ∷ problems) = length problem.names + labels_of problems

few_labels : (problems : List NamedProblem) → AllByRecursion (λ (problem : NamedProblem). length problem.names ≤ labels_of problems) problems
few_labels [] = tt
few_labels (problem ∷ problems) = (
  omega arith,
  AllByRecursion-weaker (λ (other : NamedProblem). length other.names ≤ labels_of problems)
      (λ (other : NamedProblem). length other.names ≤ length problem.names + labels_of problems) (λ other l. omega arith) problems (few_labels problems),
)

class_from : (verdict : Verdict) (problem : Problem) (C : ℕ) → IsProblem problem → Means verdict problem → MeansLogarithmic verdict problem C → MeansClass verdict problem
class_from (Accepted Lower steps) problem C is means logarithmic = tt
class_from (Accepted Upper steps) problem C is means logarithmic = (constant problem is).1 (steps, means)
class_from (Accepted Fixed steps) problem C is means logarithmic = (C, logarithmic)
class_from (Refused step clause) problem C is means logarithmic = tt

pub class : ClassLaw
class bound over =
    let n : ℕ = labels_of (bound.first ∷ next_problems bound.steps) in
    let few = few_labels (bound.first ∷ next_problems bound.steps) in
    class_from (verdict_of bound) (unnamed bound.first) (identifier_base bound.first.active.degree bound.first.passive.degree n) over.first.problem
    (verdict_means bound over.fits over.first over.next) (logarithmic_bound bound n over.fits over.first over.next few)

pub above_log : AboveLogLaw
above_log bound over accepted = subst (λ verdict. MeansClass verdict (unnamed bound.first)) accepted (class bound over)

pub no_two_classes : NoTwoClassesLaw
no_two_classes bound over accepted coloured =
    log_apart (unnamed bound.first) (below_log_star (unnamed bound.first) over.first.problem coloured) (above_log bound over accepted)
