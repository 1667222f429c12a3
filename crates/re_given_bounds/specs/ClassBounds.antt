-- What certificates of bounds say of the class of a problem.
use Rattle.std.specs.Prelude.{◌≡◌, length}
use Rattle.re_cert.specs.Bounds.{Bound}
use Rattle.re_cert.specs.declared.certificate.Kind.TheVariants.{Fixed, Lower, Upper}
use Rattle.re_check.specs.Verdicts.{verdict_of}
use Rattle.re_check.specs.declared.verdict.Verdict.{Verdict}
use Rattle.re_check.specs.declared.verdict.Verdict.TheVariants.{Accepted, Refused}
use Rattle.re_classes.specs.Classes.{IsAboveLog, IsConstantLocal}
use Rattle.re_classes.specs.Laws.{IsSolvableColoured}
use Rattle.re_bounds.specs.GivenBounds.{IsOver}
use Rattle.re_problem.specs.NamedProblems.{unnamed}
use Rattle.re_problem.specs.Problems.{Problem}

-- what a verdict says of the class of the first problem: after an upper bound it takes a constant number of rounds, and after a fixed point at
-- least the order of log N
abbrev pub MeansClass : Verdict → Problem → Type 0
MeansClass (Accepted Lower steps) problem = Unit {0}
MeansClass (Accepted Upper steps) problem = IsConstantLocal problem
MeansClass (Accepted Fixed steps) problem = IsAboveLog problem
MeansClass (Refused step clause) problem = Unit {0}

-- so it is, with no further premise
abbrev pub ClassLaw : Type 0
ClassLaw = (bound : Bound) → IsOver bound → MeansClass (verdict_of bound) (unnamed bound.first)

-- what is accepted as a fixed point takes at least the order of log N rounds
abbrev pub AboveLogLaw : Type 0
AboveLogLaw = (bound : Bound) → IsOver bound → verdict_of bound ≡ Accepted Fixed (length bound.steps) →
    IsAboveLog (unnamed bound.first)

-- and so no number of rounds solves it given a proper colouring with one colour more than an active node has neighbours, by which it would take
-- the order of log* N at most
abbrev pub NoTwoClassesLaw : Type 0
NoTwoClassesLaw = (bound : Bound) → IsOver bound → verdict_of bound ≡ Accepted Fixed (length bound.steps) →
    IsSolvableColoured (unnamed bound.first) → ⊥
