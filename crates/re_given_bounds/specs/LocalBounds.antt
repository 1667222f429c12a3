-- What certificates of bounds say of local algorithms, whose nodes have unique identifiers.
use Rattle.std.specs.Prelude.{◌≡◌, ℕ, ◌<◌, ◌≤◌, true, length}
use Rattle.std.specs.List.{AllByRecursion}
use Rattle.re_cert.specs.Bounds.{Bound, is_bound, last_problem, next_problems}
use Rattle.re_cert.specs.declared.certificate.Kind.TheVariants.{Fixed, Lower, Upper}
use Rattle.re_check.specs.Verdicts.{verdict_of}
use Rattle.re_check.specs.declared.verdict.Verdict.{Verdict}
use Rattle.re_check.specs.declared.verdict.Verdict.TheVariants.{Accepted, Refused}
use Rattle.re_bounds.specs.GivenBounds.{HasFewLabels, IsOver}
use Rattle.re_local.specs.Identifiers.{IdHypergraph}
use Rattle.re_local.specs.LocalAlgorithms.{SolvableLabelled}
use Rattle.re_local.specs.Separating.{Separates}
use Rattle.re_problem.specs.NamedProblems.{IsNamedProblem, unnamed}
use Rattle.re_problem.specs.Problems.{Problem}
use Rattle.re_local.specs.SeparatingLaws.{IsBeyondLocal, IsBeyondPower, identifier_base, virtual_base}

-- what a verdict says of local algorithms of T rounds with N identifiers: after a lower bound of more than T steps none solves the first
-- problem, nor after a fixed point
abbrev pub MeansLocal : Verdict → Problem → ℕ → ℕ → Type 0
MeansLocal (Accepted Lower steps) problem N T = T < steps → SolvableLabelled problem N T → ⊥
MeansLocal (Accepted Upper steps) problem N T = Unit {0}
MeansLocal (Accepted Fixed steps) problem N T = SolvableLabelled problem N T → ⊥
MeansLocal (Refused step clause) problem N T = Unit {0}

-- so it is where no problem of the bound has more than n labels, and there is a hypergraph of identifiers for T rounds and lists below n
abbrev pub LocalBoundLaw : Type 0
LocalBoundLaw = (bound : Bound) (n N T : ℕ) (hyper : IdHypergraph) → is_bound bound ≡ true → IsNamedProblem bound.first →
    AllByRecursion IsNamedProblem (next_problems bound.steps) → HasFewLabels n bound →
    Separates bound.first.active.degree bound.first.passive.degree N n T hyper → MeansLocal (verdict_of bound) (unnamed bound.first) N T

-- what a verdict says of algorithms with unique identifiers: after a fixed point, for each number T of rounds there is a number of identifiers
-- from which on no local algorithm of T rounds solves the first problem; after a lower bound, for each T up to its number of steps
abbrev pub MeansUnique : Verdict → Problem → Type 0
MeansUnique (Accepted Lower steps) problem = (T : ℕ) → T ≤ steps → IsBeyondLocal problem T
MeansUnique (Accepted Upper steps) problem = Unit {0}
MeansUnique (Accepted Fixed steps) problem = (T : ℕ) → IsBeyondLocal problem T
MeansUnique (Refused step clause) problem = Unit {0}

-- so it is, with no further premise
abbrev pub UniqueIdentifiersLaw : Type 0
UniqueIdentifiersLaw = (bound : Bound) → is_bound bound ≡ true → IsNamedProblem bound.first → AllByRecursion IsNamedProblem (next_problems bound.steps) →
    MeansUnique (verdict_of bound) (unnamed bound.first)

-- what a verdict says of how many identifiers are enough for that: after a fixed point, with C ^ (T + 1) or more no local algorithm of T rounds
-- solves the first problem, for each T; after a lower bound, for each T below its number of steps
abbrev pub MeansLogarithmic : Verdict → Problem → ℕ → Type 0
MeansLogarithmic (Accepted Lower steps) problem C = (T : ℕ) → T < steps → IsBeyondPower problem C T
MeansLogarithmic (Accepted Upper steps) problem C = Unit {0}
MeansLogarithmic (Accepted Fixed steps) problem C = (T : ℕ) → IsBeyondPower problem C T
MeansLogarithmic (Refused step clause) problem C = Unit {0}

-- so it is where no problem of the bound has more than n labels, and C depends on the degrees and n alone
abbrev pub LogarithmicBoundLaw : Type 0
LogarithmicBoundLaw = (bound : Bound) (n : ℕ) → is_bound bound ≡ true → IsNamedProblem bound.first →
    AllByRecursion IsNamedProblem (next_problems bound.steps) → HasFewLabels n bound →
    MeansLogarithmic (verdict_of bound) (unnamed bound.first) (identifier_base bound.first.active.degree bound.first.passive.degree n)

-- what is accepted as a lower bound of k steps excludes local algorithms of T rounds also where T is k, with so many identifiers, where its last
-- problem has no more than n labels
abbrev pub WholeLowerBoundLaw : Type 0
WholeLowerBoundLaw = (bound : Bound) (n T : ℕ) → IsOver bound → verdict_of bound ≡ Accepted Lower (length bound.steps) →
    length (last_problem bound).names ≤ n → T ≤ length bound.steps →
    IsBeyondPower (unnamed bound.first) (virtual_base bound.first.active.degree bound.first.passive.degree n) T
