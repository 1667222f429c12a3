-- What certificates of bounds say of randomised algorithms.
use Rattle.std.specs.Prelude.{◌≡◌, ℕ, ◌^◌, ◌≤◌, ◌<◌, length, true}
use Rattle.std.specs.List.{AllByRecursion}
use Rattle.re_cert.specs.Bounds.{Bound, is_bound, last_problem, next_problems}
use Rattle.re_cert.specs.declared.certificate.Kind.TheVariants.{Fixed, Lower, Upper}
use Rattle.re_check.specs.Verdicts.{verdict_of}
use Rattle.re_check.specs.declared.verdict.Verdict.{Verdict}
use Rattle.re_check.specs.declared.verdict.Verdict.TheVariants.{Accepted, Refused}
use Rattle.re_bounds.specs.GivenBounds.{HasFewLabels, IsOver}
use Rattle.re_problem.specs.NamedProblems.{IsNamedProblem, unnamed}
use Rattle.re_problem.specs.Problems.{Problem}
use Rattle.re_classes.specs.RandomLaws.{IsBeyondIdentified, IsBeyondDoublePower, random_base}
use Rattle.re_local.specs.SeparatingLaws.{identifier_base, virtual_base}

-- what a verdict says of randomised algorithms: after a fixed point, for each T, each of them of T rounds fails on the first problem at some node,
-- for some port numbering, with a probability of at least 1 / q, where q is 2 ^ (D ^ (T + 1)) or more; after a lower bound, for each T below its
-- number of steps
abbrev pub MeansRandomised : Verdict → Problem → ℕ → Type 0
MeansRandomised (Accepted Lower steps) problem D = (T : ℕ) → T < steps → IsBeyondDoublePower problem D T
MeansRandomised (Accepted Upper steps) problem D = Unit {0}
MeansRandomised (Accepted Fixed steps) problem D = (T : ℕ) → IsBeyondDoublePower problem D T
MeansRandomised (Refused step clause) problem D = Unit {0}

-- so it is where no problem of the bound has more than n labels, and no node more than d ports; D depends on the degrees and n alone, and is
-- 17,856 for degrees 3 and 2 and 2 labels, with 989 for l
abbrev pub RandomisedBoundLaw : Type 0
RandomisedBoundLaw = (bound : Bound) (n d l : ℕ) → is_bound bound ≡ true → IsNamedProblem bound.first →
    AllByRecursion IsNamedProblem (next_problems bound.steps) → HasFewLabels n bound →
    let a : ℕ = bound.first.active.degree in let p : ℕ = bound.first.passive.degree in
    a ≤ d → p ≤ d → identifier_base a p n ≤ 2 ^ l → MeansRandomised (verdict_of bound) (unnamed bound.first) (random_base d l)

-- what a verdict says of randomised algorithms whose nodes have N different identifiers too: after a fixed point, for each T, each of them of T
-- rounds fails on the first problem at some node, for some port numbering and some different identifiers, with a probability of at least 1 / q,
-- where N is C ^ (T + 1) or more, and q is 2 ^ (D ^ (T + 1)) or more; after a lower bound, for each T below its number of steps
abbrev pub MeansIdentified : Verdict → Problem → ℕ → ℕ → Type 0
MeansIdentified (Accepted Lower steps) problem C D = (T : ℕ) → T < steps → IsBeyondIdentified problem C D T
MeansIdentified (Accepted Upper steps) problem C D = Unit {0}
MeansIdentified (Accepted Fixed steps) problem C D = (T : ℕ) → IsBeyondIdentified problem C D T
MeansIdentified (Refused step clause) problem C D = Unit {0}

-- so it is where no problem of the bound has more than n labels, and no node more than d ports
abbrev pub IdentifiedBoundLaw : Type 0
IdentifiedBoundLaw = (bound : Bound) (n d l : ℕ) → is_bound bound ≡ true → IsNamedProblem bound.first →
    AllByRecursion IsNamedProblem (next_problems bound.steps) → HasFewLabels n bound →
    let a : ℕ = bound.first.active.degree in let p : ℕ = bound.first.passive.degree in
    a ≤ d → p ≤ d → identifier_base a p n ≤ 2 ^ l → MeansIdentified (verdict_of bound) (unnamed bound.first) (identifier_base a p n) (random_base d l)

-- what is accepted as a lower bound of k steps excludes randomised algorithms of T rounds also where T is k, without identifiers and with them,
-- where its last problem has no more than n labels, and no node more than d ports
abbrev pub WholeRandomisedLaw : Type 0
WholeRandomisedLaw = (bound : Bound) (n d l T : ℕ) → IsOver bound → verdict_of bound ≡ Accepted Lower (length bound.steps) →
    length (last_problem bound).names ≤ n → T ≤ length bound.steps →
    let a : ℕ = bound.first.active.degree in let p : ℕ = bound.first.passive.degree in
    a ≤ d → p ≤ d → virtual_base a p n ≤ 2 ^ l →
    IsBeyondDoublePower (unnamed bound.first) (random_base d l) T × IsBeyondIdentified (unnamed bound.first) (virtual_base a p n) (random_base d l) T
