-- What certificates say of local algorithms.
use Rattle.std.proofs.Common.{ℕ, ◌+◌, ◌^◌, ◌≤◌, arith}
use Rattle.re_cert.specs.declared.certificate.Kind.TheVariants.{Fixed, Lower, Upper}
use Rattle.re_check.proofs.Meaning.{verdict_means}
use Rattle.re_check.specs.Verdicts.{Means, verdict_of}
use Rattle.re_check.specs.declared.verdict.Verdict.{Verdict}
use Rattle.re_check.specs.declared.verdict.Verdict.TheVariants.{Accepted, Refused}
use Rattle.re_given.specs.Given.{SolvableGiven}
use Rattle.re_given.specs.Inputs.{IsInput}
use Rattle.re_bounds.proofs.GivenMeaning.{beside}
use Rattle.re_bounds.specs.GivenBounds.{MeansBeside}
use Rattle.re_local.proofs.IdentifierInputs.{IsInput-identifiers, some_identifier}
use Rattle.re_local.proofs.LocalGiven.{SolvableGiven-labelled}
use Rattle.re_local.proofs.UnavoidableIdentifiers.{identifiers_unavoidable}
use Rattle.re_local.specs.Identifiers.{identifiers}
use Rattle.re_local.specs.LocalAlgorithms.{SolvableLabelled}
use Rattle.re_given_bounds.specs.LocalBounds.{LocalBoundLaw, LogarithmicBoundLaw, MeansLocal, MeansLogarithmic, MeansUnique, UniqueIdentifiersLaw}
use Rattle.re_classes.proofs.BeyondLocal.{IsBeyondLocal-unsolvable}
use Rattle.re_problem.specs.NamedProblems.{unnamed}
use Rattle.re_problem.specs.Problems.{IsProblem, Problem}
use Rattle.re_local.proofs.Separated.{IsBeyondPower-labelled, separating}
use Rattle.re_local.specs.SeparatingLaws.{identifier_base}

local_from : (verdict : Verdict) (problem input : Problem) (N T : ℕ) → (SolvableLabelled problem N T → SolvableGiven problem input T) → MeansBeside verdict problem input → MeansLocal verdict problem N T
local_from (Accepted Lower steps) problem input N T given means = λ l h. means T l (given h)
local_from (Accepted Upper steps) problem input N T given means = tt
local_from (Accepted Fixed steps) problem input N T given means = λ h. means T (given h)
local_from (Refused step clause) problem input N T given means = tt

pub local_bound : LocalBoundLaw
local_bound bound n N T hyper fits first named few separates =
    let problem : Problem = unnamed bound.first in
    let a : ℕ = bound.first.active.degree in
    let p : ℕ = bound.first.passive.degree in
    let some : 1 ≤ a = (let least = first.problem.active.least in omega arith) in
    let more : 1 ≤ p = (let least = first.problem.passive.least in omega arith) in
    let input : Problem = identifiers a p N hyper in
    let is_input : IsInput problem input = IsInput-identifiers problem N hyper first.problem (some_identifier a p N n hyper some more separates.joins) separates.edges in
    local_from (verdict_of bound) problem input N T (SolvableGiven-labelled problem N T hyper is_input separates.apart)
    (beside bound input n fits first named is_input few (identifiers_unavoidable a p N n hyper some more separates.joins))

-- ---- from some number of identifiers on
unique_from : (verdict : Verdict) (problem : Problem) → IsProblem problem → Means verdict problem → MeansUnique verdict problem
unique_from (Accepted Lower steps) problem is means = λ T l. IsBeyondLocal-unsolvable problem T is (means T l)
unique_from (Accepted Upper steps) problem is means = tt
unique_from (Accepted Fixed steps) problem is means = λ T. IsBeyondLocal-unsolvable problem T is (means T)
unique_from (Refused step clause) problem is means = tt

pub unique_identifiers : UniqueIdentifiersLaw
unique_identifiers bound fits first named = unique_from (verdict_of bound) (unnamed bound.first) first.problem (verdict_means bound fits first named)

-- ---- with so many identifiers or more
logarithmic_from : (verdict : Verdict) (problem : Problem) (C : ℕ) → ((T : ℕ) → (N : ℕ) × (N ≤ C ^ (T + 1)) × MeansLocal verdict problem N T) → MeansLogarithmic verdict problem C
logarithmic_from (Accepted Lower steps) problem C each = λ T l. let (N, few, means) = each T in IsBeyondPower-labelled problem C N T few (means l)
logarithmic_from (Accepted Upper steps) problem C each = tt
logarithmic_from (Accepted Fixed steps) problem C each = λ T. let (N, few, means) = each T in IsBeyondPower-labelled problem C N T few means
logarithmic_from (Refused step clause) problem C each = tt

pub logarithmic_bound : LogarithmicBoundLaw
logarithmic_bound bound n fits first named labels =
    let a : ℕ = bound.first.active.degree in
    let p : ℕ = bound.first.passive.degree in
    logarithmic_from (verdict_of bound) (unnamed bound.first) (identifier_base a p n) (λ T.
    let (N, hyper, few, separates) = separating a p n T (let l = first.problem.active.least in omega arith) (let l = first.problem.passive.least in omega arith) in
    (N, few, local_bound bound n N T hyper fits first named labels separates))
