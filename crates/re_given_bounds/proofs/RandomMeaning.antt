-- What certificates of bounds say of randomised algorithms.
use Rattle.std.proofs.Common.{ℕ}
use Rattle.re_check.specs.Verdicts.{verdict_of}
use Rattle.re_check.specs.declared.verdict.Verdict.{Verdict}
use Rattle.re_check.specs.declared.verdict.Verdict.TheVariants.{Accepted, Refused}
use Rattle.re_cert.specs.declared.certificate.Kind.TheVariants.{Fixed, Lower, Upper}
use Rattle.re_given_bounds.proofs.WholeMeaning.{whole_lower_bound}
use Rattle.re_given_bounds.proofs.LocalMeaning.{logarithmic_bound}
use Rattle.re_given_bounds.specs.LocalBounds.{MeansLogarithmic}
use Rattle.re_given_bounds.specs.RandomBounds.{MeansIdentified, MeansRandomised, IdentifiedBoundLaw, RandomisedBoundLaw, WholeRandomisedLaw}
use Rattle.re_problem.specs.NamedProblems.{unnamed}
use Rattle.re_problem.specs.Problems.{Problem}
use Rattle.re_classes.proofs.Derandomised.{randomised, randomised_identified}
use Rattle.re_classes.specs.RandomLaws.{IsBeyondIdentified, IsBeyondDoublePower, random_base}
use Rattle.re_local.specs.SeparatingLaws.{IsBeyondPower, identifier_base, virtual_base}

random_from : (verdict : Verdict) (problem : Problem) (C D : ℕ) → ((T : ℕ) → IsBeyondPower problem C T → IsBeyondDoublePower problem D T)
    → MeansLogarithmic verdict problem C
    → MeansRandomised verdict problem D
random_from (Accepted Lower steps) problem C D each means = λ T l. each T (means T l)
random_from (Accepted Upper steps) problem C D each means = tt
random_from (Accepted Fixed steps) problem C D each means = λ T. each T (means T)
random_from (Refused step clause) problem C D each means = tt

named_from : (verdict : Verdict) (problem : Problem) (C D : ℕ) → ((T : ℕ) → IsBeyondPower problem C T → IsBeyondIdentified problem C D T)
    → MeansLogarithmic verdict problem C
    → MeansIdentified verdict problem C D
named_from (Accepted Lower steps) problem C D each means = λ T l. each T (means T l)
named_from (Accepted Upper steps) problem C D each means = tt
named_from (Accepted Fixed steps) problem C D each means = λ T. each T (means T)
named_from (Refused step clause) problem C D each means = tt

pub randomised_bound : RandomisedBoundLaw
randomised_bound bound n d l fits first named few low low' bits =
    let C : ℕ = identifier_base bound.first.active.degree bound.first.passive.degree n in
    random_from (verdict_of bound) (unnamed bound.first) C (random_base d l) (λ T. randomised (unnamed bound.first) d C l T first.problem low low' bits)
    (logarithmic_bound bound n fits first named few)

pub identified_bound : IdentifiedBoundLaw
identified_bound bound n d l fits first named few low low' bits =
    let C : ℕ = identifier_base bound.first.active.degree bound.first.passive.degree n in
    named_from (verdict_of bound) (unnamed bound.first) C (random_base d l) (λ T. randomised_identified (unnamed bound.first) d C l T first.problem low low' bits)
    (logarithmic_bound bound n fits first named few)

pub whole_randomised : WholeRandomisedLaw
whole_randomised bound n d l T over accepted few up low low' bits =
    let C : ℕ = virtual_base bound.first.active.degree bound.first.passive.degree n in
    let beyond : IsBeyondPower (unnamed bound.first) C T = whole_lower_bound bound n T over accepted few up in (
      randomised (unnamed bound.first) d C l T over.first.problem low low' bits beyond,
      randomised_identified (unnamed bound.first) d C l T over.first.problem low low' bits beyond,
    )
