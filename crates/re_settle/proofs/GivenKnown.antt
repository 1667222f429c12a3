-- What each of the words shows given an input problem where it finds something.
use Rattle.std.proofs.Common.{◌≡◌, ℕ, ◌*◌, ◌≤◌, [], length, inl, inr, refl, subst, sym, ap, ◌∙◌, arith, Option, None, Some}
use Rattle.std.specs.Prelude.{IfSome, option_map}
use Rattle.re_cert.specs.Bounds.{Bound}
use Rattle.re_cert.specs.declared.certificate.Kind.{Kind}
use Rattle.re_cert.specs.declared.certificate.Kind.TheVariants as kind
use Rattle.re_chains.specs.Chains.{chain_with}
use Rattle.re_chains.specs.ChainTexts.{problem_chain}
use Rattle.re_closure.specs.Closures.{IsClosed}
use Rattle.re_settings.specs.InputProblems.{input_fault}
use Rattle.re_frame.specs.Outcomes.{Outcome}
use Rattle.re_given.specs.Inputs.{IsInput}
use Rattle.re_bounds.specs.GivenBounds.{MeansGiven}
use Rattle.re_given_words.proofs.CountingMeans.{count_means}
use Rattle.re_given_words.proofs.GoingOn.{taken_law}
use Rattle.re_given_words.specs.Counting.{CountMeans, IsBeside, IsCounted, MayTell, walk_after}
use Rattle.re_given_words.specs.Extensions.{GoesOnGiven}
use Rattle.re_settings.specs.Taken.{IsTaken}
use Rattle.re_settings.specs.InputFaults.{or_input_fault}
use Rattle.re_settings.specs.Verdicts.{given_outcome, lower_with}
use Rattle.re_given_words.specs.declared.counting.Counted.{Counted}
use Rattle.re_given_words.specs.declared.counting.Counted.TheVariants as counted
use Rattle.re_settings.specs.declared.bound_words.BoundWord.TheVariants.{Given}
use Rattle.re_labels.specs.declared.TheConstants.{MAX_LABELS}
use Rattle.re_problem.specs.NamedProblems.{IsNamedProblem, NamedProblem, unnamed}
use Rattle.re_problem.specs.Problems.{IsProblem, Problem}
use Rattle.re_settle.specs.Ways.{HasText, IsTried, SaysCounted}
use Rattle.re_evidence.specs.declared.types.Claim.{Claim}
use Rattle.re_evidence.specs.declared.types.Claim.TheVariants.{AtMost, MoreThan, Never}
use Rattle.re_settle.specs.declared.types.Shown.{Shown}
use Rattle.re_settle.specs.declared.types.Way.{Way}
use Rattle.re_settle.specs.declared.types.Way.TheVariants.{Closure, Cycle, Longest, Rounds, Shortest}
use Rattle.re_settle.specs.GivenAnswers.{IsUntold}
use Rattle.re_evidence.specs.Claims.{HoldsGiven}
use Rattle.re_settle.specs.GivenWays.{HasGivenText, IsKnownGiven, IsTriedGiven}
use Rattle.re_walks.specs.Walking.{cut}

-- ---- what is counted
-- it says what it means
count-holds : (problem input : NamedProblem) (counts : Counted) (claim : Claim) → CountMeans (unnamed problem) (Some (unnamed input)) counts → SaysCounted counts claim
    → HoldsGiven claim (unnamed problem) input
count-holds problem input (counted.Exactly rounds) claim means says = subst (λ c. HoldsGiven c (unnamed problem) input) (sym says) means
count-holds problem input (counted.MoreThan rounds) claim means says = subst (λ c. HoldsGiven c (unnamed problem) input) (sym says) means
count-holds problem input (counted.Passed rounds limit) claim means says = subst (λ c. HoldsGiven c (unnamed problem) input) (sym says) means
count-holds problem input (counted.Stopped rounds steps limit) claim means says = subst (λ c. HoldsGiven c (unnamed problem) input) (sym says) means
count-holds problem input (counted.Tried rounds) claim means says = absurd says

pub count_known : (times : ℕ) (problem input : NamedProblem) (most : ℕ) (counts : Counted) (claim : Claim) → IsProblem (unnamed problem) → IsInput (unnamed problem) (unnamed input) → most ≤ 8
    → IsCounted (unnamed problem) (Some (unnamed input)) most counts → SaysCounted counts claim → IsKnownGiven times problem input claim (Rounds most)
count_known times problem input most counts claim is beside few counted says = record {
  shown = record { tried = few; shows = (counts, counted, says) };
  holds = count-holds problem input counts claim (count_means (unnamed problem) is (Some (unnamed input)) most counts beside counted) says;
}

-- and of a number of rounds with the word
pub shown_as : (times : ℕ) (problem input : NamedProblem) (claim : ℕ → Claim) (shown : Shown) (rounds most : ℕ) → shown.rounds ≡ rounds → shown.way ≡ Rounds most
    → IsKnownGiven times problem input (claim rounds) (Rounds most) → IsKnownGiven times problem input (claim shown.rounds) shown.way
shown_as times problem input claim shown rounds most rounds_is way_is known =
    subst (λ (way : Way). IsKnownGiven times problem input (claim shown.rounds) way) (sym way_is) (subst (λ k. IsKnownGiven times problem input (claim k) (Rounds most)) (sym rounds_is) known)

-- given an input problem nothing is told ahead
as_counted : (problem input : Problem) (most : ℕ) (counts : Counted) → MayTell problem (Some input) most counts → IsCounted problem (Some input) most counts
as_counted problem input most counts (inl counted) = counted
as_counted problem input most counts (inr ahead) = absurd ahead

-- what is said of the two problems that are read is said of copies of them
module _ (problem input copy : NamedProblem) (given : Option NamedProblem) (same : copy ≡ problem) (input_is : given ≡ Some input) where
  of_copies : (P : Problem → Option Problem → Type 0) → P (unnamed copy) (option_map unnamed given) → P (unnamed problem) (Some (unnamed input))
  of_copies P it = subst (λ (p : NamedProblem). P (unnamed p) (Some (unnamed input))) same (subst (λ o. P (unnamed copy) (option_map unnamed o)) input_is it)

  pub beside : IsInput (unnamed problem) (unnamed input) → IsBeside (unnamed copy) (option_map unnamed given)
  beside is = subst (λ (p : NamedProblem). IsBeside (unnamed p) (option_map unnamed given)) (sym same) (subst (λ o. IsBeside (unnamed problem) (option_map unnamed o)) (sym input_is) is)

  pub told_once : (counts : Counted) → MayTell (unnamed copy) (option_map unnamed given) 0 counts → IsCounted (unnamed problem) (Some (unnamed input)) 0 counts
  told_once counts told = as_counted (unnamed problem) (unnamed input) 0 counts (of_copies (λ p o. MayTell p o 0 counts) told)

  pub counted_within : (most : ℕ) (found : Option Counted) → IfSome found (IsCounted (unnamed copy) (option_map unnamed given) most) → IfSome found (IsCounted (unnamed problem) (Some (unnamed input)) most)
  counted_within most found counts = of_copies (λ p o. IfSome found (IsCounted p o most)) counts

-- what 0 rounds are told to be
pub at_once : (problem : Problem) (input : Option Problem) (rounds : ℕ) → IsCounted problem input 0 (counted.Exactly rounds) → IsCounted problem input 8 (counted.Exactly rounds)
at_once problem input rounds (low, there, few, passed) = (omega (arith, low), there, few, passed)

pub untold_at_once : (problem input : Problem) (rounds : ℕ) → IsCounted problem (Some input) 0 (counted.Tried rounds) → walk_after problem input 0 ≡ cut
untold_at_once problem input rounds (low, untold, few, passed) = let none : rounds ≡ 0 = omega (arith, low) in subst (λ k. walk_after problem input k ≡ cut) none untold

-- what `given` answers to the problem where it isn't told
pub untold_says : (problem input : NamedProblem) (chain : Bound) (outcome : Outcome) → input_fault problem input ≡ None → chain ≡ problem_chain problem
    → walk_after (unnamed problem) (unnamed input) 0 ≡ cut → outcome ≡ given_outcome Given input chain → IsUntold problem input outcome
untold_says problem input chain outcome none start untold e = record {
  line = e ∙ ap (given_outcome Given input) start ∙ ap (λ f. or_input_fault input f (lower_with input (problem_chain problem) (walk_after (unnamed problem) (unnamed input) 0))) none
      ∙ ap (lower_with input (problem_chain problem)) untold;
  untold = untold;
}

-- ---- fixed points
-- what `given` accepts as one
fixed_means : (problem input : NamedProblem) (bound : Bound) → bound.kind ≡ kind.Fixed → bound.first ≡ problem → MeansGiven bound.kind (length bound.steps) (unnamed bound.first) (unnamed input)
    → HoldsGiven Never (unnamed problem) input
fixed_means problem input bound fixed first means =
    subst (λ (p : NamedProblem). MeansGiven kind.Fixed (length bound.steps) (unnamed p) (unnamed input)) first
    (subst (λ (k : Kind). MeansGiven k (length bound.steps) (unnamed bound.first) (unnamed input)) fixed means)

pub closure_known : (times : ℕ) (problem input : NamedProblem) (chain bound : Bound) → IsNamedProblem input → chain ≡ problem_chain problem → IsClosed chain bound → HasText bound → IsTaken input bound
    → HasGivenText bound input → IsKnownGiven times problem input Never (Closure 0)
closure_known times problem input chain bound named start closed text taken both =
    let on : IsClosed (problem_chain problem) bound = subst (λ c. IsClosed c bound) start closed in
    let goes = taken_law input bound 0 0 named on.goes_on.fits on.goes_on.problems taken in
    record {
      shown = record { tried = refl; shows = (refl, record { bound = bound; closed = on; text = text; taken = taken; both = both }) };
      holds = fixed_means problem input bound on.goes_on.of_kind on.goes_on.first goes.means;
    }

pub cycle_known : (times nodes : ℕ) (problem input : NamedProblem) (chain bound : Bound) → nodes ≡ 300 * times → chain ≡ problem_chain problem
    → GoesOnGiven input kind.Fixed 8 MAX_LABELS chain bound → HasGivenText bound input → IsKnownGiven times problem input Never (Cycle 8 1 nodes)
cycle_known times nodes problem input chain bound many start goes both =
    let on : GoesOnGiven input kind.Fixed 8 MAX_LABELS (problem_chain problem) bound = subst (λ (c : Bound). GoesOnGiven input kind.Fixed 8 MAX_LABELS c bound) start goes in
    record { shown = record { tried = (refl, refl, many); shows = (refl, (bound, on, both)) }; holds = on.means }

-- ---- bounds that go on from the problem
pub longest_known : (times : ℕ) (problem input : NamedProblem) (chain bound : Bound) (steps labels rounds : ℕ) → IsTriedGiven times problem (Longest steps labels) → chain ≡ problem_chain problem
    → GoesOnGiven input kind.Lower steps labels chain bound → HasGivenText bound input → rounds ≡ length bound.steps → IsKnownGiven times problem input (MoreThan rounds) (Longest steps labels)
longest_known times problem input chain bound steps labels rounds tried start goes both count =
    let on : GoesOnGiven input kind.Lower steps labels (problem_chain problem) bound = subst (λ (c : Bound). GoesOnGiven input kind.Lower steps labels c bound) start goes in
    subst (λ k. IsKnownGiven times problem input (MoreThan k) (Longest steps labels)) (sym count)
    (record { shown = record { tried = tried; shows = (bound, refl, on, both) }; holds = on.means })

pub shortest_known : (times : ℕ) (problem input : NamedProblem) (chain bound : Bound) (steps labels rounds : ℕ) → IsTried times problem (Shortest steps labels)
    → chain ≡ chain_with kind.Upper problem [] → GoesOnGiven input kind.Upper steps labels chain bound → HasGivenText bound input → rounds ≡ length bound.steps
    → IsKnownGiven times problem input (AtMost rounds) (Shortest steps labels)
shortest_known times problem input chain bound steps labels rounds tried start goes both count =
    let on : GoesOnGiven input kind.Upper steps labels (chain_with kind.Upper problem []) bound = subst (λ (c : Bound). GoesOnGiven input kind.Upper steps labels c bound) start goes in
    subst (λ k. IsKnownGiven times problem input (AtMost k) (Shortest steps labels)) (sym count)
    (record { shown = record { tried = tried; shows = (bound, refl, on, both) }; holds = on.means })
