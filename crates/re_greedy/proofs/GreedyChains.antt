-- Problems from which upper steps lead to one that is greedy.
use Rattle.std.proofs.Common.{◌≡◌, ℕ, zero, suc, ◌+◌, ◌-◌, ◌*◌, List, ◌⊎◌, refl, sym, ◌∙◌, ap, subst, arith, inl, inr}
use Rattle.re_classes.proofs.Decided.{below_log_star}
use Rattle.re_classes.specs.Classes.{IsBelowLogStar}
use Rattle.re_classes.specs.Laws.{IsSolvableColoured}
use Rattle.re_local.proofs.FewerColours.{degree_within}
use Rattle.re_given.proofs.ChainGiven.{IsInput-upper_chain, SolvableGiven-upper_chain, exchanged_by-add, exchanged_by-twice}
use Rattle.re_given.proofs.Colourings.{IsInput-colouring}
use Rattle.re_given.proofs.FastGiven.{IsInput-exchanged}
use Rattle.re_given.proofs.Itself.{SolvableGiven-exchanged}
use Rattle.re_given.specs.Given.{SolvableGiven}
use Rattle.re_given.specs.Inputs.{IsInput, exchanged, exchanged_by}
use Rattle.re_given.specs.Unavoidable.{colouring}
use Rattle.re_greedy.proofs.GreedyClasses.{few_colours, few_colours_passive, is_other}
use Rattle.re_greedy.specs.Greedy.{IsGreedy}
use Rattle.re_laws.specs.Chains.{IsUpperChain}
use Rattle.re_problem.specs.Problems.{IsProblem, Problem}

-- ---- sides exchanged so many times
again : (k : ℕ) (problem : Problem) → exchanged_by k (exchanged_by k problem) ≡ problem
again k problem = sym (exchanged_by-add k k problem) ∙ exchanged_by-twice k problem

IsProblem-by : (k : ℕ) (problem : Problem) → IsProblem problem → IsProblem (exchanged_by k problem)
IsProblem-by zero problem is = is
IsProblem-by (suc k) problem is = is_other (exchanged_by k problem) (IsProblem-by k problem is)

IsInput-by : (k : ℕ) (problem input : Problem) → IsInput problem input → IsInput (exchanged_by k problem) (exchanged_by k input)
IsInput-by zero problem input is = is
IsInput-by (suc k) problem input is = IsInput-exchanged (exchanged_by k problem) (exchanged_by (suc k) problem) (exchanged_by k input) (IsInput-by k problem input is) refl refl

SolvableGiven-by : (k : ℕ) (problem input : Problem) (T : ℕ) → IsProblem problem → IsInput problem input → SolvableGiven problem input T
    → SolvableGiven (exchanged_by k problem) (exchanged_by k input) (k + T)
SolvableGiven-by zero problem input T is is_input h = let none : T ≡ 0 + T = omega arith in subst (SolvableGiven problem input) none h
SolvableGiven-by (suc k) problem input T is is_input h =
    let more : suc (k + T) ≡ suc k + T = omega arith in
    subst (SolvableGiven (exchanged_by (suc k) problem) (exchanged_by (suc k) input)) more
    (SolvableGiven-exchanged (exchanged_by k problem) (exchanged_by k input) (k + T) (IsProblem-by k problem is) (IsInput-by k problem input is_input) (SolvableGiven-by k problem input T is is_input h))

-- ---- chains
module _ (first last : Problem) (k : ℕ) (is : IsProblem first) (is_last : IsProblem last) (steps : IsUpperChain first k last) where
  abbrev turned : Problem
  turned = exchanged_by k last

  abbrev colours : ℕ
  colours = first.active.degree * (first.passive.degree - 1) + 1

  abbrev input : Problem
  input = colouring first.active.degree first.passive.degree colours

  is_input : IsInput first input
  is_input = IsInput-colouring first colours is (let within = degree_within first.active.degree first.passive.degree is.active.least is.passive.least in omega (arith, within))

  is_input_last : IsInput turned input
  is_input_last = subst (IsInput turned) (again k input) (IsInput-by k last (exchanged_by k input) (IsInput-upper_chain steps is_input))

  -- the degrees are the same
  same_input : colouring turned.active.degree turned.passive.degree (turned.active.degree * (turned.passive.degree - 1) + 1) ≡ input
  same_input =
      let one : first.active.degree ≡ turned.active.degree = is_input_last.active_degree in
      let two : first.passive.degree ≡ turned.passive.degree = is_input_last.passive_degree in
      subst (λ a. colouring a turned.passive.degree (a * (turned.passive.degree - 1) + 1) ≡ input) one
      (subst (λ p. colouring first.active.degree p (first.active.degree * (p - 1) + 1) ≡ input) two refl)

  pub through : IsSolvableColoured turned → IsSolvableColoured first
  through (T, solvable) =
      let there : SolvableGiven turned input T = subst (λ i. SolvableGiven turned i T) same_input solvable in
      let back : SolvableGiven (exchanged_by k turned) (exchanged_by k input) (k + T) = SolvableGiven-by k turned input T (IsProblem-by k last is_last) is_input_last there in
      let at_last : SolvableGiven last (exchanged_by k input) (k + T) = subst (λ p. SolvableGiven p (exchanged_by k input) (k + T)) (again k last) back in
      (k + (k + T), SolvableGiven-upper_chain steps is_input (k + T) at_last)

  -- exchanged an even number of times, the last problem is itself, and else it is exchanged once
  sides : (j : ℕ) → (exchanged_by j last ≡ last) ⊎ (exchanged_by j last ≡ exchanged last)
  sides zero = inl refl
  sides (suc j) = elim (sides j) [ inl e ↦ inr (ap exchanged e) | inr e ↦ inl (ap exchanged e) ]

  coloured_last : (partial : List (List ℕ)) → IsGreedy last partial → IsSolvableColoured turned
  coloured_last partial greedy = elim (sides k) [
    | inl e ↦ subst IsSolvableColoured (sym e) (few_colours last partial is_last greedy)
    | inr e ↦ subst IsSolvableColoured (sym e) (few_colours_passive (exchanged last) partial (is_other last is_last) greedy)
  ]

  coloured_other : (partial : List (List ℕ)) → IsGreedy (exchanged last) partial → IsSolvableColoured turned
  coloured_other partial greedy = elim (sides k) [
    | inl e ↦ subst IsSolvableColoured (sym e) (few_colours_passive last partial is_last greedy)
    | inr e ↦ subst IsSolvableColoured (sym e) (few_colours (exchanged last) partial (is_other last is_last) greedy)
  ]

pub coloured_chain : (first last : Problem) (k : ℕ) → IsProblem first → IsProblem last → IsUpperChain first k last → IsSolvableColoured (exchanged_by k last) → IsSolvableColoured first
coloured_chain = through

pub greedy_coloured : (first last : Problem) (k : ℕ) (partial : List (List ℕ)) → IsProblem first → IsProblem last → IsUpperChain first k last
    → (IsGreedy last partial → IsSolvableColoured first × IsBelowLogStar first) × (IsGreedy (exchanged last) partial → IsSolvableColoured first × IsBelowLogStar first)
greedy_coloured first last k partial is is_last steps = (
  λ greedy. (let few : IsSolvableColoured first = through first last k is is_last steps (coloured_last first last k is is_last steps partial greedy) in (few, below_log_star first is few)),
  λ greedy. (let few : IsSolvableColoured first = through first last k is is_last steps (coloured_other first last k is is_last steps partial greedy) in (few, below_log_star first is few)),
)

pub greedy_chain : (first last : Problem) (k : ℕ) (partial : List (List ℕ)) → IsProblem first → IsProblem last → IsUpperChain first k last
    → (IsGreedy last partial → IsBelowLogStar first) × (IsGreedy (exchanged last) partial → IsBelowLogStar first)
greedy_chain first last k partial is is_last steps = (
  λ greedy. below_log_star first is (through first last k is is_last steps (coloured_last first last k is is_last steps partial greedy)),
  λ greedy. below_log_star first is (through first last k is is_last steps (coloured_other first last k is is_last steps partial greedy)),
)
