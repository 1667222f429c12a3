-- What is shown behind derived problems, and what it means.
use Rattle.std.proofs.Common.{◌≡◌, ℕ, zero, suc, ◌+◌, ◌≤◌, Bool, List, length, refl, sym, ◌∙◌, ap, subst, arith}
use Rattle.std.specs.Prelude.{IsTrue}
use Rattle.re_classes.specs.Classes.{IsBelowLogStar}
use Rattle.re_classes.specs.Laws.{IsSolvableColoured}
use Rattle.re_forest_words.specs.Showings.{IsNextShowing, IsNone, IsNowhereGreedy, IsPassiveShowing, IsShowing, IsShown, ShownLaw, from_side}
use Rattle.re_forest_words.specs.declared.showing.Showing.{Showing}
use Rattle.re_forest_words.specs.declared.showing.Showing.TheVariants.{NotGreedy, Shown as IsBy, Unknown}
use Rattle.re_forest_words.specs.declared.showing.Shown.{Shown}
use Rattle.re_given.specs.Inputs.{exchanged}
use Rattle.re_greedy.proofs.GreedyChains.{greedy_coloured}
use Rattle.re_greedy.specs.Greedy.{IsGreedy}
use Rattle.re_labels.specs.declared.sides.Side.{Side}
use Rattle.re_labels.specs.declared.sides.Side.TheVariants.{Active, Passive}
use Rattle.re_laws.specs.Chains.{IsUpperChain, done, step}
use Rattle.re_problem.proofs.DerivedProblem.{IsProblem-derived, IsProblem-derived_by, IsUpper-derived}
use Rattle.re_problem.specs.Derived.{derived, derived_by}
use Rattle.re_problem.specs.NamedProblems.{NamedProblem, unnamed}
use Rattle.re_problem.specs.Problems.{IsProblem, Problem}
use Rattle.re_step.proofs.NameLemmas.{length-label_names}
use Rattle.re_step.specs.Derivations.{named_derived}
use Rattle.re_step.specs.LabelNames.{label_names}

-- the first step may be taken first
pub derived_first : (k : ℕ) (problem : Problem) → derived_by k (derived problem) ≡ derived_by (suc k) problem
derived_first zero problem = refl
derived_first (suc k) problem = ap derived (derived_first k problem)

chain_to : (k : ℕ) (problem : Problem) → IsProblem problem → IsUpperChain problem k (derived_by k problem)
chain_to zero problem is = done
chain_to (suc k) problem is =
    let next : IsProblem (derived problem) = IsProblem-derived problem is in
    step next (IsUpper-derived problem) (subst (IsUpperChain (derived problem) k) (derived_first k problem) (chain_to k (derived problem) next))

coloured : (problem : Problem) (k : ℕ) (side : Side) (partial : List (List ℕ)) → IsProblem problem → IsGreedy (from_side side (derived_by k problem)) partial → IsSolvableColoured problem × IsBelowLogStar problem
coloured problem k Active partial is greedy = (greedy_coloured problem (derived_by k problem) k partial is (IsProblem-derived_by k problem is) (chain_to k problem is)).0 greedy
coloured problem k Passive partial is greedy = (greedy_coloured problem (derived_by k problem) k partial is (IsProblem-derived_by k problem is) (chain_to k problem is)).1 greedy

pub shown : ShownLaw
shown problem most by is is_shown =
    coloured problem by.steps by.side by.partial.items is (subst (λ p. IsGreedy p by.partial.items) is_shown.there is_shown.greedy)

-- ---- one derived problem more
pub nowhere_next : (problem : Problem) (more : ℕ) → IsNowhereGreedy problem 0 → IsNowhereGreedy (derived problem) more → IsNowhereGreedy problem (suc more)
nowhere_next problem more here next zero side partial l greedy = here zero side partial (omega arith) greedy
nowhere_next problem more here next (suc k) side partial l greedy =
    next k side partial (omega (arith, l)) (subst (λ p. IsGreedy (from_side side p) partial) (sym (derived_first k problem)) greedy)

pub nowhere_here : (problem : Problem) → ((partial : List (List ℕ)) → IsGreedy problem partial → ⊥) → ((partial : List (List ℕ)) → IsGreedy (exchanged problem) partial → ⊥) → IsNowhereGreedy problem 0
nowhere_here problem active passive zero Active partial l greedy = active partial greedy
nowhere_here problem active passive zero Passive partial l greedy = passive partial greedy
nowhere_here problem active passive (suc k) side partial l greedy = absurd (omega arith)

-- ---- what the code joins
pub shown_more : (problem : Problem) (more : ℕ) (by : Shown) → IsShown (derived problem) more by → IsShown problem (suc more) (record { steps = by.steps + 1; side = by.side; problem = by.problem; partial = by.partial })
shown_more problem more by is =
    let few : by.steps ≤ more = is.few in
    let one : suc by.steps ≡ by.steps + 1 = omega arith in
    record {
      few = omega arith;
      there = is.there ∙ ap (from_side by.side) (derived_first by.steps problem ∙ ap (λ k. derived_by k problem) one);
      greedy = is.greedy;
    }

pub none_passive : (problem : Problem) (known : Bool) (answer : Showing) → IsNone known answer → ((partial : List (List ℕ)) → IsGreedy (exchanged problem) partial → ⊥) → IsPassiveShowing problem known answer
none_passive problem known (IsBy by) is none = absurd is
none_passive problem known NotGreedy is none = (is, none)
none_passive problem known Unknown is none = tt

pub passive_showing : (problem : Problem) (known : Bool) (answer : Showing) → ((partial : List (List ℕ)) → IsGreedy problem partial → ⊥) → IsPassiveShowing problem known answer → IsShowing problem 0 answer
passive_showing problem known (IsBy by) none is = is
passive_showing problem known NotGreedy none is = nowhere_here problem none is.1
passive_showing problem known Unknown none is = tt

pub next_showing : (problem : Problem) (more most : ℕ) (known : Bool) (answer : Showing) → suc more ≡ most → (IsTrue known → IsNowhereGreedy problem 0) → IsNextShowing problem more known answer → IsShowing problem most answer
next_showing problem more most known answer e here is = subst (λ m. IsShowing problem m answer) e (at answer is)
  where
    at : (answer : Showing) → IsNextShowing problem more known answer → IsShowing problem (suc more) answer
    at (IsBy by) is = is
    at NotGreedy is = nowhere_next problem more (here is.0) is.1
    at Unknown is = tt

pub derived_showing : (problem : Problem) (more : ℕ) (next : NamedProblem) (answer : Showing) → next ≡ named_derived problem → IsShowing (unnamed next) more answer → IsShowing (derived problem) more answer
derived_showing problem more next answer e is =
    let count : length (label_names (derived problem).labels) ≡ (derived problem).labels = length-label_names (derived problem).labels in
    let same : unnamed (named_derived problem) ≡ derived problem = λ i. record { labels = count i; active = (derived problem).active; passive = (derived problem).passive } in
    subst (λ p. IsShowing p more answer) same (subst (λ p. IsShowing (unnamed p) more answer) e is)
