-- What is solvable given an input problem takes little more where the input problem is solvable given another one.
use Rattle.std.proofs.Common.{◌≡◌, ℕ, zero, suc, ◌+◌, ◌≤◌, ◌<◌, Some, List, map, length, get_or, refl, sym, ap, ◌∙◌, subst, arith, inl, inr, one-add, zero-add}
use Rattle.std.specs.Prelude.{Contains, ◌⊎◌}
use Rattle.std.proofs.lemmas.List.{length-map}
use Rattle.re_labels.specs.Configs.{sorted}
use Rattle.re_labels.specs.Rows.{IsChoice}
use Rattle.re_given.proofs.AvoidedInputs.{halves}
use Rattle.re_given.proofs.ChainGiven.{SolvableGiven-from_derived, SolvableGiven-rounds, SolvableGiven-up, exchanged_by-twice}
use Rattle.re_given.proofs.FastGiven.{IsInput-derived}
use Rattle.re_given.proofs.Fitting.{FitsAround-shift}
use Rattle.re_given.proofs.GivenTables.{SolvableGiven-by}
use Rattle.re_given.proofs.MappingGiven.{IsInput-same}
use Rattle.re_given.proofs.SlowGiven.{at_port-around, choice_from, choice_is, chosen_within, good_choice}
use Rattle.re_laws.proofs.Mapping.{count_of}
use Rattle.re_given.specs.Given.{SolvableGiven, SolvesGivenBy, ZeroGiven, answer_known, around_known}
use Rattle.re_given.specs.InputViews.{Fits, InputView, known}
use Rattle.re_given.specs.Inputs.{IsInput, exchanged, exchanged_by}
use Rattle.re_labels.specs.Sets.{IsIn}
use Rattle.re_laws.proofs.Ports.{AllZip-count, length-ports}
use Rattle.re_laws.specs.Algorithms.{at_port}
use Rattle.re_problem.proofs.DerivedProblem.{IsProblem-derived}
use Rattle.re_problem.specs.Derived.{derived, derived_by}
use Rattle.re_problem.specs.Problems.{IsProblem, Problem}
use Rattle.re_problem.specs.Steps.{IsUpper}
use Rattle.re_labels.specs.Constraints.{Has}
use Rattle.re_laws.proofs.JoinedBranches.{backs-child}
use Rattle.re_laws.proofs.ViewLaws.{IsChild, IsView-shift, child_of}
use Rattle.re_laws.specs.Trees.{Child, IsView, backs, child_at, shift}

-- ---- without communication
module _ (problem input given : Problem) (S : ℕ) (A : InputView → List ℕ) (is : IsProblem input) (sets : ℕ → List ℕ) (upper : IsUpper problem (exchanged input) sets) (solves : SolvesGivenBy input given S A) where
  -- the first choice from the sets of the node's labels in the solution of the input problem that is active
  abbrev chosen_from : InputView → List ℕ
  chosen_from k = choice_from problem.active sets (A k)

  solved_active : (v : InputView) → IsView problem.active.degree problem.passive.degree (suc S) v → Fits given.active given.passive v → Has input.active (A (known S v))
  solved_active v view fits = solves.active v (rw (upper.passive_degree, upper.active_degree) view) fits

  solved_passive : (s : InputView) → IsView problem.passive.degree problem.active.degree (suc (suc S)) s → Fits given.passive given.active s → Has input.passive (around_known problem.passive.degree S A s)
  solved_passive s view fits = subst (λ d. Has input.passive (around_known d S A s)) upper.active_degree (solves.passive s (rw (upper.passive_degree, upper.active_degree) view) fits)

  chosen_is : (v : InputView) → IsView problem.active.degree problem.passive.degree (suc S) v → Fits given.active given.passive v → IsChoice (chosen_from (known S v)) (map sets (A (known S v))) × Has problem.active (chosen_from (known S v))
  chosen_is v view fits = choice_is problem.active sets (A (known S v)) (upper.choice (sorted (A (known S v))) (solved_active v view fits))

  label_within : (s : InputView) → IsView problem.passive.degree problem.active.degree (suc (suc S)) s → Fits given.passive given.active s → (k : ℕ) (d : List ℕ) → k < problem.passive.degree
      → Contains (get_or (map sets (around_known problem.passive.degree S A s)) k d) (at_port (chosen_from (known S (shift (suc S) s (suc k)))) (at_port (backs s) (suc k)))
  label_within s view fits k d l = go (child_of problem.passive.degree problem.active.degree (suc S) problem.passive.degree s view k l)
    where
      go : (c : Child ℕ) × (child_at k s ≡ Some c) × IsChild problem.active.degree problem.passive.degree (suc S) c
          → Contains (get_or (map sets (around_known problem.passive.degree S A s)) k d) (at_port (chosen_from (known S (shift (suc S) s (suc k)))) (at_port (backs s) (suc k)))
      go (c, at, child) =
          let u : InputView = shift (suc S) s (suc k) in
          let row : List ℕ = around_known problem.passive.degree S A s in
          let low : 1 ≤ c.back = child.least in
          let high : c.back ≤ problem.active.degree = child.most in
          let u_view : IsView problem.active.degree problem.passive.degree (suc S) u = IsView-shift problem.passive.degree problem.active.degree (suc S) s (suc k) c view (omega arith) (omega arith) at child in
          let u_fits : Fits given.active given.passive u = FitsAround-shift given.passive given.active problem.passive.degree problem.active.degree (suc S) s (suc k) c at child fits in
          let count : length (A (known S u)) ≡ problem.active.degree = count_of input.labels input.active (A (known S u)) is.active (solved_active u u_view u_fits) ∙ upper.passive_degree in
          let row_count : length row ≡ problem.passive.degree = length-ports (λ port. at_port (A (known S (shift (suc S) s port))) (at_port (backs s) port)) 1 problem.passive.degree in
          let back_is : at_port (backs s) (suc k) ≡ c.back = backs-child k c s at in
          let label_is : at_port (A (known S u)) c.back ≡ get_or row k 0 = sym (at_port-around problem.passive.degree S A s (suc k) (omega arith) (omega arith) ∙ ap (at_port (A (known S u))) back_is) in
          rw back_is (chosen_within sets (chosen_from (known S u)) (A (known S u)) row c.back k d (chosen_is u u_view u_fits).0 low (omega arith) (omega arith) label_is)

  pub SolvesGivenBy-through : SolvesGivenBy problem given S chosen_from
  SolvesGivenBy-through = record { active = λ v view fits. (chosen_is v view fits).1; passive = passive }
    where
      passive : (s : InputView) → IsView problem.passive.degree problem.active.degree (suc (suc S)) s → Fits given.passive given.active s → Has problem.passive (around_known problem.passive.degree S chosen_from s)
      passive s view fits =
          let row : List ℕ = around_known problem.passive.degree S A s in
          let count : length row ≡ problem.passive.degree = length-ports (λ port. at_port (A (known S (shift (suc S) s port))) (at_port (backs s) port)) 1 problem.passive.degree in
          good_choice problem.passive sets row (around_known problem.passive.degree S chosen_from s) (upper.good (sorted row) (solved_passive s view fits))
          (AllZip-count IsIn (λ port. at_port (chosen_from (known S (shift (suc S) s port))) (at_port (backs s) port)) 1 problem.passive.degree (map sets row) (length-map row sets ∙ count) (λ k d l. rw one-add (label_within s view fits k d l)))

-- what is zero given an input problem takes as many rounds as this
SolvableGiven-through : (problem input given : Problem) (S : ℕ) → IsProblem input → IsInput problem given → ZeroGiven problem input → SolvableGiven input given S → SolvableGiven problem given S
SolvableGiven-through problem input given S is is_given (sets, upper) (table, solves) =
    SolvableGiven-by problem given S (chosen_from problem input given S (answer_known table) is sets upper solves.solves) is_given (SolvesGivenBy-through problem input given S (answer_known table) is sets upper solves.solves)

-- ---- rounds
pub IsInput-derived_by : (k : ℕ) (problem input : Problem) → IsInput problem input → IsInput (derived_by k problem) (exchanged_by k input)
IsInput-derived_by zero problem input is = is
IsInput-derived_by (suc k) problem input is = IsInput-derived (derived_by k problem) (exchanged_by k input) (IsInput-derived_by k problem input is)

-- k rounds more than the problem that is derived k times
SolvableGiven-from_derived_by : (k : ℕ) (problem input : Problem) (S : ℕ) → IsInput problem input → SolvableGiven (derived_by k problem) (exchanged_by k input) S → SolvableGiven problem input (k + S)
SolvableGiven-from_derived_by zero problem input S is h = rw zero-add h
SolvableGiven-from_derived_by (suc k) problem input S is h =
    let more : k + suc S ≡ suc k + S = omega arith in
    subst (SolvableGiven problem input) more (SolvableGiven-from_derived_by k problem input (suc S) is (SolvableGiven-from_derived (derived_by k problem) (exchanged_by k input) S (IsInput-derived_by k problem input is) h))

pub SolvableGiven-relative : (problem input given : Problem) (S T : ℕ) → IsProblem problem → IsInput problem input → IsInput input given → SolvableGiven input given S → SolvableGiven problem input T → SolvableGiven problem given (S + T + 1)
SolvableGiven-relative problem input given S T is is_input is_given solution h = go (halves T)
  where
    of_problem : IsInput problem given
    of_problem = IsInput-same input problem given is_given (sym is_input.active_degree) (sym is_input.passive_degree)

    from : (half : ℕ) → T ≤ half + half → half + half ≤ T + 1 → SolvableGiven problem given (S + T + 1)
    from half low high =
        let more : SolvableGiven problem input (half + half) = SolvableGiven-up problem input T (half + half) is_input low h in
        let zero_there : ZeroGiven (derived_by (half + half) problem) (exchanged_by (half + half) input) = (SolvableGiven-rounds problem input (half + half) is is_input).0 more in
        let zero_here : ZeroGiven (derived_by (half + half) problem) input = subst (ZeroGiven (derived_by (half + half) problem)) (exchanged_by-twice half input) zero_there in
        let inputs : IsInput (derived_by (half + half) problem) given = subst (IsInput (derived_by (half + half) problem)) (exchanged_by-twice half given) (IsInput-derived_by (half + half) problem given of_problem) in
        let there : SolvableGiven (derived_by (half + half) problem) given S = SolvableGiven-through (derived_by (half + half) problem) input given S is_input.is_problem inputs zero_here solution in
        let back : SolvableGiven problem given (half + half + S) =
        SolvableGiven-from_derived_by (half + half) problem given S of_problem (subst (λ i. SolvableGiven (derived_by (half + half) problem) i S) (sym (exchanged_by-twice half given)) there) in
        SolvableGiven-up problem given (half + half + S) (S + T + 1) of_problem (omega (arith, high)) back

    go : ((half : ℕ) × (T ≡ half + half)) ⊎ ((half : ℕ) × (suc T ≡ half + half)) → SolvableGiven problem given (S + T + 1)
    go (inl (half, e)) = from half (omega (arith, e)) (omega (arith, e))
    go (inr (half, e)) = from half (omega (arith, e)) (omega (arith, e))
