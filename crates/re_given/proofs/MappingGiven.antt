-- What solves a problem solves its relaxations, given the same input problem.
use Rattle.std.proofs.Common.{◌≡◌, ℕ, suc, pred, ◌≤◌, ◌<◌, Some, List, map, length, sym, ◌∙◌, arith, one-add}
use Rattle.std.specs.Prelude.{Contains}
use Rattle.std.specs.List.{AllZip}
use Rattle.re_labels.proofs.Rearranging.{AllZip-Rearranged, AllZip-at, Rearranged-sym}
use Rattle.re_labels.proofs.Sorting.{Rearranged-sorted, length-sorted}
use Rattle.re_labels.specs.Configs.{sorted}
use Rattle.re_given.proofs.FastGiven.{back_range}
use Rattle.re_given.proofs.Fitting.{FitsAround-shift}
use Rattle.re_given.proofs.GivenTables.{SolvableGiven-by}
use Rattle.re_laws.proofs.Mapping.{count_of}
use Rattle.re_given.specs.Given.{SolvableGiven, SolvesGivenBy, answer_known, around_known}
use Rattle.re_given.specs.InputViews.{Fits, InputView, known}
use Rattle.re_given.specs.Inputs.{IsInput}
use Rattle.re_laws.proofs.Mapping.{AllZip-beside, AllZip-carried, AllZip-counts, Rearranged-carried, dealt}
use Rattle.re_laws.specs.Algorithms.{at_port}
use Rattle.re_problem.proofs.StepLaws.{IsMapped-relaxed}
use Rattle.re_problem.specs.Problems.{IsProblem, Problem}
use Rattle.re_problem.specs.Steps.{Becomes, IsMapped, IsRelaxed}
use Rattle.re_labels.proofs.Goodness.{Has-Rearranged}
use Rattle.re_labels.specs.Constraints.{Has}
use Rattle.re_laws.proofs.ViewLaws.{IsChild, IsView-shift, child_of}
use Rattle.re_laws.specs.Trees.{Child, IsView, backs, child_at, shift}

-- an input problem of a problem is one of each with its degrees
pub IsInput-same : (problem next input : Problem) → IsInput problem input → next.active.degree ≡ problem.active.degree → next.passive.degree ≡ problem.passive.degree → IsInput next input
IsInput-same problem next input is a p = record {
  is_problem = is.is_problem;
  active_degree = is.active_degree ∙ sym a;
  passive_degree = is.passive_degree ∙ sym p;
  some = is.some;
  occurs = is.occurs;
}

module _ (problem next input : Problem) (image : List ℕ → List ℕ) (T : ℕ) (f : InputView → List ℕ) (is : IsProblem problem) (is_next : IsProblem next) (mapped : IsMapped problem next image) (solves : SolvesGivenBy problem input T f) where
  -- at a node, each label becomes the one that is dealt there
  becomes_here : (v : InputView) → IsView problem.active.degree problem.passive.degree (suc T) v → Fits input.active input.passive v → AllZip (Becomes problem.active image) (f (known T v)) (dealt image (f (known T v)))
  becomes_here v view fits =
      let labels : List ℕ = f (known T v) in
      let config : List ℕ = sorted labels in
      let held : Contains problem.active.configs config = solves.active v view fits in
      let count : length config ≡ length (image config) =
      length-sorted labels ∙ count_of problem.labels problem.active labels is.active held ∙ sym mapped.active_degree ∙ sym (count_of next.labels next.active (image config) is_next.active (mapped.active config held)) in
      AllZip-carried (Becomes problem.active image) (Rearranged-sym (Rearranged-sorted labels)) (image config)
      (AllZip-beside (Becomes problem.active image) config (image config) count (λ x y beside. (config, held, beside)))

  becomes_around : (v : InputView) → IsView problem.passive.degree problem.active.degree (suc (suc T)) v → Fits input.passive input.active v
      → AllZip (Becomes problem.active image) (around_known problem.passive.degree T f v) (around_known problem.passive.degree T (λ k. dealt image (f k)) v)
  becomes_around v view fits =
      AllZip-counts (Becomes problem.active image) (λ port. at_port (f (known T (shift (suc T) v port))) (at_port (backs v) port)) (λ port. at_port (dealt image (f (known T (shift (suc T) v port)))) (at_port (backs v) port)) 1 problem.passive.degree
      (λ k l. rw one-add (each k l (child_of problem.passive.degree problem.active.degree (suc T) problem.passive.degree v view k l) (back_range problem.passive.degree problem.active.degree (suc T) v view k l)))
    where
      each : (k : ℕ) → k < problem.passive.degree → (c : Child ℕ) × (child_at k v ≡ Some c) × IsChild problem.active.degree problem.passive.degree (suc T) c → (1 ≤ at_port (backs v) (suc k)) × (at_port (backs v) (suc k) ≤ problem.active.degree)
          → Becomes problem.active image (at_port (f (known T (shift (suc T) v (suc k)))) (at_port (backs v) (suc k))) (at_port (dealt image (f (known T (shift (suc T) v (suc k))))) (at_port (backs v) (suc k)))
      each k l (c, at, child) (low, high) =
          let u : InputView = shift (suc T) v (suc k) in
          let u_view : IsView problem.active.degree problem.passive.degree (suc T) u = IsView-shift problem.passive.degree problem.active.degree (suc T) v (suc k) c view (omega arith) (omega arith) at child in
          let u_fits : Fits input.active input.passive u = FitsAround-shift input.passive input.active problem.passive.degree problem.active.degree (suc T) v (suc k) c at child fits in
          let count : length (f (known T u)) ≡ problem.active.degree = count_of problem.labels problem.active (f (known T u)) is.active (solves.active u u_view u_fits) in
          AllZip-at (Becomes problem.active image) (f (known T u)) (dealt image (f (known T u))) (pred (at_port (backs v) (suc k))) 0 0 (becomes_here u u_view u_fits) (omega arith)

  dealt_active : (labels : List ℕ) → Has problem.active labels → Has next.active (dealt image labels)
  dealt_active labels has = Has-Rearranged next.active (Rearranged-carried (Rearranged-sym (Rearranged-sorted labels)) (image (sorted labels))) (mapped.active (sorted labels) has)

  dealt_passive : (near others : List ℕ) → Has problem.passive near → AllZip (Becomes problem.active image) near others → Has next.passive others
  dealt_passive near others has each =
      let (labels, moved, each') = AllZip-Rearranged (Becomes problem.active image) (Rearranged-sorted near) others each in
      Has-Rearranged next.passive (Rearranged-sym moved) (mapped.passive (sorted near) labels has each')

  pub SolvesGivenBy-mapped : SolvesGivenBy next input T (λ k. dealt image (f k))
  SolvesGivenBy-mapped = record {
    active = λ v view fits.
        let here : IsView problem.active.degree problem.passive.degree (suc T) v = rw (mapped.active_degree, mapped.passive_degree) at view in
        dealt_active (f (known T v)) (solves.active v here fits);
    passive = λ v view fits.
        let here : IsView problem.passive.degree problem.active.degree (suc (suc T)) v = rw (mapped.active_degree, mapped.passive_degree) at view in
        rw mapped.passive_degree (dealt_passive (around_known problem.passive.degree T f v) (around_known problem.passive.degree T (λ k. dealt image (f k)) v) (solves.passive v here fits) (becomes_around v here fits));
  }

pub SolvableGiven-mapped : (problem next input : Problem) (image : List ℕ → List ℕ) (T : ℕ) → IsProblem problem → IsProblem next → IsInput problem input → IsMapped problem next image → SolvableGiven problem input T → SolvableGiven next input T
SolvableGiven-mapped problem next input image T is is_next is_input mapped (table, solves) =
    SolvableGiven-by next input T (λ k. dealt image (answer_known table k)) (IsInput-same problem next input is_input mapped.active_degree mapped.passive_degree)
    (SolvesGivenBy-mapped problem next input image T (answer_known table) is is_next mapped solves.solves)

pub SolvableGiven-relaxed : (problem next input : Problem) (image : ℕ → ℕ) (T : ℕ) → IsProblem problem → IsProblem next → IsInput problem input → IsRelaxed problem next image → SolvableGiven problem input T → SolvableGiven next input T
SolvableGiven-relaxed problem next input image T is is_next is_input relaxed =
    SolvableGiven-mapped problem next input (map image) T is is_next is_input (IsMapped-relaxed problem next image relaxed)
