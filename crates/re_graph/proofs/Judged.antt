-- Labels that are a solution, and labels that are none.
use Rattle.std.proofs.Common.{◌≡◌, ℕ, Bool, true, false, not, List, [], length, map, get_or, refl, sym, ap, ◌∙◌, subst, Option, None, Some, position, nat_lt, true≢false}
use Rattle.std.proofs.lemmas.Bool.{false≢true}
use Rattle.std.specs.List.{AllByRecursion, list_all}
use Rattle.re_cover.proofs.Outputs.{all-at, all-places}
use Rattle.re_cover.specs.Graphs.{IsSolution, PortGraph, label_at}
use Rattle.re_cover.specs.declared.ends.GraphEnd.{GraphEnd}
use Rattle.re_problem.proofs.FedLines.{unnot}
use Rattle.re_choice.proofs.LabelTests.{all-below}
use Rattle.re_graph.specs.Judging.{IsJudged, fault_in, first_active, first_passive, labels_fault}
use Rattle.re_labels.proofs.Tests.{eqb-same}
use Rattle.std.specs.Prelude.{◌==◌}
use Rattle.re_labels.specs.declared.TheConstants.{MAX_LABELS}
use Rattle.re_problem.proofs.ZeroPlaces.{none-fails}
use Rattle.std.proofs.lemmas.List.Quantifiers.{position-Some}
use Rattle.re_problem.specs.Problems.{Problem}
use Rattle.re_labels.proofs.Goodness.{Has-has_config, has_config-Has}
use Rattle.re_labels.specs.Constraints.{Constraint, Has, IsConstraint, has_config}
use Rattle.re_labels.proofs.ConstraintImages.{held_labels}

-- ---- what is no configuration
no-config : (constraint : Constraint) (labels : List ℕ) → (Has constraint labels → ⊥) → false ≡ has_config constraint labels
no-config constraint labels none = by (has_config constraint labels) refl
  where
    by : (b : Bool) → has_config constraint labels ≡ b → false ≡ b
    by false e = refl
    by true e = absurd (none (has_config-Has constraint labels e))

pub other-count : (n : ℕ) (constraint : Constraint) (labels : List ℕ) → IsConstraint n constraint → false ≡ (length labels == constraint.degree) → false ≡ has_config constraint labels
other-count n constraint labels is other =
    no-config constraint labels (λ has. false≢true (other ∙ ap (λ d. d == constraint.degree) (held_labels n constraint labels is has).0 ∙ eqb-same constraint.degree))

pub too-great : (constraint : Constraint) (labels : List ℕ) → IsConstraint MAX_LABELS constraint → false ≡ list_all (λ label. nat_lt label MAX_LABELS) labels → false ≡ has_config constraint labels
too-great constraint labels is great =
    no-config constraint labels (λ has. absurd (false≢true (great ∙ all-below MAX_LABELS labels (held_labels MAX_LABELS constraint labels is has).1)))

-- ---- what is a solution
module _ (problem : Problem) (graph : PortGraph) (labels : List (List ℕ)) where
  abbrev at-ends : List GraphEnd → List ℕ
  at-ends ends = map (label_at labels) ends

  no-active : (k : ℕ) → first_active problem.active labels ≡ Some k → IsSolution problem graph labels → ⊥
  no-active k e solution =
      let here = position-Some (λ own. not (has_config problem.active own)) labels k [] e in
      true≢false (sym here.1 ∙ ap not (Has-has_config problem.active (get_or labels k []) (all-at (Has problem.active) [] labels k solution.active here.0)))

  no-passive : (k : ℕ) → first_passive problem graph labels ≡ Some k → IsSolution problem graph labels → ⊥
  no-passive k e solution =
      let here = position-Some (λ ends. not (has_config problem.passive (at-ends ends))) graph.passive k [] e in
      true≢false (sym here.1 ∙ ap not (Has-has_config problem.passive (at-ends (get_or graph.passive k [])) (all-at (λ ends. Has problem.passive (at-ends ends)) [] graph.passive k solution.passive here.0)))

  all-active : first_active problem.active labels ≡ None → AllByRecursion (Has problem.active) labels
  all-active e =
      all-places (Has problem.active) [] labels (λ k less. has_config-Has problem.active (get_or labels k [])
      (unnot (has_config problem.active (get_or labels k [])) (none-fails (λ own. not (has_config problem.active own)) labels e k [] less)))

  all-passive : first_passive problem graph labels ≡ None → AllByRecursion (λ ends. Has problem.passive (map (label_at labels) ends)) graph.passive
  all-passive e =
      all-places (λ ends. Has problem.passive (at-ends ends)) [] graph.passive (λ k less. has_config-Has problem.passive (at-ends (get_or graph.passive k []))
      (unnot (has_config problem.passive (at-ends (get_or graph.passive k []))) (none-fails (λ ends. not (has_config problem.passive (at-ends ends))) graph.passive e k [] less)))

  pub judged : length labels ≡ graph.nodes → IsJudged problem graph labels (labels_fault problem graph labels)
  judged count = by (first_active problem.active labels) refl (first_passive problem graph labels) refl
    where
      by : (a : Option ℕ) → first_active problem.active labels ≡ a → (p : Option ℕ) → first_passive problem graph labels ≡ p → IsJudged problem graph labels (fault_in a p)
      by (Some k) e p f = no-active k e
      by None e (Some k) f = no-passive k f
      by None e None f = record { count = count; active = all-active e; passive = all-passive f }
