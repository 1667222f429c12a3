-- An algorithm that solves the input problem, and behind it one that solves a problem given it.
use Rattle.std.proofs.Common.{◌≡◌, ℕ, suc, ◌+◌, ◌≤◌, ◌<◌, List, map, refl, subst, ap, arith, zero-add}
use Rattle.re_given.proofs.LabelledViews.{HasOutputs, active_behind, behind_labels, passive_behind, ports-places}
use Rattle.re_given.proofs.Relabelled.{backs-cut}
use Rattle.re_given.specs.Given.{SolvableGiven, SolvesGivenBy, answer_known}
use Rattle.re_given.specs.InputViews.{InputView}
use Rattle.re_given.specs.Inputs.{IsInput}
use Rattle.re_labels.specs.Lists.{count_from}
use Rattle.re_laws.proofs.Ports.{over_view}
use Rattle.re_laws.proofs.Tables.{Solvable-by}
use Rattle.re_laws.specs.Algorithms.{Plain, Solvable, SolvesBy, answer, at_port, back_at}
use Rattle.re_problem.specs.Problems.{Problem}
use Rattle.re_labels.specs.Constraints.{Has}
use Rattle.re_laws.proofs.ViewLaws.{IsTree-cut, child_of, cut-cut, shift-cut}
use Rattle.re_laws.specs.Trees.{IsView, cut, shift}

-- the outputs of an algorithm on port numbers
pub plain_outputs : (input : Problem) (S : ℕ) (B : Plain → List ℕ) → SolvesBy input S B
    → HasOutputs input S (λ v. B (cut S v)) (IsView input.active.degree input.passive.degree) (IsView input.passive.degree input.active.degree)
plain_outputs input S B solves = record {
  active_view = λ r v view. view;
  passive_view = λ r v view. view;
  active_near = λ r v k view l. over_view input.active.degree input.passive.degree r (suc k) v view (omega arith) (omega arith);
  passive_near = λ r v k view l. over_view input.passive.degree input.active.degree r (suc k) v view (omega arith) (omega arith);
  enough = λ u v l. ap B (cut-cut S u v l);
  active = λ r v view l. solves.active (cut S v) (IsTree-cut input.active.degree input.passive.degree r S input.active.degree v view l);
  passive = λ r v view l.
      subst (Has input.passive) (ports-places (λ port. at_port (B (shift S (cut (suc S) v) port)) (back_at (cut (suc S) v) port)) (λ k. at_port (B (cut S (shift r v (suc k)))) (back_at v (suc k))) 0 input.passive.degree (λ k m. rw zero-add (each r v view l k m)))
      (solves.passive (cut (suc S) v) (IsTree-cut input.passive.degree input.active.degree (suc r) (suc S) input.passive.degree v view (omega arith)));
}
  where
    each : (r : ℕ) (v : Plain) → IsView input.passive.degree input.active.degree (suc r) v → S ≤ r → (k : ℕ) → k < input.passive.degree
        → at_port (B (shift S (cut (suc S) v) (suc k))) (back_at (cut (suc S) v) (suc k)) ≡ at_port (B (cut S (shift r v (suc k)))) (back_at v (suc k))
    each r v view l k m =
        let (c, at, child) = child_of input.passive.degree input.active.degree r input.passive.degree v view k m in
        rw (backs-cut S v, shift-cut r S v (suc k) c l at) refl

-- ---- one behind the other
module _ (problem input : Problem) (is : IsInput problem input) (S T : ℕ) (B : Plain → List ℕ) (A : InputView → List ℕ) (solves_input : SolvesBy input S B) (solves : SolvesGivenBy problem input T A) where
  pub outputs : HasOutputs input S (λ v. B (cut S v)) (IsView input.active.degree input.passive.degree) (IsView input.passive.degree input.active.degree)
  outputs = plain_outputs input S B solves_input

  -- what the second algorithm gives where the first one's labels are its input
  abbrev composed : Plain → List ℕ
  composed v = behind_labels input is.is_problem S (λ v. B (cut S v)) (IsView input.active.degree input.passive.degree) (IsView input.passive.degree input.active.degree) outputs problem is T A solves (suc (S + T)) v

  pub SolvesBy-composed : SolvesBy problem (suc (S + T)) composed
  SolvesBy-composed = record {
    active = λ v view.
        active_behind input is.is_problem S (λ v. B (cut S v)) (IsView input.active.degree input.passive.degree) (IsView input.passive.degree input.active.degree) outputs problem is T A solves (suc (S + T)) v (rw (is.active_degree, is.passive_degree) view) (omega arith);
    passive = λ v view.
        passive_behind input is.is_problem S (λ v. B (cut S v)) (IsView input.active.degree input.passive.degree) (IsView input.passive.degree input.active.degree) outputs problem is T A solves (suc (S + T)) v (rw (is.active_degree, is.passive_degree) view) (omega arith);
  }

pub Solvable-composed : (problem input : Problem) (S T : ℕ) → IsInput problem input → Solvable input S → SolvableGiven problem input T → Solvable problem (suc (S + T))
Solvable-composed problem input S T is (table, solves) (given, solves_given) =
    Solvable-by problem (suc (S + T)) (composed problem input is S T (answer table) (answer_known given) solves.solves solves_given.solves)
    (SolvesBy-composed problem input is S T (answer table) (answer_known given) solves.solves solves_given.solves)
