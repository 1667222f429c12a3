-- What the command `run` writes.
use Rattle.std.proofs.Common.{◌≡◌, ℕ, zero, suc, ◌<◌, Bool, true, false, cond, leb, List, [], ◌∷◌, ◌++◌, length, map, Some, None, refl, sym, ap, ◌∙◌, subst}
use Rattle.std.specs.List.{AllByRecursion}
use Rattle.std.specs.Prelude.{IfSome, flat_map}
use Rattle.std.proofs.lemmas.List.{length-map}
use Rattle.re_cert.specs.Bounds.{Bound}
use Rattle.re_cert.specs.Stages.{stages_of}
use Rattle.re_labels.specs.Configs.{IsConfig, inserted, sorted}
use Rattle.re_labels.proofs.Membership.{AllByRecursion-contains}
use Rattle.re_labels.specs.Lists.{count_from}
use Rattle.re_labels.specs.Sides.{degree_of, opposite}
use Rattle.re_labels.specs.declared.sides.Degrees.{Degrees}
use Rattle.re_laws.proofs.ExtractedRounds.{extracted_solves}
use Rattle.re_laws.specs.Algorithms.{Plain, SolvesBy}
use Rattle.re_laws.specs.Extracted.{IsUpperBound}
use Rattle.re_net.proofs.FullViews.{full_view}
use Rattle.re_net.specs.FiniteTrees.{FiniteTree, IsFiniteTree, IsNumbered, most_ports, node_count, side_of, surroundings, unmarked}
use Rattle.re_net.specs.declared.messages.Message.{Message}
use Rattle.re_problem.specs.NamedProblems.{degrees_of, unnamed}
use Rattle.re_problem.specs.Problems.{IsProblem, Problem}
use Rattle.re_net.proofs.RunSteps.{outputs, passive_gets}
use Rattle.re_net.specs.RunTexts.{RunText}
use Rattle.re_net.specs.Runs.{Comes, has_output, messages_of, standing_of, standings_of}
use Rattle.re_net.specs.declared.reading.Delivery.{Delivery}
use Rattle.re_net.specs.declared.runs.Run.{Run}
use Rattle.re_net.specs.declared.runs.Standing.{Standing}
use Rattle.re_labels.specs.Constraints.{Constraint, Has, IsConstraint}
use Rattle.re_laws.specs.Trees.{IsView}
use Rattle.re_words.specs.Running.{AreNamed, PassiveNodesGet, algorithm_of, node_line, nodes_from, nodes_text}

-- ---- the labels that are output are labels of the problem
all_inserted : (P : ℕ → Type 0) (x : ℕ) (ys : List ℕ) → AllByRecursion P (inserted x ys) → P x × AllByRecursion P ys
all_inserted P x [] all = all
all_inserted P x (y ∷ ys) all = by_test (leb x y) all (λ more. all_inserted P x ys more)
  where
    by_test : (t : Bool) → AllByRecursion P (cond t (x ∷ y ∷ ys) (y ∷ inserted x ys)) → (AllByRecursion P (inserted x ys) → P x × AllByRecursion P ys) → P x × AllByRecursion P (y ∷ ys)
    by_test true all later = all
    by_test false all later = (let r = later all.1 in (r.0, (all.0, r.1)))

all_sorted : (P : ℕ → Type 0) (xs : List ℕ) → AllByRecursion P (sorted xs) → AllByRecursion P xs
all_sorted P [] all = tt
all_sorted P (x ∷ xs) all = let r = all_inserted P x (sorted xs) all in (r.0, all_sorted P xs r.1)

labels_below : (n : ℕ) (constraint : Constraint) → IsConstraint n constraint → (labels : List ℕ) → Has constraint labels → AllByRecursion (λ label. label < n) labels
labels_below n constraint is labels has = all_sorted (λ label. label < n) labels (AllByRecursion-contains (IsConfig constraint.degree n) constraint.configs (sorted labels) is.configs has).below

module _ (problem : Problem) (algorithm : Plain → List ℕ) (tree : FiniteTree) (bound : ℕ) (messages : List Message) (is_tree : IsFiniteTree tree) (solves : SolvesBy problem bound algorithm)
    (constraint : IsConstraint problem.labels problem.active) (active : tree.degrees.active ≡ problem.active.degree) (passive : tree.degrees.passive ≡ problem.passive.degree) where
  output_named : (v : ℕ) → IfSome (standing_of tree bound messages algorithm v).labels (AllByRecursion (λ label. label < problem.labels))
  output_named v = by_test (has_output tree bound messages v) refl
    where
      by_test : (t : Bool) → has_output tree bound messages v ≡ t → IfSome (cond t (Some (algorithm (surroundings tree unmarked v bound))) None) (AllByRecursion (λ label. label < problem.labels))
      by_test false is = tt
      by_test true is =
          let o = outputs tree bound messages v is in
          let view = full_view tree unmarked is_tree v bound o.2 in
          let own : degree_of tree.degrees (side_of tree v) ≡ problem.active.degree = ap (degree_of tree.degrees) o.0 ∙ active in
          let other : degree_of tree.degrees (opposite (side_of tree v)) ≡ problem.passive.degree = ap (λ s. degree_of tree.degrees (opposite s)) o.0 ∙ passive in
          let seen : IsView problem.active.degree problem.passive.degree bound (surroundings tree unmarked v bound) = subst (λ d. IsView d problem.passive.degree bound (surroundings tree unmarked v bound)) own (subst (λ e. IsView (most_ports tree v) e bound (surroundings tree unmarked v bound)) other view) in
          labels_below problem.labels problem.active constraint (algorithm (surroundings tree unmarked v bound)) (solves.active (surroundings tree unmarked v bound) seen)

  all_named : (i n : ℕ) → AllByRecursion (λ (standing : Standing). IfSome standing.labels (AllByRecursion (λ label. label < problem.labels))) (map (standing_of tree bound messages algorithm) (count_from i n))
  all_named i zero = tt
  all_named i (suc n) = (output_named i, all_named (suc i) n)

  pub standings_named : (names : List (List ℕ)) → length names ≡ problem.labels → AreNamed names (standings_of tree bound messages algorithm)
  standings_named names count = subst (λ n. AllByRecursion (λ (standing : Standing). IfSome standing.labels (AllByRecursion (λ label. label < n))) (standings_of tree bound messages algorithm)) (sym count) (all_named 0 (node_count tree))

-- ---- the lines of the nodes
pub nodes_are : (names : List (List ℕ)) (f : ℕ → Standing) (i n : ℕ) → nodes_from names i (map f (count_from i n)) ≡ flat_map (λ v. node_line names v (f v)) (count_from i n)
nodes_are names f i zero = refl
nodes_are names f i (suc n) = ap (λ more. node_line names i (f i) ++ more) (nodes_are names f (suc i) n)

-- ---- the algorithm of an accepted upper bound
pub algorithm_solves : (bound : Bound) → IsUpperBound (unnamed bound.first) (stages_of bound.steps) → SolvesBy (unnamed bound.first) (length bound.steps) (algorithm_of bound)
algorithm_solves bound is =
    subst (λ n. SolvesBy (unnamed bound.first) n (algorithm_of bound)) (length-map bound.steps _) (extracted_solves (unnamed bound.first) (stages_of bound.steps) is)

pub bound_problem : (problem : Problem) (stages : List (Problem × (ℕ → List ℕ))) → IsUpperBound problem stages → IsProblem problem
bound_problem problem [] is = is.0
bound_problem problem (stage ∷ stages) is = is.0

pub passive_nodes_get : (text : RunText) → IsUpperBound (unnamed text.bound.first) (stages_of text.bound.steps) → IsFiniteTree text.tree → IsNumbered text.tree → text.tree.degrees ≡ degrees_of text.bound.first
    → PassiveNodesGet text
passive_nodes_get text is is_tree numbered degrees v side has all =
    passive_gets (unnamed text.bound.first) (algorithm_of text.bound) text.tree (length text.bound.steps) (messages_of text.deliveries) v is_tree all (algorithm_solves text.bound is) numbered
    (ap (λ (d : Degrees). d.active) degrees) (ap (λ (d : Degrees). d.passive) degrees) side has

pub run_named : (text : RunText) → IsUpperBound (unnamed text.bound.first) (stages_of text.bound.steps) → IsFiniteTree text.tree → text.tree.degrees ≡ degrees_of text.bound.first
    → AreNamed text.bound.first.names (standings_of text.tree (length text.bound.steps) (messages_of text.deliveries) (algorithm_of text.bound))
run_named text is is_tree degrees =
    standings_named (unnamed text.bound.first) (algorithm_of text.bound) text.tree (length text.bound.steps) (messages_of text.deliveries) is_tree (algorithm_solves text.bound is)
    (bound_problem (unnamed text.bound.first) (stages_of text.bound.steps) is).active (ap (λ (d : Degrees). d.active) degrees) (ap (λ (d : Degrees). d.passive) degrees) text.bound.first.names refl

-- the lines of the nodes are those of the text
pub run_lines : (text : RunText) → nodes_from text.bound.first.names 0 (standings_of text.tree (length text.bound.steps) (messages_of text.deliveries) (algorithm_of text.bound)) ≡ nodes_text text
run_lines text = nodes_are text.bound.first.names (standing_of text.tree (length text.bound.steps) (messages_of text.deliveries) (algorithm_of text.bound)) 0 (node_count text.tree)

-- what came of the deliveries of a text
pub run_told : (text : RunText) (tree : FiniteTree) (bound : ℕ) (deliveries : List Delivery) (algorithm : Plain → List ℕ) (run : Run) → tree ≡ text.tree → bound ≡ length text.bound.steps → deliveries ≡ text.deliveries
    → algorithm ≡ algorithm_of text.bound → Comes tree bound deliveries algorithm run → Comes text.tree (length text.bound.steps) text.deliveries (algorithm_of text.bound) run
run_told text tree bound deliveries algorithm run tree_is bound_is same algorithm_is comes =
    subst (λ (a : Plain → List ℕ). Comes text.tree (length text.bound.steps) text.deliveries a run) algorithm_is
    (subst (λ (d : List Delivery). Comes text.tree (length text.bound.steps) d algorithm run) same
    (subst (λ (n : ℕ). Comes text.tree n deliveries algorithm run) bound_is (subst (λ (t : FiniteTree). Comes t bound deliveries algorithm run) tree_is comes)))
