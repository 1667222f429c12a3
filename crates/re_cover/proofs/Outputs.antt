-- What an algorithm outputs on a graph is a solution on it.
use Rattle.std.proofs.Common.{◌≡◌, ℕ, zero, suc, pred, ◌+◌, ◌<◌, List, [], ◌∷◌, map, length, get_or, refl, sym, ◌∙◌, ap, subst, arith, one-add}
use Rattle.std.specs.List.{AllByRecursion}
use Rattle.std.proofs.lemmas.List.{get_or-map}
use Rattle.re_cover.specs.declared.ends.GraphEnd.{GraphEnd}
use Rattle.re_cover.specs.Graphs.{IsActiveEnd, IsGraph, PortGraph, active_end, label_at, no_end, passive_end}
use Rattle.re_cover.specs.Laws.{EdgeLaw, GraphLaw, NoSolutionLaw, OutputsLaw, SeenLaw, ViewsLaw, outputs}
use Rattle.re_cover.specs.Unfolded.{active_view, passive_view}
use Rattle.re_cover.proofs.Standing.{over_active, over_passive}
use Rattle.re_cover.proofs.Views.{IsView-unfolded, backs-unfolded, shift-unfolded}
use Rattle.re_labels.proofs.Membership.{get_or-count_from, length-count_from}
use Rattle.re_labels.specs.Lists.{count_from}
use Rattle.re_laws.proofs.Ports.{AllByRecursion-count, length-ports}
use Rattle.re_laws.specs.Algorithms.{Plain, answer, around, at_port, back_at}
use Rattle.re_labels.specs.Constraints.{Has}
use Rattle.re_laws.specs.Trees.{IsView, shift}

pub edge_law : EdgeLaw
edge_law graph is = (over_active graph is, over_passive graph is)

pub views_law : ViewsLaw
views_law graph radius is = (
  IsView-unfolded radius (passive_end graph) (active_end graph) graph.active_degree graph.nodes graph.passive_degree (length graph.passive) (over_active graph is) (over_passive graph is),
  IsView-unfolded radius (active_end graph) (passive_end graph) graph.passive_degree (length graph.passive) graph.active_degree graph.nodes (over_passive graph is) (over_active graph is),
)

-- what the view of a passive node shows at a place
seen : (graph : PortGraph) (radius node k : ℕ) → IsGraph graph → node < length graph.passive → k < graph.passive_degree →
    (shift radius (passive_view graph (suc radius) node) (suc k) ≡ active_view graph radius (active_end graph (record { node = node; port = suc k })).node)
    × (back_at (passive_view graph (suc radius) node) (suc k) ≡ (active_end graph (record { node = node; port = suc k })).port)
seen graph radius node k is less few = (
  shift-unfolded radius (active_end graph) (passive_end graph) graph.passive_degree (length graph.passive) graph.active_degree graph.nodes (over_passive graph is) (over_active graph is) node less k few,
  backs-unfolded (active_end graph) (passive_end graph) graph.passive_degree graph.active_degree radius node k few,
)

pub seen_law : SeenLaw
seen_law graph radius here is end =
    let low = end.least in
    let high = end.most in
    let port_is : suc (pred here.port) ≡ here.port = omega (arith, low) in
    subst (λ port. (shift radius (passive_view graph (suc radius) here.node) port ≡ active_view graph radius (active_end graph (record { node = here.node; port = port })).node)
    × (back_at (passive_view graph (suc radius) here.node) port ≡ (active_end graph (record { node = here.node; port = port })).port))
    port_is (seen graph radius here.node (pred here.port) is end.node (omega (arith, low, high)))

-- a list of ends is what its places list
pub map-places : (f : GraphEnd → ℕ) (g : ℕ → ℕ) (ends : List GraphEnd) (i n : ℕ) → length ends ≡ n → ((k : ℕ) → k < n → g (i + k) ≡ f (get_or ends k no_end)) → map g (count_from i n) ≡ map f ends
map-places f g [] i zero count each = refl
map-places f g (here ∷ ends) i zero count each = absurd (omega arith)
map-places f g [] i (suc n) count each = absurd (omega arith)
map-places f g (here ∷ ends) i (suc n) count each =
    let first : g i ≡ f here = subst (λ j. g j ≡ f here) (let e : i + 0 ≡ i = omega arith in e) (each 0 (omega arith)) in
    let rest : map g (count_from (suc i) n) ≡ map f ends =
    map-places f g ends (suc i) n (omega arith) (λ k l. subst (λ j. g j ≡ f (get_or ends k no_end)) (let e : i + suc k ≡ suc i + k = omega arith in e) (each (suc k) (omega (arith, l)))) in
    cc

-- what holds of each place of a list holds of all it has
pub all-places : {A : Type 0} (P : A → Type 0) (d : A) (xs : List A) → ((k : ℕ) → k < length xs → P (get_or xs k d)) → AllByRecursion P xs
all-places P d [] each = tt
all-places P d (x ∷ xs) each = (each 0 (omega arith), all-places P d xs (λ k l. each (suc k) (omega (arith, l))))

pub all-at : {A : Type 0} (P : A → Type 0) (d : A) (xs : List A) (k : ℕ) → AllByRecursion P xs → k < length xs → P (get_or xs k d)
all-at P d [] k all less = absurd (omega arith)
all-at P d (x ∷ xs) zero all less = all.0
all-at P d (x ∷ xs) (suc k) all less = all-at P d xs k all.1 (omega arith)

module _ (graph : PortGraph) (T : ℕ) (f : Plain → List ℕ) (is : IsGraph graph) where
  output-at : (node : ℕ) → node < graph.nodes → get_or (outputs graph T f) node [] ≡ f (active_view graph T node)
  output-at node less =
      get_or-map (λ node. f (active_view graph T node)) (count_from 0 graph.nodes) node 0 [] (omega (arith, less, length-count_from 0 graph.nodes))
      ∙ ap (λ node. f (active_view graph T node)) (get_or-count_from 0 graph.nodes node 0 less ∙ (let e : 0 + node ≡ node = omega arith in e))

  -- the labels at the ends of a passive node are those that the algorithm puts around its view
  labels-around : (s : ℕ) → s < length graph.passive → around graph.passive_degree T f (passive_view graph (suc T) s) ≡ map (label_at (outputs graph T f)) (get_or graph.passive s [])
  labels-around s less =
      map-places (label_at (outputs graph T f)) (λ port. at_port (f (shift T (passive_view graph (suc T) s) port)) (back_at (passive_view graph (suc T) s) port)) (get_or graph.passive s []) 1 graph.passive_degree
      (all-at (λ ends. length ends ≡ graph.passive_degree) [] graph.passive s is.count less) (λ k few. rw one-add (each k few))
    where
      each : (k : ℕ) → k < graph.passive_degree → at_port (f (shift T (passive_view graph (suc T) s) (suc k))) (back_at (passive_view graph (suc T) s) (suc k)) ≡ label_at (outputs graph T f) (get_or (get_or graph.passive s []) k no_end)
      each k few =
          let there : GraphEnd = active_end graph (record { node = s; port = suc k }) in
          let (view, port) = seen graph T s k is less few in
          let end : IsActiveEnd graph there = (over_passive graph is (record { node = s; port = suc k }) (record { node = less; least = omega arith; most = omega (arith, few) })).0 in
          ap (λ v. at_port (f v) (back_at (passive_view graph (suc T) s) (suc k))) view ∙ ap (at_port (f (active_view graph T there.node))) port
          ∙ ap (λ labels. at_port labels there.port) (sym (output-at there.node end.node))

pub outputs_law : OutputsLaw
outputs_law problem graph T f of solves = record {
  count = length-ports (λ node. f (active_view graph T node)) 0 graph.nodes;
  active = AllByRecursion-count (Has problem.active) (λ node. f (active_view graph T node)) 0 graph.nodes (λ node less. subst (λ n. Has problem.active (f (active_view graph T n))) (let e : node ≡ 0 + node = omega arith in e) (solves.active (active_view graph T node) (active_is node less)));
  passive = all-places (λ ends. Has problem.passive (map (label_at (outputs graph T f)) ends)) [] graph.passive passive_is;
}
  where
    active_is : (node : ℕ) → node < graph.nodes → IsView problem.active.degree problem.passive.degree T (active_view graph T node)
    active_is node less = subst (λ d. IsView d problem.passive.degree T (active_view graph T node)) of.active_degree
        (subst (λ e. IsView graph.active_degree e T (active_view graph T node)) of.passive_degree ((views_law graph T of.is_graph).0 node less))

    view_is : (s : ℕ) → s < length graph.passive → IsView problem.passive.degree problem.active.degree (suc T) (passive_view graph (suc T) s)
    view_is s less = subst (λ d. IsView problem.passive.degree d (suc T) (passive_view graph (suc T) s)) of.active_degree
        (subst (λ e. IsView e graph.active_degree (suc T) (passive_view graph (suc T) s)) of.passive_degree ((views_law graph (suc T) of.is_graph).1 s less))

    passive_is : (s : ℕ) → s < length graph.passive → Has problem.passive (map (label_at (outputs graph T f)) (get_or graph.passive s []))
    passive_is s less = subst (Has problem.passive) (labels-around graph T f of.is_graph s less)
        (subst (λ e. Has problem.passive (around e T f (passive_view graph (suc T) s))) (sym of.passive_degree) (solves.passive (passive_view graph (suc T) s) (view_is s less)))

pub graph_law : GraphLaw
graph_law problem graph T of (table, solves) = (outputs graph T (answer table), outputs_law problem graph T (answer table) of solves.solves)

pub no_solution_law : NoSolutionLaw
no_solution_law problem graph T of none solvable = let (labels, solution) = graph_law problem graph T of solvable in none labels solution
