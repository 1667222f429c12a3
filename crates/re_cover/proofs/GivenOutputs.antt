-- What an algorithm outputs on a graph with a solution of an input problem is a solution.
use Rattle.std.proofs.Common.{◌≡◌, ℕ, suc, pred, ◌+◌, ◌<◌, List, [], ◌∷◌, map, length, get_or, refl, sym, ◌∙◌, ap, subst, arith, one-add}
use Rattle.std.proofs.lemmas.List.{get_or-map}
use Rattle.re_cover.specs.declared.ends.GraphEnd.{GraphEnd}
use Rattle.re_cover.specs.Graphs.{IsActiveEnd, IsGraph, IsGraphOf, IsSolution, PortGraph, active_end, label_at, no_end, passive_end}
use Rattle.re_cover.proofs.Outputs.{all-at, all-places, map-places}
use Rattle.re_cover.proofs.Standing.{over_active, over_passive}
use Rattle.re_cover.proofs.LabelledViews.{IsView-labelled, backs-labelled, fits-labelled, shift-labelled}
use Rattle.re_cover.specs.GivenGraphs.{GivenGraphLaw, GivenOutputsLaw, GivenSeenLaw, GivenViewsLaw, NoSolutionGivenLaw, active_input, given_outputs, passive_input}
use Rattle.re_given.specs.Given.{answer_known, around_known}
use Rattle.re_given.specs.InputViews.{Fits, InputView, known}
use Rattle.re_given.specs.Inputs.{IsInput}
use Rattle.re_labels.proofs.Membership.{get_or-count_from, length-count_from}
use Rattle.re_labels.specs.Lists.{count_from}
use Rattle.re_laws.proofs.Mapping.{count_of}
use Rattle.re_laws.proofs.Ports.{AllByRecursion-count, length-ports, map-at_port}
use Rattle.re_laws.specs.Algorithms.{at_port}
use Rattle.re_problem.specs.Problems.{Problem}
use Rattle.re_labels.specs.Constraints.{Has}
use Rattle.re_laws.specs.Trees.{IsView, backs, shift}

-- what is listed by the ports of a list is the list
by-ports : (labels : List ℕ) (d : ℕ) → length labels ≡ d → map (at_port labels) (count_from 1 d) ≡ labels
by-ports labels d count = map-at_port (λ x. x) labels d count ∙ same labels
  where
    same : (xs : List ℕ) → map (λ (x : ℕ). x) xs ≡ xs
    same [] = refl
    same (x ∷ xs) = ap (λ l. x ∷ l) (same xs)

module _ (problem input : Problem) (graph : PortGraph) (inputs : List (List ℕ)) (of : IsGraphOf problem graph) (is : IsInput problem input) (given : IsSolution input graph inputs) where
  -- the input labels around an active node
  active-has : (node : ℕ) → node < graph.nodes → Has input.active (map (λ port. label_at inputs (record { node = node; port = port })) (count_from 1 graph.active_degree))
  active-has node less =
      let has : Has input.active (get_or inputs node []) = all-at (Has input.active) [] inputs node given.active (omega (arith, less, given.count)) in
      let count : length (get_or inputs node []) ≡ graph.active_degree = count_of input.labels input.active (get_or inputs node []) is.is_problem.active has ∙ is.active_degree ∙ sym of.active_degree in
      subst (Has input.active) (sym (by-ports (get_or inputs node []) graph.active_degree count)) has

  -- and around a passive one
  passive-has : (node : ℕ) → node < length graph.passive → Has input.passive (map (λ port. label_at inputs (active_end graph (record { node = node; port = port }))) (count_from 1 graph.passive_degree))
  passive-has node less =
      let has : Has input.passive (map (label_at inputs) (get_or graph.passive node [])) = all-at (λ ends. Has input.passive (map (label_at inputs) ends)) [] graph.passive node given.passive less in
      subst (Has input.passive) (sym (map-places (label_at inputs) (λ port. label_at inputs (active_end graph (record { node = node; port = port }))) (get_or graph.passive node []) 1 graph.passive_degree
      (all-at (λ ends. length ends ≡ graph.passive_degree) [] graph.passive node of.is_graph.count less) (λ k few. rw one-add refl))) has

  pub active-view : (radius node : ℕ) → node < graph.nodes → IsView graph.active_degree graph.passive_degree radius (active_input graph inputs radius node) × Fits input.active input.passive (active_input graph inputs radius node)
  active-view radius node less = (
    IsView-labelled radius (passive_end graph) (active_end graph) (label_at inputs) (λ here. label_at inputs (active_end graph here)) graph.active_degree graph.nodes graph.passive_degree (length graph.passive) (over_active graph of.is_graph) (over_passive graph of.is_graph) node less,
    fits-labelled radius (passive_end graph) (active_end graph) (label_at inputs) (λ here. label_at inputs (active_end graph here)) graph.active_degree graph.nodes graph.passive_degree (length graph.passive) input.active input.passive (over_active graph of.is_graph) (over_passive graph of.is_graph)
        (λ here end. ap (label_at inputs) (over_active graph of.is_graph here end).1) (λ here end. refl) active-has passive-has node less,
  )

  pub passive-view : (radius node : ℕ) → node < length graph.passive → IsView graph.passive_degree graph.active_degree radius (passive_input graph inputs radius node) × Fits input.passive input.active (passive_input graph inputs radius node)
  passive-view radius node less = (
    IsView-labelled radius (active_end graph) (passive_end graph) (λ here. label_at inputs (active_end graph here)) (label_at inputs) graph.passive_degree (length graph.passive) graph.active_degree graph.nodes (over_passive graph of.is_graph) (over_active graph of.is_graph) node less,
    fits-labelled radius (active_end graph) (passive_end graph) (λ here. label_at inputs (active_end graph here)) (label_at inputs) graph.passive_degree (length graph.passive) graph.active_degree graph.nodes input.passive input.active (over_passive graph of.is_graph) (over_active graph of.is_graph)
        (λ here end. refl) (λ here end. ap (label_at inputs) (over_active graph of.is_graph here end).1) passive-has active-has node less,
  )

pub given_views_law : GivenViewsLaw
given_views_law problem input graph inputs radius of is given = (active-view problem input graph inputs of is given radius, passive-view problem input graph inputs of is given radius)

seen : (graph : PortGraph) (inputs : List (List ℕ)) (radius node k : ℕ) → IsGraph graph → node < length graph.passive → k < graph.passive_degree →
    (shift radius (passive_input graph inputs (suc radius) node) (suc k) ≡ active_input graph inputs radius (active_end graph (record { node = node; port = suc k })).node)
    × (at_port (backs (passive_input graph inputs (suc radius) node)) (suc k) ≡ (active_end graph (record { node = node; port = suc k })).port)
seen graph inputs radius node k is less few = (
  shift-labelled radius (active_end graph) (passive_end graph) (λ here. label_at inputs (active_end graph here)) (label_at inputs) graph.passive_degree (length graph.passive) graph.active_degree graph.nodes (over_passive graph is) (λ here end. refl) node k less few,
  backs-labelled (active_end graph) (passive_end graph) (λ here. label_at inputs (active_end graph here)) (label_at inputs) graph.passive_degree graph.active_degree radius node k few,
)

pub given_seen_law : GivenSeenLaw
given_seen_law graph inputs radius here is end =
    let low = end.least in
    let high = end.most in
    let port_is : suc (pred here.port) ≡ here.port = omega (arith, low) in
    subst (λ port. (shift radius (passive_input graph inputs (suc radius) here.node) port ≡ active_input graph inputs radius (active_end graph (record { node = here.node; port = port })).node)
    × (at_port (backs (passive_input graph inputs (suc radius) here.node)) port ≡ (active_end graph (record { node = here.node; port = port })).port))
    port_is (seen graph inputs radius here.node (pred here.port) is end.node (omega (arith, low, high)))

module _ (graph : PortGraph) (inputs : List (List ℕ)) (T : ℕ) (f : InputView → List ℕ) (is : IsGraph graph) where
  output-at : (node : ℕ) → node < graph.nodes → get_or (given_outputs graph inputs T f) node [] ≡ f (known T (active_input graph inputs (suc T) node))
  output-at node less =
      get_or-map (λ node. f (known T (active_input graph inputs (suc T) node))) (count_from 0 graph.nodes) node 0 [] (omega (arith, less, length-count_from 0 graph.nodes))
      ∙ ap (λ node. f (known T (active_input graph inputs (suc T) node))) (get_or-count_from 0 graph.nodes node 0 less ∙ (let z : 0 + node ≡ node = omega arith in z))

  labels-around : (s : ℕ) → s < length graph.passive → around_known graph.passive_degree T f (passive_input graph inputs (suc (suc T)) s) ≡ map (label_at (given_outputs graph inputs T f)) (get_or graph.passive s [])
  labels-around s less =
      map-places (label_at (given_outputs graph inputs T f)) (λ port. at_port (f (known T (shift (suc T) (passive_input graph inputs (suc (suc T)) s) port))) (at_port (backs (passive_input graph inputs (suc (suc T)) s)) port)) (get_or graph.passive s []) 1 graph.passive_degree
      (all-at (λ ends. length ends ≡ graph.passive_degree) [] graph.passive s is.count less) (λ k few. rw one-add (each k few))
    where
      each : (k : ℕ) → k < graph.passive_degree → at_port (f (known T (shift (suc T) (passive_input graph inputs (suc (suc T)) s) (suc k)))) (at_port (backs (passive_input graph inputs (suc (suc T)) s)) (suc k)) ≡ label_at (given_outputs graph inputs T f) (get_or (get_or graph.passive s []) k no_end)
      each k few =
          let there : GraphEnd = active_end graph (record { node = s; port = suc k }) in
          let (view, port) = seen graph inputs (suc T) s k is less few in
          let end : IsActiveEnd graph there = (over_passive graph is (record { node = s; port = suc k }) (record { node = less; least = omega arith; most = omega (arith, few) })).0 in
          ap (λ v. at_port (f (known T v)) (at_port (backs (passive_input graph inputs (suc (suc T)) s)) (suc k))) view ∙ ap (at_port (f (known T (active_input graph inputs (suc T) there.node)))) port
          ∙ ap (λ labels. at_port labels there.port) (sym (output-at there.node end.node))

pub given_outputs_law : GivenOutputsLaw
given_outputs_law problem input graph inputs T f of is given solves = record {
  count = length-ports (λ node. f (known T (active_input graph inputs (suc T) node))) 0 graph.nodes;
  active = AllByRecursion-count (Has problem.active) (λ node. f (known T (active_input graph inputs (suc T) node))) 0 graph.nodes
      (λ node less. subst (λ n. Has problem.active (f (known T (active_input graph inputs (suc T) n)))) (let z : node ≡ 0 + node = omega arith in z) (active_is node less));
  passive = all-places (λ ends. Has problem.passive (map (label_at (given_outputs graph inputs T f)) ends)) [] graph.passive passive_is;
}
  where
    active_is : (node : ℕ) → node < graph.nodes → Has problem.active (f (known T (active_input graph inputs (suc T) node)))
    active_is node less =
        let (view, fits) = active-view problem input graph inputs of is given (suc T) node less in
        solves.active (active_input graph inputs (suc T) node) (subst (λ d. IsView d problem.passive.degree (suc T) (active_input graph inputs (suc T) node)) of.active_degree
        (subst (λ e. IsView graph.active_degree e (suc T) (active_input graph inputs (suc T) node)) of.passive_degree view)) fits

    passive_is : (s : ℕ) → s < length graph.passive → Has problem.passive (map (label_at (given_outputs graph inputs T f)) (get_or graph.passive s []))
    passive_is s less =
        let (view, fits) = passive-view problem input graph inputs of is given (suc (suc T)) s less in
        subst (Has problem.passive) (labels-around graph inputs T f of.is_graph s less)
        (subst (λ e. Has problem.passive (around_known e T f (passive_input graph inputs (suc (suc T)) s))) (sym of.passive_degree)
        (solves.passive (passive_input graph inputs (suc (suc T)) s) (subst (λ d. IsView problem.passive.degree d (suc (suc T)) (passive_input graph inputs (suc (suc T)) s)) of.active_degree
        (subst (λ e. IsView e graph.active_degree (suc (suc T)) (passive_input graph inputs (suc (suc T)) s)) of.passive_degree view)) fits))

pub given_graph_law : GivenGraphLaw
given_graph_law problem input graph inputs T of is given (table, solves) = (given_outputs graph inputs T (answer_known table), given_outputs_law problem input graph inputs T (answer_known table) of is given solves.solves)

pub no_solution_given_law : NoSolutionGivenLaw
no_solution_given_law problem input graph inputs T of is given none solvable = let (labels, solution) = given_graph_law problem input graph inputs T of is given solvable in none labels solution
