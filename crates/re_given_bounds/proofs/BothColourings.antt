-- What is solvable given few colours of active and of passive nodes at once.
use Rattle.std.proofs.Common.{◌≡◌, ℕ, ◌+◌, ◌-◌, ◌*◌, ◌≤◌, arith, refl, subst}
use Rattle.re_classes.proofs.Decided.{above_log_star}
use Rattle.re_given_bounds.proofs.FewEdgeColours.{few_edge_colours_local, few_edge_input}
use Rattle.re_given_bounds.proofs.Products.{IsInput-products, SolvableLocal-product}
use Rattle.re_given_bounds.specs.EdgeClasses.{BothColouredLaw, OrderBothColouredLaw, few_colourings}
use Rattle.re_local.proofs.ColouredHops.{IsProblem-colouring}
use Rattle.re_local.proofs.FewColours.{few_colours_local, few_input, last_hops}
use Rattle.re_given.proofs.Itself.{SolvableGiven-itself}
use Rattle.re_given.proofs.MappingGiven.{IsInput-same}
use Rattle.re_given.specs.InputExamples.{edge_colouring}
use Rattle.re_given.specs.Inputs.{IsInput}
use Rattle.re_given.specs.Unavoidable.{colouring}
use Rattle.re_local.proofs.ComposedLocal.{SolvableLocal-composed}
use Rattle.re_local.proofs.MoreLocal.{SolvableLocal-later}
use Rattle.re_local.specs.LocalAlgorithms.{SolvableLocal}
use Rattle.re_layers.specs.Towers.{tower}
use Rattle.re_problem.specs.Problems.{IsProblem, Problem}

module _ (problem : Problem) (is : IsProblem problem) where
  abbrev a : ℕ
  a = problem.active.degree

  abbrev p : ℕ
  p = problem.passive.degree

  -- the two colourings
  abbrev nodes : Problem
  nodes = colouring a p (a * (p - 1) + 1)

  abbrev edges : Problem
  edges = edge_colouring a p (p * (a - 1) + 1)

  nodes_input : IsInput problem nodes
  nodes_input = few_input problem is 0

  edges_input : IsInput problem edges
  edges_input = few_edge_input problem is 0

  pub few_colourings_input : IsInput problem (few_colourings a p)
  few_colourings_input = IsInput-products problem nodes edges nodes_input edges_input

  nodes_local : (h N : ℕ) → N ≤ tower h → SolvableLocal nodes N (2 * h + (last_hops a p + 7))
  nodes_local h N few =
      let same : 2 * h + 0 + (last_hops a p + 7) ≡ 2 * h + (last_hops a p + 7) = omega arith in
      subst (SolvableLocal nodes N) same
      (few_colours_local nodes nodes_input.is_problem h 0 N (SolvableGiven-itself nodes (IsInput-same problem nodes nodes nodes_input refl refl)) few)

  edges_local : (h N : ℕ) → N ≤ tower h → SolvableLocal edges N (2 * h + (last_hops p a + 14))
  edges_local h N few =
      let same : 2 * h + 0 + (last_hops p a + 14) ≡ 2 * h + (last_hops p a + 14) = omega arith in
      subst (SolvableLocal edges N) same
      (few_edge_colours_local edges edges_input.is_problem h 0 N (SolvableGiven-itself edges (IsInput-same problem edges edges edges_input refl refl)) few)

  both_local : (h N : ℕ) → N ≤ tower h → SolvableLocal (few_colourings a p) N (2 * h + (last_hops a p + last_hops p a + 21))
  both_local h N few =
      let left : last_hops p a + 14 + (2 * h + (last_hops a p + 7)) ≡ 2 * h + (last_hops a p + last_hops p a + 21) = omega arith in
      let right : last_hops a p + 7 + (2 * h + (last_hops p a + 14)) ≡ 2 * h + (last_hops a p + last_hops p a + 21) = omega arith in
      SolvableLocal-product nodes edges N (2 * h + (last_hops a p + last_hops p a + 21)) nodes_input.is_problem
      (IsInput-same problem nodes edges edges_input refl refl)
      (subst (SolvableLocal nodes N) left (SolvableLocal-later nodes N (last_hops p a + 14) (2 * h + (last_hops a p + 7)) (nodes_local h N few)))
      (subst (SolvableLocal edges N) right (SolvableLocal-later edges N (last_hops a p + 7) (2 * h + (last_hops p a + 14)) (edges_local h N few)))

pub both_coloured : BothColouredLaw
both_coloured problem is (k, solvable) =
    let rest : ℕ = last_hops problem.active.degree problem.passive.degree + last_hops problem.passive.degree problem.active.degree + 21 in (
      rest + k + 1,
      λ h N few.
          let same : 2 * h + rest + k + 1 ≡ 2 * h + (rest + k + 1) = omega arith in
          subst (SolvableLocal problem N) same
          (SolvableLocal-composed problem (few_colourings problem.active.degree problem.passive.degree) N (2 * h + rest) k (few_colourings_input problem is) (both_local problem is h N few) solvable),
    )

pub order_both_coloured : OrderBothColouredLaw
order_both_coloured problem is never coloured = (above_log_star problem is never, both_coloured problem is coloured)
