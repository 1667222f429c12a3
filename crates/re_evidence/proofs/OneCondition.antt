-- Few colours of the active nodes give few of the passive ones, and both at once.
use Rattle.std.proofs.Common.{◌≡◌, ℕ, suc, ◌+◌, ◌-◌, ◌*◌, ◌/◌, ◌%◌, ◌≤◌, ◌<◌, List, map, refl, sym, ◌∙◌, subst, arith}
use Rattle.std.specs.Prelude.{Contains}
use Rattle.std.proofs.lemmas.Nat.{div-mul-add, mod-mul-add}
use Rattle.re_evidence.specs.Colours.{OneConditionLaw}
use Rattle.re_classes.specs.Laws.{IsSolvableColoured}
use Rattle.re_given.proofs.AllInputViews.{Has-below}
use Rattle.re_given.proofs.GivenProducts.{SolvableGiven-product_relaxed}
use Rattle.re_given.proofs.MappingGiven.{IsInput-same}
use Rattle.re_given.proofs.NamedInputs.{edge_colouring_input}
use Rattle.re_given.proofs.OtherInputs.{SolvableGiven-input}
use Rattle.re_given.proofs.Pairs.{IsProblem-product, from_parts, product_parts}
use Rattle.re_given.proofs.RelativeGiven.{SolvableGiven-relative}
use Rattle.re_given.specs.Given.{SolvableGiven}
use Rattle.re_given.specs.InputExamples.{edge_colouring}
use Rattle.re_given.specs.Inputs.{IsInput}
use Rattle.re_given.specs.Products.{firsts, pairs_of, product, seconds}
use Rattle.re_given.specs.Unavoidable.{colouring}
use Rattle.re_given_bounds.proofs.BothColourings.{few_colourings_input}
use Rattle.re_given_bounds.proofs.FewEdgeColours.{few_edge_colours, few_edge_input}
use Rattle.re_given_bounds.specs.EdgeClasses.{IsSolvableBothColoured, IsSolvableEdgeColoured, few_colourings}
use Rattle.re_greedy.proofs.PassiveColours.{IsInput-passive, SolvableGiven-passive_colours, passive_colours}
use Rattle.re_labels.proofs.Membership.{Contains-map, map-alike}
use Rattle.re_layers.proofs.Towers.{above}
use Rattle.re_layers.specs.Towers.{tower}
use Rattle.re_local.proofs.FewColours.{few_input, last_hops}
use Rattle.re_local.proofs.FewerColours.{degree_within}
use Rattle.re_problem.proofs.StepLaws.{map-map}
use Rattle.re_problem.specs.Problems.{IsProblem, Problem}
use Rattle.re_problem.specs.Steps.{IsRelaxed}
use Rattle.re_labels.specs.Constraints.{Constraint, Has, IsConstraint}

-- ---- pairs the other way round
abbrev swapped : ℕ → ℕ → ℕ → ℕ
swapped n m pair = pair % m * n + pair / m

module _ (n m : ℕ) (own given : Constraint) (own_is : IsConstraint n own) (given_is : IsConstraint m given) where
  Has-swapped : (pairs : List ℕ) → Has own (firsts m pairs) → Has given (seconds m pairs) → Has (pairs_of m n given own) (map (swapped n m) pairs)
  Has-swapped pairs has has' =
      from_parts m n given own given_is own_is (map (swapped n m) pairs) (subst (Has given) (sym first_is) has') (subst (Has own) (sym second_is) has)
    where
      low : (x : ℕ) → Contains pairs x → x / m < n
      low x held = Has-below n own (firsts m pairs) own_is has (x / m) (Contains-map (λ pair. pair / m) pairs x held)

      first_is : firsts n (map (swapped n m) pairs) ≡ seconds m pairs
      first_is =
          map-map (λ pair. pair / n) (swapped n m) pairs
          ∙ map-alike (λ x. swapped n m x / n) (λ x. x % m) pairs (λ x held. div-mul-add (x % m) n (x / m) (low x held))

      second_is : seconds n (map (swapped n m) pairs) ≡ firsts m pairs
      second_is =
          map-map (λ pair. pair % n) (swapped n m) pairs
          ∙ map-alike (λ x. swapped n m x % n) (λ x. x / m) pairs (λ x held. mod-mul-add (x % m) n (x / m) (low x held))

pub product_swapped : (one two : Problem) → IsProblem one → IsInput one two → IsRelaxed (product one two) (product two one) (swapped one.labels two.labels)
product_swapped one two is input =
    let (first, second) = product_parts one two input in
    record {
      active_degree = input.active_degree;
      passive_degree = input.passive_degree;
      active = λ config held. Has-swapped one.labels two.labels one.active two.active is.active input.is_problem.active config (first.active config held) (second.active config held);
      passive = λ config held. Has-swapped one.labels two.labels one.passive two.passive is.passive input.is_problem.passive config (first.passive config held) (second.passive config held);
    }

-- ---- few colours of either side, and of both
module _ (problem : Problem) (is : IsProblem problem) where
  abbrev a : ℕ
  a = problem.active.degree

  abbrev p : ℕ
  p = problem.passive.degree

  abbrev few : ℕ
  few = a * (p - 1) + 1

  abbrev few_edges : ℕ
  few_edges = p * (a - 1) + 1

  abbrev nodes : Problem
  nodes = colouring a p few

  abbrev edges : Problem
  edges = edge_colouring a p few_edges

  enough : p ≤ few
  enough = let within = degree_within a p is.active.least is.passive.least in omega (arith, within)

  -- as many colours as the passive nodes get at first
  abbrev sides : ℕ
  sides = passive_colours a p few is.active.least is.active.most is.passive.least is.passive.most enough

  edges_input : IsInput problem edges
  edges_input = few_edge_input problem is 0

  nodes_input : IsInput problem nodes
  nodes_input = few_input problem is 0

  below : sides ≤ tower sides
  below = let more : suc sides ≤ tower sides = above sides in omega (arith, more)

  abbrev hops : ℕ
  hops = 2 + (2 * sides + suc (last_hops p a)) + 1

  -- few colours of passive nodes, given few of the active ones
  edges_given : SolvableGiven edges nodes hops
  edges_given =
      SolvableGiven-relative edges (edge_colouring a p sides) nodes 2 (2 * sides + suc (last_hops p a)) edges_input.is_problem
      (edge_colouring_input edges sides edges_input.is_problem (omega arith))
      (IsInput-passive a p few is.active.least is.active.most is.passive.least is.passive.most enough)
      (SolvableGiven-passive_colours a p few is.active.least is.active.most is.passive.least is.passive.most enough)
      (few_edge_colours a p is.active.least is.active.most is.passive.least is.passive.most sides sides (omega arith) below)

  nodes_of_edges : IsInput edges nodes
  nodes_of_edges = IsInput-same problem edges nodes nodes_input refl refl

  from_edges : IsSolvableEdgeColoured problem → IsSolvableColoured problem
  from_edges (k, solvable) = (hops + k + 1, SolvableGiven-relative problem edges nodes hops k is edges_input nodes_of_edges edges_given solvable)

  both_is : IsProblem (few_colourings a p)
  both_is = IsProblem-product nodes edges nodes_input.is_problem

  -- both at once, given few colours of the active nodes
  both_given : SolvableGiven (few_colourings a p) nodes hops
  both_given =
      SolvableGiven-product_relaxed edges (few_colourings a p) nodes (swapped edges.labels nodes.labels) hops edges_input.is_problem both_is nodes_of_edges
      (product_swapped edges nodes edges_input.is_problem nodes_of_edges) edges_given

  from_both : IsSolvableBothColoured problem → IsSolvableColoured problem
  from_both (k, solvable) = (
    hops + k + 1,
    SolvableGiven-relative problem (few_colourings a p) nodes hops k is (few_colourings_input problem is) (IsInput-same problem (few_colourings a p) nodes nodes_input refl refl) both_given solvable,
  )

  -- the colours of the active nodes are a part of both
  to_both : IsSolvableColoured problem → IsSolvableBothColoured problem
  to_both (k, solvable) = (
    k,
    SolvableGiven-input problem (few_colourings a p) nodes (λ pair. pair / edges.labels) k (few_colourings_input problem is)
        (product_parts nodes edges (IsInput-same problem nodes edges edges_input refl refl)).0 solvable,
  )

pub one_condition : OneConditionLaw
one_condition problem is = (from_edges problem is, (from_both problem is, to_both problem is))
