-- Worked problems that are greedy, by the test.
use Rattle.std.proofs.Common.{◌≡◌, ℕ, ◌≤◌, true, List, [], ◌∷◌, ◌++◌, refl, arith}
use Rattle.re_classes.specs.Classes.{IsBelowLogStar}
use Rattle.re_families.specs.Families as families
use Rattle.re_local.proofs.ColouredHops.{IsProblem-colouring}
use Rattle.re_given.proofs.Colourings.{filtered_constraint}
use Rattle.re_given.specs.InputExamples.{edge_colouring}
use Rattle.re_given.specs.Unavoidable.{colouring}
use Rattle.re_greedy.proofs.GreedyClasses.{greedy_class, passive_greedy_class}
use Rattle.re_greedy.proofs.GreedyTest.{greedy_test}
use Rattle.re_greedy.specs.Examples.{EdgesLaw, independent_partial, independent_sets}
use Rattle.re_greedy.specs.Greedy.{is_greedy}
use Rattle.re_labels.proofs.LabelPlaces.{each_degree}
use Rattle.re_problem.specs.Problems.{IsProblem}

-- ---- independent sets
IsProblem-independent : (a : ℕ) → 2 ≤ a → a ≤ 6 → IsProblem (independent_sets a)
IsProblem-independent a low high = record {
  active = filtered_constraint a 3 families.independent_set.active low high;
  passive = filtered_constraint 2 3 families.independent_set.passive (omega arith) (omega arith);
}

independent_test : (a : ℕ) → 2 ≤ a → a ≤ 6 → is_greedy (independent_sets a) independent_partial ≡ true
independent_test = each_degree (λ a. is_greedy (independent_sets a) independent_partial ≡ true) refl refl refl refl refl

pub independent_below : (a : ℕ) → 2 ≤ a → a ≤ 6 → IsBelowLogStar (independent_sets a)
independent_below a low high =
    let is : IsProblem (independent_sets a) = IsProblem-independent a low high in
    greedy_class (independent_sets a) independent_partial is ((greedy_test (independent_sets a) independent_partial is).0 (independent_test a low high))

-- ---- edges
-- the different colours of one edge, of two and of three
abbrev edge_partial : List (List ℕ)
edge_partial = ([] ∷ []) ++ ((colouring 2 1 5).passive.configs ++ ((colouring 2 2 5).passive.configs ++ (colouring 2 3 5).passive.configs))

is_edges : IsProblem (edge_colouring 3 2 5)
is_edges =
    let is : IsProblem (colouring 2 3 5) = IsProblem-colouring 2 3 5 (omega arith) (omega arith) (omega arith) (omega arith) in
    record { active = is.passive; passive = is.active }

edges_test : is_greedy (colouring 2 3 5) edge_partial ≡ true
edges_test = refl

pub edges_below : EdgesLaw
edges_below =
    passive_greedy_class (edge_colouring 3 2 5) edge_partial is_edges
    ((greedy_test (colouring 2 3 5) edge_partial (IsProblem-colouring 2 3 5 (omega arith) (omega arith) (omega arith) (omega arith))).0 edges_test)
