-- Worked problems that are greedy.
use Rattle.std.specs.Prelude.{ℕ, suc, ◌≤◌, ◌==◌, nat_le, Bool, ◌&&◌, ◌||◌, List, [], ◌∷◌, filter, length}
use Rattle.std.specs.List.{flat_map}
use Rattle.re_labels.specs.Orders.{multisets}
use Rattle.re_labels.specs.Lists.{count_from}
use Rattle.re_classes.specs.Classes.{IsBelowLogStar}
use Rattle.re_families.specs.Families as families
use Rattle.re_given.specs.InputExamples.{edge_colouring, tested}
use Rattle.re_problem.specs.Problems.{Problem}

-- maximal independent sets, where nodes have degree a: the labels are M, O and P, in this order
abbrev pub independent_sets : ℕ → Problem
independent_sets a = tested 3 families.independent_set.active families.independent_set.passive a 2

-- an edge at which one end has put out its label has M or O, but not P, by which it would wait for the other; one at which both have, M O, M P or O O
abbrev pub independent_partial : List (List ℕ)
independent_partial = [] ∷ (0 ∷ []) ∷ (1 ∷ []) ∷ (0 ∷ 1 ∷ []) ∷ (0 ∷ 2 ∷ []) ∷ (1 ∷ 1 ∷ []) ∷ []

-- they take at most the order of log* N rounds
abbrev pub IndependentSetsLaw : Type 0
IndependentSetsLaw = (a : ℕ) → 2 ≤ a → a ≤ 6 → IsBelowLogStar (independent_sets a)

-- and so does a proper colouring of edges with 5 colours, where nodes have degree 3: edge after edge takes one of the colours that none beside it has
abbrev pub EdgesLaw : Type 0
EdgesLaw = IsBelowLogStar (edge_colouring 3 2 5)

-- maximal matchings, where nodes have degree a: a matched node has M at one edge and O at the others, one that isn't matched has P at all, and
-- an edge has M twice, or O and anything but M
abbrev pub is_node : List ℕ → Bool
is_node edges = (families.count 0 edges == 1 && families.count 2 edges == 0) || families.count 2 edges == length edges

abbrev pub is_edge : List ℕ → Bool
is_edge ends = families.count 0 ends == 2 || (families.count 0 ends == 0 && nat_le 1 (families.count 1 ends))

abbrev pub matchings : ℕ → Problem
matchings a = tested 3 is_node is_edge a 2

-- they aren't greedy, but one step behind them stands what is: an edge has A, for M, twice, or B, for O, at one end and C, for O or P, at the other; a
-- node has one A, or C alone
abbrev pub has_matched : List ℕ → Bool
has_matched edges = families.count 0 edges == 1 || families.count 2 edges == length edges

abbrev pub joins : List ℕ → Bool
joins ends = families.count 0 ends == 2 || (families.count 1 ends == 1 && families.count 2 ends == 1)

abbrev pub matched : ℕ → Problem
matched a = tested 3 joins has_matched 2 a

abbrev pub matched_partial : ℕ → List (List ℕ)
matched_partial a = flat_map (λ k. filter has_matched (multisets k 0 3)) (count_from 0 (suc a))

-- so maximal matchings take at most the order of log* N rounds: edge after edge joins where neither end has one
abbrev pub MatchingsLaw : Type 0
MatchingsLaw = (a : ℕ) → 2 ≤ a → a ≤ 6 → IsBelowLogStar (matchings a)
