-- Sides, colourings of edges, orientations and the input of one label are input problems.
use Rattle.std.proofs.Common.{◌≡◌, ℕ, ◌<◌, ◌≤◌, Bool, true, eqb, List, filter, length, refl, sym, subst, arith}
use Rattle.std.specs.List.{list_all}
use Rattle.re_labels.specs.Configs.{support_of}
use Rattle.re_labels.specs.Orders.{multisets}
use Rattle.re_given.proofs.Colourings.{IsInput-colouring, filtered_constraint}
use Rattle.re_given.proofs.FastGiven.{IsInput-exchanged}
use Rattle.re_given.specs.InputExamples.{coloured_edges, edge_colouring, one_out, oriented, oriented_both, sides, tested}
use Rattle.re_given.specs.Inputs.{IsInput, exchanged}
use Rattle.re_given.specs.Unavoidable.{colouring}
use Rattle.re_labels.proofs.LabelPlaces.{each_degree}
use Rattle.re_labels.specs.Lists.{count_from}
use Rattle.re_problem.proofs.Building.{occurs-fact}
use Rattle.re_problem.proofs.UsedLabels.{counted_all}
use Rattle.re_problem.specs.NamedProblems.{OccursIn, occurs}
use Rattle.re_problem.specs.Problems.{IsProblem, Problem}
use Rattle.re_labels.specs.Constraints.{Constraint}

-- whether each of n labels stands in some multiset of d of them that passes
abbrev pub are_there : ℕ → (List ℕ → Bool) → ℕ → Bool
are_there n test d = list_all (occurs (record { degree = d; configs = filter test (multisets d 0 n) })) (count_from 0 n)

some_config : (constraint : Constraint) (label : ℕ) → OccursIn constraint label → 0 < length constraint.configs
some_config constraint label (config, (k, range, e), at) = omega (arith, range)

pub IsInput-tested : (problem : Problem) (n : ℕ) (active passive : List ℕ → Bool) → IsProblem problem → 0 < n → are_there n active problem.active.degree ≡ true → are_there n passive problem.passive.degree ≡ true
    → IsInput problem (tested n active passive problem.active.degree problem.passive.degree)
IsInput-tested problem n active passive is some here there = record {
  is_problem = record {
    active = filtered_constraint problem.active.degree n active is.active.least is.active.most;
    passive = filtered_constraint problem.passive.degree n passive is.passive.least is.passive.most;
  };
  active_degree = refl;
  passive_degree = refl;
  some = some_config (tested n active passive problem.active.degree problem.passive.degree).active 0 (on_active 0 some);
  occurs = λ label l. (on_active label l, on_passive label l);
}
  where
    on_active : (label : ℕ) → label < n → OccursIn (tested n active passive problem.active.degree problem.passive.degree).active label
    on_active label l =
        occurs-fact (tested n active passive problem.active.degree problem.passive.degree).active label
        (counted_all (occurs (tested n active passive problem.active.degree problem.passive.degree).active) n label here l)

    on_passive : (label : ℕ) → label < n → OccursIn (tested n active passive problem.active.degree problem.passive.degree).passive label
    on_passive label l =
        occurs-fact (tested n active passive problem.active.degree problem.passive.degree).passive label
        (counted_all (occurs (tested n active passive problem.active.degree problem.passive.degree).passive) n label there l)

one_out_there : (d : ℕ) → 2 ≤ d → d ≤ 6 → are_there 2 one_out d ≡ true
one_out_there = each_degree (λ d. are_there 2 one_out d ≡ true) refl refl refl refl refl

pub IsInput-oriented : (problem : Problem) → IsProblem problem → IsInput problem (oriented problem.active.degree problem.passive.degree)
IsInput-oriented problem is =
    IsInput-tested problem 2 (λ edges. true) one_out is (omega arith)
    (each_degree (λ d. are_there 2 (λ edges. true) d ≡ true) refl refl refl refl refl problem.active.degree is.active.least is.active.most)
    (one_out_there problem.passive.degree is.passive.least is.passive.most)

pub IsInput-oriented_both : (problem : Problem) → IsProblem problem → IsInput problem (oriented_both problem.active.degree problem.passive.degree)
IsInput-oriented_both problem is =
    IsInput-tested problem 2 (λ edges. eqb (length (support_of edges)) 2) one_out is (omega arith)
    (each_degree (λ d. are_there 2 (λ edges. eqb (length (support_of edges)) 2) d ≡ true) refl refl refl refl refl problem.active.degree is.active.least is.active.most)
    (one_out_there problem.passive.degree is.passive.least is.passive.most)

-- a colouring of the edges is a proper one of the passive nodes with its sides exchanged
pub IsInput-edges : (problem : Problem) → IsProblem problem → IsInput problem (coloured_edges problem.active.degree problem.passive.degree)
IsInput-edges problem is =
    let turned : IsProblem (exchanged problem) = record { active = is.passive; passive = is.active } in
    IsInput-exchanged (exchanged problem) problem (colouring problem.passive.degree problem.active.degree problem.active.degree)
    (IsInput-colouring (exchanged problem) problem.active.degree turned (omega arith)) refl refl

pub IsInput-sides : (problem : Problem) → IsProblem problem → problem.passive.degree ≡ 2 → IsInput problem (sides problem.active.degree)
IsInput-sides problem is edge =
    subst (λ p. IsInput problem (colouring problem.active.degree p 2)) edge (IsInput-colouring problem 2 is (omega (arith, edge)))

pub edge_colouring_input : (problem : Problem) (c : ℕ) → IsProblem problem → problem.active.degree ≤ c → IsInput problem (edge_colouring problem.active.degree problem.passive.degree c)
edge_colouring_input problem c is enough =
    let turned : IsProblem (exchanged problem) = record { active = is.passive; passive = is.active } in
    IsInput-exchanged (exchanged problem) problem (colouring problem.passive.degree problem.active.degree c) (IsInput-colouring (exchanged problem) c turned enough) refl refl
