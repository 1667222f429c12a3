-- The greatest trimmed set of a problem, found in rounds, and the problem with the configurations of its labels alone.
use Rattle.std.specs.Prelude.{◌≡◌, ℕ, zero, suc, ◌*◌, ◌≤◌, ◌==◌, Bool, true, false, ◌&&◌, List, Contains, filter, map, ◌⊎◌}
use Rattle.std.specs.List.{list_all, list_any}
use Rattle.re_forests.specs.Flexible.{side}
use Rattle.re_forests.specs.OnForests.{SolvableOnForests, SolvesOn, label_towards}
use Rattle.re_forests.specs.Trimmed.{IsTrimmed}
use Rattle.re_labels.specs.Lists.{count_from}
use Rattle.re_layers.specs.Full.{IsFull}
use Rattle.re_layers.specs.Networks.{IsForest, Network}
use Rattle.re_problem.specs.Problems.{IsProblem, Problem}
use Rattle.re_labels.specs.Constraints.{Constraint, Has}

-- whether a label is of a set
abbrev pub held : List ℕ → ℕ → Bool
held set x = list_any (λ y. x == y) set

-- whether a label stands in a configuration of labels of the set
abbrev pub stands : Constraint → List ℕ → ℕ → Bool
stands constraint set x = list_any (λ config. held config x && list_all (held set) config) constraint.configs

-- whether it does so on both sides
abbrev pub stays : Problem → List ℕ → ℕ → Bool
stays problem set x = stands problem.active set x && stands problem.passive set x

-- the labels that are left after r rounds, each of which takes away those that don't stay
abbrev pub left_after : Problem → ℕ → List ℕ
left_after problem zero = count_from 0 problem.labels
left_after problem (suc r) = filter (stays problem (left_after problem r)) (left_after problem r)

abbrev pub trimmed_set : Problem → List ℕ
trimmed_set problem = left_after problem (suc problem.labels)

-- the constraint with the configurations of labels of the set alone
abbrev pub within : List ℕ → Constraint → Constraint
within set constraint = record { degree = constraint.degree; configs = filter (list_all (held set)) constraint.configs }

abbrev pub trimmed_problem : Problem → Problem
trimmed_problem problem = record {
  labels = problem.labels;
  active = within (trimmed_set problem) problem.active;
  passive = within (trimmed_set problem) problem.passive;
}

-- it is trimmed, and each trimmed set is a part of it; and what is left is a problem
abbrev pub TrimmedSetLaw : Type 0
TrimmedSetLaw = (problem : Problem) → IsProblem problem → IsTrimmed problem (trimmed_set problem)
    × ((set : List ℕ) → IsTrimmed problem set → (x : ℕ) → Contains set x → Contains (trimmed_set problem) x)
    × IsProblem (trimmed_problem problem)

-- a problem is solved in the order of N rounds, or enough nodes have no solution
abbrev pub SolvedOrNotLaw : Type 0
SolvedOrNotLaw = (problem : Problem) → IsProblem problem →
    ((K : ℕ) × ((N : ℕ) → SolvableOnForests problem N (K * suc N))) ⊎ ((M : ℕ) × ((N T : ℕ) → M ≤ N → SolvableOnForests problem N T → ⊥))

-- around nodes with full surroundings each solution has labels of the greatest trimmed set alone
abbrev pub FullSurroundingsLaw : Type 0
FullSurroundingsLaw = (problem : Problem) (N : ℕ) (G : Network) (labels : ℕ → List ℕ) → IsProblem problem →
    IsForest problem.active.degree problem.passive.degree N G → SolvesOn problem G labels →
    (v : ℕ) → IsFull (λ k. (side problem k).degree) G (suc (suc problem.labels)) v →
    (G.active v ≡ true → Has (trimmed_problem problem).active (labels v))
    × (G.active v ≡ false → Has (trimmed_problem problem).passive (map (λ u. label_towards G labels v u) (G.near v)))

-- on forests the configurations with labels outside the greatest trimmed set are of no use: without them as many rounds solve the problem, though
-- maybe on fewer nodes
abbrev pub TrimmedOnForestsLaw : Type 0
TrimmedOnForestsLaw = (problem : Problem) → IsProblem problem →
    (E : ℕ) × ((N T : ℕ) → SolvableOnForests problem (E * suc N) T → SolvableOnForests (trimmed_problem problem) N T)

-- what is left is no easier
abbrev pub StillSolvedLaw : Type 0
StillSolvedLaw = (problem : Problem) (N T : ℕ) → SolvableOnForests (trimmed_problem problem) N T → SolvableOnForests problem N T
