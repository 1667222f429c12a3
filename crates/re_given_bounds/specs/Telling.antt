-- Labels that tell in which configuration they stand, and where one round more is of no use.
use Rattle.std.specs.Prelude.{◌≡◌, ℕ, ◌+◌, ◌↔◌, length}
use Rattle.std.specs.List.{concat}
use Rattle.re_labels.specs.Configs.{support_of}
use Rattle.re_given.specs.Given.{SolvableGiven}
use Rattle.re_given.specs.Inputs.{IsInput, exchanged_by}
use Rattle.re_problem.specs.Problems.{IsProblem, Problem}
use Rattle.re_labels.specs.Constraints.{Constraint}

-- each label tells in which configuration it stands: in all configurations, one behind the other, no label stands twice
abbrev pub TellsConfig : Constraint → Type 0
TellsConfig constraint = length (support_of (concat constraint.configs)) ≡ length (concat constraint.configs)

-- so does each label of the problem, with its sides exchanged k times, in a passive configuration
abbrev pub TellsPassive : ℕ → Problem → Type 0
TellsPassive k problem = TellsConfig (exchanged_by k problem).passive

-- where each label of the input problem, with its sides exchanged k times, tells in which passive configuration it stands, what is solvable in
-- k + 1 rounds given the input problem is solvable in k
abbrev pub IdleHopLaw : Type 0
IdleHopLaw = (problem input : Problem) (k : ℕ) → IsProblem problem → IsInput problem input → TellsPassive k input →
    SolvableGiven problem input (k + 1) ↔ SolvableGiven problem input k
