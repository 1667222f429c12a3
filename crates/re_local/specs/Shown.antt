-- How many active nodes a node sees, and what the model says where there are fewer identifiers.
use Rattle.std.specs.Prelude.{◌≡◌, ℕ, zero, suc, ◌+◌, ◌-◌, ◌*◌, ◌^◌, ◌≤◌, ◌<◌, length}
use Rattle.re_given.specs.InputViews.{InputView}
use Rattle.re_local.specs.LocalAlgorithms.{SolvableLocal, shown}
use Rattle.re_problem.specs.Problems.{IsProblem, Problem}
use Rattle.re_laws.specs.Trees.{IsView}

-- the active nodes that an active node sees behind one of its edges in t rounds
abbrev pub nodes_behind : ℕ → ℕ → ℕ → ℕ
nodes_behind a p zero = 0
nodes_behind a p (suc zero) = p - 1
nodes_behind a p (suc (suc t)) = (p - 1) * (1 + (a - 1) * nodes_behind a p t)

-- the active nodes that an active node sees in T rounds, itself among them
abbrev pub nodes_seen : ℕ → ℕ → ℕ → ℕ
nodes_seen a p T = 1 + a * nodes_behind a p T

-- each view of an active node shows so many
abbrev pub NodesSeenLaw : Type 0
NodesSeenLaw = (a p T : ℕ) (v : InputView) → 1 ≤ a → 1 ≤ p → IsView a p (suc T) v → length (shown v) ≡ nodes_seen a p T

-- where a node sees more nodes than there are identifiers no view has them all different: nothing is asked of an algorithm, and every problem
-- counts as solved
abbrev pub NoRoomLaw : Type 0
NoRoomLaw = (problem : Problem) (N T : ℕ) → IsProblem problem → N < nodes_seen problem.active.degree problem.passive.degree T → SolvableLocal problem N T

-- so it is from about 2 log N / log q rounds on, where q = (a - 1) (p - 1)
abbrev pub LogarithmicRoomLaw : Type 0
LogarithmicRoomLaw = (problem : Problem) (N s T : ℕ) → IsProblem problem → 2 * s ≤ T + 1 →
    N < ((problem.active.degree - 1) * (problem.passive.degree - 1)) ^ s → SolvableLocal problem N T

-- and from N rounds on, also where q = 1
abbrev pub LinearRoomLaw : Type 0
LinearRoomLaw = (problem : Problem) (N T : ℕ) → IsProblem problem → N ≤ T → SolvableLocal problem N T
