-- Hypergraphs of identifiers that separate, for any number of rounds and not much larger than they have to be, and what follows for algorithms with
-- unique identifiers.
use Rattle.std.specs.Prelude.{ℕ, ◌+◌, ◌-◌, ◌*◌, ◌^◌, ◌≤◌}
use Rattle.re_laws.specs.Chains.{IsLowerChain}
use Rattle.re_local.specs.Identifiers.{IdHypergraph}
use Rattle.re_local.specs.LocalAlgorithms.{SolvableLocal}
use Rattle.re_local.specs.Separating.{Separates, VirtualSeparates}
use Rattle.re_problem.specs.Examples.{relaxed_sinkless}
use Rattle.re_problem.specs.Problems.{IsProblem, Problem}
use Rattle.re_problem.specs.Zero.{Zero}
use Rattle.re_local.specs.Hypergraphs.{hypergraph_base}

-- the base of the power of identifiers that are enough for so many ports, passive degree and labels
abbrev pub identifier_base : ℕ → ℕ → ℕ → ℕ
identifier_base a p n = hypergraph_base (p * a ^ p) (n ^ a + a) ^ 5

-- for each number of ports, passive degree, number of labels and of rounds some hypergraph of identifiers joins alike ones and shows different
-- ones on its trees; its identifiers are no more than the power T + 1 of a number that ports, degree and labels alone tell
abbrev pub SeparatingLaw : Type 0
SeparatingLaw = (a p n T : ℕ) → 1 ≤ a → 1 ≤ p →
    (N : ℕ) × (hyper : IdHypergraph) × (N ≤ identifier_base a p n ^ (T + 1)) × Separates a p N n T hyper

-- ports enough that for each of them a set of labels below n leaves a with the same set
abbrev pub virtual_ports : ℕ → ℕ → ℕ
virtual_ports a n = (a - 1) * 2 ^ n + 1

-- the base of the power of identifiers with so many ports that are enough for a ports a node, passive degree p and n labels
abbrev pub virtual_base : ℕ → ℕ → ℕ → ℕ
virtual_base a p n = identifier_base (virtual_ports a n) p (2 ^ n)

-- for each number of ports, of virtual ports, passive degree, number of labels and of rounds some hypergraph of identifiers separates; its
-- identifiers are no more than the power T + 1 of a number that does not depend on T
abbrev pub VirtualSeparatingLaw : Type 0
VirtualSeparatingLaw = (a M p n T : ℕ) → 1 ≤ M → 1 ≤ p →
    (N : ℕ) × (hyper : IdHypergraph) × (N ≤ identifier_base M p n ^ (T + 1)) × VirtualSeparates a M p N n T hyper

-- from some number N of identifiers on, no local algorithm of T rounds solves the problem
abbrev pub IsBeyondLocal : Problem → ℕ → Type 0
IsBeyondLocal problem T = (N : ℕ) × ((more : ℕ) → N ≤ more → SolvableLocal problem more T → ⊥)

-- with C ^ (T + 1) identifiers or more no local algorithm of T rounds solves the problem: with N, T rounds are enough only where T + 1 > log_C N
abbrev pub IsBeyondPower : Problem → ℕ → ℕ → Type 0
IsBeyondPower problem C T = (N : ℕ) → C ^ (T + 1) ≤ N → SolvableLocal problem N T → ⊥

-- so it is for the relaxation of sinkless orientation, for any number of rounds
abbrev pub SinklessUniqueLaw : Type 0
SinklessUniqueLaw = (T : ℕ) → IsBeyondPower relaxed_sinkless (identifier_base 3 2 2) T

-- after k lower steps to a problem of at most n labels that isn't zero no local algorithm of T ≤ k rounds solves the first one with C^(T + 1)
-- identifiers or more
abbrev pub WholeBoundLaw : Type 0
WholeBoundLaw = (first last : Problem) (k n T : ℕ) → IsProblem first → IsLowerChain first k last → (Zero last → ⊥) → last.labels ≤ n →
    T ≤ k → IsBeyondPower first (virtual_base first.active.degree first.passive.degree n) T
