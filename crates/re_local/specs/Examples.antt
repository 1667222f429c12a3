-- A worked problem.
use Rattle.std.specs.Prelude.{ℕ, ◌<◌}
use Rattle.re_local.specs.Identifiers.{IdHypergraph}
use Rattle.re_local.specs.LocalAlgorithms.{SolvableLocal}
use Rattle.re_local.specs.Separating.{Separates}
use Rattle.re_problem.specs.Examples.{relaxed_sinkless}

-- no local algorithm of as many rounds as there is a hypergraph of identifiers for solves the relaxation of sinkless orientation; none of 0 rounds
-- does with more than 8 identifiers
abbrev pub SinklessLocalLaw : Type 0
SinklessLocalLaw =
    ((N T : ℕ) (hyper : IdHypergraph) → Separates 3 2 N 2 T hyper → SolvableLocal relaxed_sinkless N T → ⊥)
    × ((N : ℕ) → 8 < N → SolvableLocal relaxed_sinkless N 0 → ⊥)
