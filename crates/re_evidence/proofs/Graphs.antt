-- Two hops are one round of the graph.
use Rattle.std.proofs.Common.{ℕ, ◌*◌, ◌<◌, ◌≤◌, arith}
use Rattle.re_evidence.proofs.VerdictRounds.{solvable_above, twice_below}
use Rattle.re_laws.specs.Rounds.{rounds_above}
use Rattle.re_given.proofs.ChainGiven.{SolvableGiven-up}
use Rattle.re_settings.specs.Settings.{IsSettingOf, SolvableIn}
use Rattle.re_settings.specs.declared.setting.Setting.{Setting}
use Rattle.re_settings.specs.declared.setting.Setting.TheVariants.{Alone, Given}
use Rattle.re_problem.specs.NamedProblems.{unnamed}
use Rattle.re_problem.specs.Problems.{Problem}
use Rattle.re_evidence.specs.GraphRounds.{GraphRoundsLaw, GraphSolvableIn}
use Rattle.re_evidence.specs.declared.types.Claim.TheVariants.{AtMost, Between, Exactly, MoreThan, Never}

twice_under : (k r : ℕ) → r < rounds_above k → 2 * r < k
twice_under k r few = omega arith

twice_enough : (m : ℕ) → m ≤ 2 * rounds_above m
twice_enough m = omega arith

above_in : (setting : Setting) (problem : Problem) (m : ℕ) → IsSettingOf problem setting → SolvableIn setting problem m → GraphSolvableIn setting problem (rounds_above m)
above_in Alone problem m beside solvable = solvable_above problem m solvable
above_in (Given input) problem m beside solvable = SolvableGiven-up problem (unnamed input) m (2 * rounds_above m) beside (twice_enough m) solvable

pub graph_rounds : GraphRoundsLaw
graph_rounds setting (Exactly k) problem beside (solvable, fewer) = (above_in setting problem k beside solvable, λ r few. fewer (2 * r) (twice_under k r few))
graph_rounds setting Never problem beside none = λ r. none (2 * r)
graph_rounds setting (MoreThan k) problem beside none = λ r few. none (2 * r) (twice_below k r few)
graph_rounds setting (AtMost m) problem beside solvable = above_in setting problem m beside solvable
graph_rounds setting (Between k m) problem beside (none, solvable) = (λ r few. none (2 * r) (twice_below k r few), above_in setting problem m beside solvable)
