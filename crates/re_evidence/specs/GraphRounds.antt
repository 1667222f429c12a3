-- What verdicts and claims say in rounds of the graph whose edges the passive nodes are.
use Rattle.std.specs.Prelude.{ℕ, ◌*◌, ◌<◌, ◌≤◌}
use Rattle.re_cert.specs.declared.certificate.Kind.TheVariants.{Fixed, Lower, Upper}
use Rattle.re_check.specs.Verdicts.{Means}
use Rattle.re_check.specs.declared.verdict.Verdict.TheVariants.{Accepted, Refused}
use Rattle.re_check.specs.declared.verdict.Verdict.{Verdict}
use Rattle.re_evidence.specs.Claims.{HoldsIn}
use Rattle.re_evidence.specs.declared.types.Claim.TheVariants.{AtMost, Between, Exactly, MoreThan, Never}
use Rattle.re_evidence.specs.declared.types.Claim.{Claim}
use Rattle.re_settings.specs.Settings.{IsSettingOf, SolvableIn}
use Rattle.re_settings.specs.declared.setting.Setting.{Setting}
use Rattle.re_laws.specs.Rounds.{GraphSolvable, rounds_above, rounds_below}
use Rattle.re_problem.specs.Problems.{Problem}

-- what a verdict says of the first problem in rounds of the graph
abbrev pub GraphMeans : Verdict → Problem → Type 0
GraphMeans (Accepted Lower steps) problem = (rounds : ℕ) → rounds ≤ rounds_below steps → GraphSolvable problem rounds → ⊥
GraphMeans (Accepted Upper steps) problem = GraphSolvable problem (rounds_above steps)
GraphMeans (Accepted Fixed steps) problem = (rounds : ℕ) → GraphSolvable problem rounds → ⊥
GraphMeans (Refused step clause) problem = Unit {0}

-- what a verdict says in hops gives what it says in rounds of the graph
abbrev pub GraphLaw : Type 0
GraphLaw = (verdict : Verdict) (problem : Problem) → Means verdict problem → GraphMeans verdict problem

-- ---- claims
-- some algorithm of so many rounds of the graph solves the problem in a setting
abbrev pub GraphSolvableIn : Setting → Problem → ℕ → Type 0
GraphSolvableIn setting problem rounds = SolvableIn setting problem (2 * rounds)

-- what a claim says in rounds of the graph
abbrev pub HoldsByGraph : Setting → Claim → Problem → Type 0
HoldsByGraph setting (Exactly k) problem =
    GraphSolvableIn setting problem (rounds_above k) × ((r : ℕ) → r < rounds_above k → GraphSolvableIn setting problem r → ⊥)
HoldsByGraph setting Never problem = (r : ℕ) → GraphSolvableIn setting problem r → ⊥
HoldsByGraph setting (MoreThan k) problem = (r : ℕ) → r ≤ rounds_below k → GraphSolvableIn setting problem r → ⊥
HoldsByGraph setting (AtMost m) problem = GraphSolvableIn setting problem (rounds_above m)
HoldsByGraph setting (Between k m) problem =
    ((r : ℕ) → r ≤ rounds_below k → GraphSolvableIn setting problem r → ⊥) × GraphSolvableIn setting problem (rounds_above m)

-- a claim in hops says so in rounds of the graph, alone and given an input problem
abbrev pub GraphRoundsLaw : Type 0
GraphRoundsLaw = (setting : Setting) (claim : Claim) (problem : Problem) → IsSettingOf problem setting → HoldsIn setting claim problem → HoldsByGraph setting claim problem
