-- What comes of a part of evidence: what it says of which problem, or a refusal.
use Rattle.std.specs.Prelude.{◌≡◌}
use Rattle.re_frame.specs.Outcomes.{Outcome, outcome_of}
use Rattle.re_judging.specs.Facts.{FactHolds}
use Rattle.re_judging.specs.declared.types.Fact.{Fact}
use Rattle.re_judging.specs.declared.types.Judged.{Judged}
use Rattle.re_judging.specs.declared.types.Judged.TheVariants.{Holds, Refused}
use Rattle.re_problem.specs.NamedProblems.{NamedProblem, unnamed}
use Rattle.re_problem.specs.Problems.{IsProblem}

-- this problem, and this fact
abbrev pub Says : NamedProblem → Fact → Judged → Type 0
Says problem fact (Holds part) = (part.problem ≡ problem) × (part.fact ≡ fact)
Says problem fact (Refused output) = ⊥

-- this refusal
abbrev pub IsRefusedWith : Outcome → Judged → Type 0
IsRefusedWith outcome (Holds part) = ⊥
IsRefusedWith outcome (Refused output) = outcome_of output ≡ outcome

-- what is said is true
abbrev pub PartMeans : Judged → Type 0
PartMeans (Holds part) = IsProblem (unnamed part.problem) × FactHolds part.fact (unnamed part.problem)
PartMeans (Refused output) = Unit {0}
