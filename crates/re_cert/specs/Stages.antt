-- The steps of an upper bound as they give its algorithm.
use Rattle.std.specs.Prelude.{ℕ, List, map}
use Rattle.re_problem.specs.NamedProblems.{unnamed}
use Rattle.re_problem.specs.Problems.{Problem}
use Rattle.re_problem.specs.Steps.{set_for}
use Rattle.re_cert.specs.Bounds.{BoundStep, entries_in}

-- for each step the next problem without its names, and the set of each of its labels
abbrev pub stages_of : List BoundStep → List (Problem × (ℕ → List ℕ))
stages_of steps = map (λ (s : BoundStep). (unnamed s.next, set_for (entries_in s.map))) steps
