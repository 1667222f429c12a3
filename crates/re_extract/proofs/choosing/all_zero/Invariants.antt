use Rattle.std.proofs.Common.{◌≡◌, ℕ, map, take}
use Rattle.re_laws.specs.Extracted.{first_fit}
use Rattle.re_problem.specs.NamedProblems.{unnamed}
use Rattle.re_extract.proofs.choosing.all_zero.Given as goal

abbrev pub invariant-loop-view : goal.invariant-loop-view
invariant-loop-view l = l.answers.items ≡ map (λ (id : ℕ). first_fit (unnamed l.problem)) (take l._view-index l.views)
