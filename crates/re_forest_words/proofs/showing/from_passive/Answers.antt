use Rattle.std.proofs.Common.{List, ℕ, subst}
use Rattle.re_forest_words.proofs.BehindSteps.{none_passive}
use Rattle.re_forest_words.proofs.showing.from_passive.Goals as goal
use Rattle.re_greedy.specs.Findings.{IsFinding}
use Rattle.re_greedy.specs.Greedy.{IsGreedy}
use Rattle.re_problem.specs.NamedProblems.{unnamed}

pub returns-in-NotGreedy : goal.returns-in-NotGreedy
returns-in-NotGreedy c =
    let none : (partial : List (List ℕ)) → IsGreedy (unnamed c.in_ok-problem.problem) partial → ⊥ = subst (IsFinding (unnamed c.in_ok-problem.problem)) c.in-NotGreedy.is (c.in_ok-partial.ensures) in
    none_passive (unnamed c.args.problem.now) c.args.known c.none_if.result c.none_if.ensures (subst (λ p. (partial : List (List ℕ)) → IsGreedy (unnamed p) partial → ⊥) (c.in_ok-problem.ensures) none)
