use Rattle.std.proofs.Common.{List, ℕ, subst, true}
use Rattle.std.proofs.lemmas.Result.{IfOk-weaker}
use Rattle.re_forest_words.proofs.BehindSteps.{passive_showing}
use Rattle.re_forest_words.proofs.showing.greedy_here.Goals as goal
use Rattle.re_greedy.specs.Findings.{IsFinding}
use Rattle.re_greedy.specs.Greedy.{IsGreedy}
use Rattle.re_problem.specs.NamedProblems.{unnamed}

pub returns-in-NotGreedy : goal.returns-in-NotGreedy
returns-in-NotGreedy c =
    let none : (partial : List (List ℕ)) → IsGreedy (unnamed c.args.problem.now) partial → ⊥ = subst (IsFinding (unnamed c.args.problem.now)) c.in-NotGreedy.is (c.in_ok-partial.ensures) in
    IfOk-weaker c.from_passive.result _ _ (λ answer is. passive_showing (unnamed c.args.problem.now) true answer none is) c.from_passive.ensures
