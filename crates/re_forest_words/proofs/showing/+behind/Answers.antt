use Rattle.std.proofs.Common.{◌≡◌, ◌-◌, ◌∙◌, arith, false, subst, true}
use Rattle.std.specs.Prelude.{IsTrue}
use Rattle.std.proofs.lemmas.Result.{IfOk-weaker}
use Rattle.re_forest_words.proofs.BehindSteps.{derived_showing, next_showing}
use Rattle.re_forest_words.proofs.showing.+behind.Goals as goal
use Rattle.re_forest_words.proofs.showing.+behind.Goals.{greedy_behind-in-NotGreedy, greedy_behind-in-Unknown}
use Rattle.re_forest_words.specs.Showings.{IsNowhereGreedy, IsShowing}
use Rattle.re_problem.specs.NamedProblems.{unnamed}
use Rattle.re_step.specs.Derivations.{named_derived}

pub greedy_behind-returns : goal.greedy_behind-returns
greedy_behind-returns t c =
    let here : IsTrue c.match-branch-2.known → IsNowhereGreedy (unnamed c.args.problem.now) 0 = elim c.match-branch-2.branch [
      | greedy_behind-in-NotGreedy w ↦ (λ held. subst (IsShowing (unnamed c.args.problem.now) 0) w.in-NotGreedy.is (c.in_ok-shown.ensures))
      | greedy_behind-in-Unknown w ↦ (λ held. (let one : c.match-branch-2.known ≡ true = held in let other : c.match-branch-2.known ≡ false = w.known-is in absurd (cc)))
    ] in
    IfOk-weaker c.greedy_next.result _ _
    (λ answer is. next_showing (unnamed c.args.problem.now) (c.args.most - 1) c.args.most c.match-branch-2.known answer (omega (arith, c.if-most-eq0.false)) here is) c.greedy_next.ensures

pub greedy_next-returns-in_ok-greedy_behind-in-Ok : goal.greedy_next-returns-in_ok-greedy_behind-in-Ok
greedy_next-returns-in_ok-greedy_behind-in-Ok t c =
    let e : c.derived.inside.problem ≡ named_derived (unnamed c.args.problem.now) = (λ i. (c.derived.view_is i).problem) ∙ (λ i. (c.in-Ok.ensures.derived i).problem) in
    c.one_more.ensures (unnamed c.args.problem.now) c.args.more
    (derived_showing (unnamed c.args.problem.now) c.args.more c.derived.inside.problem c.in_ok-greedy_behind-in-Ok.field-0 e (c.in_ok-greedy_behind-in-Ok.ensures))
