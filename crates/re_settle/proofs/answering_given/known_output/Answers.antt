use Rattle.std.proofs.Common.{inl, subst}
use Rattle.std.proofs.lemmas.Result.{IfOk-weaker}
use Rattle.std.specs.Prelude.{IfSome}
use Rattle.re_settle.specs.GivenWays.{IsSettledGiven}
use Rattle.re_settle.proofs.answering_given.known_output.Goals as goal

pub returns-in-Some : goal.returns-in-Some
returns-in-Some c =
    let known = subst (λ found. IfSome found (IsSettledGiven c.args.times c.args.problem.now c.args.input.now)) c.in-Some.is c.in_ok-settled.ensures.settled in
    IfOk-weaker c.settled_output.result _ _ (λ output e. inl (record { settled = c.in-Some.settled; lines = e; known = known })) c.settled_output.ensures
