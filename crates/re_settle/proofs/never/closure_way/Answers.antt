use Rattle.std.proofs.Common.{◌≤◌, arith, subst}
use Rattle.std.specs.Prelude.{IfSome}
use Rattle.re_settle.proofs.Known.{closure_known}
use Rattle.re_settle.specs.Ways.{ClosesBehind, IsUnclosed}
use Rattle.re_settle.proofs.never.closure_way.Goals as goal

pub returns-in-Some-clause-shown : goal.returns-in-Some-clause-shown
returns-in-Some-clause-shown c =
    let closes = subst (λ found. IfSome found (λ steps. ClosesBehind steps c.args.chain.now.certificate)) c.in-Some.is c.in_ok-steps.ensures.closes in
    let most = subst (λ found. IfSome found (λ steps. steps ≤ c.args.more)) c.in-Some.is c.in_ok-steps.ensures.most in
    let few = c.requires.more in
    closure_known c.args.times c.args.problem.now c.args.chain.now.certificate c.in-Some.steps c.requires.chain (omega (arith, most, few)) closes

pub returns-in-None-clause-none : goal.returns-in-None-clause-none
returns-in-None-clause-none c = λ none. subst (IsUnclosed c.args.times c.args.more) c.requires.chain (c.in_ok-steps.ensures.none c.in-None.is)
