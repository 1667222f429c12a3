use Rattle.std.proofs.Common.{subst}
use Rattle.std.proofs.lemmas.Result.{IfOk-weaker}
use Rattle.std.specs.Prelude.{IfSome}
use Rattle.re_settle.proofs.Local.{fixed_never}
use Rattle.re_settle.specs.Ways.{IsFixedPoint}
use Rattle.re_settle.proofs.never.soon_way.Goals as goal

pub returns-in-Some-2-clause-shown : goal.returns-in-Some-2-clause-shown
returns-in-Some-2-clause-shown c =
    fixed_never c.args.times c.args.problem.now c.in-Some-2.way (subst (λ found. IfSome found (IsFixedPoint c.args.times c.args.problem.now)) c.in-Some-2.is c.in_ok-way-2.ensures.shown)

pub returns-in-None-clause-none : goal.returns-in-None-clause-none
returns-in-None-clause-none c = IfOk-weaker c.cover_way-in-None.result _ _ (λ found shown none. c.in_ok-way-2.ensures.none c.in-None.is) c.cover_way-in-None.ensures
