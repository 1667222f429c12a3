use Rattle.std.proofs.lemmas.Result.{IfOk-weaker}
use Rattle.re_settle.proofs.never.far_way.Goals as goal

pub returns-in-None-clause-none : goal.returns-in-None-clause-none
returns-in-None-clause-none c = IfOk-weaker c.farther_way.result _ _ (λ found shown none. c.in_ok-way.ensures.none c.in-None.is) c.farther_way.ensures
