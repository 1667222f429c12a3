use Rattle.std.proofs.Common.{◌*◌, ap, inl}
use Rattle.std.proofs.lemmas.Result.{IfOk-weaker}
use Rattle.re_settle.proofs.never.near_way.Goals as goal

pub relaxed_way-requires-clause-tried : goal.relaxed_way-requires-clause-tried
relaxed_way-requires-clause-tried c = inl (ap (λ n. 16 * n) c.from-nodes.ensures)

pub returns-in-None-clause-none : goal.returns-in-None-clause-none
returns-in-None-clause-none c = IfOk-weaker c.relaxed_way.result _ _ (λ found shown none. c.in_ok-way.ensures.none c.in-None.is) c.relaxed_way.ensures
