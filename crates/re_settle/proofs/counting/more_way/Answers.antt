use Rattle.std.proofs.Common.{inl, refl}
use Rattle.re_settle.proofs.counting.more_way.Goals as goal

pub few_way-requires-clause-most : goal.few_way-requires-clause-most
few_way-requires-clause-most c = inl refl
