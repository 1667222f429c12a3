use Rattle.std.proofs.Common.{inr, refl}
use Rattle.re_settle.proofs.counting.further_way.Goals as goal

pub few_way-requires-clause-most : goal.few_way-requires-clause-most
few_way-requires-clause-most c = inr refl
