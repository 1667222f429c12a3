use Rattle.std.proofs.Common.{refl}
use Rattle.certificate_rows.proofs.nets.net_of.Goals as goal

pub new-requires-clause-numbered : goal.new-requires-clause-numbered
new-requires-clause-numbered c = c.if-numbered.ensures.0 refl
