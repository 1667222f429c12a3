use Rattle.std.proofs.Common.{subst}
use Rattle.re_bridge.specs.Bridged.{IsBridged}
use Rattle.re_relaxed.proofs.returning.bridged.Goals as goal

pub by_rows-requires : goal.by_rows-requires
by_rows-requires c = (subst (IsBridged c.args.chain.now.certificate c.args.to.now 3000) c.in-Ok-Some.field-0-is c.in-Ok-Some.ensures.bridged).3.sound
