use Rattle.re_local.proofs.VirtualUnavoided.{virtual_unavoidable}
use Rattle.re_local.proofs.virtual_unavoidable_law.Goals as goal

pub returns : goal.returns
returns c = virtual_unavoidable
