use Rattle.re_local.proofs.UnavoidableIdentifiers.{identifiers_unavoidable}
use Rattle.re_local.proofs.identifiers_law.Goals as goal

pub returns : goal.returns
returns c = identifiers_unavoidable
