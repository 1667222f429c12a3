use Rattle.re_local.proofs.IdentifierInputs.{IsInput-identifiers}
use Rattle.re_local.proofs.identifiers_input_law.Goals as goal

pub returns : goal.returns
returns c = IsInput-identifiers
