use Rattle.re_given_bounds.proofs.LocalMeaning.{unique_identifiers}
use Rattle.re_given_bounds.proofs.unique_identifiers_law.Goals as goal

pub returns : goal.returns
returns c = unique_identifiers
