use Rattle.re_laws.proofs.ExtractedRounds.{extracted_solves}
use Rattle.re_laws.proofs.bound_laws.extract_law.Goals as goal

pub returns : goal.returns
returns c = extracted_solves
