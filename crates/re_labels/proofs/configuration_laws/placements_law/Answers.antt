use Rattle.re_labels.proofs.LawsOfRows.{placements_law as law}
use Rattle.re_labels.proofs.configuration_laws.placements_law.Goals as goal

pub returns : goal.returns
returns c = law
