use Rattle.re_changes.proofs.KeptRounds.{trim_rounds_law as law}
use Rattle.re_changes.proofs.diagram_laws.trim_rounds_law.Goals as goal

pub returns : goal.returns
returns c = law
