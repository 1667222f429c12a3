use Rattle.re_changes.proofs.MergedLabels.{merged_law as law}
use Rattle.re_changes.proofs.diagram_laws.merged_law.Goals as goal

pub returns : goal.returns
returns c = law
