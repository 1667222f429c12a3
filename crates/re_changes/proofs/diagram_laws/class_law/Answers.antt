use Rattle.re_changes.proofs.DiagramFacts.{class_law as law}
use Rattle.re_changes.proofs.diagram_laws.class_law.Goals as goal

pub returns : goal.returns
returns c = law
