use Rattle.re_changes.proofs.DiagramFacts.{edge_law as law}
use Rattle.re_changes.proofs.diagram_laws.edge_law.Goals as goal

pub returns : goal.returns
returns c = law
