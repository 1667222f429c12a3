use Rattle.re_changes.proofs.TrimmedProblems.{trimmed_law as law}
use Rattle.re_changes.proofs.diagram_laws.trimmed_law.Goals as goal

pub returns : goal.returns
returns c = law
