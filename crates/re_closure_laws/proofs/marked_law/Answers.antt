use Rattle.re_closure_laws.proofs.Marks.{marked_law as law}
use Rattle.re_closure_laws.proofs.marked_law.Goals as goal

pub returns : goal.returns
returns c = law
