use Rattle.re_closure.proofs.RaisedProblems.{raised_law as law}
use Rattle.re_closure.proofs.raised_law.Goals as goal

pub returns : goal.returns
returns c = law
