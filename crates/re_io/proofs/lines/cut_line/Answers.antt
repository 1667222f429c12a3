use Rattle.re_io.proofs.LinePieces.{first_cut, last_cut}
use Rattle.re_io.proofs.lines.cut_line.Goals as goal

pub returns-in-Some-clause-first : goal.returns-in-Some-clause-first
returns-in-Some-clause-first c = first_cut c.args.text.now c.in-Some.at c.in-Some.ensures.place

pub returns-in-None-clause-first : goal.returns-in-None-clause-first
returns-in-None-clause-first c = last_cut c.args.text.now c.requires c.in-None.ensures.place
