use Rattle.re_chains.proofs.ProblemLines.{section_broken, section_whole}
use Rattle.re_chains.proofs.reading.section_fault.Goals as goal

pub returns-in-Err : goal.returns-in-Err
returns-in-Err c = section_broken c.args.reader c.args.number c.in-Err.fault c.in-Err.ensures

pub returns : goal.returns
returns c = section_whole c.args.reader c.args.number c.in-Ok.field-0 c.in-Ok.ensures
