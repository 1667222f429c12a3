use Rattle.std.proofs.Common.{sym, arith}
use Rattle.re_closure.proofs.rows.rows_of.Goals as goal

pub row_of-requires-clause-two : goal.row_of-requires-clause-two
row_of-requires-clause-two c =
    let count = c.requires.family.count c.line-item.result (c.loop-line.line-index, c.loop-line-test.true, sym c.line-item.is) in
    let least = c.requires.family.least in
    omega (arith, count, least)

pub row_of-requires-clause-there : goal.row_of-requires-clause-there
row_of-requires-clause-there c = λ set there. c.requires.family.known c.line-item.result set (c.loop-line.line-index, c.loop-line-test.true, sym c.line-item.is) there
