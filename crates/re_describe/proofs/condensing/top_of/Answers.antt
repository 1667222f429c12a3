use Rattle.std.proofs.Common.{◌∙◌, sym}
use Rattle.re_describe.proofs.Covering.{none_tops, tops}
use Rattle.re_describe.proofs.condensing.top_of.Goals as goal

pub returns-then-dominates-clause-dominated : goal.returns-then-dominates-clause-dominated
returns-then-dominates-clause-dominated c = tops c.top-item.result c.args.row.now (sym c.dominates.ensures ∙ c.if-dominates.true)

pub unreachable-requires : goal.unreachable-requires
unreachable-requires c = none_tops c.args.rows.now c.args.row.now c.loop-top.top-index c.loop-top.invariant c.loop-top-test.false c.requires.some
