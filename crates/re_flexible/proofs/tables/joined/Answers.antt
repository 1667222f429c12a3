use Rattle.std.proofs.Common.{◌∙◌, sym}
use Rattle.re_flexible.proofs.Building.{joined_has, joined_not}
use Rattle.re_flexible.proofs.tables.joined.Goals as goal

pub returns-then-has : goal.returns-then-has
returns-then-has c = joined_has c.args.own c.args.more c.union.result c.args.label (sym c.has.ensures ∙ c.if-has.true) c.union.ensures

pub returns : goal.returns
returns c = joined_not c.args.own c.args.more c.args.label (sym c.has.ensures ∙ c.if-has.false)
