use Rattle.std.proofs.Common.{◌∙◌, ap, sym}
use Rattle.re_why.proofs.Named.{all-sets}
use Rattle.re_why.specs.WitnessTexts.{sets_named}
use Rattle.re_why.proofs.pieces.push_row_of.Goals as goal

pub push_row-requires : goal.push_row-requires
push_row-requires c = all-sets c.args.names.now c.args.row.now (ap (sets_named c.args.names.now) (sym c.sets.ensures.sets) ∙ sym c.sets_named.ensures ∙ c.if-sets_named.true)
