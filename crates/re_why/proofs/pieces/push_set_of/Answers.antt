use Rattle.std.proofs.Common.{◌∙◌, sym}
use Rattle.re_why.proofs.Named.{all-named}
use Rattle.re_why.proofs.pieces.push_set_of.Goals as goal

pub push_set-requires : goal.push_set-requires
push_set-requires c = all-named c.args.names.now c.args.set (sym c.set_named.ensures ∙ c.if-set_named.true)
