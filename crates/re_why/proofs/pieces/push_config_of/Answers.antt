use Rattle.std.proofs.Common.{◌∙◌, ap, sym}
use Rattle.re_why.proofs.Named.{all-named}
use Rattle.re_why.specs.WitnessTexts.{are_named}
use Rattle.re_why.proofs.pieces.push_config_of.Goals as goal

pub push_config-requires : goal.push_config-requires
push_config-requires c = all-named c.args.names.now c.args.config.now (ap (are_named c.args.names.now) (sym c.labels.ensures.labels) ∙ sym c.are_named.ensures ∙ c.if-are_named.true)
