use Rattle.std.proofs.Common.{◌≡◌, arith, false, true}
use Rattle.re_shaping.proofs.NewNames.{name-there}
use Rattle.re_shaping.proofs.naming.name_numbers.Goals as goal

pub unreachable-requires : goal.unreachable-requires
unreachable-requires c =
    let wrong : false ≡ true = c.in-None.ensures.held.1 (name-there c.args.names.now c.args.renamed.now c.args.label c.args.name.now c.name_with.result c.loop-other.other (omega (arith, c.len-other-end.ensures.len, c.loop-other-test.true)) c.name_with.ensures c.requires.renamed) in
    cc
