use Rattle.re_inputs.proofs.NamedProofs.{named_built}
use Rattle.re_inputs.proofs.making.problem_of.Goals as goal

pub unreachable-requires : goal.unreachable-requires
unreachable-requires c =
    let whole = named_built c.args.names c.args.active c.args.passive c.requires in
    absurd (cc (whole, c.in-None.is, c.build.ensures))

pub returns : goal.returns
returns c =
    let whole = named_built c.args.names c.args.active c.args.passive c.requires in
    cc (whole, c.in-Some.is, c.build.ensures)
