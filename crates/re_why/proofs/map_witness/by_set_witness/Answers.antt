use Rattle.std.proofs.Common.{sym}
use Rattle.re_why.proofs.Giving.{unordered-rising}
use Rattle.re_why.proofs.Maps.{ascends}
use Rattle.re_why.specs.Finding.{sets_ascend}
use Rattle.re_why.proofs.map_witness.by_set_witness.Goals as goal

pub ordered_witness-requires : goal.ordered_witness-requires
ordered_witness-requires c = ascends c.args.rows.now c.args.entries.now c.args.entries.now (unordered-rising sets_ascend 0 c.args.entries.now (sym c.in-None.ensures))
