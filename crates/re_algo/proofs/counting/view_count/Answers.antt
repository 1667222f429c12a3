use Rattle.std.proofs.Common.{ap, sym}
use Rattle.re_labels.specs.Sides.{degree_of, opposite}
use Rattle.re_algo.proofs.Counts.{length-all_trees}
use Rattle.re_algo.specs.Counting.{listed}
use Rattle.re_algo.proofs.counting.view_count.Goals as goal

pub returns : goal.returns
returns c = rw (c.tree_count.ensures, c.of-other.ensures, c.other.ensures, c.of-own.ensures)
    (ap listed (sym (length-all_trees (degree_of c.args.degrees c.args.side) (degree_of c.args.degrees (opposite c.args.side)) c.args.radius (degree_of c.args.degrees c.args.side))))
