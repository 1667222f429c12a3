use Rattle.std.proofs.Common.{◌≤◌}
use Rattle.re_labels.specs.declared.sides.Degrees.{Degrees}
use Rattle.re_labels.specs.declared.sides.Side.{Side}
use Rattle.re_labels.specs.declared.sides.Side.TheVariants.{Active, Passive}
use Rattle.re_labels.specs.Sides.{degree_of, opposite}
use Rattle.re_laws.specs.Shown.{tree_of_view}
use Rattle.re_algo.proofs.CountCode.{place_small}
use Rattle.re_algo.proofs.placing.view_place.Goals as goal

some_degree : (degrees : Degrees) (side : Side) → 1 ≤ degrees.active → 1 ≤ degrees.passive → 1 ≤ degree_of degrees side
some_degree degrees Active some some' = some
some_degree degrees Passive some some' = some'

pub returns-in-Node : goal.returns-in-Node
returns-in-Node c =
    let small = place_small (degree_of c.args.degrees c.args.side) (degree_of c.args.degrees (opposite c.args.side)) (tree_of_view c.args.view.now) c.requires.view in
    let told = rw (c.of-own.ensures, c.of-other.ensures, c.other.ensures) at c.read_children.ensures in
    rw c.in-Node.is (told (some_degree c.args.degrees c.args.side c.requires.active c.requires.passive) (some_degree c.args.degrees (opposite c.args.side) c.requires.active c.requires.passive) (rw c.in-Node.is at small))
