-- Items without their places and labels.
use Rattle.re_problem.specs.Items.{ItemText}
use Rattle.re_problem.specs.ItemSteps.{is_nil}
use Rattle.re_problem.specs.declared.items.Shape.{Shape}

abbrev pub shape_of : ItemText → Shape
shape_of item = record { group = item.group; empty = is_nil item.names; power = item.power }
