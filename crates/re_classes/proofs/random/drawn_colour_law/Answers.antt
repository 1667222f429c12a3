use Rattle.re_classes.proofs.DrawnColours.{drawn_colour}
use Rattle.re_classes.proofs.random.drawn_colour_law.Goals as goal

pub returns : goal.returns
returns c = drawn_colour
