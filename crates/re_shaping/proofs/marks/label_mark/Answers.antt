use Rattle.re_shaping.specs.Marks.{label_mark}
use Rattle.re_shaping.proofs.marks.label_mark.Goals as goal

pub returns : goal.returns
unfolding label_mark
returns c = c.mixed.ensures
