use Rattle.std.proofs.Common.{refl}
use Rattle.re_texts.specs.MapTexts.State.{InMap}
use Rattle.re_texts.proofs.reading.map_line.Goals as goal

pub returns-in-Ok : goal.returns-in-Ok
returns-in-Ok c = (InMap _ _ _, c.in-Ok.ensures, (refl, refl, refl))
