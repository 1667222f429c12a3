use Rattle.re_local.proofs.NoRoom.{logarithmic_room}
use Rattle.re_local.proofs.logarithmic_room_law.Goals as goal

pub returns : goal.returns
returns c = logarithmic_room
