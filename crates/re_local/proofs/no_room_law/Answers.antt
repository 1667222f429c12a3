use Rattle.re_local.proofs.NoRoom.{no_room}
use Rattle.re_local.proofs.no_room_law.Goals as goal

pub returns : goal.returns
returns c = no_room
