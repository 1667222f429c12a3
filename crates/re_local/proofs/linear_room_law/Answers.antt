use Rattle.re_local.proofs.NoRoom.{linear_room}
use Rattle.re_local.proofs.linear_room_law.Goals as goal

pub returns : goal.returns
returns c = linear_room
