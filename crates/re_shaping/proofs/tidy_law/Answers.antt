use Rattle.re_shaping.proofs.OrderedBounds.{order_law}
use Rattle.re_shaping.proofs.ValidOrders.{sound_order_law, valid_order_law}
use Rattle.re_shaping.proofs.tidy_law.Goals as goal

pub returns-clause-order : goal.returns-clause-order
returns-clause-order c = order_law

pub returns-clause-valid : goal.returns-clause-valid
returns-clause-valid c = valid_order_law

pub returns-clause-sound : goal.returns-clause-sound
returns-clause-sound c = sound_order_law
