use Rattle.re_closure.proofs.DiagramOrders.{order_law as law}
use Rattle.re_closure.proofs.order_law.Goals as goal

pub returns : goal.returns
returns c = law
