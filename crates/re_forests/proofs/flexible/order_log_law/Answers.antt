use Rattle.re_forests.proofs.OrderLog.{order_log}
use Rattle.re_forests.proofs.flexible.order_log_law.Goals as goal
use Rattle.re_layers.proofs.Colours.{colours_law}
use Rattle.re_layers.proofs.Layering.{layers}

pub returns : goal.returns
returns c = order_log (layers colours_law)
