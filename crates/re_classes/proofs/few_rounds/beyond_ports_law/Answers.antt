use Rattle.re_classes.proofs.Gap.{beyond_ports}
use Rattle.re_classes.proofs.few_rounds.beyond_ports_law.Goals as goal

pub returns : goal.returns
returns c = beyond_ports
