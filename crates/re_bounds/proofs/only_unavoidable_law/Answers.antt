use Rattle.re_bounds.proofs.OnlyUnavoidable.{only_unavoidable}
use Rattle.re_bounds.proofs.only_unavoidable_law.Goals as goal

pub returns : goal.returns
returns c = only_unavoidable
