use Rattle.re_shaping.proofs.RowForms.{by_rows_holds}
use Rattle.re_shaping.proofs.step_laws.by_rows_law.Goals as goal

pub returns : goal.returns
returns c = by_rows_holds
