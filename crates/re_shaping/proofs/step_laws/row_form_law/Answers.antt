use Rattle.re_shaping.proofs.RowForms.{row_form_holds}
use Rattle.re_shaping.proofs.step_laws.row_form_law.Goals as goal

pub returns : goal.returns
returns c = row_form_holds
