use Rattle.std.proofs.Common.{[]}
use Rattle.re_check.proofs.row_maps.labels_over.Goals as goal

pub returns : goal.returns
returns c = c.over_rows.ensures [] c.empty.ensures
