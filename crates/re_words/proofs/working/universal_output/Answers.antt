use Rattle.re_words.proofs.WorkingLemmas.{rows_below}
use Rattle.std.proofs.Common.{◌∙◌}
use Rattle.re_words.proofs.working.universal_output.Goals as goal

pub print_rows-requires : goal.print_rows-requires
print_rows-requires c = rows_below c.passive.result.now c.len.result _ c.as_slice.result.now c.len.ensures.len (c.as_slice.ensures.value ∙ c.in-Ok.ensures.rows)
