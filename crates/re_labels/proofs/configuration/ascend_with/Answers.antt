use Rattle.std.proofs.Common.{◌-◌, arith, length, refl}
use Rattle.std.proofs.lemmas.Bool.{leb-true}
use Rattle.re_labels.proofs.Sorting.{rising_with_last}
use Rattle.re_labels.proofs.configuration.ascend_with.Goals as goal

pub returns-then-are_ascending : goal.returns-then-are_ascending
returns-then-are_ascending c low = rising_with_last c.args.labels.now c.args.last (length c.args.labels.now - 1) (omega (arith, c.requires)) (c.if-are_ascending.ensures refl) (leb-true _ c.args.last low)
