use Rattle.std.proofs.Common.{◌≡◌, ◌%◌, ◌^◌, take}
use Rattle.std.specs.List.{sum_by}
use Rattle.re_shaping.specs.Marks.{label_mark}
use Rattle.re_shaping.proofs.marks.config_mark.Given as goal

abbrev pub invariant-loop-label : goal.invariant-loop-label
invariant-loop-label l = l.mark ≡ sum_by label_mark (take l.label-index l.label-items) % 2 ^ 64
