use Rattle.std.proofs.Common.{◌≡◌}
use Rattle.std.specs.Prelude.{replicate}
use Rattle.re_labels.specs.Configs.{support_of}
use Rattle.re_why.proofs.end_witness.supports.Given as goal

abbrev pub invariant-loop-place : goal.invariant-loop-place
invariant-loop-place l = l.sets.items ≡ replicate l.«_place» (support_of l.config)
