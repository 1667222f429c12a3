use Rattle.std.proofs.Common.{◌≡◌, ◌+◌, ◌++◌}
use Rattle.std.specs.List.{flat_map}
use Rattle.re_labels.specs.Lists.{count_from}
use Rattle.re_describe.specs.Blocks.{problem_blocks, step_blocks}
use Rattle.re_describe.proofs.blocks.body_blocks.Given as goal

abbrev pub invariant-loop-place : goal.invariant-loop-place
invariant-loop-place l = l.blocks.items ≡ problem_blocks 0 ++ flat_map (λ place. step_blocks l.verdict (place + 1)) (count_from 0 l.place)
