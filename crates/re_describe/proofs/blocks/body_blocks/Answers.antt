use Rattle.re_describe.proofs.Growing.{counted_next}
use Rattle.re_describe.specs.Blocks.{problem_blocks, step_blocks}
use Rattle.std.proofs.Common.{◌+◌}
use Rattle.re_describe.proofs.blocks.body_blocks.Goals as goal

pub loop-place-preserved : goal.loop-place-preserved
loop-place-preserved c =
    counted_next (problem_blocks 0) (λ place. step_blocks c.args.verdict (place + 1)) c.loop-place.place c.loop-place.blocks.items c.push_step.new.blocks.items
    c.loop-place.invariant c.in_ok-push_step.ensures
