use Rattle.std.proofs.Common.{List, ℕ, ◌++◌, drop}
use Rattle.re_describe.specs.ClassReports.{SaysClass}
use Rattle.re_describe.specs.Writing.{WritesBy}
use Rattle.re_frame.specs.Outcomes.{outcome_of}
use Rattle.re_describe.proofs.class_reporting.class_markdown.Given as goal

-- whatever the blocks that are left say makes the whole, behind what is written
abbrev pub invariant-loop-block : goal.invariant-loop-block
invariant-loop-block l = (rest : List ℕ) → WritesBy (SaysClass l.bytes l.problem (outcome_of l.told)) (drop l.block-index l.blocks) rest
    → WritesBy (SaysClass l.bytes l.problem (outcome_of l.told)) l.blocks (l.text.items ++ rest)
