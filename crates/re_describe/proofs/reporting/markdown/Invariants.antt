use Rattle.std.proofs.Common.{List, ℕ, ◌++◌, drop}
use Rattle.re_describe.specs.Reports.{Writes}
use Rattle.re_describe.proofs.reporting.markdown.Given as goal

-- whatever the blocks that are left say makes the whole, behind what is written
abbrev pub invariant-loop-block : goal.invariant-loop-block
invariant-loop-block l = (rest : List ℕ) → Writes l.certificate (drop l.block-index l.blocks) rest → Writes l.certificate l.blocks (l.text.items ++ rest)
