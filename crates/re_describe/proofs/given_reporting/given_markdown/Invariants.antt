use Rattle.std.proofs.Common.{List, ℕ, ◌++◌, drop}
use Rattle.re_describe.specs.GivenReports.{WritesGiven}
use Rattle.re_describe.proofs.given_reporting.given_markdown.Given as goal

-- whatever the blocks that are left say makes the whole, behind what is written
abbrev pub invariant-loop-block : goal.invariant-loop-block
invariant-loop-block l = (rest : List ℕ) → WritesGiven l.input l.bound (drop l.block-index l.blocks) rest → WritesGiven l.input l.bound l.blocks (l.text.items ++ rest)
