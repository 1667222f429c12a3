use Rattle.std.proofs.Common.{List, ℕ, ◌++◌, drop}
use Rattle.re_describe.specs.GraphReports.{WritesGraph}
use Rattle.re_describe.proofs.graph_reporting.graph_markdown.Given as goal

-- whatever the blocks that are left say makes the whole, behind what is written
abbrev pub invariant-loop-block : goal.invariant-loop-block
invariant-loop-block l = (rest : List ℕ) → WritesGraph l.problem l.graph (drop l.block-index l.blocks) rest → WritesGraph l.problem l.graph l.blocks (l.text.items ++ rest)
