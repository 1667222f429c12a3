use Rattle.std.proofs.Common.{List, ℕ, ◌++◌, drop}
use Rattle.re_describe.specs.LabelledReports.{WritesLabelled}
use Rattle.re_describe.proofs.labelled_reporting.labelled_markdown.Given as goal

-- whatever the blocks that are left say makes the whole, behind what is written
abbrev pub invariant-loop-block : goal.invariant-loop-block
invariant-loop-block l = (rest : List ℕ) → WritesLabelled (record { given = l.given; labels = l.labels }) (drop l.block-index l.blocks) rest → WritesLabelled (record { given = l.given; labels = l.labels }) l.blocks (l.text.items ++ rest)
