use Rattle.std.proofs.Common.{◌≡◌, ◌++◌, drop, map}
use Rattle.re_describe.specs.declared.labelled_blocks.LabelledBlock.TheVariants.{Of}
use Rattle.re_describe.proofs.labelled_blocks.push_of.Given as goal

abbrev pub invariant-loop-block : goal.invariant-loop-block
invariant-loop-block l = l.blocks.items ++ map Of (drop l.block-index l.others) ≡ l.fn.blocks.items ++ map Of l.others
