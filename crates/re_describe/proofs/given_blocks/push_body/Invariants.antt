use Rattle.std.proofs.Common.{◌≡◌, ◌++◌, drop, map}
use Rattle.re_describe.specs.declared.given_blocks.GivenBlock.TheVariants.{Of}
use Rattle.re_describe.proofs.given_blocks.push_body.Given as goal

abbrev pub invariant-loop-block : goal.invariant-loop-block
invariant-loop-block l = l.blocks.items ++ map Of (drop l.block-index l.body) ≡ l.fn.blocks.items ++ map Of l.body
