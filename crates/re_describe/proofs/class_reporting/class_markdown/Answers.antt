use Rattle.std.proofs.Common.{drop, get_or, ap, ◌∙◌, ◌+◌, ◌++◌}
use Rattle.std.proofs.lemmas.List.{drop_all}
use Rattle.re_describe.proofs.Growing.{drop_next, written_all, written_next}
use Rattle.re_describe.specs.ClassReports.{SaysClass}
use Rattle.re_describe.specs.declared.class_blocks.ClassBlock.TheVariants.{Title}
use Rattle.re_frame.specs.Outcomes.{outcome_of}
use Rattle.re_describe.proofs.class_reporting.class_markdown.Goals as goal

pub loop-block-preserved : goal.loop-block-preserved
loop-block-preserved c = λ rest writes.
    written_next (SaysClass c.args.bytes.now c.args.problem.now (outcome_of c.args.told.now)) c.args.blocks.now (drop c.loop-block.block-index c.args.blocks.now) (drop (c.loop-block.block-index + 1) c.args.blocks.now)
    (get_or c.args.blocks.now c.loop-block.block-index Title) c.loop-block.text.items c.in_ok-words.words.items c.extend_from_slice.new.self.items
    c.loop-block.invariant (drop_next c.args.blocks.now c.loop-block.block-index Title c.loop-block-test.true) c.in_ok-words.ensures
    (c.in_ok-extend_from_slice.ensures.items ∙ ap (λ w. c.loop-block.text.items ++ w) c.as_slice.ensures.value) rest writes

pub returns : goal.returns
returns c = written_all (SaysClass c.args.bytes.now c.args.problem.now (outcome_of c.args.told.now)) c.args.blocks.now (drop c.loop-block.block-index c.args.blocks.now) c.loop-block.text.items c.loop-block.invariant
    (drop_all c.loop-block.block-index c.args.blocks.now c.loop-block-test.false)
