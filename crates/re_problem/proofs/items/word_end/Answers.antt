use Rattle.std.proofs.Common.{◌∙◌, ◌+◌, ◌++◌, drop, sym, ap, arith}
use Rattle.std.specs.Prelude.{slice_range}
use Rattle.re_problem.specs.Items.{pieces}
use Rattle.re_problem.specs.ItemSteps.{first_of}
use Rattle.re_problem.proofs.Scanning.{word_goes_on}
use Rattle.re_problem.proofs.items.word_end.Goals as goal

pub bytes-preserved : goal.bytes-preserved
bytes-preserved c = record {
  from = (let ordered = c.bytes.invariant.from in omega arith);
  within = (let below = c.bytes-test.true in omega arith);
  word = c.bytes.invariant.word
      ∙ word_goes_on c.args.line.now c.args.from c.bytes.to c.bytes.inside c.bytes.invariant.from c.bytes-test.true (sym c.ends_word.ensures ∙ c.if-ends_word.false)
      ∙ ap (λ inside. slice_range c.args.line.now c.args.from (c.bytes.to + 1) ++ first_of (pieces inside (drop (c.bytes.to + 1) c.args.line.now))) (sym c.is_inside-inside.ensures);
}
