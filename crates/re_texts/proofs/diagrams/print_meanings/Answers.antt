use Rattle.re_texts.proofs.PrintLemmas.{meanings_done, meanings_step}
use Rattle.re_texts.specs.SetTexts.{meaning_text}
use Rattle.std.proofs.Common.{length, arith}
use Rattle.re_texts.proofs.diagrams.print_meanings.Goals as goal

pub loop-label-preserved : goal.loop-label-preserved
loop-label-preserved c = meanings_step (meaning_text c.args.names.now c.args.names_before.now c.args.sets.now) (length c.args.sets.now) c.loop-label.label c.loop-label.text.items c.push_meaning.new.text.items
    (omega (arith, c.loop-label-test.true, c.len-label-end.ensures.len, c.requires.labels)) c.loop-label.invariant c.in_ok-push_meaning.ensures

pub returns : goal.returns
returns c = meanings_done (meaning_text c.args.names.now c.args.names_before.now c.args.sets.now) (length c.args.sets.now) c.loop-label.label c.loop-label.text.items
    (omega (arith, c.loop-label-test.false, c.len-label-end.ensures.len, c.requires.labels)) c.loop-label.invariant
