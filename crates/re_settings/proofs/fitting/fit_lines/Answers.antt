use Rattle.std.proofs.Common.{ap, arith, length}
use Rattle.re_texts.proofs.PrintLemmas.{meanings_done, meanings_step}
use Rattle.re_settings.specs.Walks.{fit_line}
use Rattle.re_settings.proofs.fitting.fit_lines.Goals as goal

pub loop-label-preserved : goal.loop-label-preserved
loop-label-preserved c =
    meanings_step (fit_line c.args.problem.now c.args.input.now c.args.sets.now) (length c.args.sets.now) c.loop-label.label c.loop-label.text.items c.push_fit_line.new.text.items
    (omega (arith, c.loop-label-test.true, c.len-label-end.ensures.len, ap length c.names-names.ensures.names, c.requires.count)) c.loop-label.invariant c.in_ok-push_fit_line.ensures

pub returns : goal.returns
returns c =
    meanings_done (fit_line c.args.problem.now c.args.input.now c.args.sets.now) (length c.args.sets.now) c.loop-label.label c.loop-label.text.items
    (omega (arith, c.loop-label-test.false, c.len-label-end.ensures.len, ap length c.names-names.ensures.names, c.requires.count)) c.loop-label.invariant
