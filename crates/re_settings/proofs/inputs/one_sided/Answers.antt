use Rattle.std.proofs.Common.{◌∙◌, sym, ap, arith, length}
use Rattle.re_problem.proofs.FirstFound.{label-here, label-none}
use Rattle.re_settings.proofs.Judged.{occurs-is, sided-test}
use Rattle.re_settings.specs.InputProblems.{is_one_sided}
use Rattle.re_settings.proofs.inputs.one_sided.Goals as goal

pub returns-then-is_in_one : goal.returns-then-is_in_one
returns-then-is_in_one c =
    sym (label-here (is_one_sided c.args.input.now) (length c.args.input.now.names) c.loop-label.label (omega (arith, c.loop-label-test.true, c.len-label-end.ensures.len, ap length c.names.ensures.names)) c.loop-label.invariant
    (sym (sided-test c.args.input.now c.labels-active.result c.labels-passive.result c.loop-label.label c.is_in_one.result
    (occurs-is c.active.result.now c.args.input.now.active c.labels-active.result c.loop-label.label c.active.ensures.active (c.labels-active.ensures c.loop-label.label))
    (occurs-is c.passive.result.now c.args.input.now.passive c.labels-passive.result c.loop-label.label c.passive.ensures.passive (c.labels-passive.ensures c.loop-label.label)) c.is_in_one.ensures) ∙ c.if-is_in_one.true))

pub returns : goal.returns
returns c =
    sym (label-none (is_one_sided c.args.input.now) (length c.args.input.now.names) (λ k l. c.loop-label.invariant k (omega (arith, l, c.loop-label-test.false, c.len-label-end.ensures.len, ap length c.names.ensures.names))))
