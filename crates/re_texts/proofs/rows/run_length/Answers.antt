use Rattle.std.proofs.Common.{get_or, arith}
use Rattle.re_problem.proofs.Runs.{run_ends, run_goes_on}
use Rattle.re_texts.proofs.rows.run_length.Goals as goal
use Rattle.re_texts.proofs.rows.run_length.Goals.{then-run-test+else-numbers-end, else-run-test}

pub run-preserved : goal.run-preserved
run-preserved c = record {
  begun = (let begun = c.run.invariant.begun in omega arith);
  within = (let below = c.run-test.true in omega arith);
  runs = run_goes_on c.args.numbers.now c.args.at c.run.end (get_or c.args.numbers.now c.args.at 0) (let begun = c.run.invariant.begun in omega arith) c.run-test.true c.if-numbers-end.true c.run.invariant.runs;
}

pub returns-clause-runs : goal.returns-clause-runs
returns-clause-runs c = run_ends c.args.numbers.now c.args.at c.run.end (get_or c.args.numbers.now c.args.at 0) c.run.invariant.begun
    (elim c.run-test.branch [
      | then-run-test+else-numbers-end w ↦ λ below. w.if-numbers-end.false
      | else-run-test w ↦ λ below. absurd (let past = w.run-test.false in omega arith)
    ]) c.run.invariant.runs
