use Rattle.std.proofs.Common.{◌∙◌, arith}
use Rattle.re_problem.proofs.Scanning.{name_goes_on}
use Rattle.re_problem.proofs.labels.name_end.Goals as goal

pub name-preserved : goal.name-preserved
name-preserved c = record {
  from = (let ordered = c.name.invariant.from in omega arith);
  within = (let below = c.name-test.true in omega arith);
  name = c.name.invariant.name ∙ name_goes_on c.args.text.now c.args.from c.name.to c.name.invariant.from c.name-test.true c.if-text-to-ne41.true;
}
