use Rattle.std.proofs.Common.{subst, sym}
use Rattle.std.specs.Prelude.{IfOk}
use Rattle.re_describe.specs.DescribeWords.{ReportsHeld}
use Rattle.re_frame.specs.Outcomes.{outcome_of}
use Rattle.re_judging.specs.declared.types.Judged.{Judged}
use Rattle.re_describe.proofs.class_answering.held_output.Goals as goal

pub returns : goal.returns
returns c =
    subst (λ (j : Judged). IfOk c.class_output.result (λ output. ReportsHeld c.args.form c.args.text.now (outcome_of c.args.told.now) j (outcome_of output))) (sym c.in-Holds.is) c.class_output.ensures
