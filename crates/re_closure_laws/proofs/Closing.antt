-- The chain of a problem and its closure.
use Rattle.std.proofs.Common.{length}
use Rattle.re_labels.specs.GoodRows.{max_rows}
use Rattle.re_problem.specs.Steps.LowerMap.{by_set}
use Rattle.re_problem.specs.Zero.{Zero}
use Rattle.re_laws.proofs.FastRounds.{Solvable-derived}
use Rattle.re_laws.proofs.Mapping.{Solvable-lower_step}
use Rattle.re_laws.proofs.MoreRounds.{Solvable-more}
use Rattle.re_laws.proofs.ZeroRounds.{Solvable-zero}
use Rattle.re_closure_laws.proofs.FirstSteps.{first_step_law}
use Rattle.re_closure_laws.proofs.Generated.{closure_families_law}
use Rattle.re_closure_laws.proofs.Itself.{renamed_itself}
use Rattle.re_closure_laws.proofs.Returning.{fixed_law, other_way}
use Rattle.re_closure_laws.proofs.Steps.{step_law}
use Rattle.re_closure_laws.specs.Laws.{ClosureBoundLaw, ZeroLinesLaw}
use Rattle.re_closure_laws.specs.Lines.{AreOpposed, Family, IsFamily, below, entries_within, problem_of}

-- what is solvable without communication is so after a lower step too
along_step : (active passive : Family) → IsFamily active → IsFamily passive → AreOpposed active passive → Zero (problem_of active passive) → Zero (problem_of passive active)
along_step active passive a p opposed zero_here =
    let there = step_law active passive a p opposed in
    let back = step_law passive active p a (other_way active passive opposed) in
    (Solvable-zero (problem_of passive active) back.0).0
    (Solvable-lower_step (problem_of active passive) (problem_of passive active) (max_rows (below passive) (length passive.sets)) (by_set (entries_within passive)) 0 there.0 back.0 there.1
    (Solvable-derived (problem_of active passive) 0 there.0 (Solvable-more (problem_of active passive) 0 ((Solvable-zero (problem_of active passive) there.0).1 zero_here))))

pub zero_lines_law : ZeroLinesLaw
zero_lines_law active passive a p opposed = (along_step active passive a p opposed, along_step passive active p a (other_way active passive opposed))

pub closure_bound_law : ClosureBoundLaw
closure_bound_law problem active passive is closure =
    let families = closure_families_law problem active passive is closure in
    let a = families.0 in
    let p = families.1 in
    let first = first_step_law problem active passive is a p families.2 in
    record {
      first = first.1;
      out = (step_law passive active p a (other_way active passive first.0)).1;
      back = (step_law active passive a p first.0).1;
      renamed = renamed_itself (problem_of passive active) (step_law passive active p a (other_way active passive first.0)).0;
      means = λ T not_zero. fixed_law problem active passive T is a p families.2 (λ z. not_zero ((zero_lines_law active passive a p first.0).1 z));
    }
