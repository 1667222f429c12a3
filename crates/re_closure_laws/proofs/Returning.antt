-- The steps from a problem to that of two families, from there to that of the two the other way round, and back.
use Rattle.std.proofs.Common.{◌<◌, length, sym, subst}
use Rattle.re_labels.specs.GoodRows.{max_rows}
use Rattle.re_problem.proofs.StepLaws.{IsMapped-lower, IsRelaxed-itself}
use Rattle.re_problem.specs.Steps.LowerMap.{by_set}
use Rattle.re_laws.proofs.ChainRounds.{fixed_point}
use Rattle.re_laws.specs.Chains.{IsLowerChain}
use Rattle.re_laws.specs.Chains.IsLowerChain.{done, step}
use Rattle.re_closure_laws.proofs.FirstSteps.{first_step_law}
use Rattle.re_closure_laws.proofs.Steps.{step_law}
use Rattle.re_closure_laws.specs.Laws.{FixedLaw}
use Rattle.re_closure_laws.specs.Lines.{AreOpposed, Family, below, entries_to, entries_within, problem_of}

pub other_way : (family other : Family) → AreOpposed family other → AreOpposed other family
other_way family other opposed = record {
  count = sym opposed.count;
  within = λ x y x_low y_low.
      let both = opposed.within y x (subst (λ m. y < m) (sym opposed.count) y_low) (subst (λ m. x < m) (sym opposed.count) x_low) in
      (both.1, both.0);
}

pub fixed_law : FixedLaw
fixed_law problem active passive T is a p around not_zero solvable =
    let first = first_step_law problem active passive is a p around in
    let opposed = first.0 in
    let out = step_law active passive a p opposed in
    let back = step_law passive active p a (other_way active passive opposed) in
    let to_middle : IsLowerChain problem 1 (problem_of passive active) =
    step back.0 (IsMapped-lower problem (problem_of passive active) (max_rows problem.passive problem.labels) (by_set (entries_to problem passive)) first.1) done in
    let around_again : IsLowerChain (problem_of passive active) 2 (problem_of passive active) =
    step out.0 (IsMapped-lower (problem_of passive active) (problem_of active passive) (max_rows (below active) (length active.sets)) (by_set (entries_within active)) back.1)
    (step back.0 (IsMapped-lower (problem_of active passive) (problem_of passive active) (max_rows (below passive) (length passive.sets)) (by_set (entries_within passive)) out.1) done) in
    fixed_point is to_middle around_again (IsRelaxed-itself (problem_of passive active) back.0) not_zero T solvable
