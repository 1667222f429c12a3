use Rattle.std.proofs.Common.{◌≡◌, ◌-◌, ℕ, suc}
use Rattle.re_labels.specs.declared.TheConstants.{MAX_LABELS}
use Rattle.re_problem.specs.NamedProblems.{unnamed}
use Rattle.re_flexible.proofs.Chains.{IsReached}
use Rattle.re_flexible.proofs.levels.flexibility_of.Given as goal

abbrev pub invariant-levels : goal.invariant-levels
invariant-levels l = (k : ℕ) × record {
  is : l.count ≡ suc k;
  reached : IsReached (unnamed l.problem) MAX_LABELS l.sets.items k;
}

abbrev pub decreases-levels : goal.decreases-levels
decreases-levels l = suc MAX_LABELS - l.count
