-- The sides of a closure, and the limits that they pass.
use Rattle.std.proofs.Common.{Result, Ok, Err, ◌≡◌, ◌≤◌, ℕ, length, inl, inr, sym, subst, ◌∙◌}
use Rattle.std.specs.Result.{IsErrAnd}
use Rattle.re_cert.specs.Bounds.{Bound, last_problem}
use Rattle.re_labels.specs.declared.TheConstants.{MAX_LABELS}
use Rattle.re_labels.specs.declared.TheConstants.{MAX_ROWS}
use Rattle.re_problem.specs.NamedProblems.{IsNamedProblem, NamedProblem, unnamed}
use Rattle.re_problem.specs.Problems.{IsProblem, Problem}
use Rattle.re_step.specs.LabelNames.{label_names}
use Rattle.re_labels.specs.Constraints.{Constraint}
use Rattle.re_closure.proofs.NamedFamilies.{named_between, named_closed, same_count}
use Rattle.re_closure_laws.specs.Closures.{AreClosure}
use Rattle.re_closure_laws.specs.Lines.{Family}
use Rattle.re_closure.specs.Closed.{Computes, IsMapWithin, IsSide, SidePasses}
use Rattle.re_closure.specs.Closures.{HasRoom, LimitIs}
use Rattle.re_closure.specs.Limits.{PassesLimit}
use Rattle.re_closure.specs.Sides.{named_of}
use Rattle.re_closure.specs.declared.closure.Closure.{Closure}
use Rattle.re_closure.specs.declared.closure.Side.{Side}
use Rattle.re_closure.specs.declared.types.ClosureFault.{ClosureFault}
use Rattle.re_closure.specs.declared.types.ClosureFault.TheVariants.{Limit}
use Rattle.re_closure.specs.declared.types.ClosureLimit.{ClosureLimit}
use Rattle.re_closure.specs.declared.types.ClosureLimit.TheVariants.{Combinations, Configurations, Labels, Rows, Steps}

module _ (problem : Problem) (active passive : Family) (closure : AreClosure problem active passive) (few : length passive.sets ≤ MAX_LABELS) where
  pub passive_passes : (passed : ClosureLimit) → SidePasses passive passed → PassesLimit problem passed
  passive_passes Rows many = absurd many
  passive_passes Combinations many = absurd many
  passive_passes (Labels count) many = absurd many
  passive_passes Configurations many = record { active = active; passive = passive; closure = closure; labels = few; many = inl many }
  passive_passes Steps many = absurd many

  pub active_passes : (passed : ClosureLimit) → SidePasses active passed → PassesLimit problem passed
  active_passes Rows many = absurd many
  active_passes Combinations many = absurd many
  active_passes (Labels count) many = absurd many
  active_passes Configurations many = record { active = active; passive = passive; closure = closure; labels = few; many = inr many }
  active_passes Steps many = absurd many

-- ---- what is made of the sides
abbrev named_with : ℕ → Constraint → Constraint → NamedProblem
named_with n active passive = record { names = label_names n; active = active; passive = passive }

module _ (problem : Problem) (active passive : Family) (is : IsProblem problem) (closure : AreClosure problem active passive) (few : length passive.sets ≤ MAX_LABELS)
    (P A : Side) (p : IsSide passive P) (a : IsSide active A) (n : ℕ) (count : n ≡ length passive.sets) where
  closed_path : record { names = label_names n; active = A.topmost; passive = P.below } ≡ named_of active passive
  closed_path = λ i. record { names = label_names (count i); active = a.topmost_is i; passive = p.below_is i }

  between_path : record { names = label_names n; active = P.topmost; passive = A.below } ≡ named_of passive active
  between_path = λ i. record { names = label_names ((count ∙ sym (same_count problem active passive is closure)) i); active = p.topmost_is i; passive = a.below_is i }

  pub closed_named : IsNamedProblem (record { names = label_names n; active = A.topmost; passive = P.below })
  closed_named = subst IsNamedProblem (sym closed_path) (named_closed problem active passive is closure few)

  pub between_named : IsNamedProblem (record { names = label_names n; active = P.topmost; passive = A.below })
  between_named = subst IsNamedProblem (sym between_path) (named_between problem active passive is closure few)

  pub computed : length passive.lines ≤ MAX_ROWS → length active.lines ≤ MAX_ROWS → (made : Closure) → made.sets.items ≡ passive.sets → made.closed ≡ record { names = label_names n; active = A.topmost; passive = P.below }
      → made.between ≡ record { names = label_names n; active = P.topmost; passive = A.below } → IsMapWithin active made.out → IsMapWithin passive made.back → Computes problem active passive made
  computed few_passive few_active made sets closed between out back = record {
    small = record { closure = closure; passive_lines = few_passive; active_lines = few_active; labels = few; below_passive = p.few; below_active = a.few };
    sets_are = sets;
    closed_is = closed ∙ closed_path;
    between_is = between ∙ between_path;
    out_is = out;
    back_is = back;
  }

-- ---- faults
pub err_is : {X : Type 0} (r : Result X ClosureFault) (fault : ClosureFault) (passed : ClosureLimit) → IsErrAnd r (λ e. e ≡ fault) → r ≡ Err (Limit passed) → fault ≡ Limit passed
err_is (Ok x) fault passed gives e = cc
err_is {X} (Err f) fault passed gives e = let same : f ≡ Limit passed = cc in sym gives ∙ same

pub limit_of : (chain : Bound) (passed : ClosureLimit) → HasRoom chain → PassesLimit (unnamed (last_problem chain)) passed → LimitIs chain passed
limit_of chain Rows room told = (room, told)
limit_of chain Combinations room told = (room, told)
limit_of chain (Labels count) room told = (room, told)
limit_of chain Configurations room told = (room, told)
limit_of chain Steps room told = absurd told
