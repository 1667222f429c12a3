-- A chain whose last problem lacks a label.
use Rattle.std.specs.Prelude.{ℕ, not, List, filter_map, if◌then◌else◌, Option, None, Some, option_map}
use Rattle.re_problem.specs.ItemSteps.{is_nil}
use Rattle.re_problem.specs.Steps.{SetEntry}
use Rattle.re_problem.specs.Steps.LowerMap.{by_set}
use Rattle.re_changes.specs.Changes.{after, becomes}
use Rattle.re_changes.specs.declared.change.Change.TheVariants.{LeaveOut}
use Rattle.re_cert.specs.Bounds.{Bound, BoundStep, entries_in, is_label, is_lower, last_problem}
use Rattle.re_shaping.specs.Chains.{with_last}
use Rattle.re_shaping.specs.declared.refusal.Refusal.{Refusal}
use Rattle.re_shaping.specs.declared.refusal.Refusal.TheVariants.{NotALabel, NotUpper, NoStep}

-- the entry of the same set for what its label has become, if that is left
abbrev pub entry_left : (ℕ → Option ℕ) → SetEntry → Option SetEntry
entry_left left entry = option_map (λ label. record { set = entry.set; label = label }) (left entry.label)

-- the entries of the labels that are left
abbrev pub entries_left : (ℕ → Option ℕ) → List SetEntry → List SetEntry
entries_left left entries = filter_map (entry_left left) entries

-- the step to the problem without the configurations with x, and without the labels that then stand in none; the entries of these go too
abbrev pub dropped_step : ℕ → BoundStep → BoundStep
dropped_step x s = record { lower = s.lower; next = after (LeaveOut x) s.next; rows = s.rows; map = by_set (entries_left (becomes (LeaveOut x) s.next) (entries_in s.map)) }

-- the chain whose last problem lacks x
abbrev pub dropped : ℕ → Bound → Bound
dropped x bound = with_last (dropped_step x) bound

-- why x can't go: the chain isn't upper, has no step, or x is no label of its last problem
abbrev pub drop_refusal : ℕ → Bound → Option Refusal
drop_refusal x bound =
    if is_lower bound.kind then Some NotUpper
    else if is_nil bound.steps then Some NoStep
    else if not (is_label (last_problem bound) x) then Some (NotALabel x)
    else None
