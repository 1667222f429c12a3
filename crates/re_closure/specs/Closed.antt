-- What the computed parts of a closure are.
use Rattle.std.specs.Prelude.{◌≡◌, suc, ◌<◌, ◌≤◌, Bool, [], ◌∷◌, ◌++◌, length, map}
use Rattle.re_labels.specs.Lists.{count_from, place_of}
use Rattle.re_cert.specs.Bounds.{Bound, BoundStep}
use Rattle.re_cert.specs.declared.certificate.Kind.TheVariants.{Fixed}
use Rattle.re_labels.specs.declared.constraint_table.TheConstants.{MAX_CONFIGURATIONS}
use Rattle.re_problem.specs.Problems.{Problem}
use Rattle.re_closure_laws.specs.Lines.{Family, below, labels_within, topmost}
use Rattle.re_closure.specs.Limits.{IsSmallClosure}
use Rattle.re_closure.specs.Sides.{IsMapOf, in_form, named_of, step_to}
use Rattle.re_closure.specs.declared.closure.Closure.{Closure}
use Rattle.re_closure.specs.declared.closure.Side.{Side}
use Rattle.re_closure.specs.declared.types.ClosureLimit.{ClosureLimit}
use Rattle.re_closure.specs.declared.types.ClosureLimit.TheVariants.{Configurations}
use Rattle.re_closure.specs.declared.types.StepMap.{StepMap}

-- the map of the step to the problem whose active configurations are the lines of a family
abbrev pub IsMapWithin : Family → StepMap → Type 0
IsMapWithin family m = IsMapOf (below family) (length family.sets) (place_of (map (labels_within family.sets) family.sets)) m

pub record IsSide (family : Family) (side : Side) : Type 0 where
  pub topmost_is : side.topmost ≡ topmost family
  pub below_is : side.below ≡ below family
  pub few : length (below family).configs ≤ MAX_CONFIGURATIONS
  pub map_is : IsMapWithin family side.map

-- the only limit that a side may pass
abbrev pub SidePasses : Family → ClosureLimit → Type 0
SidePasses family Configurations = MAX_CONFIGURATIONS < length (below family).configs
SidePasses family passed = ⊥

-- the closure of the problem, of these families
pub record Computes (problem : Problem) (active passive : Family) (closure : Closure) : Type 0 where
  pub small : IsSmallClosure problem active passive
  pub sets_are : closure.sets.items ≡ passive.sets
  pub closed_is : closure.closed ≡ named_of active passive
  pub between_is : closure.between ≡ named_of passive active
  pub out_is : IsMapWithin active closure.out
  pub back_is : IsMapWithin passive closure.back

pub record IsClosureOf (problem : Problem) (closure : Closure) : Type 0 where
  pub active : Family
  pub passive : Family
  pub computed : Computes problem active passive closure

-- the fixed point that is made of a chain, a step to the problem between, and a computed closure
abbrev pub made_bound : Bool → Bound → BoundStep → Closure → Bound
made_bound by_rows chain first closure = record {
  kind = Fixed;
  back = suc (length chain.steps);
  first = chain.first;
  steps = chain.steps ++ first ∷ in_form by_rows (step_to closure.closed closure.out.rows.items closure.out.entries.items)
      ∷ in_form by_rows (step_to closure.between closure.back.rows.items closure.back.entries.items) ∷ [];
  renaming = map (λ label. (label, label)) (count_from 0 (length closure.between.names));
}
