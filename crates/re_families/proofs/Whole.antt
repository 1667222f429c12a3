-- The problems of the families are problems.
use Rattle.std.proofs.Common.{◌≡◌, ℕ, zero, suc, ◌<◌, ◌≤◌, Bool, true, false, cond, eqb, ltb, List, [], ◌∷◌, length, filter, replicate, refl, ap, ◌∙◌, inl, arith, None, Some}
use Rattle.std.specs.Prelude.{not, ◌&&◌}
use Rattle.std.specs.List.{list_all}
use Rattle.std.proofs.lemmas.List.{length-replicate}
use Rattle.std.proofs.lemmas.Bool.{le-ltb, leb-true}
use Rattle.re_labels.proofs.LawsOfRows.{multisets_law}
use Rattle.re_labels.specs.Configs.{IsConfig, support_of}
use Rattle.re_labels.specs.Orders.{multisets}
use Rattle.re_labels.proofs.Before.{IsBefore-trans}
use Rattle.re_labels.proofs.Membership.{AllByRecursion-from_In, Contains-filter, Contains-here, In-Contains, In-filter_from, length-count_from, length-map'}
use Rattle.re_labels.proofs.Rising.{rising-filter}
use Rattle.re_labels.proofs.Tests.{and-true, eqb-same, eqb-true}
use Rattle.re_labels.specs.Lists.{IsBefore, IsRising, count_from}
use Rattle.re_labels.specs.Sets.{with_label}
use Rattle.re_labels.specs.declared.sides.Side.{Side}
use Rattle.re_labels.specs.declared.sides.Side.TheVariants.{Active, Passive}
use Rattle.re_problem.proofs.Building.{all_occur-facts, constraint_named, occurs-fact}
use Rattle.re_problem.proofs.UsedLabels.{counted_all}
use Rattle.re_problem.specs.NamedProblems.{OccursIn, built, occurs}
use Rattle.re_labels.specs.Constraints.{Constraint, IsConstraint}
use Rattle.re_families.specs.Families.{Rules, are_equal, colour_name, colouring, constraint_of, family_of, independent_set, is_degree, matching, number_fits, orientation, out_of_range, passive_fits, rule, rules_of}
use Rattle.re_families.specs.declared.types.Family.{Family}
use Rattle.re_families.specs.declared.types.Family.TheVariants.{Colouring, Matching, Mis, Orientation}
use Rattle.re_labels.proofs.NextMultisets.{below-replicate}
use Rattle.re_labels.proofs.LabelPlaces.{each_degree}
use Rattle.re_labels.proofs.Replicated.{alike_rise, alike_support}

-- ---- constraints
made_constraint : (rules : Rules) (side : Side) (degree : ℕ) → 2 ≤ degree → degree ≤ 6 → IsConstraint (length rules.names) (constraint_of rules side degree)
made_constraint rules side degree two six =
    let p = rule rules side in
    let all = multisets degree 0 (length rules.names) in
    let law = multisets_law degree (length rules.names) in
    record {
      least = two;
      most = six;
      configs = AllByRecursion-from_In (IsConfig degree (length rules.names)) (filter p all) (λ config i. (law.1 config).0 (In-Contains config all (In-filter_from p config all i).0));
      ascends = rising-filter IsBefore IsBefore-trans p all law.0;
    }

-- ---- each label stands around some active node
alike_equal : (d x : ℕ) → 2 ≤ d → are_equal (replicate d x) ≡ true
alike_equal zero x l = absurd (omega arith)
alike_equal (suc d) x l = ap (λ (s : List ℕ). eqb (length s) 1) (alike_support d x)

colour_there : (colours degree colour : ℕ) → 2 ≤ degree → colour < length (colouring colours).names → OccursIn (constraint_of (colouring colours) Active degree) colour
colour_there colours (suc degree) colour two l =
    let config = replicate (suc degree) colour in
    let n = length (colouring colours).names in
    let is : IsConfig (suc degree) n config = record { count = length-replicate (suc degree) colour; below = below-replicate (suc degree) colour n l; ascends = alike_rise (suc degree) colour } in
    (config, Contains-filter are_equal (multisets (suc degree) 0 n) config (((multisets_law (suc degree) n).1 config).1 is) (alike_equal (suc degree) colour two), Contains-here colour (replicate degree colour))
colour_there colours zero colour two l = absurd (omega arith)

-- whether each label does
abbrev are_there : Rules → ℕ → Bool
are_there rules degree = list_all (occurs (constraint_of rules Active degree)) (count_from 0 (length rules.names))

label_there : (kind : Family) (number degree label : ℕ) → 2 ≤ degree → degree ≤ 6 → label < length (rules_of kind number).names → OccursIn (constraint_of (rules_of kind number) Active degree) label
label_there Colouring number degree label two six l = colour_there number degree label two l
label_there Matching number degree label two six l =
    occurs-fact (constraint_of matching Active degree) label (counted_all (occurs (constraint_of matching Active degree)) 2 label (each_degree (λ d. are_there matching d ≡ true) refl refl refl refl refl degree two six) l)
label_there Orientation number degree label two six l =
    occurs-fact (constraint_of orientation Active degree) label (counted_all (occurs (constraint_of orientation Active degree)) 2 label (each_degree (λ d. are_there orientation d ≡ true) refl refl refl refl refl degree two six) l)
label_there Mis number degree label two six l =
    occurs-fact (constraint_of independent_set Active degree) label (counted_all (occurs (constraint_of independent_set Active degree)) 3 label (each_degree (λ d. are_there independent_set d ≡ true) refl refl refl refl refl degree two six) l)

-- ---- parameters
pub record AreInRange (active passive number : ℕ) : Type 0 where
  pub active_least : 2 ≤ active
  pub active_most : active ≤ 6
  pub passive_least : 2 ≤ passive
  pub passive_most : passive ≤ 6
  pub number_most : number ≤ 16

pub degree_range : (degree : ℕ) → is_degree degree ≡ true → (2 ≤ degree) × (degree ≤ 6)
degree_range degree h = let both = and-true _ _ h in (leb-true 2 degree both.0, leb-true degree 6 both.1)

passive_range : (kind : Family) (passive : ℕ) → passive_fits kind passive ≡ true → (2 ≤ passive) × (passive ≤ 6)
passive_range Mis passive h = let e = eqb-true passive 2 h in (omega arith, omega arith)
passive_range Colouring passive h = degree_range passive h
passive_range Matching passive h = degree_range passive h
passive_range Orientation passive h = degree_range passive h

pub number_range : (kind : Family) (number : ℕ) → number_fits kind number ≡ true → number ≤ 16
number_range Colouring number h = leb-true number 16 (and-true _ _ h).1
number_range Matching number h = let e = eqb-true number 0 h in omega arith
number_range Orientation number h = let e = eqb-true number 0 h in omega arith
number_range Mis number h = let e = eqb-true number 0 h in omega arith

pub in_range : (kind : Family) (active passive number : ℕ) → out_of_range kind active passive number ≡ None → AreInRange active passive number
in_range kind active passive number = go (is_degree active) (passive_fits kind passive) (number_fits kind number) refl refl refl
  where
    go : (x y z : Bool) → is_degree active ≡ x → passive_fits kind passive ≡ y → number_fits kind number ≡ z
        → cond (not x) (Some active) (cond (not y) (Some passive) (cond (not z) (Some number) None)) ≡ None → AreInRange active passive number
    go true true true ex ey ez e =
        let a = degree_range active ex in
        let p = passive_range kind passive ey in
        record { active_least = a.0; active_most = a.1; passive_least = p.0; passive_most = p.1; number_most = number_range kind number ez }
    go true true false ex ey ez e = absurd (cc)
    go true false z ex ey ez e = absurd (cc)
    go false y z ex ey ez e = absurd (cc)

pub few_names : (kind : Family) (number : ℕ) → number ≤ 16 → length (rules_of kind number).names ≤ 16
few_names Colouring number l = omega (arith, l, length-map' (colour_name number) (count_from 1 number), length-count_from 1 number)
few_names Matching number l = omega arith
few_names Orientation number l = omega arith
few_names Mis number l = omega arith

-- ---- problems
pub problem_made : (kind : Family) (number a p : ℕ) (names : List (List ℕ)) (active passive : Constraint) → AreInRange a p number → names ≡ (rules_of kind number).names
    → active ≡ constraint_of (rules_of kind number) Active a → passive ≡ constraint_of (rules_of kind number) Passive p → built names active passive ≡ Some (family_of kind a p number)
unfolding family_of
problem_made kind number a p names active passive is en ea ep =
    let rules = rules_of kind number in
    let n = length rules.names in
    let first = constraint_of rules Active a in
    let second = constraint_of rules Passive p in
    let x = constraint_named n first (made_constraint rules Active a is.active_least is.active_most) in
    let y = constraint_named n second (made_constraint rules Passive p is.passive_least is.passive_most) in
    let z = all_occur-facts n first second (λ label l. inl (label_there kind number a label is.active_least is.active_most l)) in
    (λ i. built (en i) (ea i) (ep i)) ∙ (λ i. cond (x i && y i && z i) (Some (record { names = rules.names; active = first; passive = second })) None)
