-- What one change does: the labels that stay, the new numbers, the problem that it makes.
use Rattle.std.proofs.Common.{◌≡◌, ℕ, ◌+◌, ◌<◌, ◌≤◌, Bool, true, false, cond, not, ◌||◌, eqb, List, length, map, Some, ◌⊎◌, inl, inr, refl, sym, ap, ◌∙◌, subst, arith}
use Rattle.std.specs.Prelude.{filter}
use Rattle.std.specs.List.{AllByRecursion}
use Rattle.std.proofs.lemmas.Bool.{false≢true}
use Rattle.std.proofs.lemmas.List.{get_or-map}
use Rattle.re_labels.specs.Configs.{image_at}
use Rattle.re_labels.proofs.Membership.{AllByRecursion-from_In, Contains-In, In, In-Contains, In-filter, In-filter_from, In-map_from, count_from_range, Contains-count_from, get_or-count_from, length-count_from, any-In}
use Rattle.re_labels.proofs.Numbers.{IsLabelSet-count_from, IsLabelSet-filter}
use Rattle.re_labels.proofs.Sets.{IsIn-has}
use Rattle.re_labels.proofs.Tests.{eqb-apart, eqb-true, or-left, or-right, or-true}
use Rattle.re_labels.specs.Lists.{count_from}
use Rattle.re_labels.specs.Sets.{IsLabelSet, has}
use Rattle.re_problem.proofs.Building.{occurs-fact}
use Rattle.re_problem.specs.NamedProblems.{IsNamedProblem, NamedProblem, OccursIn, built, occurs, unnamed}
use Rattle.re_problem.specs.Problems.{IsProblem}
use Rattle.re_labels.specs.Constraints.{Constraint}
use Rattle.re_labels.specs.Strength.{constraint_without}
use Rattle.re_labels.proofs.LeastLabels.{length-set}
use Rattle.re_changes.proofs.Counted.{length-map_counted}
use Rattle.re_changes.proofs.Numbering.{at_number, number-low, renumbered-built}
use Rattle.re_changes.proofs.RenumberedProblems.{IsBuilt, IsProblem-renumbered, built-along}
use Rattle.re_labels.proofs.ConstraintImages.{IsConstraint-without, config-below}
use Rattle.re_changes.specs.Changes.{IsChange, after, goes_to, kept, new_numbers, staying, without}
use Rattle.re_changes.specs.Renumbering.{number_among, renumbered}
use Rattle.re_changes.specs.declared.change.Change.{Change}
use Rattle.re_changes.specs.declared.change.Change.TheVariants.{LeaveOut, Merge}
use Rattle.re_labels.specs.declared.TheConstants.{MAX_LABELS}

-- ---- the labels below a bound
pub below-counted : (n x : ℕ) → In x (count_from 0 n) → x < n
below-counted n x i = let range = count_from_range 0 n x (In-Contains x (count_from 0 n) i) in omega (arith, range.1)

pub counted-below : (n x : ℕ) → x < n → In x (count_from 0 n)
counted-below n x l = Contains-In x (count_from 0 n) (Contains-count_from 0 n x (omega arith) (omega arith))

-- ---- the labels that stay
pub IsLabelSet-staying : (change : Change) (named : NamedProblem) → IsLabelSet (length named.names) (staying change named)
IsLabelSet-staying (Merge x y) named = IsLabelSet-filter (λ label. not (eqb label y)) (length named.names) (count_from 0 (length named.names)) (IsLabelSet-count_from 0 (length named.names) (length named.names) (omega arith))
IsLabelSet-staying (LeaveOut x) named = IsLabelSet-filter (λ label. occurs (constraint_without x named.active) label || occurs (constraint_without x named.passive) label) (length named.names) (count_from 0 (length named.names))
    (IsLabelSet-count_from 0 (length named.names) (length named.names) (omega arith))

-- the new number of a label
pub new_number : (change : Change) (named : NamedProblem) (label : ℕ) → label < length named.names → image_at (new_numbers change named) label ≡ number_among (staying change named) (goes_to change label)
new_number change named label l =
    let m : label < length (count_from 0 (length named.names)) = omega (arith, length-count_from 0 (length named.names)) in
    let z : 0 + label ≡ label = omega arith in
    get_or-map (λ label. number_among (staying change named) (goes_to change label)) (count_from 0 (length named.names)) label 0 0 m
    ∙ ap (λ x. number_among (staying change named) (goes_to change x)) (get_or-count_from 0 (length named.names) label 0 l ∙ z)

-- where a label of a merge goes is a label that stays
pub merge-stays : (x y : ℕ) (named : NamedProblem) → x < y → y < length named.names → (label : ℕ) → label < length named.names → In (goes_to (Merge x y) label) (staying (Merge x y) named)
merge-stays x y named l m label below = go (eqb label y) refl
  where
    apart : eqb x y ≡ false
    apart = eqb-apart x y (λ e. omega arith)

    go : (b : Bool) → eqb label y ≡ b → In (cond b x label) (filter (λ label. not (eqb label y)) (count_from 0 (length named.names)))
    go true e = In-filter (λ label. not (eqb label y)) x (count_from 0 (length named.names)) (counted-below (length named.names) x (omega arith)) (ap not apart)
    go false e = In-filter (λ label. not (eqb label y)) label (count_from 0 (length named.names)) (counted-below (length named.names) label below) (ap not e)

-- a label that stays goes to itself
pub stays-itself : (change : Change) (named : NamedProblem) (label : ℕ) → In label (staying change named) → (label < length named.names) × (goes_to change label ≡ label)
stays-itself (Merge x y) named label i =
    let two = In-filter_from (λ label. not (eqb label y)) label (count_from 0 (length named.names)) i in
    (below-counted (length named.names) label two.0, go (eqb label y) refl two.1)
  where
    go : (b : Bool) → eqb label y ≡ b → not (eqb label y) ≡ true → cond (eqb label y) x label ≡ label
    go true e h = absurd (false≢true (sym (ap not e) ∙ h))
    go false e h = ap (λ b. cond b x label) e
stays-itself (LeaveOut x) named label i =
    (below-counted (length named.names) label (In-filter_from (λ label. occurs (constraint_without x named.active) label || occurs (constraint_without x named.passive) label) label (count_from 0 (length named.names)) i).0, refl)

-- ---- problems without a label
pub IsProblem-kept : (change : Change) (named : NamedProblem) → IsProblem (unnamed named) → IsProblem (unnamed (kept change named))
IsProblem-kept (Merge x y) named is = is
IsProblem-kept (LeaveOut x) named is = record {
  active = IsConstraint-without named.active (length named.names) x is.active;
  passive = IsConstraint-without named.passive (length named.names) x is.passive;
}

occurring : (constraint : Constraint) (config : List ℕ) (x : ℕ) → In config constraint.configs → In x config → occurs constraint x ≡ true
occurring constraint config x i j = any-In (λ config. has config x) config constraint.configs i (IsIn-has config x (In-Contains x config j))

-- the labels of the configurations that are kept go to labels that stay
pub active-stays : (change : Change) (named : NamedProblem) → IsProblem (unnamed named) → IsChange (length named.names) change → (config : List ℕ) (x : ℕ) → In config (kept change named).active.configs → In x config
    → (x < length named.names) × In (goes_to change x) (staying change named)
active-stays (Merge a b) named is (l, m) config x i j =
    let below = config-below (length named.names) named.active is.active config x i j in (below, merge-stays a b named l m x below)
active-stays (LeaveOut a) named is l config x i j =
    let below = config-below (length named.names) (constraint_without a named.active) (IsConstraint-without named.active (length named.names) a is.active) config x i j in (
      below,
      In-filter (λ label. occurs (constraint_without a named.active) label || occurs (constraint_without a named.passive) label) x (count_from 0 (length named.names)) (counted-below (length named.names) x below)
          (or-left (occurs (constraint_without a named.active) x) (occurs (constraint_without a named.passive) x) (occurring (constraint_without a named.active) config x i j)),
    )

pub passive-stays : (change : Change) (named : NamedProblem) → IsProblem (unnamed named) → IsChange (length named.names) change → (config : List ℕ) (x : ℕ) → In config (kept change named).passive.configs → In x config
    → (x < length named.names) × In (goes_to change x) (staying change named)
passive-stays (Merge a b) named is (l, m) config x i j =
    let below = config-below (length named.names) named.passive is.passive config x i j in (below, merge-stays a b named l m x below)
passive-stays (LeaveOut a) named is l config x i j =
    let below = config-below (length named.names) (constraint_without a named.passive) (IsConstraint-without named.passive (length named.names) a is.passive) config x i j in (
      below,
      In-filter (λ label. occurs (constraint_without a named.active) label || occurs (constraint_without a named.passive) label) x (count_from 0 (length named.names)) (counted-below (length named.names) x below)
          (or-right (occurs (constraint_without a named.active) x) (occurs (constraint_without a named.passive) x) (occurring (constraint_without a named.passive) config x i j)),
    )

-- ---- the problem after a change
module _ (change : Change) (named : NamedProblem) where
  number-below : (x : ℕ) → (x < length named.names) × In (goes_to change x) (staying change named) → image_at (new_numbers change named) x < length (staying change named)
  number-below x (l, i) = subst (λ k. k < length (staying change named)) (sym (new_number change named x l))
      (at_number (staying change named) (goes_to change x) (IsLabelSet-staying change named).0 i).0

  module _ (is : IsProblem (unnamed named)) (may : IsChange (length named.names) change) where
    pub active-below : (config : List ℕ) (x : ℕ) → In config (kept change named).active.configs → In x config → image_at (new_numbers change named) x < length (staying change named)
    active-below config x i j = number-below x (active-stays change named is may config x i j)

    pub passive-below : (config : List ℕ) (x : ℕ) → In config (kept change named).passive.configs → In x config → image_at (new_numbers change named) x < length (staying change named)
    passive-below config x i j = number-below x (passive-stays change named is may config x i j)

    pub IsProblem-after : IsProblem (unnamed (after change named))
    IsProblem-after = IsProblem-renumbered (staying change named) (new_numbers change named) (kept change named) (IsProblem-kept change named is) active-below passive-below

  -- a label that stays stands in a configuration that is kept
  occurs-kept : IsNamedProblem named → (x : ℕ) → In x (staying change named) → OccursIn (kept change named).active x ⊎ OccursIn (kept change named).passive x
  occurs-kept is x i = go change (stays-itself change named x i).0 i
    where
      go : (change : Change) → x < length named.names → In x (staying change named) → OccursIn (kept change named).active x ⊎ OccursIn (kept change named).passive x
      go (Merge a b) l i = is.occur x l
      go (LeaveOut a) l i =
          let two = In-filter_from (λ label. occurs (constraint_without a named.active) label || occurs (constraint_without a named.passive) label) x (count_from 0 (length named.names)) i in
          elim (or-true (occurs (constraint_without a named.active) x) (occurs (constraint_without a named.passive) x) two.1) [
            | inl h ↦ inl (occurs-fact (constraint_without a named.active) x h)
            | inr h ↦ inr (occurs-fact (constraint_without a named.passive) x h)
          ]

  pub after-built : IsNamedProblem named → IsChange (length named.names) change
      → built (after change named).names (after change named).active (after change named).passive ≡ Some (after change named)
  after-built is may = renumbered-built (staying change named) (new_numbers change named) (kept change named) (IsLabelSet-staying change named).0
      (active-below is.problem may) (passive-below is.problem may)
      (λ x i. let two = stays-itself change named x i in new_number change named x two.0 ∙ ap (number_among (staying change named)) two.1)
      (occurs-kept is)

-- ---- the same in the code's own variables
pub names-kept : (change : Change) (named : NamedProblem) → (kept change named).names ≡ named.names
names-kept (Merge x y) named = refl
names-kept (LeaveOut x) named = refl

goes-low : (n : ℕ) (change : Change) → IsChange n change → (label : ℕ) → goes_to change label ≤ label
goes-low n (Merge x y) (l, m) label = go (eqb label y) refl
  where
    go : (b : Bool) → eqb label y ≡ b → cond b x label ≤ label
    go true e = let same = eqb-true label y e in omega arith
    go false e = omega arith
goes-low n (LeaveOut x) l label = omega arith

number_low : (change : Change) (named : NamedProblem) (x : ℕ) → number_among (staying change named) x ≤ x
number_low (Merge a b) named x = number-low (λ label. not (eqb label b)) (length named.names) x
number_low (LeaveOut a) named x = number-low (λ label. occurs (constraint_without a named.active) label || occurs (constraint_without a named.passive) label) (length named.names) x

pub numbers-are : (change : Change) (named : NamedProblem) (stay images : List ℕ) (count : ℕ) → images ≡ map (λ label. number_among stay (goes_to change label)) (count_from 0 count) → stay ≡ staying change named → count ≡ length named.names
    → images ≡ new_numbers change named
numbers-are change named stay images count made s n = made ∙ (λ i. map (λ label. number_among (s i) (goes_to change label)) (count_from 0 (n i)))

module _ (change : Change) (named : NamedProblem) (is : IsNamedProblem named) (may : IsChange (length named.names) change) (stay images : List ℕ) (names : List (List ℕ)) (active passive : Constraint)
    (s : stay ≡ staying change named) (m : images ≡ new_numbers change named) (n : names ≡ named.names) (a : active ≡ (kept change named).active) (p : passive ≡ (kept change named).passive) where
  pub stay-set : IsLabelSet (length names) stay
  stay-set = subst (λ k. IsLabelSet (length k) stay) (sym n) (subst (IsLabelSet (length named.names)) (sym s) (IsLabelSet-staying change named))

  count : length images ≡ length named.names
  count = ap length m ∙ length-map_counted (λ label. number_among (staying change named) (goes_to change label)) (length named.names)

  known : (constraint : Constraint) → ((config : List ℕ) (x : ℕ) → In config constraint.configs → In x config → x < length named.names) → AllByRecursion (AllByRecursion (λ label. label < length images)) constraint.configs
  known constraint below = AllByRecursion-from_In (AllByRecursion (λ label. label < length images)) constraint.configs (λ config i.
      AllByRecursion-from_In (λ label. label < length images) config (λ x j. let l = below config x i j in omega (arith, count)))

  pub active-known : AllByRecursion (AllByRecursion (λ label. label < length images)) active.configs
  active-known = subst (λ c. AllByRecursion (AllByRecursion (λ label. label < length images)) c.configs) (sym a) (known (kept change named).active (λ config x i j. (active-stays change named is.problem may config x i j).0))

  pub passive-known : AllByRecursion (AllByRecursion (λ label. label < length images)) passive.configs
  passive-known = subst (λ c. AllByRecursion (AllByRecursion (λ label. label < length images)) c.configs) (sym p) (known (kept change named).passive (λ config x i j. (passive-stays change named is.problem may config x i j).0))

  pub images-below : AllByRecursion (λ image. image < MAX_LABELS) images
  images-below = subst (AllByRecursion (λ image. image < MAX_LABELS)) (sym m) (AllByRecursion-from_In (λ image. image < MAX_LABELS) (new_numbers change named) (λ image i.
      let (label, j, e) = In-map_from (λ label. number_among (staying change named) (goes_to change label)) image (count_from 0 (length named.names)) i in
      let low = below-counted (length named.names) label j in
      let goes = goes-low (length named.names) change may label in
      let number = number_low change named (goes_to change label) in
      let few = is.names.few in
      omega arith))

  pub stay-few : length stay ≤ MAX_LABELS
  stay-few = let most = length-set (length named.names) (staying change named) (IsLabelSet-staying change named) in let e = ap length s in let few = is.names.few in omega arith

  kept-is : record { names = names; active = active; passive = passive } ≡ kept change named
  kept-is = (λ i. record { names = (n ∙ sym (names-kept change named)) i; active = a i; passive = p i })

  pub is-built : IsBuilt stay images (record { names = names; active = active; passive = passive })
  is-built = built-along (staying change named) stay (new_numbers change named) images (kept change named) (record { names = names; active = active; passive = passive }) s m kept-is (after-built change named is may)

  pub whole : renumbered stay images (record { names = names; active = active; passive = passive }) ≡ after change named
  whole = (λ i. renumbered (s i) (m i) (kept-is i))
