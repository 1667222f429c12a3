-- The labels that stand together in the configurations of labels of one set.
use Rattle.std.proofs.Common.{◌≡◌, ◌∷◌, ◌∙◌, ◌++◌, ◌+◌, ℕ, ◌<◌, ◌≤◌, Bool, true, List, [], length, get_or, take, drop, sym, ap, subst, arith, inl, inr, ◌⊎◌}
use Rattle.std.specs.Prelude.{Contains, IsTrue, ◌↔◌}
use Rattle.std.specs.List.{AllByRecursion}
use Rattle.std.proofs.lemmas.List.{take-append-drop, take_all, take_more}
use Rattle.std.proofs.lemmas.List.Elements.{Contains-append_cases, Contains-append_left, Contains-append_right}
use Rattle.re_labels.proofs.Rearranging.{Contains-Rearranged, Rearranged-sym}
use Rattle.re_labels.proofs.Sorting.{AllByRecursion-Rearranged, Rearranged-sorted, sorted-Rearranged, sorted_again}
use Rattle.re_labels.specs.Configs.{IsConfig, sorted, support_of}
use Rattle.re_labels.proofs.Membership.{AllByRecursion-contains, Contains-cases, Contains-here, Contains-later, Contains-none}
use Rattle.re_forests.specs.Flexible.{Joins}
use Rattle.re_labels.proofs.Sets.{IsIn-union, IsIn-union_cases, IsIn-with_label_cases, IsWithin-within, within-IsWithin}
use Rattle.re_labels.specs.Sets.{IsIn, IsWithin, union, within}
use Rattle.re_labels.proofs.Replacing.{Contains-support_of}
use Rattle.re_labels.specs.Constraints.{Constraint, IsConstraint}
use Rattle.re_flexible.proofs.Standing.{Contains-Stands, Stands-Contains, Stands-rest, rest-Stands}
use Rattle.re_flexible.specs.Families.{AreApart, AreJoins, AreOfOne, AreStanding, set_with}
use Rattle.re_flexible.specs.Relations.{Relates, Stands}

-- ---- supports
of_support : (config : List ℕ) (x : ℕ) → IsIn x (support_of config) → Contains config x
of_support [] x held = absurd (Contains-none x held)
of_support (z ∷ config) x held = elim (IsIn-with_label_cases (support_of config) z x held) [
  | inl e ↦ subst (Contains (z ∷ config)) e (Contains-here z config)
  | inr there ↦ Contains-later x z config (of_support config x there)
]

-- ---- labels of one set
set_of_first : (sets : List (List ℕ)) (first : ℕ) (config : List ℕ) → AreApart sets → Contains config first → IsWithin (support_of config) (set_with sets first) → AreOfOne sets config
set_of_first sets first config apart own inside x y held there =
    let one : Relates sets first x = inside x (Contains-support_of config x held) in
    let two : Relates sets first y = inside y (Contains-support_of config y there) in
    apart.on x first y (apart.back first x one) two

pub of_one_told : (sets : List (List ℕ)) (first : ℕ) (config row : List ℕ) (b : Bool) → AreApart sets → Contains config first → row ≡ set_with sets first → b ≡ within (support_of config) row → IsTrue b ↔ AreOfOne sets config
of_one_told sets first config row b apart own at e = (
  λ t. set_of_first sets first config apart own (within-IsWithin (support_of config) (set_with sets first) (ap (within (support_of config)) (sym at) ∙ sym e ∙ t)),
  λ all. e ∙ ap (within (support_of config)) at ∙ IsWithin-within (support_of config) (set_with sets first) (λ x held. all first x own (of_support config x held)),
)

-- ---- what the configurations of a list give
abbrev pub JoinedIn : List (List ℕ) → List (List ℕ) → ℕ → ℕ → Type 0
JoinedIn configs sets x y = (config : List ℕ) × Contains configs config × AreOfOne sets config × Stands config x y

abbrev pub StandingIn : List (List ℕ) → List (List ℕ) → ℕ → Type 0
StandingIn configs sets x = (config : List ℕ) × Contains configs config × AreOfOne sets config × Contains config x

pub joined_none : (sets table : List (List ℕ)) → ((x y : ℕ) → Relates table x y → ⊥) → (x y : ℕ) → Relates table x y ↔ JoinedIn [] sets x y
joined_none sets table none x y = (λ held. absurd (none x y held), λ joined. absurd (Contains-none joined.0 joined.1))

pub joined_more : (configs : List (List ℕ)) (place : ℕ) (config : List ℕ) (sets table new : List (List ℕ)) → place < length configs → config ≡ get_or configs place [] → AreOfOne sets config
    → ((x y : ℕ) → Relates table x y ↔ JoinedIn (take place configs) sets x y) → ((x y : ℕ) → Relates new x y ↔ (Relates table x y ⊎ Stands config x y))
    → (x y : ℕ) → Relates new x y ↔ JoinedIn (take (place + 1) configs) sets x y
joined_more configs place config sets table new low at inside so_far noted x y =
    subst (λ all. Relates new x y ↔ JoinedIn all sets x y) (ap (λ c. take place configs ++ c ∷ []) at ∙ sym (take_more configs place [] low)) (
      λ held. elim ((noted x y).0 held) [
        | inl old ↦ (let (other, there, of_one, stands) = (so_far x y).0 old in (other, Contains-append_left (take place configs) (config ∷ []) other there, of_one, stands))
        | inr stands ↦ (config, Contains-append_right (take place configs) (config ∷ []) config (Contains-here config []), inside, stands)
      ],
      λ joined. (noted x y).1 (elim (Contains-append_cases (take place configs) (config ∷ []) joined.0 joined.1) [
        | inl old ↦ inl ((so_far x y).1 (joined.0, old, joined.2, joined.3))
        | inr last ↦ elim (Contains-cases joined.0 config [] last) [ inl e ↦ inr (subst (λ c. Stands c x y) e joined.3) | inr none ↦ absurd (Contains-none joined.0 none) ]
      ]),
    )

pub joined_past : (configs : List (List ℕ)) (place : ℕ) (config : List ℕ) (sets table : List (List ℕ)) → place < length configs → config ≡ get_or configs place [] → (AreOfOne sets config → ⊥)
    → ((x y : ℕ) → Relates table x y ↔ JoinedIn (take place configs) sets x y) → (x y : ℕ) → Relates table x y ↔ JoinedIn (take (place + 1) configs) sets x y
joined_past configs place config sets table low at outside so_far x y =
    subst (λ all. Relates table x y ↔ JoinedIn all sets x y) (ap (λ c. take place configs ++ c ∷ []) at ∙ sym (take_more configs place [] low)) (
      λ held. let (other, there, of_one, stands) = (so_far x y).0 held in (other, Contains-append_left (take place configs) (config ∷ []) other there, of_one, stands),
      λ joined. (so_far x y).1 (elim (Contains-append_cases (take place configs) (config ∷ []) joined.0 joined.1) [
        | inl old ↦ (joined.0, old, joined.2, joined.3)
        | inr last ↦ elim (Contains-cases joined.0 config [] last) [
          | inl e ↦ absurd (outside (subst (AreOfOne sets) e joined.2))
          | inr none ↦ absurd (Contains-none joined.0 none)
        ]
      ]),
    )

pub standing_none : (sets : List (List ℕ)) (all : List ℕ) → all ≡ [] → (x : ℕ) → IsIn x all ↔ StandingIn [] sets x
standing_none sets all e x = (λ held. absurd (Contains-none x (subst (IsIn x) e held)), λ standing. absurd (Contains-none standing.0 standing.1))

pub standing_more : (configs : List (List ℕ)) (place : ℕ) (config : List ℕ) (sets : List (List ℕ)) (all new : List ℕ) → place < length configs → config ≡ get_or configs place [] → AreOfOne sets config
    → ((x : ℕ) → IsIn x all ↔ StandingIn (take place configs) sets x) → new ≡ union all (support_of config) → (x : ℕ) → IsIn x new ↔ StandingIn (take (place + 1) configs) sets x
standing_more configs place config sets all new low at inside so_far e x =
    subst (λ some. IsIn x new ↔ StandingIn some sets x) (ap (λ c. take place configs ++ c ∷ []) at ∙ sym (take_more configs place [] low)) (
      λ held. elim (IsIn-union_cases all (support_of config) x (subst (IsIn x) e held)) [
        | inl old ↦ (let (other, there, of_one, on) = (so_far x).0 old in (other, Contains-append_left (take place configs) (config ∷ []) other there, of_one, on))
        | inr own ↦ (config, Contains-append_right (take place configs) (config ∷ []) config (Contains-here config []), inside, of_support config x own)
      ],
      λ standing. subst (IsIn x) (sym e) (IsIn-union all (support_of config) x (elim (Contains-append_cases (take place configs) (config ∷ []) standing.0 standing.1) [
        | inl old ↦ inl ((so_far x).1 (standing.0, old, standing.2, standing.3))
        | inr last ↦ elim (Contains-cases standing.0 config [] last) [
          | inl same ↦ inr (Contains-support_of config x (subst (λ c. Contains c x) same standing.3))
          | inr none ↦ absurd (Contains-none standing.0 none)
        ]
      ])),
    )

pub standing_past : (configs : List (List ℕ)) (place : ℕ) (config : List ℕ) (sets : List (List ℕ)) (all : List ℕ) → place < length configs → config ≡ get_or configs place [] → (AreOfOne sets config → ⊥)
    → ((x : ℕ) → IsIn x all ↔ StandingIn (take place configs) sets x) → (x : ℕ) → IsIn x all ↔ StandingIn (take (place + 1) configs) sets x
standing_past configs place config sets all low at outside so_far x =
    subst (λ some. IsIn x all ↔ StandingIn some sets x) (ap (λ c. take place configs ++ c ∷ []) at ∙ sym (take_more configs place [] low)) (
      λ held. let (other, there, of_one, on) = (so_far x).0 held in (other, Contains-append_left (take place configs) (config ∷ []) other there, of_one, on),
      λ standing. (so_far x).1 (elim (Contains-append_cases (take place configs) (config ∷ []) standing.0 standing.1) [
        | inl old ↦ (standing.0, old, standing.2, standing.3)
        | inr last ↦ elim (Contains-cases standing.0 config [] last) [
          | inl same ↦ absurd (outside (subst (AreOfOne sets) same standing.2))
          | inr none ↦ absurd (Contains-none standing.0 none)
        ]
      ]),
    )

-- ---- all configurations
all_in : (set : List ℕ) (rest : List ℕ) → ((x : ℕ) → Contains rest x → IsIn x set) → AllByRecursion (λ z. Contains set z) rest
all_in set [] each = tt
all_in set (x ∷ rest) each = (each x (Contains-here x rest), all_in set rest (λ y held. each y (Contains-later y x rest held)))

module _ (n : ℕ) (constraint : Constraint) (sets : List (List ℕ)) (is_constraint : IsConstraint n constraint) where
  -- labels at two places of a configuration of labels of one set are joined
  stands_joins : (config : List ℕ) (x y : ℕ) → Contains constraint.configs config → AreOfOne sets config → Stands config x y → Relates sets x y × Joins constraint (set_with sets x) x y
  stands_joins config x y there of_one stands =
      let (rest, moved) = Stands-rest config x y stands in
      let back = Rearranged-sym moved in
      let one : Contains config x = Contains-Rearranged x back (Contains-here x (y ∷ rest)) in
      let two : Contains config y = Contains-Rearranged y back (Contains-later y x (y ∷ rest) (Contains-here y rest)) in
      let others : AllByRecursion (λ z. Contains (set_with sets x) z) rest =
      all_in (set_with sets x) rest (λ z own. of_one x z one (Contains-Rearranged z back (Contains-later z x (y ∷ rest) (Contains-later z y rest own)))) in
      let rises = (AllByRecursion-contains (IsConfig constraint.degree n) constraint.configs config is_constraint.configs there).ascends in
      (of_one x y one two, (rest, others, subst (Contains constraint.configs) (sym (sorted-Rearranged back ∙ sorted_again config rises)) there))

  -- and so do joined labels stand
  joins_stands : AreApart sets → (x y : ℕ) → Relates sets x y → Joins constraint (set_with sets x) x y → (config : List ℕ) × Contains constraint.configs config × AreOfOne sets config × Stands config x y
  joins_stands apart x y held joins =
      let (rest, others, there) = joins in
      let config : List ℕ = sorted (x ∷ y ∷ rest) in
      let moved = Rearranged-sorted (x ∷ y ∷ rest) in
      let own : Relates sets x x = apart.on x y x held (apart.back x y held) in
      let each : AllByRecursion (λ z. Contains (set_with sets x) z) config = AllByRecursion-Rearranged (λ z. Contains (set_with sets x) z) moved (own, (held, others)) in
      let in_one : (z : ℕ) → Contains config z → Relates sets x z = λ z own_one. AllByRecursion-contains (λ w. Contains (set_with sets x) w) config z each own_one in
      (config, there, (λ z w first second. apart.on z x w (apart.back x z (in_one z first)) (in_one w second)), rest-Stands config rest x y moved)

  pub joined_all : AreApart sets → (table : List (List ℕ)) (place : ℕ) → length constraint.configs ≤ place
      → ((x y : ℕ) → Relates table x y ↔ JoinedIn (take place constraint.configs) sets x y) → AreJoins constraint sets table
  joined_all apart table place end so_far x y =
      let all = take_all place constraint.configs end in (
        λ held. let (config, there, of_one, stands) = subst (λ configs. JoinedIn configs sets x y) all ((so_far x y).0 held) in stands_joins config x y there of_one stands,
        λ joins. (so_far x y).1 (subst (λ configs. JoinedIn configs sets x y) (sym all) (joins_stands apart x y joins.0 joins.1)),
      )

  -- a label of a configuration stands beside another one
  beside : (config : List ℕ) (x : ℕ) → Contains constraint.configs config → Contains config x → (y : ℕ) × Stands config x y
  beside config x there own =
      let count : length config ≡ constraint.degree = (AllByRecursion-contains (IsConfig constraint.degree n) constraint.configs config is_constraint.configs there).count in
      let least = is_constraint.least in
      Contains-Stands config x own (omega (arith, count, least))

  -- what stands in some of the configurations
  stands_in : (configs : List (List ℕ)) → ((config : List ℕ) → Contains configs config → Contains constraint.configs config) → (x : ℕ) → StandingIn configs sets x
      → (y : ℕ) × Relates sets x y × Joins constraint (set_with sets x) x y
  stands_in configs among x standing =
      let (config, there, of_one, own) = standing in
      let (y, stands) = beside config x (among config there) own in
      let (rel, join) = stands_joins config x y (among config there) of_one stands in
      (y, rel, join)

  pub standing_all : AreApart sets → (labels : List ℕ) (place : ℕ) → length constraint.configs ≤ place
      → ((x : ℕ) → IsIn x labels ↔ StandingIn (take place constraint.configs) sets x) → AreStanding constraint sets labels
  standing_all apart labels place end so_far x =
      let all = take_all place constraint.configs end in (
        λ held. stands_in constraint.configs (λ config there. there) x (subst (λ configs. StandingIn configs sets x) all ((so_far x).0 held)),
        λ joins.
            let (config, there, of_one, stands) = joins_stands apart x joins.0 joins.1 joins.2 in
            (so_far x).1 (subst (λ configs. StandingIn configs sets x) (sym all) (config, there, of_one, Stands-Contains config x joins.0 stands)),
      )

  -- where all labels of the sets stand in some of them
  pub standing_early : AreApart sets → (labels wanted : List ℕ) (place : ℕ) → ((x : ℕ) → IsIn x labels ↔ StandingIn (take place constraint.configs) sets x)
      → ((x : ℕ) → IsIn x wanted ↔ Relates sets x x) → within wanted labels ≡ true → AreStanding constraint sets labels
  standing_early apart labels wanted place so_far own whole x = (
    λ held. stands_in (take place constraint.configs)
        (λ config there. subst (λ configs. Contains configs config) (take-append-drop place constraint.configs) (Contains-append_left (take place constraint.configs) (drop place constraint.configs) config there))
        x ((so_far x).0 held),
    λ joins. within-IsWithin wanted labels whole x ((own x).1 (apart.on x joins.0 x joins.1 (apart.back x joins.0 joins.1))),
  )
