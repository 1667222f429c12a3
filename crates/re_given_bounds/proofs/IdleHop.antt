-- Where input labels tell the passive configuration in which they stand, passive nodes that know them choose once for all of their edges.
use Rattle.std.proofs.Common.{◌≡◌, ℕ, zero, suc, Bool, true, false, cond, eqb, List, [], ◌∷◌, ◌++◌, map, length, refl, sym, ◌∙◌, ap, subst, arith, inl, inr}
use Rattle.std.specs.Prelude.{Contains, flat_map, find, unwrap_or}
use Rattle.std.specs.List.{concat}
use Rattle.std.proofs.lemmas.List.{length-map}
use Rattle.std.proofs.lemmas.List.Concat.{concat_is}
use Rattle.std.proofs.lemmas.List.Elements.{Contains-append_left, Contains-append_right}
use Rattle.re_labels.proofs.Rearranging.{Rearranged-map, Rearranged-sym, length-AllZip}
use Rattle.re_labels.proofs.Sorting.{Rearranged-sorted, sorted_again}
use Rattle.re_labels.specs.Configs.{IsConfig, sorted}
use Rattle.re_labels.specs.Rows.{IsChoice}
use Rattle.re_given.proofs.ChainGiven.{SolvableGiven-rounds}
use Rattle.re_given.proofs.FastGiven.{IsInput-derived}
use Rattle.re_given.proofs.GrownInputs.{both_occur}
use Rattle.re_given.proofs.MoreGiven.{SolvableGiven-more}
use Rattle.re_given.proofs.SlowGiven.{choice_from, choice_is}
use Rattle.re_given.specs.Given.{SolvableGiven, ZeroGiven}
use Rattle.re_given.specs.Inputs.{IsInput, exchanged, exchanged_by}
use Rattle.re_given_bounds.specs.Telling.{IdleHopLaw, TellsConfig}
use Rattle.re_labels.proofs.Membership.{AllByRecursion-contains, Contains-cases, Contains-flat_map, Contains-none, Distinct, first_found, map-alike}
use Rattle.re_labels.proofs.Sets.{IsIn-has, has-IsIn}
use Rattle.re_labels.proofs.Tests.{eqb-apart, eqb-same, eqb-true}
use Rattle.re_labels.specs.Sets.{IsIn, has}
use Rattle.re_local.proofs.Supports.{Distinct-support}
use Rattle.re_problem.proofs.DerivedProblem.{IsUpper-derived}
use Rattle.re_problem.proofs.StepLaws.{map-map}
use Rattle.re_problem.specs.Derived.{derived, derived_by}
use Rattle.re_problem.specs.NamedProblems.{OccursIn}
use Rattle.re_problem.specs.Problems.{Problem}
use Rattle.re_problem.specs.Steps.{IsUpper}
use Rattle.re_labels.proofs.Goodness.{IsAllowed-Rearranged, IsGood-Rearranged}
use Rattle.re_labels.specs.Constraints.{Has, IsConstraint}
use Rattle.re_labels.specs.GoodRows.{IsAllowed, IsGood}

-- ---- lists in which nothing stands twice
distinct_parts : (xs ys : List ℕ) → Distinct (xs ++ ys) → Distinct xs × Distinct ys × ((x : ℕ) → Contains xs x → Contains ys x → ⊥)
distinct_parts [] ys d = (tt, d, λ x held there. Contains-none x held)
distinct_parts (y ∷ xs) ys d =
    let (left, right, apart) = distinct_parts xs ys d.1 in (
      (λ held. d.0 (Contains-append_left xs ys y held), left),
      right,
      λ x held there. elim (Contains-cases x y xs held) [
        | inl same ↦ d.0 (Contains-append_right xs ys y (subst (Contains ys) same there))
        | inr later ↦ apart x later there
      ],
    )

-- then no list of them all has a label twice, and none has one of another
distinct_config : (configs : List (List ℕ)) (config : List ℕ) → Distinct (flat_map (λ c. c) configs) → Contains configs config → Distinct config
distinct_config [] config d held = absurd (Contains-none config held)
distinct_config (c ∷ configs) config d held =
    let (left, right, apart) = distinct_parts c (flat_map (λ c. c) configs) d in
    elim (Contains-cases config c configs held) [
      | inl same ↦ subst Distinct (sym same) left
      | inr later ↦ distinct_config configs config right later
    ]

one_config : (configs : List (List ℕ)) (config other : List ℕ) (x : ℕ) → Distinct (flat_map (λ c. c) configs) → Contains configs config → Contains configs other → Contains config x → Contains other x → config ≡ other
one_config [] config other x d held there at at' = absurd (Contains-none config held)
one_config (c ∷ configs) config other x d held there at at' = go (distinct_parts c (flat_map (λ c. c) configs) d) (λ right later later'. one_config configs config other x right later later' at at')
  where
    behind : (some : List ℕ) → Contains configs some → Contains some x → Contains (flat_map (λ c. c) configs) x
    behind some later in_some = Contains-flat_map (λ (c : List ℕ). c) configs some x later in_some

    go : Distinct c × Distinct (flat_map (λ c. c) configs) × ((x : ℕ) → Contains c x → Contains (flat_map (λ c. c) configs) x → ⊥)
        → (Distinct (flat_map (λ c. c) configs) → Contains configs config → Contains configs other → config ≡ other) → config ≡ other
    go (left, right, apart) rest = elim (Contains-cases config c configs held) [
      | inl same ↦ elim (Contains-cases other c configs there) [
        | inl same' ↦ same ∙ sym same'
        | inr later ↦ absurd (apart x (subst (λ (l : List ℕ). Contains l x) same at) (behind other later at'))
      ]
      | inr later ↦ elim (Contains-cases other c configs there) [
        | inl same' ↦ absurd (apart x (subst (λ (l : List ℕ). Contains l x) same' at') (behind config later at))
        | inr later' ↦ rest right later later'
      ]
    ]

-- ---- labels beside others
-- what stands in the second list where the label stands first in the first one
abbrev label_beside : List ℕ → List ℕ → ℕ → ℕ
label_beside [] labels x = 0
label_beside (y ∷ config) [] x = 0
label_beside (y ∷ config) (label ∷ labels) x = cond (eqb y x) label (label_beside config labels x)

all_beside : (config labels : List ℕ) → Distinct config → length labels ≡ length config → map (label_beside config labels) config ≡ labels
all_beside [] [] d e = refl
all_beside [] (label ∷ labels) d e = absurd (omega (arith, e))
all_beside (y ∷ config) [] d e = absurd (omega (arith, e))
all_beside (y ∷ config) (label ∷ labels) d e = both head (rest ∙ all_beside config labels d.1 (omega (arith, e)))
  where
    both : {x x' : ℕ} {xs xs' : List ℕ} → x ≡ x' → xs ≡ xs' → ◌≡◌ {A = List ℕ} (x ∷ xs) (x' ∷ xs')
    both p q = cc

    head : label_beside (y ∷ config) (label ∷ labels) y ≡ label
    head = ap (λ b. cond b label (label_beside config labels y)) (eqb-same y)

    rest : map (label_beside (y ∷ config) (label ∷ labels)) config ≡ map (label_beside config labels) config
    rest = map-alike (label_beside (y ∷ config) (label ∷ labels)) (label_beside config labels) config (λ x held.
        ap (λ b. cond b label (label_beside config labels x)) (eqb-apart y x (λ same. d.0 (subst (Contains config) (sym same) held))))

beside_chosen : (heads : ℕ → List ℕ) (config labels : List ℕ) (x : ℕ) → IsChoice labels (map heads config) → Contains config x → Contains (heads x) (label_beside config labels x)
beside_chosen heads [] labels x chosen held = absurd (Contains-none x held)
beside_chosen heads (y ∷ config) [] x chosen held = absurd chosen
beside_chosen heads (y ∷ config) (label ∷ labels) x chosen held = go (eqb y x) refl (λ later. beside_chosen heads config labels x chosen.1 later)
  where
    go : (b : Bool) → eqb y x ≡ b → (Contains config x → Contains (heads x) (label_beside config labels x)) → Contains (heads x) (cond b label (label_beside config labels x))
    go true e rest = subst (λ z. Contains (heads z) label) (eqb-true y x e) chosen.0
    go false e rest = elim (Contains-cases x y config held) [
      | inl same ↦ absurd (let one : eqb y x ≡ true = subst (λ z. eqb y z ≡ true) (sym same) (eqb-same y) in cc)
      | inr later ↦ rest later
    ]

-- ---- two upper steps to such an input problem, of which the second is of no use
module _ (one next input : Problem) (sets heads : ℕ → List ℕ) (first : IsUpper one next sets) (second : IsUpper next input heads) (is : IsConstraint input.labels input.passive)
    (occurs : (x : ℕ) → OccursIn input.active x → OccursIn input.passive x) (tells : TellsConfig input.passive) where
  distinct : Distinct (flat_map (λ c. c) input.passive.configs)
  distinct = subst Distinct (concat_is input.passive.configs) (Distinct-support (concat input.passive.configs) tells)

  -- the passive configuration in which the label stands
  abbrev home : ℕ → List ℕ
  home x = unwrap_or (find (λ (config : List ℕ). has config x) input.passive.configs) []

  home_is : (config : List ℕ) (x : ℕ) → Contains input.passive.configs config → Contains config x → home x ≡ config
  home_is config x held at =
      let (there, passes) = first_found (λ (config : List ℕ). has config x) input.passive.configs [] config held (IsIn-has config x at) in
      one_config input.passive.configs (home x) config x distinct there held (has-IsIn (home x) x passes) at

  -- the labels that are chosen around a passive node with this configuration
  abbrev chosen : List ℕ → List ℕ
  chosen config = choice_from next.active heads config

  -- the one beside the label
  abbrev told : ℕ → ℕ
  told x = label_beside (home x) (chosen (home x)) x

  chosen_is : (config : List ℕ) → Contains input.passive.configs config → IsChoice (chosen config) (map heads config) × Has next.active (chosen config)
  chosen_is config held =
      let config_is : IsConfig input.passive.degree input.labels config = AllByRecursion-contains (IsConfig input.passive.degree input.labels) input.passive.configs config is.configs held in
      choice_is next.active heads config (subst (λ (c : List ℕ). IsAllowed next.active (map heads c)) (sym (sorted_again config config_is.ascends)) (second.choice config held))

  told_is : (config : List ℕ) → Contains input.passive.configs config → map told config ≡ chosen config
  told_is config held =
      map-alike told (label_beside config (chosen config)) config (λ x at. ap (λ (c : List ℕ). label_beside c (chosen c) x) (home_is config x held at))
      ∙ all_beside config (chosen config) (distinct_config input.passive.configs config distinct held) (length-AllZip IsIn (chosen config) (map heads config) (chosen_is config held).0 ∙ length-map config heads)

  told_in : (x : ℕ) → OccursIn input.passive x → Contains (heads x) (told x)
  told_in x (config, held, at) =
      subst (λ (c : List ℕ). Contains (heads x) (label_beside c (chosen c) x)) (sym (home_is config x held at)) (beside_chosen heads config (chosen config) x (chosen_is config held).0 at)

  told_choice : (config : List ℕ) → ((x : ℕ) → Contains config x → OccursIn input.passive x) → IsChoice (map told config) (map heads config)
  told_choice [] there = tt
  told_choice (x ∷ config) there = (told_in x (there x (zero, omega arith, refl)), told_choice config (λ y (k, l, e). there y (suc k, omega (arith, l), e)))

  IsUpper-told : IsUpper one (exchanged input) (λ x. sets (told x))
  IsUpper-told = record {
    active_degree = second.passive_degree ∙ first.active_degree;
    passive_degree = second.active_degree ∙ first.passive_degree;
    good = λ config held.
        let good : IsGood one.passive (map sets (sorted (chosen config))) = first.good (sorted (chosen config)) (chosen_is config held).1 in
        subst (IsGood one.passive) (ap (map sets) (sym (told_is config held)) ∙ map-map sets told config)
        (IsGood-Rearranged one.passive (Rearranged-map sets (Rearranged-sym (Rearranged-sorted (chosen config)))) good);
    choice = λ config held.
        let good : IsGood next.passive (map heads config) = second.good config held in
        let has : Has next.passive (map told config) = good.choice (map told config) (told_choice config (λ x at. occurs x (config, held, at))) in
        let allowed : IsAllowed one.active (map sets (sorted (map told config))) = first.choice (sorted (map told config)) has in
        subst (IsAllowed one.active) (map-map sets told config) (IsAllowed-Rearranged one.active (Rearranged-map sets (Rearranged-sym (Rearranged-sorted (map told config)))) allowed);
  }

-- ---- rounds
IsInput-derived_by : (problem input : Problem) (k : ℕ) → IsInput problem input → IsInput (derived_by k problem) (exchanged_by k input)
IsInput-derived_by problem input zero is = is
IsInput-derived_by problem input (suc k) is = IsInput-derived (derived_by k problem) (exchanged_by k input) (IsInput-derived_by problem input k is)

idle_zero : (problem input : Problem) → IsInput problem input → TellsConfig input.passive → ZeroGiven (derived problem) (exchanged input) → ZeroGiven problem input
idle_zero problem input is tells (heads, upper) =
    let (sets, first) = derived_upper problem in
    (_, IsUpper-told problem (derived problem) input sets heads first upper is.is_problem.passive (λ x. (both_occur problem input is x).0) tells)
  where
    derived_upper : (problem : Problem) → (sets : ℕ → List ℕ) × IsUpper problem (derived problem) sets
    derived_upper problem = (_, IsUpper-derived problem)

pub idle_hop : IdleHopLaw
idle_hop problem input k is is_input tells = (
  λ solvable.
      let more : SolvableGiven problem input (suc k) = subst (λ n. SolvableGiven problem input n) (omega arith) solvable in
      (SolvableGiven-rounds problem input k is is_input).1
      (idle_zero (derived_by k problem) (exchanged_by k input) (IsInput-derived_by problem input k is_input) tells ((SolvableGiven-rounds problem input (suc k) is is_input).0 more)),
  λ solvable. subst (λ n. SolvableGiven problem input n) (omega arith) (SolvableGiven-more problem input k is_input solvable),
)
