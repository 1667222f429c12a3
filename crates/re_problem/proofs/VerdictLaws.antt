-- What the verdict Yes means.
use Rattle.re_problem.proofs.FirstFound.{label-none as none-label}
use Rattle.re_problem.proofs.FedLines.{unnot}
use Rattle.std.proofs.Common.{◌≡◌, ℕ, zero, suc, ◌<◌, ◌≤◌, ◌+◌, Bool, true, false, not, eqb, ltb, List, [], ◌∷◌, length, map, get_or, take, refl, sym, ap, ◌∙◌, subst, arith, inl, inr, Option, Some, None}
use Rattle.std.specs.Prelude.{Contains}
use Rattle.std.specs.List.{AllByRecursion, find}
use Rattle.std.specs.Option.{option_map}
use Rattle.std.proofs.lemmas.Bool.{false≢true}
use Rattle.std.proofs.lemmas.Bool.Decides.{nat_tests}
use Rattle.std.proofs.lemmas.List.{get_or-take}
use Rattle.std.proofs.lemmas.List.Elements.{Contains-get_or}
use Rattle.re_labels.specs.Configs.{image_at, image_of}
use Rattle.re_labels.specs.Rows.{set_at}
use Rattle.re_labels.proofs.Before.{three_ways}
use Rattle.re_labels.proofs.ListSets.{In-list_set, list_set-In, rising-list_set}
use Rattle.re_labels.proofs.Membership.{Contains-In, Contains-count_from, In, In-Contains, In-map, In-map_from}
use Rattle.re_labels.proofs.Sets.{IsIn-has, has-IsIn}
use Rattle.re_labels.proofs.Tests.{and-true, eqb-same, eqb-true, true-and}
use Rattle.re_labels.specs.Lists.{count_from}
use Rattle.re_labels.specs.Sets.{has}
use Rattle.re_labels.specs.declared.sides.Side.{Side}
use Rattle.re_labels.specs.declared.sides.Side.TheVariants.{Active as ActiveSide, Passive as PassiveSide}
use Rattle.re_problem.specs.Problems.{Problem}
use Rattle.re_problem.specs.Steps.{IsRelaxed, IsRenamed, IsUpper}
use Rattle.re_labels.proofs.Goodness.{Has-has_config, IsAllowed-is_allowed, IsGood-is_good, has_config-Has, is_allowed-IsAllowed, is_good-IsGood}
use Rattle.re_labels.specs.Constraints.{Constraint, Has, IsConstraint, has_config, images_of}
use Rattle.re_labels.specs.GoodRows.{is_allowed, is_good}
use Rattle.re_problem.proofs.RisingLists.{images-few, images-many, rising-whole}
use Rattle.re_problem.specs.MapLaws.{RelaxesLaw, RenamesLaw, RestrictsLaw}
use Rattle.re_problem.specs.Verdicts.{first_empty, first_label, first_lost, first_not_allowed, first_not_good, first_twice, first_violation, has_degrees, larger, relaxation_verdict, renaming_verdict, restriction_verdict, unless}
use Rattle.re_problem.specs.declared.verdict.MapVerdict.{MapVerdict}
use Rattle.re_problem.specs.declared.verdict.MapVerdict.TheVariants.{Active, Count, Degrees, Empty, Passive, Twice, Yes}

-- ---- lists of violations
unless-none : (passes : Bool) (others : List (Option MapVerdict)) → first_violation (unless passes Degrees ∷ others) ≡ Yes → (passes ≡ true) × (first_violation others ≡ Yes)
unless-none true others e = (refl, e)
unless-none false others e = cc

none-unless : (passes : Bool) (others : List (Option MapVerdict)) → passes ≡ true → first_violation (unless passes Degrees ∷ others) ≡ first_violation others
none-unless true others e = refl
none-unless false others e = cc

mapped-none : {X : Type 0} (variant : X → MapVerdict) → ((x : X) → variant x ≡ Yes → ⊥) → (found : Option X) (others : List (Option MapVerdict)) → first_violation (option_map variant found ∷ others) ≡ Yes
    → (found ≡ None) × (first_violation others ≡ Yes)
mapped-none variant apart None others e = (refl, e)
mapped-none variant apart (Some x) others e = absurd (apart x e)

none-mapped : {X : Type 0} (variant : X → MapVerdict) (found : Option X) (others : List (Option MapVerdict)) → found ≡ None → first_violation (option_map variant found ∷ others) ≡ first_violation others
none-mapped variant None others e = refl
none-mapped variant (Some x) others e = cc

-- ---- what isn't found
found_none : {X : Type 0} (test : X → Bool) (xs : List X) → find test xs ≡ None → (x : X) → In x xs → test x ≡ false
found_none test [] e x held = absurd held
found_none {X = X} test (y ∷ xs) e x held = by_test (test y) refl (found_none test xs)
  where
    by_test : (b : Bool) → test y ≡ b → (find test xs ≡ None → (x : X) → In x xs → test x ≡ false) → test x ≡ false
    by_test true t rest = let f : find test (y ∷ xs) ≡ Some y = rw t refl in cc
    by_test false t rest = elim held [
      | inl same ↦ ap test same ∙ t
      | inr later ↦ rest (let f : find test (y ∷ xs) ≡ find test xs = rw t refl in sym f ∙ e) x later
    ]

none_found : {X : Type 0} (test : X → Bool) (xs : List X) → ((x : X) → In x xs → test x ≡ false) → find test xs ≡ None
none_found test [] fails = refl
none_found test (x ∷ xs) fails = let f : test x ≡ false = fails x (inl refl) in rw f (none_found test xs (λ y held. fails y (inr held)))

-- a test that each of a list passes
pub all_pass : {X : Type 0} (test : X → Bool) (xs : List X) → find (λ x. not (test x)) xs ≡ None → (x : X) → Contains xs x → test x ≡ true
all_pass test xs e x held = unnot (test x) (found_none (λ y. not (test y)) xs e x (Contains-In x xs held))

pub pass_all : {X : Type 0} (test : X → Bool) (xs : List X) → ((x : X) → Contains xs x → test x ≡ true) → find (λ x. not (test x)) xs ≡ None
pass_all test xs passes = none_found (λ x. not (test x)) xs (λ x held. ap not (passes x (In-Contains x xs held)))

pub label-none : (test : ℕ → Bool) (n : ℕ) → first_label test n ≡ None → (k : ℕ) → k < n → test k ≡ false
label-none test n e k l = found_none test (count_from 0 n) e k (Contains-In k (count_from 0 n) (Contains-count_from 0 n k (omega arith) (omega arith)))

-- ---- degrees
degrees-are : (problem : Problem) (active passive : ℕ) → has_degrees problem active passive ≡ true → (problem.active.degree ≡ active) × (problem.passive.degree ≡ passive)
degrees-are problem active passive h =
    let two = and-true (eqb problem.active.degree active) (eqb problem.passive.degree passive) h in
    (eqb-true problem.active.degree active two.0, eqb-true problem.passive.degree passive two.1)

are-degrees : (problem : Problem) (active passive : ℕ) → problem.active.degree ≡ active → problem.passive.degree ≡ passive → has_degrees problem active passive ≡ true
are-degrees problem active passive e f =
    true-and (eqb problem.active.degree active) (eqb problem.passive.degree passive)
    (subst (λ d. eqb problem.active.degree d ≡ true) e (eqb-same problem.active.degree)) (subst (λ d. eqb problem.passive.degree d ≡ true) f (eqb-same problem.passive.degree))

-- ---- relaxations
lost-none : (images : List ℕ) (from to : Constraint) → first_lost images from to ≡ None → (config : List ℕ) → Contains from.configs config → Has to (map (image_at images) config)
lost-none images from to e config held = has_config-Has to (map (image_at images) config) (all_pass (λ c. has_config to (map (image_at images) c)) from.configs e config held)

none-lost : (images : List ℕ) (from to : Constraint) → ((config : List ℕ) → Contains from.configs config → Has to (map (image_at images) config)) → first_lost images from to ≡ None
none-lost images from to kept = pass_all (λ c. has_config to (map (image_at images) c)) from.configs (λ config held. Has-has_config to (map (image_at images) config) (kept config held))

pub relaxes_law : RelaxesLaw
relaxes_law from to images = (λ e. is_relaxed e, λ relaxed. says_yes relaxed)
  where
    is_relaxed : relaxation_verdict from to images ≡ Yes → IsRelaxed from to (image_at images)
    is_relaxed e =
        let degrees = unless-none (has_degrees to from.active.degree from.passive.degree) _ e in
        let active = mapped-none Active (λ c h. cc) (first_lost images from.active to.active) _ degrees.1 in
        let passive = mapped-none Passive (λ c h. cc) (first_lost images from.passive to.passive) _ active.1 in
        let fit = degrees-are to from.active.degree from.passive.degree degrees.0 in
        record { active_degree = fit.0; passive_degree = fit.1; active = lost-none images from.active to.active active.0; passive = lost-none images from.passive to.passive passive.0 }

    says_yes : IsRelaxed from to (image_at images) → relaxation_verdict from to images ≡ Yes
    says_yes relaxed =
        none-unless (has_degrees to from.active.degree from.passive.degree) _ (are-degrees to from.active.degree from.passive.degree relaxed.active_degree relaxed.passive_degree)
        ∙ none-mapped Active (first_lost images from.active to.active) _ (none-lost images from.active to.active relaxed.active)
        ∙ none-mapped Passive (first_lost images from.passive to.passive) _ (none-lost images from.passive to.passive relaxed.passive)

-- ---- upper steps
pub empty-none : (sets : List (List ℕ)) → first_empty sets ≡ None → AllByRecursion (λ set. 0 < length set) sets
empty-none sets e = all_filled sets (λ k l. label-none (λ label. eqb (length (set_at sets label)) 0) (length sets) e k l)
  where
    all_filled : (sets : List (List ℕ)) → ((k : ℕ) → k < length sets → eqb (length (set_at sets k)) 0 ≡ false) → AllByRecursion (λ set. 0 < length set) sets
    all_filled [] each = tt
    all_filled (set ∷ sets) each = (let first : eqb (length set) 0 ≡ false = each 0 (omega arith) in grind (arith, nat_tests), all_filled sets (λ k l. each (suc k) (omega arith)))

none-empty : (sets : List (List ℕ)) → AllByRecursion (λ set. 0 < length set) sets → first_empty sets ≡ None
none-empty sets filled = none-label (λ label. eqb (length (set_at sets label)) 0) (length sets) (each_filled sets filled)
  where
    each_filled : (sets : List (List ℕ)) → AllByRecursion (λ set. 0 < length set) sets → (k : ℕ) → k < length sets → eqb (length (set_at sets k)) 0 ≡ false
    each_filled [] filled k l = absurd (omega arith)
    each_filled (set ∷ sets) filled zero l = let first : 0 < length set = filled.0 in grind (arith, nat_tests)
    each_filled (set ∷ sets) filled (suc k) l = each_filled sets filled.1 k (omega arith)

pub restricts_law : RestrictsLaw
restricts_law from to sets = (λ e. is_upper e, λ upper. says_yes upper.0 upper.1)
  where
    good : List ℕ → Bool
    good config = is_good from.passive (map (set_at sets) config)

    allowed : List ℕ → Bool
    allowed config = is_allowed from.active (map (set_at sets) config)

    is_upper : restriction_verdict from to sets ≡ Yes → IsUpper from to (set_at sets) × AllByRecursion (λ set. 0 < length set) sets
    is_upper e =
        let degrees = unless-none (has_degrees to from.passive.degree from.active.degree) _ e in
        let empty = mapped-none Empty (λ c h. cc) (first_empty sets) _ degrees.1 in
        let active = mapped-none Active (λ c h. cc) (first_not_good sets to.active from.passive) _ empty.1 in
        let passive = mapped-none Passive (λ c h. cc) (first_not_allowed sets to.passive from.active) _ active.1 in
        let fit = degrees-are to from.passive.degree from.active.degree degrees.0 in (
          record {
            active_degree = fit.0;
            passive_degree = fit.1;
            good = λ config held. is_good-IsGood from.passive (map (set_at sets) config) (all_pass (λ c. is_good from.passive (map (set_at sets) c)) to.active.configs active.0 config held);
            choice = λ config held. is_allowed-IsAllowed from.active (map (set_at sets) config) (all_pass (λ c. is_allowed from.active (map (set_at sets) c)) to.passive.configs passive.0 config held);
          },
          empty-none sets empty.0,
        )

    says_yes : IsUpper from to (set_at sets) → AllByRecursion (λ set. 0 < length set) sets → restriction_verdict from to sets ≡ Yes
    says_yes upper filled =
        none-unless (has_degrees to from.passive.degree from.active.degree) _ (are-degrees to from.passive.degree from.active.degree upper.active_degree upper.passive_degree)
        ∙ none-mapped Empty (first_empty sets) _ (none-empty sets filled)
        ∙ none-mapped Active (first_not_good sets to.active from.passive) _
        (pass_all (λ c. is_good from.passive (map (set_at sets) c)) to.active.configs (λ config held. IsGood-is_good from.passive (map (set_at sets) config) (upper.good config held)))
        ∙ none-mapped Passive (first_not_allowed sets to.passive from.active) _
        (pass_all (λ c. is_allowed from.active (map (set_at sets) c)) to.passive.configs (λ config held. IsAllowed-is_allowed from.active (map (set_at sets) config) (upper.choice config held)))

-- ---- renamings
larger-none : (side : Side) (from to : Constraint) → larger side from to ≡ None → length to.configs ≤ length from.configs
larger-none side from to e = by_test (ltb (length from.configs) (length to.configs)) refl
  where
    by_test : (b : Bool) → ltb (length from.configs) (length to.configs) ≡ b → length to.configs ≤ length from.configs
    by_test true t = let f : larger side from to ≡ Some side = rw t refl in cc
    by_test false t = grind (arith, nat_tests)

none-larger : (side : Side) (from to : Constraint) → length to.configs ≤ length from.configs → larger side from to ≡ None
none-larger side from to l = let t : ltb (length from.configs) (length to.configs) ≡ false = grind (arith, nat_tests) in rw t refl

twice-none : (images : List ℕ) → first_twice images ≡ None → (x y : ℕ) → x < length images → y < length images → image_at images x ≡ image_at images y → x ≡ y
twice-none images e x y lx ly same = elim (three_ways x y) [
  | inl below ↦ absurd (once x y ly below same)
  | inr (inl equal) ↦ equal
  | inr (inr above) ↦ absurd (once y x lx above (sym same))
]
  where
    shorter : (xs : List ℕ) (x y : ℕ) → x < y → y < length xs → x < length (take y xs)
    shorter [] x y below l = absurd (omega arith)
    shorter (z ∷ xs) x zero below l = absurd (omega arith)
    shorter (z ∷ xs) zero (suc y) below l = omega arith
    shorter (z ∷ xs) (suc x) (suc y) below l = let s : x < length (take y xs) = shorter xs x y (omega arith) (omega arith) in omega arith

    once : (x y : ℕ) → y < length images → x < y → image_at images x ≡ image_at images y → ⊥
    once x y ly below same =
        let held : Contains (take y images) (get_or (take y images) x 0) = Contains-get_or (take y images) x 0 (shorter images x y below ly) in
        let there : Contains (take y images) (image_at images y) = subst (Contains (take y images)) (get_or-take y images x 0 below ∙ same) held in
        false≢true (sym (label-none (λ label. has (take label images) (image_at images label)) (length images) e y ly) ∙ IsIn-has (take y images) (image_at images y) there)

none-twice : (images : List ℕ) → ((x y : ℕ) → x < length images → y < length images → image_at images x ≡ image_at images y → x ≡ y) → first_twice images ≡ None
none-twice images apart = none-label (λ label. has (take label images) (image_at images label)) (length images) (λ y l. absent y l (has (take y images) (image_at images y)) refl)
  where
    place_in : (xs : List ℕ) (y v : ℕ) → In v (take y xs) → (x : ℕ) × (x < y) × (get_or xs x 0 ≡ v)
    place_in [] zero v held = absurd held
    place_in [] (suc y) v held = absurd held
    place_in (z ∷ xs) zero v held = absurd held
    place_in (z ∷ xs) (suc y) v held = elim held [
      | inl e ↦ (0, omega arith, sym e)
      | inr later ↦ let p = place_in xs y v later in (suc p.0, omega (arith, p.1), p.2)
    ]

    absent : (y : ℕ) → y < length images → (b : Bool) → has (take y images) (image_at images y) ≡ b → has (take y images) (image_at images y) ≡ false
    absent y l false e = e
    absent y l true e =
        let p = place_in images y (image_at images y) (Contains-In (image_at images y) (take y images) (has-IsIn (take y images) (image_at images y) e)) in
        let lower : p.0 < y = p.1 in
        let same : p.0 ≡ y = apart p.0 y (omega arith) l p.2 in
        absurd (omega arith)

pub renames_law : RenamesLaw
renames_law from to images is other count = (λ e. is_renamed e, λ renamed. says_yes renamed)
  where
    same_configs : (from to : Constraint) → IsConstraint (length images) from → IsConstraint (length images) from → ((x y : ℕ) → x < length images → y < length images → image_at images x ≡ image_at images y → x ≡ y)
        → (n : ℕ) → IsConstraint n to → first_lost images from to ≡ None → length to.configs ≤ length from.configs → images_of images from ≡ to.configs
    same_configs from to is again apart n other lost few =
        rising-whole (images_of images from) to.configs (rising-list_set (map (image_of images) from.configs)) other.ascends
        (λ z held.
        let p = In-map_from (image_of images) z from.configs (In-list_set (map (image_of images) from.configs) z held) in
        subst (λ c. In c to.configs) (sym p.2) (Contains-In (image_of images p.0) to.configs (lost-none images from to lost p.0 (In-Contains p.0 from.configs p.1))))
        (omega (arith, images-many images apart from is))

    sized : (constraint : Constraint) → IsConstraint from.labels constraint → IsConstraint (length images) constraint
    sized constraint is = subst (λ n. IsConstraint n constraint) (sym count) is

    is_renamed : renaming_verdict from to images ≡ Yes → IsRenamed from to images
    is_renamed e =
        let degrees = unless-none (has_degrees to from.active.degree from.passive.degree) _ e in
        let twice = mapped-none Twice (λ c h. cc) (first_twice images) _ degrees.1 in
        let active = mapped-none Active (λ c h. cc) (first_lost images from.active to.active) _ twice.1 in
        let passive = mapped-none Passive (λ c h. cc) (first_lost images from.passive to.passive) _ active.1 in
        let larger_active = mapped-none Count (λ c h. cc) (larger ActiveSide from.active to.active) _ passive.1 in
        let larger_passive = mapped-none Count (λ c h. cc) (larger PassiveSide from.passive to.passive) _ larger_active.1 in
        let fit = degrees-are to from.active.degree from.passive.degree degrees.0 in
        let apart = twice-none images twice.0 in
        record {
          active_degree = fit.0;
          passive_degree = fit.1;
          count = count;
          apart = λ x y lx ly. apart x y (subst (λ n. x < n) (sym count) lx) (subst (λ n. y < n) (sym count) ly);
          active = same_configs from.active to.active (sized from.active is.active) (sized from.active is.active) apart to.labels other.active active.0 (larger-none ActiveSide from.active to.active larger_active.0);
          passive = same_configs from.passive to.passive (sized from.passive is.passive) (sized from.passive is.passive) apart to.labels other.passive passive.0 (larger-none PassiveSide from.passive to.passive larger_passive.0);
        }

    kept : (from to : Constraint) → images_of images from ≡ to.configs → first_lost images from to ≡ None
    kept from to same = none-lost images from to (λ config held.
        subst (λ configs. Contains configs (image_of images config)) same
        (In-Contains (image_of images config) (images_of images from) (list_set-In (map (image_of images) from.configs) (image_of images config) (In-map (image_of images) config from.configs (Contains-In config from.configs held)))))

    few : (from to : Constraint) → images_of images from ≡ to.configs → length to.configs ≤ length from.configs
    few from to same = let e = ap length same in omega (arith, e, images-few images from)

    says_yes : IsRenamed from to images → renaming_verdict from to images ≡ Yes
    says_yes renamed =
        none-unless (has_degrees to from.active.degree from.passive.degree) _ (are-degrees to from.active.degree from.passive.degree renamed.active_degree renamed.passive_degree)
        ∙ none-mapped Twice (first_twice images) _ (none-twice images (λ x y lx ly. renamed.apart x y (subst (λ n. x < n) count lx) (subst (λ n. y < n) count ly)))
        ∙ none-mapped Active (first_lost images from.active to.active) _ (kept from.active to.active renamed.active)
        ∙ none-mapped Passive (first_lost images from.passive to.passive) _ (kept from.passive to.passive renamed.passive)
        ∙ none-mapped Count (larger ActiveSide from.active to.active) _ (none-larger ActiveSide from.active to.active (few from.active to.active renamed.active))
        ∙ none-mapped Count (larger PassiveSide from.passive to.passive) _ (none-larger PassiveSide from.passive to.passive (few from.passive to.passive renamed.passive))
