-- What the first violation of a renaming says.
use Rattle.std.proofs.Common.{◌≡◌, ℕ, ◌<◌, Bool, true, false, eqb, ltb, not, List, [], ◌∷◌, length, map, take, refl, sym, ap, ◌∙◌, subst, arith, Some, None, Option, true≢false}
use Rattle.std.specs.Prelude.{◌&&◌, Contains, if◌then◌else◌}
use Rattle.std.specs.Option.{option_map}
use Rattle.std.specs.List.{AllByRecursion}
use Rattle.std.proofs.lemmas.Bool.Decides.{nat_tests}
use Rattle.re_labels.specs.Configs.{image_at}
use Rattle.re_labels.proofs.Membership.{In-Contains, count_from_range}
use Rattle.re_labels.proofs.Sets.{IsIn-has, has-IsIn}
use Rattle.re_labels.proofs.Tests.{eqb-same}
use Rattle.re_labels.specs.Lists.{count_from}
use Rattle.re_labels.specs.Sets.{has}
use Rattle.re_labels.specs.declared.sides.Side.{Side}
use Rattle.re_labels.specs.declared.sides.Side.TheVariants as side
use Rattle.re_problem.specs.Verdicts.{first_lost, first_twice, first_violation, has_degrees, larger, renaming_verdict, unless}
use Rattle.re_problem.specs.declared.verdict.MapVerdict.{MapVerdict}
use Rattle.re_problem.specs.declared.verdict.MapVerdict.TheVariants as verdict
use Rattle.re_problem.specs.Problems.{Problem}
use Rattle.re_labels.proofs.Goodness.{Has-has_config}
use Rattle.re_labels.specs.Constraints.{Constraint, Has, has_config}
use Rattle.re_why.proofs.Found.{found_passes}
use Rattle.re_why.specs.Witnesses.{ShowsRenaming}

-- ---- a list of violations
-- what holds of each violation that there is holds of the first one
of_first : (P : MapVerdict → Type 0) (violations : List (Option MapVerdict)) → AllByRecursion (λ (found : Option MapVerdict). (v : MapVerdict) → found ≡ Some v → P v) violations
    → (first_violation violations ≡ verdict.Yes → ⊥) → P (first_violation violations)
of_first P [] all other = absurd (other refl)
of_first P (None ∷ violations) all other = of_first P violations all.1 other
of_first P (Some v ∷ violations) all other = all.0 v refl

mapped : {X : Type 0} (P : MapVerdict → Type 0) (variant : X → MapVerdict) (found : Option X) → ((x : X) → Some x ≡ found → P (variant x)) → (v : MapVerdict) → option_map variant found ≡ Some v → P v
mapped P variant None shown v e = absurd (cc)
mapped P variant (Some x) shown v e = let same : variant x ≡ v = cc in subst P same (shown x refl)

unless-shown : (P : MapVerdict → Type 0) (passes : Bool) (violation : MapVerdict) → (passes ≡ false → P violation) → (v : MapVerdict) → unless passes violation ≡ Some v → P v
unless-shown P true violation shown v e = absurd (cc)
unless-shown P false violation shown v e = let same : violation ≡ v = cc in subst P same (shown refl)

-- ---- the violations
other-degrees : (from to : Problem) → has_degrees to from.active.degree from.passive.degree ≡ false → (to.active.degree ≡ from.active.degree) × (to.passive.degree ≡ from.passive.degree) → ⊥
other-degrees from to fails same =
    let active : eqb to.active.degree from.active.degree ≡ true = subst (λ d. eqb to.active.degree d ≡ true) same.0 (eqb-same to.active.degree) in
    let passive : eqb to.passive.degree from.passive.degree ≡ true = subst (λ d. eqb to.passive.degree d ≡ true) same.1 (eqb-same to.passive.degree) in
    let holds : (eqb to.active.degree from.active.degree && eqb to.passive.degree from.passive.degree) ≡ true = ap (λ b. b && eqb to.passive.degree from.passive.degree) active ∙ passive in
    true≢false (sym holds ∙ fails)

lost-shown : (images : List ℕ) (from to : Constraint) (config : List ℕ) → Some config ≡ first_lost images from to → Contains from.configs config × (Has to (map (image_at images) config) → ⊥)
lost-shown images from to config e =
    let (fails, held) = found_passes (λ c. not (has_config to (map (image_at images) c))) from.configs config e in
    (In-Contains config from.configs held, λ has. true≢false (sym fails ∙ ap not (Has-has_config to (map (image_at images) config) has)))

twice-shown : (images : List ℕ) (label : ℕ) → Some label ≡ first_twice images → (label < length images) × Contains (take label images) (image_at images label)
twice-shown images label e =
    let (passes, held) = found_passes (λ l. has (take l images) (image_at images l)) (count_from 0 (length images)) label e in
    let range = count_from_range 0 (length images) label (In-Contains label (count_from 0 (length images)) held) in
    (omega (arith, range.1), has-IsIn (take label images) (image_at images label) passes)

larger-shown : (P : MapVerdict → Type 0) (s : Side) (from to : Constraint) → (length from.configs < length to.configs → P (verdict.Count s)) → (v : MapVerdict) → option_map verdict.Count (larger s from to) ≡ Some v → P v
larger-shown P s from to shown = go (ltb (length from.configs) (length to.configs)) refl
  where
    go : (b : Bool) → ltb (length from.configs) (length to.configs) ≡ b → (v : MapVerdict) → option_map verdict.Count (if b then Some s else None) ≡ Some v → P v
    go true test v e = let same : verdict.Count s ≡ v = cc in let more : length from.configs < length to.configs = grind (arith, nat_tests) in subst P same (shown more)
    go false test v e = absurd (cc)

-- all that may be found
abbrev violations : Problem → Problem → List ℕ → List (Option MapVerdict)
violations from to images =
    unless (has_degrees to from.active.degree from.passive.degree) verdict.Degrees
    ∷ option_map verdict.Twice (first_twice images)
    ∷ option_map verdict.Active (first_lost images from.active to.active)
    ∷ option_map verdict.Passive (first_lost images from.passive to.passive)
    ∷ option_map verdict.Count (larger side.Active from.active to.active)
    ∷ option_map verdict.Count (larger side.Passive from.passive to.passive)
    ∷ []

pub renaming_fact : (from to : Problem) (images : List ℕ) → (renaming_verdict from to images ≡ verdict.Yes → ⊥) → ShowsRenaming from to images (renaming_verdict from to images)
renaming_fact from to images other =
    let P = ShowsRenaming from to images in
    of_first P (violations from to images) (
      unless-shown P (has_degrees to from.active.degree from.passive.degree) verdict.Degrees (other-degrees from to),
      (
        mapped P verdict.Twice (first_twice images) (twice-shown images),
        (
          mapped P verdict.Active (first_lost images from.active to.active) (lost-shown images from.active to.active),
          (
            mapped P verdict.Passive (first_lost images from.passive to.passive) (lost-shown images from.passive to.passive),
            (larger-shown P side.Active from.active to.active (λ more. more), (larger-shown P side.Passive from.passive to.passive (λ more. more), tt)),
          ),
        ),
      ),
    ) other
