-- A problem and the reduced one are relaxations of each other, and so take as many rounds given an input problem.
use Rattle.std.proofs.Common.{◌≡◌, ℕ, ◌<◌, List, length, map, get_or, refl, sym, ap, ◌∙◌, subst, arith, Some, None, ◌↔◌}
use Rattle.std.specs.Prelude.{Contains}
use Rattle.std.proofs.lemmas.List.{map-id}
use Rattle.re_bridge.proofs.FewestImages.{reduction_law}
use Rattle.re_bridge.proofs.WithinLabels.{IsConstraint-within, images-set, number-at, numbers, old_numbers}
use Rattle.re_bridge.specs.Reductions.{IsEndomorphism, Reduces, constraint_within, image_set, problem_within, reduced_by, reduction}
use Rattle.re_changes.proofs.Numbering.{at_number}
use Rattle.re_changes.proofs.RenumberedProblems.{IsProblem-renumbered}
use Rattle.re_changes.specs.Renumbering.{number_among}
use Rattle.re_labels.proofs.Rearranging.{Contains-Rearranged, Rearranged-map, Rearranged-sym}
use Rattle.re_labels.proofs.Replacing.{has-support_of}
use Rattle.re_labels.proofs.Sorting.{Rearranged-sorted}
use Rattle.re_labels.specs.Configs.{image_at, sorted}
use Rattle.re_check.proofs.Telling.{read-held}
use Rattle.re_settings.specs.InputProblems.{input_fault}
use Rattle.re_given.proofs.MappingGiven.{IsInput-same, SolvableGiven-relaxed}
use Rattle.re_given.specs.Given.{SolvableGiven}
use Rattle.re_given.specs.Inputs.{IsInput}
use Rattle.re_settings.specs.GivenTexts.{given_input, given_problem}
use Rattle.re_settings.specs.InputFaults.{or_input_fault}
use Rattle.re_given_words.specs.ProductTexts.{made_or_refused, product_answer, product_outcome, product_refusal}
use Rattle.re_settings.specs.declared.texts.GivenTexts.{GivenTexts}
use Rattle.re_chains.specs.OverChains.{or_fault}
use Rattle.re_inputs.proofs.ProductProofs.{as_solvable_named}
use Rattle.re_inputs.specs.NamedProducts.{ProductRefuses, named_product, product_fault}
use Rattle.re_inputs.specs.declared.products.ProductFault.{ProductFault}
use Rattle.re_inputs.specs.declared.products.ProductFault.TheVariants.{Nameless, NoMemory, TooManyConfigurations, TooManyLabels}
use Rattle.re_labels.proofs.Membership.{Contains-In, Contains-filter, Contains-filter_cases, Contains-map_cases, In, In-Contains, In-filter_from, map-alike}
use Rattle.re_labels.proofs.Sets.{IsIn-has, IsWithin-within, has-IsIn, within-IsWithin}
use Rattle.re_labels.specs.Sets.{IsIn, within}
use Rattle.re_problem.proofs.StepLaws.{map-map}
use Rattle.re_problem.specs.NamedProblems.{IsNamedProblem, NamedProblem, unnamed}
use Rattle.re_problem.specs.Problems.{IsProblem, Problem}
use Rattle.re_problem.specs.Steps.{IsRelaxed}
use Rattle.re_labels.proofs.ConstraintImages.{back-held, config-below, image-held, itself-held}
use Rattle.re_labels.proofs.Goodness.{Has-Rearranged}
use Rattle.re_labels.specs.Constraints.{Constraint, Has, IsConstraint}
use Rattle.re_walks.specs.Walking.{Walk, cut, found, nowhere}
use Rattle.re_bridge_words.specs.ReduceWords.{IsReducedProductText, IsReducedText, ReducedGivenLaw, Writes}
use Rattle.re_bridge_words.specs.declared.answering.TheConstants.{MAX_TRIES}

module _ (named : NamedProblem) (is : IsNamedProblem named) (images : List ℕ) (maps : IsEndomorphism named images) where
  -- the labels that stay, and the new numbers
  abbrev stay : List ℕ
  stay = image_set images

  abbrev new : List ℕ
  new = numbers stay (length named.names)

  abbrev back : ℕ → ℕ
  back y = get_or stay y 0

  -- a label of a configuration that stays has a new number, and is the label of this number
  stays : (constraint : Constraint) → IsConstraint (length named.names) constraint → (config : List ℕ) (x : ℕ) → In config (constraint_within stay constraint).configs → In x config
      → (image_at new x < length stay) × (back (image_at new x) ≡ x)
  stays constraint c config x i j =
      let two = In-filter_from (λ config. within config stay) config constraint.configs i in
      let number : image_at new x ≡ number_among stay x = number-at stay (length named.names) x (config-below (length named.names) constraint c config x two.0 j) in
      let at = at_number stay x (images-set named is images maps).0 (Contains-In x stay (within-IsWithin config stay two.1 x (In-Contains x config j))) in
      (subst (λ k. k < length stay) (sym number) at.0, ap back number ∙ at.1)

  -- the image of a label stays
  image_stays : (y : ℕ) → y < length named.names → IsIn (image_at images y) stay
  image_stays y l =
      let m : y < length images = (let count = maps.assignment.0 in omega arith) in
      has-IsIn stay (image_at images y) (has-support_of images (image_at images y) ∙ IsIn-has images (image_at images y) (read-held images y 0 m))

  IsProblem-old : IsProblem (unnamed (old_numbers stay named))
  IsProblem-old = record {
    active = IsConstraint-within stay named.active (length named.names) is.problem.active;
    passive = IsConstraint-within stay named.passive (length named.names) is.problem.passive;
  }

  pub IsProblem-within : IsProblem (unnamed (problem_within stay named))
  IsProblem-within =
      IsProblem-renumbered stay new (old_numbers stay named) IsProblem-old
      (λ config x i j. (stays named.active is.problem.active config x i j).0) (λ config x i j. (stays named.passive is.problem.passive config x i j).0)

  -- ---- there
  image_within : (constraint : Constraint) → IsConstraint (length named.names) constraint → ((config : List ℕ) → Contains constraint.configs config → Has constraint (map (image_at images) config))
      → (config : List ℕ) → Contains constraint.configs config → Contains (constraint_within stay constraint).configs (sorted (map (image_at images) config))
  image_within constraint c held config at =
      Contains-filter (λ config. within config stay) constraint.configs (sorted (map (image_at images) config)) (held config at)
      (IsWithin-within (sorted (map (image_at images) config)) stay (λ x i.
      let (y, j, e) = Contains-map_cases (image_at images) config x (Contains-Rearranged x (Rearranged-sym (Rearranged-sorted (map (image_at images) config))) i) in
      subst (λ z. IsIn z stay) e (image_stays y (config-below (length named.names) constraint c config y (Contains-In config constraint.configs at) (Contains-In y config j)))))

  pub relaxes : IsRelaxed (unnamed named) (unnamed (problem_within stay named)) (λ x. image_at new (image_at images x))
  relaxes = record {
    active_degree = refl;
    passive_degree = refl;
    active = λ config at. carried (problem_within stay named).active config
        (image-held new (constraint_within stay named.active) (sorted (map (image_at images) config)) (image_within named.active is.problem.active maps.relaxed.active config at));
    passive = λ config at. carried (problem_within stay named).passive config
        (image-held new (constraint_within stay named.passive) (sorted (map (image_at images) config)) (image_within named.passive is.problem.passive maps.relaxed.passive config at));
  }
    where
      carried : (next : Constraint) (config : List ℕ) → Has next (map (image_at new) (sorted (map (image_at images) config))) → Has next (map (λ x. image_at new (image_at images x)) config)
      carried next config has =
          subst (Has next) (map-map (image_at new) (image_at images) config)
          (Has-Rearranged next (Rearranged-map (image_at new) (Rearranged-sym (Rearranged-sorted (map (image_at images) config)))) has)

  -- ---- and back
  same : (constraint : Constraint) → IsConstraint (length named.names) constraint → (config : List ℕ) → Contains (constraint_within stay constraint).configs config
      → Has (constraint_within stay constraint) (map (λ x. back (image_at new x)) config)
  same constraint c config held =
      subst (Has (constraint_within stay constraint))
      (sym (map-alike (λ x. back (image_at new x)) (λ x. x) config (λ x at. (stays constraint c config x (Contains-In config (constraint_within stay constraint).configs held) (Contains-In x config at)).1) ∙ map-id config))
      (itself-held (length named.names) (constraint_within stay constraint) (IsConstraint-within stay constraint (length named.names) c) config held)

  pub relaxes_back : IsRelaxed (unnamed (problem_within stay named)) (unnamed named) back
  relaxes_back = record {
    active_degree = refl;
    passive_degree = refl;
    active = λ config at. outside named.active config (back-held new (constraint_within stay named.active) back (same named.active is.problem.active) config at);
    passive = λ config at. outside named.passive config (back-held new (constraint_within stay named.passive) back (same named.passive is.problem.passive) config at);
  }
    where
      outside : (constraint : Constraint) (config : List ℕ) → Has (constraint_within stay constraint) (map back config) → Has constraint (map back config)
      outside constraint config has = (Contains-filter_cases (λ config. within config stay) constraint.configs (sorted (map back config)) has).0

  pub given_within : (input : Problem) → IsInput (unnamed named) input → (T : ℕ) → SolvableGiven (unnamed (problem_within stay named)) input T ↔ SolvableGiven (unnamed named) input T
  given_within input is_input T = (
    SolvableGiven-relaxed (unnamed (problem_within stay named)) (unnamed named) input back T IsProblem-within is.problem (IsInput-same (unnamed named) (unnamed (problem_within stay named)) input is_input refl refl) relaxes_back,
    SolvableGiven-relaxed (unnamed named) (unnamed (problem_within stay named)) input (λ x. image_at new (image_at images x)) T is.problem IsProblem-within is_input relaxes,
  )

pub reduced_given_law : ReducedGivenLaw
reduced_given_law named reduced input tries T is is_input e = go (reduction named tries) (reduction_law named tries is) e
  where
    go : (w : Walk) → Reduces named w → reduced_by named w ≡ Some reduced → SolvableGiven (unnamed reduced) (unnamed input) T ↔ SolvableGiven (unnamed named) (unnamed input) T
    go (found images) told h =
        let same : problem_within (image_set images) named ≡ reduced = (let there : Some (problem_within (image_set images) named) ≡ Some reduced = h in cc) in
        subst (λ p. SolvableGiven (unnamed p) (unnamed input) T ↔ SolvableGiven (unnamed named) (unnamed input) T) same (given_within named is images told.maps (unnamed input) is_input T)
    go nowhere told h =
        let same : named ≡ reduced = (let there : Some named ≡ Some reduced = h in cc) in
        subst (λ p. SolvableGiven (unnamed p) (unnamed input) T ↔ SolvableGiven (unnamed named) (unnamed input) T) same (λ solvable. solvable, λ solvable. solvable)
    go cut told h = absurd (let there : None ≡ Some reduced = h in cc)

-- ---- the text of the reduced product
pub product_text : (problem input made : NamedProblem) (text : List ℕ) → IsNamedProblem problem → IsNamedProblem made → IsInput (unnamed problem) (unnamed input) → product_fault problem input ≡ None → made ≡ named_product problem input
    → IsReducedText made text → IsReducedProductText problem input text
product_text problem input made text is is_made is_input none same told =
    let product : IsReducedText (named_product problem input) text = subst (λ p. IsReducedText p text) same told in
    record {
      product = product;
      rounds = λ T.
          let reduced = reduced_given_law (named_product problem input) product.reduced input MAX_TRIES T (subst IsNamedProblem same is_made)
          (IsInput-same (unnamed problem) (unnamed (named_product problem input)) (unnamed input) is_input refl refl) product.comes in
          let whole = as_solvable_named problem input T is is_input none in
          (λ h. whole.1 (reduced.0 h), λ h. reduced.1 (whole.0 h));
    }

-- ---- where there is no product
-- the reason is the one that is told
is_told : (problem input : NamedProblem) (fault : ProductFault) → (fault ≡ NoMemory → ⊥) → ProductRefuses problem input fault → product_fault problem input ≡ Some fault
is_told problem input TooManyLabels other refuses = refuses
is_told problem input (Nameless pair) other refuses = refuses.0
is_told problem input TooManyConfigurations other refuses = refuses
is_told problem input NoMemory other refuses = absurd (other refl)

-- and `product` answers so
pub told_refusal : (bytes : List ℕ) (texts : GivenTexts) (fault : ProductFault) → Writes bytes texts → input_fault texts.problem texts.input ≡ None → (fault ≡ NoMemory → ⊥) → ProductRefuses texts.problem texts.input fault
    → (product_outcome bytes ≡ product_refusal texts.problem texts.input fault) × (product_fault texts.problem texts.input ≡ Some fault)
unfolding product_outcome
told_refusal bytes texts fault (right, front, behind) none other refuses =
    let told = is_told texts.problem texts.input fault other refuses in (
      ap (λ f. or_fault f (product_answer (given_problem bytes) (given_input bytes))) right ∙ sym (λ i. product_answer (front i) (behind i))
          ∙ ap (λ f. or_input_fault texts.input f (made_or_refused texts.problem texts.input (product_fault texts.problem texts.input))) none ∙ ap (made_or_refused texts.problem texts.input) told,
      told,
    )
