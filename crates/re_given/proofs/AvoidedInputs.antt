-- What input problems that are unavoidable leave of a bound.
use Rattle.std.proofs.Common.{◌≡◌, ℕ, zero, suc, pred, ◌+◌, ◌-◌, ◌≤◌, ◌<◌, List, [], ◌∷◌, map, length, get_or, subst, sym, ◌∙◌, ap, arith, zero-add, inl, inr, refl}
use Rattle.std.specs.Prelude.{Contains, replicate, ◌⊎◌}
use Rattle.std.specs.List.{AllByRecursion, AllZip}
use Rattle.std.proofs.lemmas.List.{get_or-map, length-map, length-replicate}
use Rattle.re_labels.proofs.Rearranging.{AllZip-at, Contains-Rearranged, Rearranged-sym, length-AllZip}
use Rattle.re_labels.proofs.Sorting.{Rearranged-sorted, sorted_again}
use Rattle.re_labels.specs.Configs.{IsConfig, sorted}
use Rattle.re_labels.specs.Rows.{IsChoice}
use Rattle.re_given.proofs.AllInputViews.{Has-below}
use Rattle.re_given.proofs.ChainGiven.{IsInput-lower, SolvableGiven-lower, SolvableGiven-none, SolvableGiven-up, exchanged_by-add, exchanged_by-twice, lower_bound_given}
use Rattle.re_given.proofs.MappingGiven.{IsInput-same, SolvableGiven-relaxed}
use Rattle.re_given.proofs.SlowGiven.{choice_from, choice_is, good_choice}
use Rattle.re_laws.proofs.Mapping.{count_of}
use Rattle.re_given.specs.Given.{SolvableGiven, ZeroGiven}
use Rattle.re_given.specs.Inputs.{IsInput, exchanged, exchanged_by}
use Rattle.re_given.specs.Unavoidable.{IsUnavoidable, reached}
use Rattle.re_labels.proofs.Membership.{AllByRecursion-contains, AllByRecursion-from_contains, AllByRecursion-weaker}
use Rattle.re_labels.specs.Sets.{IsIn}
use Rattle.re_laws.proofs.ChainRounds.{IsProblem-lower, Solvable-lower, Solvable-up}
use Rattle.re_laws.proofs.ZeroRounds.{Solvable-zero}
use Rattle.re_laws.specs.Chains.{IsLowerChain}
use Rattle.re_laws.specs.Chains as chain
use Rattle.re_problem.specs.Problems.{IsProblem, Problem}
use Rattle.re_problem.specs.Steps.{Becomes, IsRelaxed, IsUpper}
use Rattle.re_problem.specs.Zero.{Zero}
use Rattle.re_labels.specs.Constraints.{Has}
use Rattle.re_labels.specs.GoodRows.{IsAllowed}

module _ (problem input : Problem) (is : IsProblem problem) (is_input : IsInput problem input) (sets : ℕ → List ℕ) (upper : IsUpper problem (exchanged input) sets) where
  -- each active input configuration gets the first choice from its sets that is active
  abbrev image : List ℕ → List ℕ
  image config = choice_from problem.active sets config

  image_is : (config : List ℕ) → Contains input.active.configs config → IsChoice (image config) (map sets config) × Has problem.active (image config)
  image_is config held =
      let config_is : IsConfig input.active.degree input.labels config = AllByRecursion-contains (IsConfig input.active.degree input.labels) input.active.configs config is_input.is_problem.active.configs held in
      let allowed : IsAllowed problem.active (map sets (sorted config)) = subst (λ (c : List ℕ). IsAllowed problem.active (map sets c)) (sym (sorted_again config config_is.ascends)) (upper.choice config held) in
      choice_is problem.active sets config allowed

  image_count : (config : List ℕ) → Contains input.active.configs config → (length (image config) ≡ input.active.degree) × AllByRecursion (λ x. x < problem.labels) (image config)
  image_count config held =
      let (chosen, has) = image_is config held in (
        count_of problem.labels problem.active (image config) is.active has ∙ sym is_input.active_degree,
        AllByRecursion-from_contains (λ x. x < problem.labels) (image config) (Has-below problem.labels problem.active (image config) is.active has),
      )

  -- what an input label becomes lies in its set
  becomes_in : (x y : ℕ) → Becomes input.active image x y → Contains (sets x) y
  becomes_in x y (config, held, (k, l, m, ex, ey)) =
      let chosen : IsChoice (image config) (map sets config) = (image_is config held).0 in
      let member : Contains (get_or (map sets config) k []) (get_or (image config) k y) = AllZip-at IsIn (image config) (map sets config) k y [] chosen m in
      let set_is : get_or (map sets config) k [] ≡ sets (get_or config k x) = get_or-map sets config k x [] l in
      subst (λ z. Contains (sets z) y) ex (subst (λ z. Contains (sets (get_or config k x)) z) ey (subst (λ set. Contains set (get_or (image config) k y)) set_is member))

  chosen_of : (labels drawn : List ℕ) → AllZip (Becomes input.active image) labels drawn → IsChoice drawn (map sets labels)
  chosen_of [] [] stand = tt
  chosen_of [] (y ∷ drawn) stand = absurd stand
  chosen_of (x ∷ labels) [] stand = absurd stand
  chosen_of (x ∷ labels) (y ∷ drawn) stand = (becomes_in x y stand.0, chosen_of labels drawn stand.1)

  pub Zero-unavoidable : IsUnavoidable input problem.labels → Zero problem
  Zero-unavoidable unavoidable = go (unavoidable image image_count)
    where
      go : (config : List ℕ) × Contains input.active.configs config × ((drawn : List ℕ) → length drawn ≡ input.passive.degree → AllByRecursion (Contains (image config)) drawn → (labels : List ℕ) × AllZip (Becomes input.active image) labels drawn × Has input.passive labels) → Zero problem
      go (config, held, met) = (sorted (image config), (image_is config held).1, passes)
        where
          passes : (drawn : List ℕ) → length drawn ≡ problem.passive.degree → AllByRecursion (Contains (sorted (image config))) drawn → Has problem.passive drawn
          passes drawn count each =
              let within : AllByRecursion (Contains (image config)) drawn = AllByRecursion-weaker (Contains (sorted (image config))) (Contains (image config)) (λ x. Contains-Rearranged x (Rearranged-sym (Rearranged-sorted (image config)))) drawn each in
              let (labels, stand, has) = met drawn (count ∙ sym is_input.passive_degree) within in
              good_choice problem.passive sets labels drawn (upper.good (sorted labels) has) (chosen_of labels drawn stand)

-- what is zero given an input problem that is unavoidable is zero without it
pub Zero-from_given : (problem input : Problem) → IsProblem problem → IsInput problem input → IsUnavoidable input problem.labels → ZeroGiven problem input → Zero problem
Zero-from_given problem input is is_input unavoidable (sets, upper) = Zero-unavoidable problem input is is_input sets upper unavoidable

pub lower_bound_unavoidable : {first last input : Problem} {k : ℕ} → IsProblem first → IsInput first input → IsLowerChain first k last → (Zero last → ⊥) → IsUnavoidable (exchanged_by k input) last.labels → (T : ℕ) → T ≤ k → SolvableGiven first input T → ⊥
lower_bound_unavoidable {first} {last} {input} {k} is is_input steps not_zero unavoidable T l h =
    lower_bound_given is is_input steps (λ given. not_zero (Zero-from_given last (exchanged_by k input) (IsProblem-lower steps is) (IsInput-lower steps is_input) unavoidable given)) T l h

-- one chain of steps behind another
chained_steps : {first middle last : Problem} {k m : ℕ} → IsLowerChain first k middle → IsLowerChain middle m last → IsLowerChain first (k + m) last
chained_steps {first} {middle} {last} {m = m} chain.IsLowerChain.done rest = subst (λ n. IsLowerChain first n last) (sym (zero-add m)) rest
chained_steps {first} {middle} {last} {m = m} (chain.IsLowerChain.step {k = k} is_next mapped steps) rest =
    let more : suc (k + m) ≡ suc k + m = omega arith in
    subst (λ n. IsLowerChain first n last) more (chain.IsLowerChain.step is_next mapped (chained_steps steps rest))

-- ---- round a loop
module _ (one last middle : Problem) (j k : ℕ) (image : ℕ → ℕ) (is : IsProblem one) (steps : IsLowerChain one k last) (relaxed : IsRelaxed last middle image) (is_middle : IsProblem middle) (onward : IsLowerChain middle j one) where
  is_last : IsProblem last
  is_last = IsProblem-lower steps is

  -- once round
  round : (input : Problem) → IsInput one input → IsInput one (exchanged_by j (exchanged_by k input)) × ((T : ℕ) → SolvableGiven one input (k + (j + T)) → SolvableGiven one (exchanged_by j (exchanged_by k input)) T)
  round input is_input =
      let at_last : IsInput last (exchanged_by k input) = IsInput-lower steps is_input in
      let at_middle : IsInput middle (exchanged_by k input) = IsInput-same last middle (exchanged_by k input) at_last relaxed.active_degree relaxed.passive_degree in (
        IsInput-lower onward at_middle,
        λ T h. SolvableGiven-lower onward is_middle at_middle T (SolvableGiven-relaxed last middle (exchanged_by k input) image (j + T) is_last is_middle at_last relaxed (SolvableGiven-lower steps is is_input (j + T) h)),
      )

  -- twice round leads to the same input problem
  same_input : (input : Problem) → exchanged_by j (exchanged_by k (exchanged_by j (exchanged_by k input))) ≡ input
  same_input input =
      let turns : (j + k) + (j + k) ≡ j + (k + (j + k)) = omega arith in
      let whole : exchanged_by (j + (k + (j + k))) input ≡ exchanged_by j (exchanged_by k (exchanged_by j (exchanged_by k input))) =
      exchanged_by-add j (k + (j + k)) input ∙ ap (exchanged_by j) (exchanged_by-add k (j + k) input ∙ ap (exchanged_by k) (exchanged_by-add j k input)) in
      sym whole ∙ (ap (λ n. exchanged_by n input) (sym turns) ∙ exchanged_by-twice (j + k) input)

  pub down : (input : Problem) → IsInput one input → 0 < k + j → (bound T : ℕ) → T ≤ bound → SolvableGiven one input T → SolvableGiven one input 0
  down input is_input some zero T l h = SolvableGiven-up one input T 0 is_input l h
  down input is_input some (suc bound) T l h =
      let left : ℕ = T - ((k + j) + (k + j)) in
      let once = round input is_input in
      let twice = round (exchanged_by j (exchanged_by k input)) once.0 in
      let enough : SolvableGiven one input (k + (j + (k + (j + left)))) = SolvableGiven-up one input T (k + (j + (k + (j + left)))) is_input (omega arith) h in
      let again : SolvableGiven one input left = subst (λ i. SolvableGiven one i left) (same_input input) (twice.1 left (once.1 (k + (j + left)) enough)) in
      down input is_input some bound left (omega (arith, some)) again

pub fixed_point_at : {first one last middle input : Problem} {before j k : ℕ} {image : ℕ → ℕ} → IsProblem first → IsInput first input → IsLowerChain first before one → IsLowerChain one k last → IsRelaxed last middle image → IsProblem middle → IsLowerChain middle j one → 0 < k + j
    → (Zero last → ⊥) → IsUnavoidable (exchanged_by before input) one.labels → (T : ℕ) → SolvableGiven first input T → ⊥
fixed_point_at {first} {one} {last} {middle} {input} {before} {j} {k} {image} is is_input to_one steps relaxed is_middle onward some not_zero unavoidable T h =
    let is_one : IsProblem one = IsProblem-lower to_one is in
    let at_one : Problem = exchanged_by before input in
    let one_input : IsInput one at_one = IsInput-lower to_one is_input in
    let there : SolvableGiven one at_one T = SolvableGiven-lower to_one is is_input T (SolvableGiven-up first input T (before + T) is_input (omega arith) h) in
    let none : SolvableGiven one at_one 0 = down one last middle j k image is_one steps relaxed is_middle onward at_one one_input some T T (omega arith) there in
    let zero_one : Zero one = Zero-from_given one at_one is_one one_input unavoidable ((SolvableGiven-none one at_one is_one one_input).0 none) in
    let solvable_last = Solvable-lower steps is_one 0 (Solvable-up one 0 (k + 0) (omega arith) ((Solvable-zero one is_one).1 zero_one)) in
    not_zero ((Solvable-zero last (IsProblem-lower steps is_one)).0 solvable_last)

-- each problem of the loop may stand for the last one
pub loop_given : {first middle one last input : Problem} {back j k : ℕ} {image : ℕ → ℕ} → IsProblem first → IsInput first input → IsLowerChain first back middle → IsLowerChain middle j one → IsLowerChain one k last → 0 < j + k → IsRelaxed last middle image
    → (ZeroGiven one (exchanged_by (back + j) input) → ⊥) → (T : ℕ) → SolvableGiven first input T → ⊥
loop_given {first} {middle} {one} {last} {input} {back} {j} {k} {image} is is_input to_middle onward steps some relaxed not_zero T h =
    let to_one : IsLowerChain first (back + j) one = chained_steps to_middle onward in
    let is_one : IsProblem one = IsProblem-lower to_one is in
    let at_one : Problem = exchanged_by (back + j) input in
    let one_input : IsInput one at_one = IsInput-lower to_one is_input in
    let there : SolvableGiven one at_one T = SolvableGiven-lower to_one is is_input T (SolvableGiven-up first input T (back + j + T) is_input (omega arith) h) in
    let none : SolvableGiven one at_one 0 = down one last middle j k image is_one steps relaxed (IsProblem-lower to_middle is) onward at_one one_input (omega (arith, some)) T T (omega arith) there in
    not_zero ((SolvableGiven-none one at_one is_one one_input).0 none)

-- lists of fewer labels are lists of more
pub unavoidable_fewer : (input : Problem) (m n : ℕ) → m ≤ n → IsUnavoidable input n → IsUnavoidable input m
unavoidable_fewer input m n l unavoidable image each =
    unavoidable image (λ config held. let (count, below) = each config held in (count, AllByRecursion-weaker (λ x. x < m) (λ x. x < n) (λ x i. omega arith) (image config) below))

-- each problem of a loop may stand for the last one, so it is enough that the input problem there is unavoidable for its labels
pub loop_unavoidable : {first middle one last input : Problem} {back j k : ℕ} {image : ℕ → ℕ} → IsProblem first → IsInput first input → IsLowerChain first back middle → IsLowerChain middle j one → IsLowerChain one k last → 0 < j + k → IsRelaxed last middle image
    → (Zero last → ⊥) → IsUnavoidable (exchanged_by (back + j) input) one.labels → (T : ℕ) → SolvableGiven first input T → ⊥
loop_unavoidable {first} {middle} {one} {last} {input} {back} {j} {k} is is_input to_middle onward steps some relaxed not_zero unavoidable T h =
    fixed_point_at is is_input (chained_steps to_middle onward) steps relaxed (IsProblem-lower to_middle is) onward (omega (arith, some)) not_zero unavoidable T h

-- an even or an odd number
pub halves : (n : ℕ) → ((half : ℕ) × (n ≡ half + half)) ⊎ ((half : ℕ) × (suc n ≡ half + half))
halves zero = inl (0, refl)
halves (suc n) = elim (halves n) [
  | inl (half, e) ↦ inr (suc half, omega arith)
  | inr (half, e) ↦ inl (half, e)
]

-- exchanged an even number of times it is what it was
at_even : (input : Problem) (n : ℕ) → IsUnavoidable input n → (m half labels : ℕ) → m ≡ half + half → labels ≤ n → IsUnavoidable (exchanged_by m input) labels
at_even input n unavoidable m half labels e l =
    let same : exchanged_by m input ≡ input = ap (λ m. exchanged_by m input) e ∙ exchanged_by-twice half input in
    subst (λ i. IsUnavoidable i labels) (sym same) (unavoidable_fewer input labels n l unavoidable)

-- at an even place stands the problem to which the last one goes back, or the one behind it
pub fixed_point_unavoidable : {first middle last input : Problem} {back k n : ℕ} {image : ℕ → ℕ} → IsProblem first → IsInput first input → IsLowerChain first back middle → (round : IsLowerChain middle k last) → 0 < k → IsRelaxed last middle image → (Zero last → ⊥)
    → AllByRecursion (λ (problem : Problem). problem.labels ≤ n) (middle ∷ reached round) → IsUnavoidable input n → (T : ℕ) → SolvableGiven first input T → ⊥
fixed_point_unavoidable is is_input to_middle chain.IsLowerChain.done some relaxed not_zero few unavoidable T h = absurd (omega (arith, some))
fixed_point_unavoidable {first} {middle} {last} {input} {back} {n = n} is is_input to_middle (chain.IsLowerChain.step {next = next} {k = k} is_next mapped rest) some relaxed not_zero few unavoidable T h = go (halves back)
  where
    is_middle : IsProblem middle
    is_middle = IsProblem-lower to_middle is

    go : ((half : ℕ) × (back ≡ half + half)) ⊎ ((half : ℕ) × (suc back ≡ half + half)) → ⊥
    go (inl (half, e)) =
        fixed_point_at is is_input to_middle (chain.IsLowerChain.step is_next mapped rest) relaxed is_middle chain.IsLowerChain.done (omega arith) not_zero (at_even input n unavoidable back half middle.labels e few.0) T h
    go (inr (half, e)) =
        let one : IsLowerChain middle 1 next = chain.IsLowerChain.step is_next mapped chain.IsLowerChain.done in
        fixed_point_at is is_input (chained_steps to_middle one) rest relaxed is_middle one (omega arith) not_zero (at_even input n unavoidable (back + 1) half next.labels (omega (arith, e)) few.1.0) T h

-- the problem before the last one
before_last : {first last : Problem} {m n : ℕ} → (steps : IsLowerChain first (suc m) last) → AllByRecursion (λ (problem : Problem). problem.labels ≤ n) (first ∷ reached steps)
    → (prev : Problem) × IsLowerChain first m prev × IsLowerChain prev 1 last × (prev.labels ≤ n) × (last.labels ≤ n)
before_last {first} {last} {m} {n} steps few = go m steps few
  where
    go : {first last : Problem} (m : ℕ) → (steps : IsLowerChain first (suc m) last) → AllByRecursion (λ (problem : Problem). problem.labels ≤ n) (first ∷ reached steps)
        → (prev : Problem) × IsLowerChain first m prev × IsLowerChain prev 1 last × (prev.labels ≤ n) × (last.labels ≤ n)
    go {first} zero (chain.IsLowerChain.step is_next mapped chain.IsLowerChain.done) few = (first, chain.IsLowerChain.done, chain.IsLowerChain.step is_next mapped chain.IsLowerChain.done, few.0, few.1.0)
    go (suc m) (chain.IsLowerChain.step is_next mapped rest) few =
        let (prev, to_prev, one, low, high) = go m rest few.1 in
        (prev, chain.IsLowerChain.step is_next mapped to_prev, one, low, high)

-- an even number of steps, or one step less
pub shorter_bound_unavoidable : {first last input : Problem} {k n : ℕ} → IsProblem first → IsInput first input → (steps : IsLowerChain first k last) → (Zero last → ⊥) → AllByRecursion (λ (problem : Problem). problem.labels ≤ n) (first ∷ reached steps)
    → IsUnavoidable input n → (T : ℕ) → T < k → SolvableGiven first input T → ⊥
shorter_bound_unavoidable {k = zero} is is_input steps not_zero few unavoidable T l h = absurd (omega arith)
shorter_bound_unavoidable {first = first} {last = last} {input = input} {k = suc m} {n = n} is is_input steps not_zero few unavoidable T l h = go (halves (suc m)) (before_last steps few)
  where
    go : ((half : ℕ) × (suc m ≡ half + half)) ⊎ ((half : ℕ) × (suc (suc m) ≡ half + half)) → (prev : Problem) × IsLowerChain first m prev × IsLowerChain prev 1 last × (prev.labels ≤ n) × (last.labels ≤ n) → ⊥
    go (inl (half, e)) (prev, to_prev, one, low, high) = lower_bound_unavoidable is is_input steps not_zero (at_even input n unavoidable (suc m) half last.labels e high) T (omega arith) h
    go (inr (zero, e)) (prev, to_prev, one, low, high) = absurd (omega (arith, e))
    go (inr (suc half, e)) (prev, to_prev, one, low, high) =
        let is_prev : IsProblem prev = IsProblem-lower to_prev is in
        let not_before : Zero prev → ⊥ = λ holds. not_zero ((Solvable-zero last (IsProblem-lower one is_prev)).0 (Solvable-lower one is_prev 0 (Solvable-up prev 0 (1 + 0) (omega arith) ((Solvable-zero prev is_prev).1 holds)))) in
        lower_bound_unavoidable is is_input to_prev not_before (at_even input n unavoidable m half prev.labels (omega (arith, e)) low) T (omega arith) h
