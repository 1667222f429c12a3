-- What a walk tells: the sets of labels that pass are such that an upper step leads to the exchanged input problem, and else there are none.
use Rattle.std.proofs.Common.{◌≡◌, ℕ, suc, ◌<◌, ◌≤◌, ◌+◌, ◌*◌, min, Bool, true, false, not, List, [], ◌∷◌, ◌++◌, length, map, filter, take, drop, get_or, inl, inr, refl, sym, ap, ◌∙◌, subst, arith, true≢false, length-append, length-drop}
use Rattle.std.specs.Prelude.{Contains, ◌⊎◌}
use Rattle.std.specs.List.{AllByRecursion}
use Rattle.std.proofs.lemmas.List.Elements.{Contains-get_or}
use Rattle.std.proofs.lemmas.List.{get_or-map, length-map, length-take}
use Rattle.re_labels.proofs.Membership.{AllByRecursion-contains, AllByRecursion-from_contains, Contains-In, Contains-cases, Contains-count_from, Contains-filter, Contains-filter_cases, Contains-here, Contains-later, Contains-map, Contains-map_cases, Contains-none, In, In-Contains, count_from_range, get_or-count_from, length-count_from, length-map', map-alike}
use Rattle.re_labels.proofs.Sets.{IsIn-has}
use Rattle.re_labels.proofs.Tests.{and-true, true-and}
use Rattle.re_labels.specs.Lists.{count_from}
use Rattle.re_labels.specs.Sets.{IsIn, IsLabelSet, has}
use Rattle.re_labels.proofs.Replacing.{support_law}
use Rattle.re_labels.specs.Configs.{IsConfig}
use Rattle.re_labels.specs.Rows.{IsChoice, set_at, singles}
use Rattle.re_labels.proofs.Goodness.{has_config-Has}
use Rattle.re_labels.specs.Constraints.{Constraint, IsConstraint, has_config}
use Rattle.re_labels.specs.GoodRows.{IsAllowed, IsGood}
use Rattle.re_problem.proofs.Building.{fact-occurs, occurs-fact}
use Rattle.re_problem.specs.NamedProblems.{occurs}
use Rattle.re_problem.specs.Problems.{IsProblem, Problem}
use Rattle.re_problem.specs.Steps.{IsUpper, IsUpperStep, SetEntry, entry_sets, set_for}
use Rattle.re_check.proofs.AllowedImages.{keeps_allowed_law}
use Rattle.re_check.proofs.RowChoices.{entry}
use Rattle.re_check.specs.LabelsOver.{labels_over}
use Rattle.re_check.specs.RowEntries.{row_entries}
use Rattle.re_check.specs.StepClauses.{KeepsAllowed}
use Rattle.re_check.specs.Clauses.{keep_allowed}
use Rattle.re_given.specs.Inputs.{IsInput, exchanged}
use Rattle.re_walks.proofs.FirstEntries.{allowed-front, allowed-kept, entries-parted, kept-allowed}
use Rattle.re_walks.proofs.WalkLemmas.{walk_law}
use Rattle.re_walks.specs.Walking.{BeginningsPass, NonePasses, Tells, Walk, cut, found, nowhere}
use Rattle.re_settings.proofs.Chosen.{HaveLabels, IsLike, passing_labels}
use Rattle.re_settings.proofs.Images.{are_images-split, images-take, joined-length}
use Rattle.re_settings.proofs.LastLabels.{by_last-counts, by_last-held}
use Rattle.re_settings.specs.Fits.{are_images, entries_of, fit_walk, is_image, is_in_order, joined, loose, ordered, passes, places, sets_for}
use Rattle.re_settings.specs.Laws.{FitWalkLaw, IsFitting, TellsGiven, TellsUpper, UpperWalkLaw}
use Rattle.re_laws.proofs.FastRounds.{some_member}

-- the label of an entry is over the label that its set has
over-held : (entries : List SetEntry) (x label : ℕ) → Contains entries (record { set = x ∷ []; label = label }) → IsIn label (labels_over entries x)
over-held entries x label held =
    let e : SetEntry = record { set = x ∷ []; label = label } in
    ((support_law 0 _).1 label).1 (Contains-map (λ (f : SetEntry). f.label) _ e (Contains-filter (λ (f : SetEntry). has f.set x) entries e held (IsIn-has (x ∷ []) x (Contains-here x []))))

-- ---- entries of configurations one behind the other
entries-front : (xs more labels : List ℕ) (e : SetEntry) → In e (row_entries (singles xs) labels) → In e (row_entries (singles (xs ++ more)) labels)
entries-front [] more labels e at = absurd at
entries-front (x ∷ xs) more [] e at = absurd at
entries-front (x ∷ xs) more (l ∷ labels) e (inl here) = inl here
entries-front (x ∷ xs) more (l ∷ labels) e (inr later) = inr (entries-front xs more labels e later)

-- each place has an entry
abbrev single_entry : ℕ → ℕ → SetEntry
single_entry x l = record { set = x ∷ []; label = l }

place-entry : (xs labels : List ℕ) (x : ℕ) → length xs ≤ length labels → Contains xs x → (l : ℕ) × In (single_entry x l) (row_entries (singles xs) labels)
place-entry [] labels x long held = absurd (Contains-none x held)
place-entry (y ∷ xs) [] x long held = absurd (omega (arith, long))
place-entry (y ∷ xs) (l ∷ labels) x long held = go (Contains-cases x y xs held) (place-entry xs labels x (omega (arith, long)))
  where
    go : (x ≡ y) ⊎ Contains xs x → (Contains xs x → (m : ℕ) × In (single_entry x m) (row_entries (singles xs) labels)) → (m : ℕ) × In (single_entry x m) (row_entries (singles (y ∷ xs)) (l ∷ labels))
    go (inl same) others = (l, inl (ap (λ z. single_entry z l) same))
    go (inr later) others = let (m, at) = others later in (m, inr at)

entries-first : (config others labels : List ℕ) (e : SetEntry) → In e (row_entries (singles config) (take (length config) labels)) → In e (row_entries (singles (config ++ others)) labels)
entries-first [] others labels e at = absurd at
entries-first (x ∷ config) others [] e at = absurd at
entries-first (x ∷ config) others (l ∷ labels) e (inl here) = inl here
entries-first (x ∷ config) others (l ∷ labels) e (inr later) = inr (entries-first config others labels e later)

no_entries : (config : List ℕ) (e : SetEntry) → In e (row_entries (singles config) []) → ⊥
no_entries [] e at = at
no_entries (x ∷ config) e at = at

entries-behind : (config others labels : List ℕ) (e : SetEntry) → In e (row_entries (singles others) (drop (length config) labels)) → In e (row_entries (singles (config ++ others)) labels)
entries-behind [] others labels e at = at
entries-behind (x ∷ config) others [] e at = absurd (no_entries others e at)
entries-behind (x ∷ config) others (l ∷ labels) e at = inr (entries-behind config others labels e at)

-- labels are a choice of those over the labels of their entries
choice-over : (entries : List SetEntry) (config labels : List ℕ) → length labels ≡ length config → ((e : SetEntry) → In e (row_entries (singles config) labels) → In e entries) → IsChoice labels (map (labels_over entries) config)
choice-over entries [] [] count there = tt
choice-over entries [] (l ∷ labels) count there = absurd (omega (arith, count))
choice-over entries (x ∷ config) [] count there = absurd (omega (arith, count))
choice-over entries (x ∷ config) (l ∷ labels) count there = (
  over-held entries x l (In-Contains (record { set = x ∷ []; label = l }) entries (there (record { set = x ∷ []; label = l }) (inl refl))),
  choice-over entries config labels (omega (arith, count)) (λ e at. there e (inr at)),
)

-- the labels over a label are some of the labels
entry-low : (n : ℕ) (sets : List (List ℕ)) (labels : List ℕ) (e : SetEntry) → AllByRecursion (λ label. label < n) labels → In e (row_entries sets labels) → e.label < n
entry-low n [] labels e low at = absurd at
entry-low n (s ∷ sets) [] e low at = absurd at
entry-low n (s ∷ sets) (l ∷ labels) e low (inl here) = subst (λ (f : SetEntry). f.label < n) (sym here) low.0
entry-low n (s ∷ sets) (l ∷ labels) e low (inr later) = entry-low n sets labels e low.1 later

over-low : (n : ℕ) (sets : List (List ℕ)) (labels : List ℕ) (x y : ℕ) → AllByRecursion (λ label. label < n) labels → IsIn y (labels_over (row_entries sets labels) x) → y < n
over-low n sets labels x y low held =
    let entries : List SetEntry = row_entries sets labels in
    let (e, among, same) = Contains-map_cases (λ (f : SetEntry). f.label) _ y (((support_law 0 _).1 y).0 held) in
    let (there, holds) = Contains-filter_cases (λ (f : SetEntry). has f.set x) entries e among in
    subst (λ z. z < n) same (entry-low n sets labels e low (Contains-In e entries there))

-- each set of which there is a choice has a label
choice-filled : (sets : ℕ → List ℕ) (config labels : List ℕ) (x : ℕ) → IsChoice labels (map sets config) → Contains config x → 0 < length (sets x)
choice-filled sets [] labels x chosen held = absurd (Contains-none x held)
choice-filled sets (y ∷ config) [] x chosen held = absurd chosen
choice-filled sets (y ∷ config) (l ∷ labels) x chosen held = go (Contains-cases x y config held) (λ later. choice-filled sets config labels x chosen.1 later)
  where
    go : (x ≡ y) ⊎ Contains config x → (Contains config x → 0 < length (sets x)) → 0 < length (sets x)
    go (inl same) others = subst (λ z. 0 < length (sets z)) (sym same) (some_member (sets y) l chosen.0)
    go (inr later) others = others later

filled-each : (sets : ℕ → List ℕ) (config : List ℕ) → ((x : ℕ) → Contains config x → 0 < length (sets x)) → AllByRecursion (λ (s : List ℕ). 0 < length s) (map sets config)
filled-each sets [] each = tt
filled-each sets (x ∷ config) each = (each x (Contains-here x config), filled-each sets config (λ y (k, l, e). each y (suc k, omega arith, e)))

-- ---- entries of sets for labels
labels-of : (f : ℕ → List ℕ) (xs : List ℕ) → map (λ (e : SetEntry). e.label) (map (λ x. entry (f x) x) xs) ≡ xs
labels-of f [] = refl
labels-of f (x ∷ xs) = ap (λ l. x ∷ l) (labels-of f xs)

sets-of : (P : List ℕ → Type 0) (f : ℕ → List ℕ) (xs : List ℕ) → ((x : ℕ) → Contains xs x → P (f x)) → AllByRecursion P (entry_sets (map (λ x. entry (f x) x) xs))
sets-of P f [] each = tt
sets-of P f (x ∷ xs) each = (each x (Contains-here x xs), sets-of P f xs (λ y held. each y (Contains-later y x xs held)))

entry_for : (sets : List (List ℕ)) (z : ℕ) → z < length sets → set_for (entries_of sets) z ≡ set_at sets z
entry_for sets z below =
    ap (λ (e : SetEntry). e.set) (get_or-map (λ x. entry (set_at sets x) x) (count_from 0 (length sets)) z 0 (record { set = []; label = 0 }) (omega (arith, below, length-count_from 0 (length sets))))
    ∙ ap (set_at sets) (let e : get_or (count_from 0 (length sets)) z 0 ≡ 0 + z = get_or-count_from 0 (length sets) z 0 below in let same : get_or (count_from 0 (length sets)) z 0 ≡ z = omega (arith, e) in same)

module _ (problem input : Problem) (is : IsProblem problem) (is_input : IsLike problem input) where
  abbrev d : ℕ
  d = problem.active.degree

  abbrev behind : List ℕ
  behind = loose input.active input.labels

  counts : AllByRecursion (λ (config : List ℕ). length config ≡ d) (ordered input)
  counts = subst (λ m. AllByRecursion (λ (config : List ℕ). length config ≡ m) (ordered input)) is_input.active_degree (by_last-counts input.active input.labels is_input.is_problem.active)

  places_are : length (places input) ≡ length (joined (ordered input)) + length behind
  places_are = length-map (joined (ordered input) ++ behind) (λ x. x ∷ []) ∙ length-append (joined (ordered input)) behind

  long_enough : (labels : List ℕ) → length labels ≡ length (places input) → length (ordered input) * d ≤ length labels
  long_enough labels count = omega (arith, count, places_are, joined-length d (ordered input) counts)

  -- the beginnings of what passes do
  beginnings : BeginningsPass (passes problem input) problem.labels (length (places input))
  beginnings labels assignment test k =
      let front : List SetEntry = row_entries (places input) (take k labels) in
      let more : List SetEntry = row_entries (drop k (places input)) (drop k labels) in
      let both = and-true (are_images problem.active problem.labels (ordered input) labels) (keep_allowed input.passive problem.passive (row_entries (places input) labels)) test in
      true-and (are_images problem.active problem.labels (ordered input) (take k labels)) (keep_allowed input.passive problem.passive front)
      (images-take problem.active problem.labels (ordered input) labels (long_enough labels assignment.0) assignment.1 both.0 k)
      (kept-allowed input.passive problem.passive front (allowed-front input.labels input.passive problem.passive front more is_input.is_problem.passive
      (subst (λ (es : List SetEntry). KeepsAllowed es input.passive problem.passive) (entries-parted (places input) labels k) (allowed-kept input.passive problem.passive (row_entries (places input) labels) both.1))))

  -- ---- labels that pass
  module _ (labels : List ℕ) (count : length labels ≡ length (places input)) (test : passes problem input labels ≡ true) where
    abbrev entries : List SetEntry
    entries = row_entries (places input) labels

    abbrev over : ℕ → List ℕ
    over x = labels_over entries x

    -- each configuration has an image
    images : (configs : List (List ℕ)) (rest : List ℕ) → AllByRecursion (λ (config : List ℕ). length config ≡ d) configs → length configs * d ≤ length rest → are_images problem.active problem.labels configs rest ≡ true
        → ((e : SetEntry) → In e (row_entries (singles (joined configs)) rest) → In e entries) → (config : List ℕ) → In config configs → IsAllowed problem.active (map over config)
    images [] rest sizes size are there config at = absurd at
    images (first ∷ configs) rest sizes size are there config at =
        let long : d ≤ length rest = omega (arith, size) in
        let both = and-true (is_image problem.active first (take d rest)) (are_images problem.active problem.labels configs (drop d rest)) (sym (are_images-split problem.active problem.labels first configs rest long) ∙ are) in
        let image = and-true (is_in_order first (take d rest)) (has_config problem.active (take d rest)) both.0 in
        go long image.1 at (λ later. images configs (drop d rest) sizes.1 (omega (arith, size, length-drop d rest)) both.1
        (λ e held. there e (entries-behind first (joined configs) rest e (subst (λ m. In e (row_entries (singles (joined configs)) (drop m rest))) (sym sizes.0) held))) config later)
      where
        go : d ≤ length rest → has_config problem.active (take d rest) ≡ true → In config (first ∷ configs) → (In config configs → IsAllowed problem.active (map over config)) → IsAllowed problem.active (map over config)
        go long is_image (inl here) others =
            let same : take d rest ≡ take (length first) rest = ap (λ m. take m rest) (sym sizes.0) in
            let size_is : length (take d rest) ≡ length first = length-take d rest ∙ (let z : min d (length rest) ≡ length first = omega (arith, long, sizes.0) in z) in
            subst (λ c. IsAllowed problem.active (map over c)) (sym here) (
              take d rest,
              choice-over entries first (take d rest) size_is (λ e held. there e (entries-first first (joined configs) rest e (subst (λ l. In e (row_entries (singles first) l)) same held))),
              has_config-Has problem.active (take d rest) is_image,
            )
        go long is_image (inr later) others = others later

    allowed : (config : List ℕ) → Contains input.active.configs config → IsAllowed problem.active (map over config)
    allowed config held =
        images (ordered input) labels counts (long_enough labels count) (and-true (are_images problem.active problem.labels (ordered input) labels) (keep_allowed input.passive problem.passive entries) test).0
        (entries-front (joined (ordered input)) behind labels) config (Contains-In config (ordered input) (by_last-held input.active input.labels config is_input.is_problem.active held))

    filled : (x : ℕ) → x < input.labels → 0 < length (over x)
    filled x below = go (occurs input.active x) refl
      where
        go : (b : Bool) → occurs input.active x ≡ b → 0 < length (over x)
        go true test =
            let (config, held, at) = occurs-fact input.active x test in
            let (image, chosen, has) = allowed config held in
            choice-filled over config image x chosen at
        go false test =
            let held : Contains behind x = Contains-filter (λ label. not (occurs input.active label)) (count_from 0 input.labels) x (Contains-count_from 0 input.labels x (omega arith) (omega (arith, below))) (ap not test) in
            let front : List ℕ = joined (ordered input) in
            let (l, at) = place-entry behind (drop (length front) labels) x (omega (arith, length-drop (length front) labels, count, places_are)) held in
            some_member (over x) l (over-held entries x l (In-Contains (single_entry x l) entries (entries-behind front behind labels (single_entry x l) at)))

    good : (config : List ℕ) → Contains input.passive.configs config → IsGood problem.passive (map over config)
    good config held =
        let fits : IsConfig input.passive.degree input.labels config = AllByRecursion-contains (IsConfig input.passive.degree input.labels) input.passive.configs config is_input.is_problem.passive.configs held in
        record {
          count = length-map config over ∙ fits.count ∙ is_input.passive_degree;
          filled = filled-each over config (λ x at. filled x (AllByRecursion-contains (λ z. z < input.labels) config x fits.below at));
          choice = λ ys chosen. (keeps_allowed_law input.labels input.passive problem.passive entries is_input.is_problem.passive).0
              (allowed-kept input.passive problem.passive entries (and-true (are_images problem.active problem.labels (ordered input) labels) (keep_allowed input.passive problem.passive entries) test).1) config ys held chosen;
        }

    -- as a list of sets
    set_is : (z : ℕ) → z < input.labels → set_at (sets_for input labels) z ≡ over z
    set_is z below =
        get_or-map over (count_from 0 input.labels) z 0 [] (omega (arith, below, length-count_from 0 input.labels)) ∙ ap over (let e : get_or (count_from 0 input.labels) z 0 ≡ 0 + z = get_or-count_from 0 input.labels z 0 below in omega (arith, e))

    listed : (constraint : Constraint) → IsConstraint input.labels constraint → (config : List ℕ) → Contains constraint.configs config → map (set_at (sets_for input labels)) config ≡ map over config
    listed constraint is_constraint config held = map-alike (set_at (sets_for input labels)) over config (λ z at.
        set_is z (AllByRecursion-contains (λ x. x < input.labels) config z (AllByRecursion-contains (IsConfig constraint.degree input.labels) constraint.configs config is_constraint.configs held).below at))

    as_many : length (sets_for input labels) ≡ input.labels
    as_many = length-map' over (count_from 0 input.labels) ∙ length-count_from 0 input.labels

    sets-fit : AllByRecursion (λ label. label < problem.labels) labels → IsFitting problem input (sets_for input labels)
    sets-fit low = record {
      count = as_many;
      below = AllByRecursion-from_contains (AllByRecursion (λ label. label < problem.labels)) (sets_for input labels) (λ set held.
          let (x, at, same) = Contains-map_cases over (count_from 0 input.labels) set held in
          subst (AllByRecursion (λ label. label < problem.labels)) same (AllByRecursion-from_contains (λ label. label < problem.labels) (over x) (λ y in_set. over-low problem.labels (places input) labels x y low in_set)));
      upper = record {
        active_degree = is_input.passive_degree;
        passive_degree = is_input.active_degree;
        good = λ config held. subst (IsGood problem.passive) (sym (listed input.passive is_input.is_problem.passive config held)) (good config held);
        choice = λ config held. subst (IsAllowed problem.active) (sym (listed input.active is_input.is_problem.active config held)) (allowed config held);
      };
    }

    -- as entries
    entered : (constraint : Constraint) → IsConstraint input.labels constraint → (config : List ℕ) → Contains constraint.configs config → map (set_for (entries_of (sets_for input labels))) config ≡ map over config
    entered constraint is_constraint config held = map-alike (set_for (entries_of (sets_for input labels))) over config (λ z at.
        let below : z < input.labels = AllByRecursion-contains (λ x. x < input.labels) config z (AllByRecursion-contains (IsConfig constraint.degree input.labels) constraint.configs config is_constraint.configs held).below at in
        entry_for (sets_for input labels) z (omega (arith, below, as_many)) ∙ set_is z below)

    is_set : AllByRecursion (λ label. label < problem.labels) labels → (z : ℕ) → z < input.labels → IsLabelSet problem.labels (set_at (sets_for input labels) z) × (0 < length (set_at (sets_for input labels) z))
    is_set low z below =
        let those : List ℕ = map (λ (f : SetEntry). f.label) (filter (λ (f : SetEntry). has f.set z) entries) in
        subst (λ s. IsLabelSet problem.labels s × (0 < length s)) (sym (set_is z below)) (
          (support_law problem.labels those).0 (AllByRecursion-from_contains (λ label. label < problem.labels) those (λ y among. over-low problem.labels (places input) labels z y low (((support_law 0 those).1 y).1 among))),
          filled z below,
        )

    sets-lead : AllByRecursion (λ label. label < problem.labels) labels → IsUpperStep problem (exchanged input) (entries_of (sets_for input labels))
    sets-lead low = record {
      active_degree = is_input.passive_degree;
      passive_degree = is_input.active_degree;
      labels = labels-of (set_at (sets_for input labels)) (count_from 0 (length (sets_for input labels))) ∙ ap (count_from 0) as_many;
      sets = sets-of (λ s. IsLabelSet problem.labels s × (0 < length s)) (set_at (sets_for input labels)) (count_from 0 (length (sets_for input labels))) (λ z at.
          is_set low z (let range = count_from_range 0 (length (sets_for input labels)) z at in omega (arith, range.1, as_many)));
      good = λ config held. subst (IsGood problem.passive) (sym (entered input.passive is_input.is_problem.passive config held)) (good config held);
      choice = λ config held. subst (IsAllowed problem.active) (sym (entered input.active is_input.is_problem.active config held)) (allowed config held);
    }

  none-there : NonePasses (passes problem input) problem.labels (length (places input)) → (sets : ℕ → List ℕ) → IsUpper problem (exchanged input) sets → HaveLabels problem input sets → ⊥
  none-there none sets upper have =
      let (labels, assignment, test) = passing_labels problem input is is_input sets upper have in
      true≢false (sym test ∙ none labels assignment)

  -- the set of each label has a label of the problem
  step-labels : (steps : List SetEntry) → IsUpperStep problem (exchanged input) steps → HaveLabels problem input (set_for steps)
  step-labels steps step x held =
      let (among, test) = Contains-filter_cases (λ label. not (occurs input.active label)) (count_from 0 input.labels) x held in
      let range = count_from_range 0 input.labels x among in
      let size : length steps ≡ input.labels = sym (length-map' (λ (e : SetEntry). e.label) steps) ∙ ap length step.labels ∙ length-count_from 0 input.labels in
      let e : SetEntry = get_or steps x (record { set = []; label = 0 }) in
      let there : Contains steps e = Contains-get_or steps x (record { set = []; label = 0 }) (omega (arith, range.1, size)) in
      let (is_set, some) = AllByRecursion-contains (λ s. IsLabelSet problem.labels s × (0 < length s)) (entry_sets steps) e.set step.sets (Contains-map (λ (f : SetEntry). f.set) steps e there) in
      let first : Contains e.set (get_or e.set 0 0) = Contains-get_or e.set 0 0 some in
      (get_or e.set 0 0, first, AllByRecursion-contains (λ y. y < problem.labels) e.set (get_or e.set 0 0) is_set.1 first)

  told_upper : (w : Walk) → Tells (passes problem input) problem.labels (length (places input)) w → TellsUpper problem (exchanged input) w
  told_upper (found labels) first = sets-lead labels first.assignment.0 first.meets first.assignment.1
  told_upper nowhere none = λ steps step.
      none-there none (set_for steps) (record { active_degree = step.active_degree; passive_degree = step.passive_degree; good = step.good; choice = step.choice }) (step-labels steps step)
  told_upper cut h = tt

  pub upper_tells : (tries : ℕ) → TellsUpper problem (exchanged input) (fit_walk problem input tries)
  upper_tells tries = told_upper (fit_walk problem input tries) (walk_law (passes problem input) problem.labels (length (places input)) tries beginnings)

module _ (problem input : Problem) (is : IsProblem problem) (is_input : IsInput problem input) where
  abbrev like : IsLike problem input
  like = record { is_problem = is_input.is_problem; active_degree = is_input.active_degree; passive_degree = is_input.passive_degree }

  -- each label of an input problem stands in an active configuration
  none_loose : (sets : ℕ → List ℕ) → HaveLabels problem input sets
  none_loose sets x held =
      let (among, test) = Contains-filter_cases (λ label. not (occurs input.active label)) (count_from 0 input.labels) x held in
      let range = count_from_range 0 input.labels x among in
      let there : occurs input.active x ≡ true = fact-occurs input.active x (is_input.occurs x (omega (arith, range.1))).0 in
      let impossible : not true ≡ true = ap not (sym there) ∙ test in
      absurd (cc)

  told : (w : Walk) → Tells (passes problem input) problem.labels (length (places input)) w → TellsGiven problem input w
  told (found labels) first = sets-fit problem input is like labels first.assignment.0 first.meets first.assignment.1
  told nowhere none = λ given. none-there problem input is like none given.0 given.1 (none_loose given.0)
  told cut h = tt

pub fit_walk_law : FitWalkLaw
fit_walk_law problem input tries is is_input =
    told problem input is is_input (fit_walk problem input tries) (walk_law (passes problem input) problem.labels (length (places input)) tries (beginnings problem input is (like problem input is is_input)))

pub upper_walk_law : UpperWalkLaw
upper_walk_law before next tries is is_next active passive =
    upper_tells before (exchanged next) is (record { is_problem = record { active = is_next.passive; passive = is_next.active }; active_degree = passive; passive_degree = active }) tries
