-- A renaming keeps the colours, however often they are refined.
use Rattle.std.proofs.Common.{◌≡◌, ℕ, zero, suc, ◌+◌, ◌*◌, ◌%◌, ◌^◌, ◌<◌, Bool, true, false, cond, eqb, ltb, List, length, sym, ap, ◌∙◌, subst, arith}
use Rattle.std.specs.List.{AllByRecursion, count_by, sum_by}
use Rattle.std.proofs.lemmas.List.{ext_get_or, get_or-map}
use Rattle.re_labels.specs.Configs.{IsConfig, image_at, image_of}
use Rattle.re_labels.proofs.Membership.{AllByRecursion-In, In, get_or-count_from, length-count_from, length-map'}
use Rattle.re_labels.proofs.Tests.{eqb-same, eqb-true, same_tests}
use Rattle.re_labels.specs.Lists.{count_from}
use Rattle.re_labels.specs.declared.TheConstants.{MAX_LABELS}
use Rattle.re_changes.proofs.OneChange.{below-counted}
use Rattle.re_shaping.specs.Mixing.{mixed}
use Rattle.re_problem.specs.NamedProblems.{NamedProblem}
use Rattle.re_labels.specs.Constraints.{Constraint, IsConstraint, images_of}
use Rattle.re_shaping.specs.Answers.{KeepsColours}
use Rattle.re_shaping.specs.Colours.{colour_at, colours_by, config_number, first_colours, mark_of, next_colour, next_colours, numbers_at, pairs_alike, refined, times_in, with_single}
use Rattle.re_shaping.specs.declared.colours.TheConstants.{ACTIVE, FIRST, PASSIVE, SINGLED}
use Rattle.re_shaping.proofs.Moving.{Moves, sum-image, sum-images, sum-labels}
use Rattle.re_shaping.proofs.Sums.{sum_by-alike, sum_by-map}

-- ---- lists of colours
pub length-colours_by : (f : ℕ → ℕ) (n : ℕ) → length (colours_by f n) ≡ n
length-colours_by f n = length-map' f (count_from 0 n) ∙ length-count_from 0 n

pub colour_at-colours_by : (f : ℕ → ℕ) (n x : ℕ) → x < n → colour_at (colours_by f n) x ≡ f x
colour_at-colours_by f n x below =
    let inside : x < length (count_from 0 n) = subst (λ m. x < m) (sym (length-count_from 0 n)) below in
    get_or-map f (count_from 0 n) x 0 0 inside ∙ ap f (get_or-count_from 0 n x 0 below ∙ omega arith)

-- colours are those of the labels
colours-whole : (colours : List ℕ) → colours ≡ colours_by (colour_at colours) (length colours)
colours-whole colours =
    ext_get_or 0 colours (colours_by (colour_at colours) (length colours)) (sym (length-colours_by (colour_at colours) (length colours)))
    (λ x below. sym (colour_at-colours_by (colour_at colours) (length colours) x below))

-- ---- one renaming
module _ (from to : NamedProblem) (images : List ℕ) (move : Moves from to images) where
  same-test : (x y : ℕ) → x < length from.names → y < length from.names → eqb (image_at images y) (image_at images x) ≡ eqb y x
  same-test x y lx ly = same_tests (eqb (image_at images y) (image_at images x)) (eqb y x)
      (λ t. subst (λ z. eqb y z ≡ true)
      (move.apart y x (subst (λ n. y < n) (sym move.count) ly) (subst (λ n. x < n) (sym move.count) lx) (eqb-true (image_at images y) (image_at images x) t)) (eqb-same y))
      (λ t. subst (λ z. eqb (image_at images y) (image_at images z) ≡ true) (eqb-true y x t) (eqb-same (image_at images y)))

  module _ (colours others : List ℕ) (keeps : KeepsColours from to colours others images) where
    -- a configuration has the number of its image
    number-kept : (side : ℕ) (config : List ℕ) → AllByRecursion (λ x. x < length images) config → config_number others side (image_of images config) ≡ config_number colours side config
    unfolding config_number
    number-kept side config below = ap (λ s. mixed ((side + s) % 2 ^ 64)) (
        sum-image (λ label. mixed (colour_at others label)) images config
        ∙ sum_by-alike (λ x. mixed (colour_at others (image_at images x))) (λ x. mixed (colour_at colours x)) config
        (λ x held. ap mixed (keeps.same x (subst (λ n. x < n) move.count (AllByRecursion-In (λ y. y < length images) config x below held)))))

    -- a label stands in a configuration as often as its image in the image
    times-kept : (x number : ℕ) (config : List ℕ) → x < length from.names → AllByRecursion (λ y. y < length images) config → times_in (image_of images config) (image_at images x) number ≡ times_in config x number
    times-kept x number config lx below =
        sum-image (λ other. cond (eqb other (image_at images x)) number 0) images config
        ∙ sum_by-alike (λ y. cond (eqb (image_at images y) (image_at images x)) number 0) (λ y. cond (eqb y x) number 0) config
        (λ y held. ap (λ b. cond b number 0) (same-test x y lx (subst (λ n. y < n) move.count (AllByRecursion-In (λ z. z < length images) config y below held))))

    numbers-kept : (side : ℕ) (constraint other : Constraint) → IsConstraint (length images) constraint → images_of images constraint ≡ other.configs → (x : ℕ) → x < length from.names
        → numbers_at others side other (image_at images x) ≡ numbers_at colours side constraint x
    unfolding numbers_at
    numbers-kept side constraint other is same x lx =
        ap (sum_by (λ config. times_in config (image_at images x) (config_number others side config))) (sym same)
        ∙ sum-images images move.apart constraint is (λ config. times_in config (image_at images x) (config_number others side config))
        ∙ sum_by-alike (λ config. times_in (image_of images config) (image_at images x) (config_number others side (image_of images config))) (λ config. times_in config x (config_number colours side config)) constraint.configs
        (λ config held.
        let below = (AllByRecursion-In (IsConfig constraint.degree (length images)) constraint.configs config is.configs held).below in
        ap (times_in (image_of images config) (image_at images x)) (number-kept side config below) ∙ times-kept x (config_number colours side config) config lx below)

    next-kept : (x : ℕ) → x < length from.names → next_colour to others (image_at images x) ≡ next_colour from colours x
    unfolding next_colour
    next-kept x lx =
        let own = keeps.same x lx in
        let active = numbers-kept ACTIVE from.active to.active move.is_active move.active x lx in
        let passive = numbers-kept PASSIVE from.passive to.passive move.is_passive move.passive x lx in
        (λ i. mixed ((3 * own i + active i + passive i) % 2 ^ 64))

    pub next_colours-kept : KeepsColours from to (next_colours from colours) (next_colours to others) images
    next_colours-kept = record {
      each = length-colours_by (next_colour from colours) (length colours) ∙ keeps.each;
      all = length-colours_by (next_colour to others) (length others) ∙ keeps.all;
      same = λ x lx.
          colour_at-colours_by (next_colour to others) (length others) (image_at images x) (subst (λ n. image_at images x < n) (sym keeps.all) (move.below x lx))
          ∙ next-kept x lx
          ∙ sym (colour_at-colours_by (next_colour from colours) (length colours) x (subst (λ n. x < n) (sym keeps.each) lx));
    }

    -- both problems have as many labels of each colour
    sum-kept : (f : ℕ → ℕ) → sum_by f others ≡ sum_by f colours
    sum-kept f =
        ap (sum_by f) (colours-whole others ∙ ap (colours_by (colour_at others)) keeps.all)
        ∙ sum_by-map f (colour_at others) (count_from 0 (length to.names))
        ∙ sum-labels from to images move (λ y. f (colour_at others y))
        ∙ sum_by-alike (λ x. f (colour_at others (image_at images x))) (λ x. f (colour_at colours x)) (count_from 0 (length from.names)) (λ x held. ap f (keeps.same x (in_range x held)))
        ∙ sym (sum_by-map f (colour_at colours) (count_from 0 (length from.names)))
        ∙ sym (ap (sum_by f) (colours-whole colours ∙ ap (colours_by (colour_at colours)) keeps.each))
      where
        in_range : (x : ℕ) → In x (count_from 0 (length from.names)) → x < length from.names
        in_range x held = below-counted (length from.names) x held

    pub mark-kept : mark_of others ≡ mark_of colours
    unfolding mark_of
    mark-kept = ap (λ s. s % 2 ^ 64) (sum-kept mixed)

    pub pairs-kept : pairs_alike others ≡ pairs_alike colours
    unfolding pairs_alike
    pairs-kept =
        sum_by-alike (λ colour. count_by (λ other. eqb other colour) others) (λ colour. count_by (λ other. eqb other colour) colours) others (λ colour held. sum-kept (λ other. cond (eqb other colour) 1 0))
        ∙ sum-kept (λ colour. count_by (λ other. eqb other colour) colours)

    -- a label gets a colour of its own, and its image the same
    pub single-kept : (x : ℕ) → x < length from.names → KeepsColours from to (with_single colours x) (with_single others (image_at images x)) images
    single-kept x lx = record {
      each = length-colours_by (single colours x) (length colours) ∙ keeps.each;
      all = length-colours_by (single others (image_at images x)) (length others) ∙ keeps.all;
      same = λ y ly.
          colour_at-colours_by (single others (image_at images x)) (length others) (image_at images y) (subst (λ n. image_at images y < n) (sym keeps.all) (move.below y ly))
          ∙ singled y ly
          ∙ sym (colour_at-colours_by (single colours x) (length colours) y (subst (λ n. y < n) (sym keeps.each) ly));
    }
      where
        single : List ℕ → ℕ → ℕ → ℕ
        single cs label = λ other. (colour_at cs other + cond (eqb other label) SINGLED 0) % 2 ^ 64

        singled : (y : ℕ) → y < length from.names → single others (image_at images x) (image_at images y) ≡ single colours x y
        singled y ly = let own = keeps.same y ly in let test = same-test x y lx ly in (λ i. (own i + cond (test i) SINGLED 0) % 2 ^ 64)

  kept-either : (b : Bool) (p q r s : List ℕ) → KeepsColours from to p r images → KeepsColours from to q s images → KeepsColours from to (cond b p q) (cond b r s) images
  kept-either true p q r s k l = k
  kept-either false p q r s k l = l

  pub refined-kept : (times : ℕ) (colours others : List ℕ) → KeepsColours from to colours others images → KeepsColours from to (refined times from colours) (refined times to others) images
  unfolding refined
  refined-kept zero colours others keeps = keeps
  refined-kept (suc times) colours others keeps =
      let next = next_colours from colours in
      let other_next = next_colours to others in
      let kept = next_colours-kept colours others keeps in
      let test : ltb (pairs_alike next) (pairs_alike colours) ≡ ltb (pairs_alike other_next) (pairs_alike others) =
      (let a = pairs-kept colours others keeps in let b = pairs-kept next other_next kept in (λ i. ltb (sym b i) (sym a i))) in
      subst (λ b. KeepsColours from to (cond (ltb (pairs_alike next) (pairs_alike colours)) (refined times from next) next) (cond b (refined times to other_next) other_next) images) test
      (kept-either (ltb (pairs_alike next) (pairs_alike colours)) (refined times from next) next (refined times to other_next) other_next (refined-kept times next other_next kept) kept)

  pub first-kept : KeepsColours from to (first_colours from) (first_colours to) images
  unfolding first_colours
  first-kept = refined-kept MAX_LABELS (colours_by (λ label. FIRST) (length from.names)) (colours_by (λ label. FIRST) (length to.names)) (record {
    each = length-colours_by (λ label. FIRST) (length from.names);
    all = length-colours_by (λ label. FIRST) (length to.names);
    same = λ x lx. colour_at-colours_by (λ label. FIRST) (length to.names) (image_at images x) (move.below x lx) ∙ sym (colour_at-colours_by (λ label. FIRST) (length from.names) x lx);
  })
