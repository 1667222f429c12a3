-- From an image of each active configuration of an input problem a problem is made that is zero given the input problem; where it is zero
-- without it, the image of some configuration is met.
use Rattle.std.proofs.Common.{◌≡◌, ℕ, ◌<◌, Bool, true, ◌&&◌, List, [], ◌∷◌, map, filter, length, get_or, subst, refl, sym, ◌∙◌, ap, arith, eqb}
use Rattle.std.specs.Prelude.{Contains}
use Rattle.std.specs.List.{AllByRecursion, AllZip, list_any}
use Rattle.std.proofs.lemmas.List.{get_or_default}
use Rattle.re_labels.proofs.LawsOfRows.{multisets_law}
use Rattle.re_labels.proofs.Rearranging.{AllZip-flip, Contains-Rearranged, Rearranged-map, Rearranged-sym, length-AllZip}
use Rattle.re_labels.proofs.Sorting.{IsConfig-sorted, Rearranged-sorted}
use Rattle.re_labels.specs.Configs.{IsConfig, sorted}
use Rattle.re_labels.specs.Orders.{multisets}
use Rattle.re_labels.specs.Rows.{IsChoice}
use Rattle.re_given.proofs.AvoidedInputs.{Zero-from_given}
use Rattle.re_given.proofs.Colourings.{filtered_constraint}
use Rattle.re_given.proofs.ZeroGiven.{config-Has}
use Rattle.re_given.specs.Given.{ZeroGiven}
use Rattle.re_given.specs.Inputs.{IsInput}
use Rattle.re_given.specs.Unavoidable.{IsMet, IsUnavoidable}
use Rattle.re_bounds.specs.OnlyUnavoidable.{OnlyUnavoidableLaw}
use Rattle.re_labels.proofs.ListSets.{In-list_set, list_set-In, rising-list_set}
use Rattle.re_labels.proofs.Membership.{AllByRecursion-contains, AllByRecursion-from_In, Contains-In, Contains-count_from, Contains-filter, Contains-filter_cases, In-Contains, In-map, In-map_from, any_found, any_true, count_from_range, length-map'}
use Rattle.re_labels.proofs.Tests.{and-true, eqb-same, eqb-true, true-and}
use Rattle.re_labels.specs.ListSets.{list_set}
use Rattle.re_labels.specs.Lists.{count_from}
use Rattle.re_laws.proofs.Mapping.{AllZip-beside, count_of}
use Rattle.re_laws.proofs.FastRounds.{some_member}
use Rattle.re_problem.specs.Problems.{IsProblem, Problem}
use Rattle.re_problem.specs.Steps.{Becomes}
use Rattle.re_problem.specs.Zero.{Zero}
use Rattle.re_labels.proofs.Goodness.{IsAllowed-Rearranged, IsAllowed-is_allowed, is_allowed-IsAllowed}
use Rattle.re_labels.specs.Constraints.{Has}
use Rattle.re_labels.specs.GoodRows.{IsAllowed, is_allowed}

-- ---- labels that stand place by place
chosen-stand : (R : ℕ → ℕ → Type 0) (sets : ℕ → List ℕ) → ((y x : ℕ) → Contains (sets x) y → R y x) → (ys xs : List ℕ) → IsChoice ys (map sets xs) → AllZip R ys xs
chosen-stand R sets f [] [] h = tt
chosen-stand R sets f [] (x ∷ xs) h = absurd h
chosen-stand R sets f (y ∷ ys) [] h = absurd h
chosen-stand R sets f (y ∷ ys) (x ∷ xs) h = (f y x h.0, chosen-stand R sets f ys xs h.1)

stand-chosen : (R : ℕ → ℕ → Type 0) (sets : ℕ → List ℕ) → ((y x : ℕ) → R y x → Contains (sets x) y) → (ys xs : List ℕ) → AllZip R ys xs → IsChoice ys (map sets xs)
stand-chosen R sets f [] [] h = tt
stand-chosen R sets f [] (x ∷ xs) h = absurd h
stand-chosen R sets f (y ∷ ys) [] h = absurd h
stand-chosen R sets f (y ∷ ys) (x ∷ xs) h = (f y x h.0, stand-chosen R sets f ys xs h.1)

all-stand : (R : ℕ → ℕ → Type 0) (P : ℕ → Type 0) → ((x y : ℕ) → R x y → P y) → (xs ys : List ℕ) → AllZip R xs ys → AllByRecursion P ys
all-stand R P f [] [] h = tt
all-stand R P f [] (y ∷ ys) h = absurd h
all-stand R P f (x ∷ xs) [] h = absurd h
all-stand R P f (x ∷ xs) (y ∷ ys) h = (f x y h.0, all-stand R P f xs ys h.1)

-- ---- the problem of an image
module _ (input : Problem) (n : ℕ) (is : IsInput input input) (image : List ℕ → List ℕ)
    (counts : (config : List ℕ) → Contains input.active.configs config → (length (image config) ≡ input.active.degree) × AllByRecursion (λ x. x < n) (image config)) where
  config_is : (config : List ℕ) → Contains input.active.configs config → IsConfig input.active.degree input.labels config
  config_is config held = AllByRecursion-contains (IsConfig input.active.degree input.labels) input.active.configs config is.is_problem.active.configs held

  -- whether an input label stands beside a label in a configuration and its image
  abbrev stands_at : ℕ → ℕ → List ℕ → ℕ → Bool
  stands_at x y config k = eqb (get_or config k x) x && eqb (get_or (image config) k y) y

  abbrev stands : ℕ → ℕ → Bool
  stands x y = list_any (λ config. list_any (stands_at x y config) (count_from 0 input.active.degree)) input.active.configs

  stands-Becomes : (x y : ℕ) → stands x y ≡ true → Becomes input.active image x y
  stands-Becomes x y e =
      let (config, held, e') = any_found (λ config. list_any (stands_at x y config) (count_from 0 input.active.degree)) input.active.configs e in
      let (k, at, t) = any_found (stands_at x y config) (count_from 0 input.active.degree) e' in
      let (one, two) = and-true (eqb (get_or config k x) x) (eqb (get_or (image config) k y) y) t in
      let range = count_from_range 0 input.active.degree k at in
      let c = config_is config held in
      let d = counts config held in
      (config, held, (k, omega (arith, range.1, c.count), omega (arith, range.1, d.0), eqb-true (get_or config k x) x one, eqb-true (get_or (image config) k y) y two))

  Becomes-stands : (x y : ℕ) → Becomes input.active image x y → stands x y ≡ true
  Becomes-stands x y (config, held, (k, l, l', e, e')) =
      let c = config_is config held in
      any_true (λ config. list_any (stands_at x y config) (count_from 0 input.active.degree)) input.active.configs config held
      (any_true (stands_at x y config) (count_from 0 input.active.degree) k (Contains-count_from 0 input.active.degree k (omega arith) (omega (arith, l, c.count)))
      (true-and (eqb (get_or config k x) x) (eqb (get_or (image config) k y) y) (ap (λ z. eqb z x) e ∙ eqb-same x) (ap (λ z. eqb z y) e' ∙ eqb-same y)))

  label_low : (x y : ℕ) → Becomes input.active image x y → y < n
  label_low x y (config, held, (k, l, l', e, e')) = AllByRecursion-contains (λ x. x < n) (image config) y (counts config held).1 (k, l', e')

  input_low : (x y : ℕ) → Becomes input.active image x y → x < input.labels
  input_low x y (config, held, (k, l, l', e, e')) = AllByRecursion-contains (λ x. x < input.labels) config x (config_is config held).below (k, l, e)

  -- what stands beside an input label, and beside a label
  abbrev sets : ℕ → List ℕ
  sets x = filter (stands x) (count_from 0 n)

  abbrev back : ℕ → List ℕ
  back y = filter (λ x. stands x y) (count_from 0 input.labels)

  in_sets : (y x : ℕ) → Becomes input.active image x y → Contains (sets x) y
  in_sets y x b = Contains-filter (stands x) (count_from 0 n) y (Contains-count_from 0 n y (omega arith) (omega (arith, label_low x y b))) (Becomes-stands x y b)

  of_sets : (y x : ℕ) → Contains (sets x) y → Becomes input.active image x y
  of_sets y x held = stands-Becomes x y (Contains-filter_cases (stands x) (count_from 0 n) y held).1

  in_back : (x y : ℕ) → Becomes input.active image x y → Contains (back y) x
  in_back x y b = Contains-filter (λ x. stands x y) (count_from 0 input.labels) x (Contains-count_from 0 input.labels x (omega arith) (omega (arith, input_low x y b))) (Becomes-stands x y b)

  of_back : (x y : ℕ) → Contains (back y) x → Becomes input.active image x y
  of_back x y held = stands-Becomes x y (Contains-filter_cases (λ x. stands x y) (count_from 0 input.labels) x held).1

  -- active are the images, passive the multisets that stand beside passive configurations of the input problem
  abbrev whole : Problem
  whole = record {
    labels = n;
    active = record { degree = input.active.degree; configs = list_set (map (λ config. sorted (image config)) input.active.configs) };
    passive = record { degree = input.passive.degree; configs = filter (λ ys. is_allowed input.passive (map back ys)) (multisets input.passive.degree 0 n) };
  }

  whole_is : IsProblem whole
  whole_is = record {
    active = record {
      least = is.is_problem.active.least;
      most = is.is_problem.active.most;
      configs = AllByRecursion-from_In (IsConfig input.active.degree n) whole.active.configs (λ config i.
          let (c, j, e) = In-map_from (λ config. sorted (image config)) config input.active.configs (In-list_set (map (λ config. sorted (image config)) input.active.configs) config i) in
          let (count, low) = counts c (In-Contains c input.active.configs j) in
          subst (IsConfig input.active.degree n) (sym e) (IsConfig-sorted input.active.degree n (image c) count low));
      ascends = rising-list_set (map (λ config. sorted (image config)) input.active.configs);
    };
    passive = filtered_constraint input.passive.degree n (λ ys. is_allowed input.passive (map back ys)) is.is_problem.passive.least is.is_problem.passive.most;
  }

  image_has : (config : List ℕ) → Contains input.active.configs config → Has whole.active (image config)
  image_has config held = In-Contains (sorted (image config)) whole.active.configs (list_set-In (map (λ config. sorted (image config)) input.active.configs) (sorted (image config))
      (In-map (λ config. sorted (image config)) config input.active.configs (Contains-In config input.active.configs held)))

  -- labels that stand beside a passive configuration are passive, and such labels alone
  to_passive : (xs ys : List ℕ) → AllZip (Becomes input.active image) xs ys → Has input.passive xs → Has whole.passive ys
  to_passive xs ys stand has =
      let count : length ys ≡ input.passive.degree = sym (length-AllZip (Becomes input.active image) xs ys stand) ∙ count_of input.labels input.passive xs is.is_problem.passive has in
      let low : AllByRecursion (λ y. y < n) ys = all-stand (Becomes input.active image) (λ y. y < n) label_low xs ys stand in
      let here : IsAllowed input.passive (map back ys) = (xs, stand-chosen (Becomes input.active image) back in_back xs ys stand, has) in
      Contains-filter (λ ys. is_allowed input.passive (map back ys)) (multisets input.passive.degree 0 n) (sorted ys)
      (((multisets_law input.passive.degree n).1 (sorted ys)).1 (IsConfig-sorted input.passive.degree n ys count low))
      (IsAllowed-is_allowed input.passive (map back (sorted ys)) (IsAllowed-Rearranged input.passive (Rearranged-map back (Rearranged-sorted ys)) here))

  from_passive : (ys : List ℕ) → Has whole.passive ys → (xs : List ℕ) × AllZip (Becomes input.active image) xs ys × Has input.passive xs
  from_passive ys has =
      let (_, passes) = Contains-filter_cases (λ ys. is_allowed input.passive (map back ys)) (multisets input.passive.degree 0 n) (sorted ys) has in
      let (xs, chosen, held) = IsAllowed-Rearranged input.passive (Rearranged-map back (Rearranged-sym (Rearranged-sorted ys))) (is_allowed-IsAllowed input.passive (map back (sorted ys)) passes) in
      (xs, chosen-stand (Becomes input.active image) back of_back xs ys chosen, held)

  -- the image of a configuration stands beside it
  beside_it : (config : List ℕ) → Contains input.active.configs config → AllZip (Becomes input.active image) config (image config)
  beside_it config held =
      AllZip-beside (Becomes input.active image) config (image config) ((config_is config held).count ∙ sym (counts config held).0) (λ x y beside. (config, held, beside))

  -- something stands beside each input label
  filled : (x : ℕ) → x < input.labels → 0 < length (sets x)
  filled x l =
      let (config, held, (k, m, e)) = (is.occurs x l).0 in
      let y : ℕ = get_or (image config) k 0 in
      let m' : k < length (image config) = omega (arith, m, (config_is config held).count, (counts config held).0) in
      some_member (sets x) y (in_sets y x (config, held, (k, m, m', e, get_or_default (image config) k y 0 m')))

  whole_given : ZeroGiven whole input
  whole_given = (
    sets,
    record {
      active_degree = refl;
      passive_degree = refl;
      good = λ config held.
          let c : IsConfig input.passive.degree input.labels config = AllByRecursion-contains (IsConfig input.passive.degree input.labels) input.passive.configs config is.is_problem.passive.configs held in
          record {
            count = length-map' sets config ∙ c.count;
            filled = AllByRecursion-from_In (λ set. 0 < length set) (map sets config) (λ set i.
                let (x, j, e) = In-map_from sets set config i in
                subst (λ s. 0 < length s) (sym e) (filled x (AllByRecursion-contains (λ x. x < input.labels) config x c.below (In-Contains x config j))));
            choice = λ labels chosen.
                to_passive config labels (AllZip-flip (λ y x. Becomes input.active image x y) labels config (chosen-stand (λ y x. Becomes input.active image x y) sets of_sets labels config chosen))
                (config-Has input.labels input.passive config is.is_problem.passive held);
          };
      choice = λ config held. (
        image config,
        stand-chosen (λ y x. Becomes input.active image x y) sets in_sets (image config) config (AllZip-flip (Becomes input.active image) config (image config) (beside_it config held)),
        image_has config held,
      );
    },
  )

  met_somewhere : Zero whole → (config : List ℕ) × Contains input.active.configs config × IsMet input image (image config)
  met_somewhere (l, held, shows) =
      let (config, i, e) = In-map_from (λ config. sorted (image config)) l input.active.configs (In-list_set (map (λ config. sorted (image config)) input.active.configs) l (Contains-In l whole.active.configs held)) in (
        config,
        In-Contains config input.active.configs i,
        λ drawn count each. from_passive drawn (shows drawn count (AllByRecursion-from_In (Contains l) drawn (λ y j.
            subst (λ labels. Contains labels y) (sym e) (Contains-Rearranged y (Rearranged-sorted (image config)) (AllByRecursion-contains (Contains (image config)) drawn y each (In-Contains y drawn j)))))),
      )

  whole_input : IsInput whole input
  whole_input = record { is_problem = is.is_problem; active_degree = refl; passive_degree = refl; some = is.some; occurs = is.occurs }

pub only_unavoidable : OnlyUnavoidableLaw
only_unavoidable input n is = (
  λ helps image counts. met_somewhere input n is image counts (helps (whole input n is image counts) (whole_is input n is image counts) (whole_input input n is image counts) refl (whole_given input n is image counts)),
  λ unavoidable problem problem_is is_input count given. Zero-from_given problem input problem_is is_input (subst (IsUnavoidable input) (sym count) unavoidable) given,
)
