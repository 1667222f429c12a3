-- Labels for the places that pass, from sets by which an upper step leads to the exchanged input problem.
use Rattle.std.proofs.Common.{◌≡◌, ℕ, ◌<◌, ◌+◌, true, List, [], ◌∷◌, ◌++◌, length, map, take, drop, append-nil, append_assoc, inl, inr, refl, sym, ap, ◌∙◌, subst, arith, length-append}
use Rattle.std.specs.Prelude.{Contains, ◌⊎◌}
use Rattle.std.specs.List.{AllByRecursion}
use Rattle.std.proofs.lemmas.List.{length-map}
use Rattle.std.proofs.Math.Seq.{drop-append-add, take-append-add}
use Rattle.re_labels.proofs.Membership.{AllByRecursion-from_contains, Contains-cases, Contains-here, Contains-later, Contains-none, In, Contains-In, Contains-filter_cases, Contains-map_cases}
use Rattle.re_labels.proofs.Sets.{has-IsIn}
use Rattle.re_labels.proofs.Tests.{true-and}
use Rattle.re_labels.specs.Sets.{IsIn, has}
use Rattle.re_labels.proofs.Rearranging.{length-AllZip}
use Rattle.re_labels.proofs.Replacing.{support_law}
use Rattle.re_labels.specs.Rows.{IsChoice, singles}
use Rattle.re_labels.proofs.Goodness.{Has-Rearranged, Has-has_config}
use Rattle.re_labels.specs.Constraints.{Has, has_config}
use Rattle.re_problem.specs.Problems.{IsProblem, Problem}
use Rattle.re_problem.specs.Steps.{IsUpper, SetEntry}
use Rattle.re_check.proofs.AllowedImages.{keeps_allowed_law}
use Rattle.re_check.specs.LabelsOver.{labels_over}
use Rattle.re_check.specs.RowEntries.{row_entries}
use Rattle.re_check.specs.Clauses.{keep_allowed}
use Rattle.re_given.proofs.AllInputViews.{Has-below}
use Rattle.re_laws.proofs.Mapping.{count_of}
use Rattle.re_given.specs.Inputs.{exchanged}
use Rattle.re_walks.proofs.FirstEntries.{kept-allowed, low-append}
use Rattle.re_walks.specs.Walking.{IsAssignment}
use Rattle.re_settings.proofs.Images.{are_images-split}
use Rattle.re_settings.proofs.InOrder.{in_order}
use Rattle.re_settings.proofs.LastLabels.{by_last-from}
use Rattle.re_settings.specs.Fits.{are_images, is_image, is_in_order, joined, loose, ordered, passes, places}

-- a choice of each of two rows
choice-append : (sets : ℕ → List ℕ) (config others labels more : List ℕ) → IsChoice labels (map sets config) → IsChoice more (map sets others) → IsChoice (labels ++ more) (map sets (config ++ others))
choice-append sets [] others [] more chosen rest = rest
choice-append sets [] others (l ∷ labels) more chosen rest = absurd chosen
choice-append sets (x ∷ config) others [] more chosen rest = absurd chosen
choice-append sets (x ∷ config) others (l ∷ labels) more chosen rest = (chosen.0, choice-append sets config others labels more chosen.1 rest)

-- the entries of a choice lie in the sets
chosen-entry : (sets : ℕ → List ℕ) (config labels : List ℕ) (e : SetEntry) (x : ℕ) → IsChoice labels (map sets config) → In e (row_entries (singles config) labels) → IsIn x e.set → IsIn e.label (sets x)
chosen-entry sets [] labels e x chosen at held = absurd at
chosen-entry sets (y ∷ config) [] e x chosen at held = absurd at
chosen-entry sets (y ∷ config) (l ∷ labels) e x chosen (inr later) held = chosen-entry sets config labels e x chosen.1 later held
chosen-entry sets (y ∷ config) (l ∷ labels) e x chosen (inl here) held =
    go (Contains-cases x y [] (subst (λ (f : SetEntry). IsIn x f.set) here held))
  where
    go : (x ≡ y) ⊎ Contains [] x → IsIn e.label (sets x)
    go (inr none) = absurd (Contains-none x none)
    go (inl same) = subst (λ (f : SetEntry). IsIn f.label (sets x)) (sym here) (subst (λ z. IsIn l (sets z)) (sym same) chosen.0)

-- so the labels over an input label are in its set
over-chosen : (sets : ℕ → List ℕ) (config labels : List ℕ) (x y : ℕ) → IsChoice labels (map sets config) → IsIn y (labels_over (row_entries (singles config) labels) x) → IsIn y (sets x)
over-chosen sets config labels x y chosen held =
    let entries : List SetEntry = row_entries (singles config) labels in
    let (e, among, same) = Contains-map_cases (λ (f : SetEntry). f.label) _ y (((support_law 0 _).1 y).0 held) in
    let (there, holds) = Contains-filter_cases (λ (f : SetEntry). has f.set x) entries e among in
    subst (λ z. IsIn z (sets x)) same (chosen-entry sets config labels e x chosen (Contains-In e entries there) (has-IsIn e.set x holds))

choices-over : (sets : ℕ → List ℕ) (config labels xs ys : List ℕ) → IsChoice labels (map sets config) → IsChoice ys (map (labels_over (row_entries (singles config) labels)) xs) → IsChoice ys (map sets xs)
choices-over sets config labels [] [] chosen h = tt
choices-over sets config labels [] (y ∷ ys) chosen h = absurd h
choices-over sets config labels (x ∷ xs) [] chosen h = absurd h
choices-over sets config labels (x ∷ xs) (y ∷ ys) chosen h = (over-chosen sets config labels x y chosen h.0, choices-over sets config labels xs ys chosen h.1)

-- a problem of these degrees
pub record IsLike (problem input : Problem) : Type 0 where
  pub is_problem : IsProblem input
  pub active_degree : input.active.degree ≡ problem.active.degree
  pub passive_degree : input.passive.degree ≡ problem.passive.degree

-- a label of the problem in the set of each input label that stands in no active configuration
abbrev pub HaveLabels : Problem → Problem → (ℕ → List ℕ) → Type 0
HaveLabels problem input sets = (x : ℕ) → Contains (loose input.active input.labels) x → (l : ℕ) × IsIn l (sets x) × (l < problem.labels)

module _ (problem input : Problem) (is : IsProblem problem) (is_input : IsLike problem input) (sets : ℕ → List ℕ) (upper : IsUpper problem (exchanged input) sets) (have : HaveLabels problem input sets) where
  abbrev behind : List ℕ
  behind = loose input.active input.labels

  -- labels for the places of these configurations and of the labels that stand in none
  record Labels (configs : List (List ℕ)) : Type 0 where
    labels : List ℕ
    chosen : IsChoice labels (map sets (joined configs ++ behind))
    count : length labels ≡ length (joined configs) + length behind
    low : AllByRecursion (λ label. label < problem.labels) labels
    images : are_images problem.active problem.labels configs labels ≡ true

  more_labels : (config : List ℕ) (configs : List (List ℕ)) → Contains input.active.configs config → Labels configs → Labels (config ∷ configs)
  more_labels config configs held rest =
      let (labels, chosen, has) = upper.choice config held in
      let (moved, again, order, rises) = in_order sets config labels chosen in
      let is_there : Has problem.active moved = Has-Rearranged problem.active order has in
      let size : length moved ≡ problem.active.degree = count_of problem.labels problem.active moved is.active is_there in
      let same : length moved ≡ length config = length-AllZip IsIn moved (map sets config) again ∙ length-map config sets in
      let front : take problem.active.degree (moved ++ rest.labels) ≡ moved = take-front problem.active.degree moved rest.labels size in
      let back : drop problem.active.degree (moved ++ rest.labels) ≡ rest.labels = drop-front problem.active.degree moved rest.labels size in
      record {
        labels = moved ++ rest.labels;
        chosen = subst (λ xs. IsChoice (moved ++ rest.labels) (map sets xs)) (sym (append_assoc config (joined configs) behind)) (choice-append sets config (joined configs ++ behind) moved rest.labels again rest.chosen);
        count = omega (arith, length-append moved rest.labels, length-append config (joined configs), same, rest.count);
        low = low-append problem.labels moved rest.labels (AllByRecursion-from_contains (λ label. label < problem.labels) moved (Has-below problem.labels problem.active moved is.active is_there)) rest.low;
        images = are_images-split problem.active problem.labels config configs (moved ++ rest.labels) (omega (arith, length-append moved rest.labels, size))
            ∙ true-and (is_image problem.active config (take problem.active.degree (moved ++ rest.labels))) (are_images problem.active problem.labels configs (drop problem.active.degree (moved ++ rest.labels)))
            (ap (is_image problem.active config) front ∙ true-and (is_in_order config moved) (has_config problem.active moved) rises (Has-has_config problem.active moved is_there))
            (ap (are_images problem.active problem.labels configs) back ∙ rest.images);
      }
    where
      take-front : (d : ℕ) (xs ys : List ℕ) → length xs ≡ d → take d (xs ++ ys) ≡ xs
      take-front d xs ys e = ap (λ m. take m (xs ++ ys)) (let z : d ≡ length xs + 0 = omega (arith, e) in z) ∙ take-append-add xs ys 0 ∙ append-nil xs

      drop-front : (d : ℕ) (xs ys : List ℕ) → length xs ≡ d → drop d (xs ++ ys) ≡ ys
      drop-front d xs ys e = ap (λ m. drop m (xs ++ ys)) (let z : d ≡ length xs + 0 = omega (arith, e) in z) ∙ drop-append-add xs ys 0

  record Loose (xs : List ℕ) : Type 0 where
    labels : List ℕ
    chosen : IsChoice labels (map sets xs)
    count : length labels ≡ length xs
    low : AllByRecursion (λ label. label < problem.labels) labels

  loose_labels : (xs : List ℕ) → ((x : ℕ) → Contains xs x → Contains behind x) → Loose xs
  loose_labels [] there = record { labels = []; chosen = tt; count = refl; low = tt }
  loose_labels (x ∷ xs) there =
      let (l, at, below) = have x (there x (Contains-here x xs)) in
      let rest = loose_labels xs (λ y held. there y (Contains-later y x xs held)) in
      record { labels = l ∷ rest.labels; chosen = (at, rest.chosen); count = omega (arith, rest.count); low = (below, rest.low) }

  all_labels : (configs : List (List ℕ)) → ((config : List ℕ) → Contains configs config → Contains input.active.configs config) → Labels configs
  all_labels [] there =
      let last = loose_labels behind (λ x held. held) in
      record { labels = last.labels; chosen = last.chosen; count = omega (arith, last.count); low = last.low; images = refl }
  all_labels (config ∷ configs) there =
      more_labels config configs (there config (Contains-here config configs)) (all_labels configs (λ other held. there other (Contains-later other config configs held)))

  found_labels : Labels (ordered input)
  found_labels = all_labels (ordered input) (λ config held. by_last-from input.active input.labels config held)

  -- they pass
  pub passing_labels : (labels : List ℕ) × IsAssignment problem.labels (length (places input)) labels × (passes problem input labels ≡ true)
  passing_labels =
      let entries : List SetEntry = row_entries (places input) found_labels.labels in (
        found_labels.labels,
        (omega (arith, found_labels.count, length-append (joined (ordered input)) behind, length-map (joined (ordered input) ++ behind) (λ x. x ∷ [])), found_labels.low),
        true-and (are_images problem.active problem.labels (ordered input) found_labels.labels) (keep_allowed input.passive problem.passive entries) found_labels.images
            (kept-allowed input.passive problem.passive entries ((keeps_allowed_law input.labels input.passive problem.passive entries is_input.is_problem.passive).1 (λ config ys held h.
            (upper.good config held).choice ys (choices-over sets (joined (ordered input) ++ behind) found_labels.labels config ys found_labels.chosen h)))),
      )
