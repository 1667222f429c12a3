-- The images of the rows of a problem are dominated by the maximal rows of its relaxation.
use Rattle.std.proofs.Common.{◌≡◌, ℕ, ◌<◌, ◌≤◌, List, [], ◌∷◌, length, map, get_or, Some, refl, sym, ap, ◌∙◌, subst, arith}
use Rattle.std.specs.Prelude.{Contains, find, unwrap_or}
use Rattle.std.specs.List.{AllByRecursion}
use Rattle.std.proofs.lemmas.List.Elements.{Contains-get_or}
use Rattle.re_algo.specs.Constructions.{IsSeen}
use Rattle.re_labels.proofs.LeastLabels.{first-is}
use Rattle.re_labels.proofs.Placing.{Dominates-dominates}
use Rattle.re_labels.proofs.Replacing.{IsLabelSet-support_of, has-support_of}
use Rattle.re_labels.specs.Rearranging.{Rearranged}
use Rattle.re_labels.specs.Rows.{IsChoice, IsUnder, dominates}
use Rattle.re_labels.proofs.Membership.{AllByRecursion-contains, AllByRecursion-from_contains, AllByRecursion-weaker, Contains-In, Contains-map, Contains-map_cases, any_true, first_found, length-map'}
use Rattle.re_labels.proofs.Sets.{IsIn-has, has-IsIn}
use Rattle.re_labels.specs.Lists.{IsRising}
use Rattle.re_labels.specs.Sets.{IsIn, IsLabelSet, first_of, with_label, without_label}
use Rattle.re_labels.specs.declared.TheConstants.{MAX_LABELS}
use Rattle.re_laws.proofs.FastRounds.{fitted_is}
use Rattle.re_laws.specs.Fast.{fitted}
use Rattle.re_problem.specs.Problems.{IsProblem, Problem}
use Rattle.re_problem.specs.Steps.{IsRelaxed}
use Rattle.re_labels.proofs.Goodness.{filled-is_full}
use Rattle.re_labels.proofs.MaxRows.{dominated, max_rows-IsMaximal}
use Rattle.re_labels.specs.Constraints.{Constraint, Has}
use Rattle.re_labels.specs.GoodRows.{IsGood, IsMaximal, max_rows}
use Rattle.re_shaping.proofs.RelaxedSteps.{through}
use Rattle.re_shaping.specs.Relaxing.{row_image, set_image}

-- ---- the image of a set
module _ (image : ℕ → ℕ) where
  pub in_image : (set : List ℕ) (x : ℕ) → IsIn x set → IsIn (image x) (set_image image set)
  in_image set x at = has-IsIn (set_image image set) (image x) (has-support_of (map image set) (image x) ∙ IsIn-has (map image set) (image x) (Contains-map image set x at))

  pub from_image : (set : List ℕ) (y : ℕ) → IsIn y (set_image image set) → (x : ℕ) × IsIn x set × (image x ≡ y)
  from_image set y at = Contains-map_cases image set y (has-IsIn (map image set) y (sym (has-support_of (map image set) y) ∙ IsIn-has (set_image image set) y at))

  -- the image of a set from that of all labels but the least
  pub image-grown : (set rest : List ℕ) (label : ℕ) → IsRising (λ x y. x < y) set → first_of set ≡ Some label → rest ≡ without_label set label → with_label (set_image image rest) (image label) ≡ set_image image set
  image-grown set rest label rises first rest_is = ap (λ r. with_label (set_image image r) (image label)) rest_is ∙ ap (set_image image) (sym (first-is set label rises first))

  -- a choice from the images is the image of a choice
  pub chosen_from : (labels : List ℕ) (row : List (List ℕ)) → IsChoice labels (row_image image row) → (before : List ℕ) × IsChoice before row × (map image before ≡ labels)
  chosen_from [] [] zip = ([], tt, refl)
  chosen_from [] (set ∷ row) zip = absurd zip
  chosen_from (y ∷ labels) [] zip = absurd zip
  chosen_from (y ∷ labels) (set ∷ row) zip =
      let (x, at, e) = from_image set y zip.0 in
      let (before, rest, f) = chosen_from labels row zip.1 in
      (x ∷ before, (at, rest), (λ i. e i ∷ f i))

  image_below : (n m : ℕ) (set : List ℕ) → ((label : ℕ) → label < n → image label < m) → IsLabelSet n set → AllByRecursion (λ label. label < m) (map image set)
  image_below n m set below is = AllByRecursion-from_contains (λ label. label < m) (map image set) (λ y at.
      let (x, held, e) = Contains-map_cases image set y at in
      subst (λ label. label < m) e (below x (AllByRecursion-contains (λ label. label < n) set x is.1 held)))

  pub image-set : (n m : ℕ) (set : List ℕ) → ((label : ℕ) → label < n → image label < m) → IsLabelSet n set → IsLabelSet m (set_image image set)
  image-set n m set below is = IsLabelSet-support_of m (map image set) (image_below n m set below is)

  image-filled : (set : List ℕ) → 0 < length set → 0 < length (set_image image set)
  image-filled set filled = some (set_image image set) (image (get_or set 0 0)) (in_image set (get_or set 0 0) (Contains-get_or set 0 0 filled))
    where
      some : (set : List ℕ) (x : ℕ) → IsIn x set → 0 < length set
      some [] x (j, l, e) = absurd (omega arith)
      some (y ∷ set) x held = omega arith

-- ---- the image of a maximal row
module _ (problem relaxed : Problem) (image : ℕ → ℕ) (below : (label : ℕ) → label < problem.labels → image label < relaxed.labels) (is : IsRelaxed problem relaxed image)
    (row : List (List ℕ)) (held : Contains (max_rows problem.passive problem.labels) row) where
  maximal : IsMaximal problem.passive problem.labels row
  maximal = max_rows-IsMaximal problem.passive problem.labels row (Contains-In row (max_rows problem.passive problem.labels) held)

  set_is : (set : List ℕ) → Contains row set → IsLabelSet problem.labels set × (0 < length set)
  set_is set at = AllByRecursion-contains (λ s. IsLabelSet problem.labels s × (0 < length s)) row set maximal.is_row.sets at

  pub label-below : (set : List ℕ) → Contains row set → (x : ℕ) → IsIn x set → x < problem.labels
  label-below set at x there = AllByRecursion-contains (λ label. label < problem.labels) set x (set_is set at).0.1 there

  image-count : length (row_image image row) ≡ relaxed.passive.degree
  image-count = length-map' (set_image image) row ∙ maximal.is_row.count ∙ sym is.passive_degree

  image-choice : (labels : List ℕ) → IsChoice labels (row_image image row) → Has relaxed.passive labels
  image-choice labels chosen =
      let (before, from, e) = chosen_from image labels row chosen in
      subst (Has relaxed.passive) e (through image relaxed.passive problem.passive before is.passive (maximal.good.choice before from))

  image-sets : AllByRecursion (IsLabelSet relaxed.labels) (row_image image row)
  image-sets = AllByRecursion-from_contains (IsLabelSet relaxed.labels) (row_image image row) (λ there at.
      let (set, in_row, e) = Contains-map_cases (set_image image) row there at in
      subst (IsLabelSet relaxed.labels) e (image-set image problem.labels relaxed.labels set below (set_is set in_row).0))

  image-good : IsGood relaxed.passive (row_image image row)
  image-good = record {
    count = image-count;
    filled = AllByRecursion-from_contains (λ set. 0 < length set) (row_image image row) (λ there at.
        let (set, in_row, e) = Contains-map_cases (set_image image) row there at in
        subst (λ set. 0 < length set) e (image-filled image set (set_is set in_row).1));
    choice = image-choice;
  }

  -- the first maximal row of the relaxation that dominates it, in the order in which it does
  abbrev pub top : List (List ℕ)
  top = unwrap_or (find (λ top. dominates top (row_image image row)) (max_rows relaxed.passive relaxed.labels)) []

  abbrev pub placed_top : List (List ℕ)
  placed_top = fitted (unwrap_or (find (λ top. dominates top (row_image image row)) (max_rows relaxed.passive relaxed.labels)) []) (row_image image row)

  pub top_is : Contains (max_rows relaxed.passive relaxed.labels) top × Rearranged top placed_top × IsUnder (row_image image row) placed_top
  top_is =
      let (found, there, dom) = dominated relaxed.passive relaxed.labels (row_image image row) image-good image-sets in
      let (at, passes) = first_found (λ top. dominates top (row_image image row)) (max_rows relaxed.passive relaxed.labels) [] found there (Dominates-dominates found (row_image image row) dom) in
      let (order, inside) = fitted_is top (row_image image row) passes in
      (at, order, inside)

  -- what the program asks of it
  pub image-seen : IsProblem problem → relaxed.labels ≤ MAX_LABELS → IsSeen (max_rows relaxed.passive relaxed.labels) (row_image image row)
  image-seen fine few =
      let (found, there, dom) = dominated relaxed.passive relaxed.labels (row_image image row) image-good image-sets in
      record {
        two = (let c = image-count in let d = is.passive_degree in let l = fine.passive.least in omega arith);
        six = (let c = image-count in let d = is.passive_degree in let l = fine.passive.most in omega arith);
        sets = AllByRecursion-weaker (IsLabelSet relaxed.labels) (IsLabelSet MAX_LABELS) (λ set of. (of.0, AllByRecursion-weaker (λ x. x < relaxed.labels) (λ x. x < MAX_LABELS) (λ x l. omega arith) set of.1)) (row_image image row) image-sets;
        full = filled-is_full (row_image image row) image-good.filled;
        alike = AllByRecursion-from_contains (λ top. length top ≡ length (row_image image row)) (max_rows relaxed.passive relaxed.labels) (λ top at.
            (max_rows-IsMaximal relaxed.passive relaxed.labels top (Contains-In top (max_rows relaxed.passive relaxed.labels) at)).is_row.count ∙ sym image-count);
        dominated = any_true (λ top. dominates top (row_image image row)) (max_rows relaxed.passive relaxed.labels) found there (Dominates-dominates found (row_image image row) dom);
      }

-- ---- all rows
pub row-sets : (constraint : Constraint) (n : ℕ) → AllByRecursion (AllByRecursion (IsLabelSet n)) (max_rows constraint n)
row-sets constraint n = AllByRecursion-from_contains (AllByRecursion (IsLabelSet n)) (max_rows constraint n) (λ row held.
    AllByRecursion-weaker (λ s. IsLabelSet n s × (0 < length s)) (IsLabelSet n) (λ s of. of.0) row (max_rows-IsMaximal constraint n row (Contains-In row (max_rows constraint n) held)).is_row.sets)

pub all_seen : (problem relaxed : Problem) (image : ℕ → ℕ) → ((label : ℕ) → label < problem.labels → image label < relaxed.labels) → IsRelaxed problem relaxed image → IsProblem problem → relaxed.labels ≤ MAX_LABELS
    → AllByRecursion (λ row. IsSeen (max_rows relaxed.passive relaxed.labels) (row_image image row)) (max_rows problem.passive problem.labels)
all_seen problem relaxed image below is fine few =
    AllByRecursion-from_contains (λ row. IsSeen (max_rows relaxed.passive relaxed.labels) (row_image image row)) (max_rows problem.passive problem.labels)
    (λ row held. image-seen problem relaxed image below is row held fine few)
