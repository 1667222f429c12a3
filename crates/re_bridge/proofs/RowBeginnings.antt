-- What passes with labels for all places of the rows does with the first ones.
use Rattle.std.proofs.Common.{◌≡◌, ℕ, zero, suc, ◌<◌, ◌≤◌, ◌+◌, ◌-◌, ◌*◌, ◌/◌, ◌%◌, min, Bool, true, false, cond, eqb, List, [], ◌∷◌, ◌++◌, length, map, take, drop, refl, sym, ap, ◌∙◌, subst, arith, true≢false, append_assoc, length-drop}
use Rattle.std.specs.Prelude.{◌&&◌, Contains}
use Rattle.std.specs.List.{AllByRecursion}
use Rattle.std.proofs.lemmas.List.{drop-take, length-take, map-append, take-take}
use Rattle.std.proofs.lemmas.Nat.{div-add-mod'}
use Rattle.std.proofs.Math.Nat.{mod-lt, mul-le-mul_left}
use Rattle.re_labels.proofs.Membership.{Contains-count_from, Contains-map, all-append, count_from_range, map-alike}
use Rattle.re_labels.proofs.Tests.{and-true, true-and}
use Rattle.re_labels.specs.Lists.{count_from}
use Rattle.re_labels.specs.Rows.{IsChoice}
use Rattle.re_labels.proofs.Goodness.{Has-has_config, has_config-Has}
use Rattle.re_labels.specs.Constraints.{Has, has_config}
use Rattle.re_problem.specs.NamedProblems.{IsNamedProblem, NamedProblem}
use Rattle.re_check.proofs.RowChoices.{keeps_allowed_by_row_law}
use Rattle.re_check.specs.LabelsOver.{labels_over}
use Rattle.re_check.specs.RowEntries.{image_entries, row_entries}
use Rattle.re_check.specs.StepClauses.{KeepsAllowedByRow}
use Rattle.re_check.proofs.StepMeaning.{all_there, by_row-tells}
use Rattle.re_check.specs.Clauses.{are_exchanged, keep_allowed_by_row, keep_images, sets_in}
use Rattle.re_check.proofs.StepTests.{occurs-listed}
use Rattle.re_problem.proofs.Walks.{count_from_split}
use Rattle.re_bridge.proofs.Meeting.{rows-whole, whole-test}
use Rattle.re_bridge.specs.Bridges.{image_of, images_for, passes_by_row, rest_of, rows_of}
use Rattle.re_walks.proofs.FirstEntries.{choice-front}
use Rattle.re_walks.proofs.ConfigBeginnings.{begun, low-drop, low-take}
use Rattle.re_walks.specs.Begun.{is_begun}
use Rattle.re_walks.specs.Walking.{BeginningsPass}

-- ---- numbers
room : (row q d : ℕ) → row < q → row * d + d ≤ q * d
room row q d l = let h : suc row ≤ q = omega arith in omega (arith, mul-le-mul_left d h)

parted : (n d : ℕ) → 0 < d → (n / d * d ≤ n) × (n < n / d * d + d)
parted n d some = let less : n % d < d = mod-lt n some in (omega (arith, div-add-mod' n d), omega (arith, div-add-mod' n d, less))

-- ---- parts of lists
-- behind a place the first labels are the first ones of those behind it
drop-first : (a k : ℕ) (labels : List ℕ) → a ≤ k → drop a (take k labels) ≡ take (k - a) (drop a labels)
drop-first a k labels l = ap (λ m. drop a (take m labels)) (let z : k ≡ a + (k - a) = omega arith in z) ∙ drop-take a (k - a) labels

image-first : (d k row : ℕ) (labels : List ℕ) → row * d + d ≤ k → image_of d (take k labels) row ≡ image_of d labels row
image-first d k row labels l =
    ap (take d) (drop-first (row * d) k labels (omega (arith, l))) ∙ take-take d (k - row * d) (drop (row * d) labels) (omega (arith, l))

image-length : (d row : ℕ) (labels : List ℕ) → row * d + d ≤ length labels → length (image_of d labels row) ≡ d
image-length d row labels l = length-take d (drop (row * d) labels) ∙ ap (min d) (length-drop (row * d) labels) ∙ (let z : min d (length labels - row * d) ≡ d = omega (arith, l) in z)

-- ---- the images of the first rows
image_entries-none : (rows : List (List (List ℕ))) → image_entries rows [] ≡ []
image_entries-none [] = refl
image_entries-none (row ∷ rows) = refl

image_entries-parted : (rows : List (List (List ℕ))) (front more : List (List ℕ)) → image_entries rows (front ++ more) ≡ image_entries rows front ++ image_entries (drop (length front) rows) more
image_entries-parted rows [] more = (λ i. sym (image_entries-none rows) i ++ image_entries rows more)
image_entries-parted [] (image ∷ front) more = refl
image_entries-parted (row ∷ rows) (image ∷ front) more =
    ap (λ es. row_entries row image ++ es) (image_entries-parted rows front more) ∙ sym (append_assoc (row_entries row image) (image_entries rows front) (image_entries (drop (length front) rows) more))

module _ (before next : NamedProblem) (exchanged : are_exchanged before next ≡ true) (is : IsNamedProblem before) (next_is : IsNamedProblem next) where
  abbrev d : ℕ
  d = next.active.degree

  some : 0 < d
  some = omega (arith, next_is.problem.active.least)

  -- the tests of images hold of the first ones
  images-front : (front more : List (List ℕ)) → keep_images next.active (front ++ more) ≡ true → keep_images next.active front ≡ true
  images-front front more test = (and-true (keep_images next.active front) (keep_images next.active more) (sym (all-append (has_config next.active) front more) ∙ test)).0

  allowed-front : (front more : List (List ℕ)) → keep_allowed_by_row (length before.names) before.active next.passive (rows_of before) (front ++ more) ≡ true
      → keep_allowed_by_row (length before.names) before.active next.passive (rows_of before) front ≡ true
  allowed-front front more test =
      let n = length before.names in
      let rows = rows_of before in
      let sets = sets_in n rows in
      let occur = occurs-listed before rows refl in
      let whole : KeepsAllowedByRow sets rows (front ++ more) before.active next.passive = (by_row-tells n before.active next.passive rows (front ++ more)).0 test in
      let kept : KeepsAllowedByRow sets rows front before.active next.passive
      = (keeps_allowed_by_row_law n before.active next.passive sets rows front is.problem.active occur).1 (λ config labels held chosen.
      (keeps_allowed_by_row_law n before.active next.passive sets rows (front ++ more) is.problem.active occur).0 whole config labels held
      (subst (λ es. IsChoice labels (map (labels_over es) config)) (sym (image_entries-parted rows front more))
      (choice-front (image_entries rows front) (image_entries (drop (length front) rows) more) config labels chosen))) in
      (by_row-tells n before.active next.passive rows front).1 kept

  module _ (labels : List ℕ) (count : length labels ≡ length (rows_of before) * d) (low : AllByRecursion (λ label. label < length next.names) labels) (test : passes_by_row before next labels ≡ true) (k : ℕ) where
    abbrev first : List ℕ
    first = take k labels

    abbrev q : ℕ
    q = length first / d

    size : length first ≡ min k (length labels)
    size = length-take k labels

    few : q ≤ length (rows_of before)
    few = go (q - length (rows_of before)) refl
      where
        go : (m : ℕ) → m ≡ q - length (rows_of before) → q ≤ length (rows_of before)
        go zero e = omega arith
        go (suc m) e =
            let more : length (rows_of before) < q = omega arith in
            absurd (omega (arith, room (length (rows_of before)) q d more, (parted (length first) d some).0, size, count, some))

    both : (keep_images next.active (images_for d labels) ≡ true) × (keep_allowed_by_row (length before.names) before.active next.passive (rows_of before) (images_for d labels) ≡ true)
    both = and-true (keep_images next.active (images_for d labels)) (keep_allowed_by_row (length before.names) before.active next.passive (rows_of before) (images_for d labels))
        (sym (whole-test before next exchanged labels some count) ∙ test)

    images_are : images_for d labels ≡ images_for d first ++ map (image_of d labels) (count_from q (length (rows_of before) - q))
    images_are =
        ap (λ m. map (image_of d labels) (count_from 0 m)) (rows-whole before next exchanged labels some count ∙ (let z : length (rows_of before) ≡ q + (length (rows_of before) - q) = omega (arith, few) in z))
        ∙ ap (map (image_of d labels)) (count_from_split 0 q (length (rows_of before) - q) ∙ ap (λ i. count_from 0 q ++ count_from i (length (rows_of before) - q)) (let z : 0 + q ≡ q = omega arith in z))
        ∙ map-append (image_of d labels) (count_from 0 q) (count_from q (length (rows_of before) - q))
        ∙ ap (λ l. l ++ map (image_of d labels) (count_from q (length (rows_of before) - q)))
        (map-alike (image_of d labels) (image_of d first) (count_from 0 q) (λ row held. sym (image-first d k row labels (reach row (count_from_range 0 q row held)))))
      where
        reach : (row : ℕ) → (0 ≤ row) × (row < 0 + q) → row * d + d ≤ k
        reach row r = let l : row < q = omega (arith, r.1) in omega (arith, room row q d l, (parted (length first) d some).0, size)

    rest_open : (length (rest_of d first) ≡ 0 → ⊥) → is_begun next.active (length next.names) (rest_of d first) ≡ true
    rest_open left =
        let (low_end, high_end) = parted (length first) d some in
        let rest_size : length (rest_of d first) ≡ length first - q * d = length-drop (q * d) first in
        let behind : q * d < length first = rest_behind (length (rest_of d first)) (length first) (q * d) rest_size left in
        let less : q < length (rows_of before) = below (length (rows_of before)) q (omega (arith, behind, size, count)) in
        let there : q * d + d ≤ length labels = omega (arith, room q (length (rows_of before)) d less, count) in
        let image = image_of d labels q in
        let short : length first - q * d < d = omega (arith, high_end) in
        let k_is : length first ≡ k = omega (arith, size, behind, high_end, there) in
        let rest_is : rest_of d first ≡ take (k - q * d) image = drop-first (q * d) k labels (omega (arith, behind, size)) ∙ sym (take-take (k - q * d) d (drop (q * d) labels) (omega (arith, k_is, short))) in
        let held : Contains (images_for d labels) image
        = Contains-map (image_of d labels) (count_from 0 (length labels / d)) q (Contains-count_from 0 (length labels / d) q (omega arith) (omega (arith, rows-whole before next exchanged labels some count, less))) in
        let has : has_config next.active image ≡ true = Has-has_config next.active image (all_there (has_config next.active) (Has next.active) (images_for d labels) (has_config-Has next.active) both.0 image held) in
        ap (is_begun next.active (length next.names)) rest_is
        ∙ begun next.active (length next.names) image (k - q * d) has (image-length d q labels there) (low-take (length next.names) d (drop (q * d) labels) (low-drop (length next.names) (q * d) labels low)) (omega (arith, k_is, short))
      where
        rest_behind : (r a b : ℕ) → r ≡ a - b → (r ≡ 0 → ⊥) → b < a
        rest_behind r a b e other = grind arith

        below : (rows q : ℕ) → q * d < rows * d → q < rows
        below rows q l = go (rows - q) refl
          where
            go : (m : ℕ) → m ≡ rows - q → q < rows
            go (suc m) e = omega arith
            go zero e = let h : rows ≤ q = omega arith in absurd (omega (arith, mul-le-mul_left d h, l))

    first_passes : passes_by_row before next first ≡ true
    first_passes = go (eqb (length (rest_of d first)) 0) refl
      where
        go : (b : Bool) → b ≡ eqb (length (rest_of d first)) 0
            → cond b (keep_images next.active (images_for d first) && keep_allowed_by_row (length before.names) before.active next.passive (rows_of before) (images_for d first)) (is_begun next.active (length next.names) (rest_of d first)) ≡ true
        go true e =
            true-and (keep_images next.active (images_for d first)) (keep_allowed_by_row (length before.names) before.active next.passive (rows_of before) (images_for d first))
            (images-front (images_for d first) (map (image_of d labels) (count_from q (length (rows_of before) - q))) (ap (keep_images next.active) (sym images_are) ∙ both.0))
            (allowed-front (images_for d first) (map (image_of d labels) (count_from q (length (rows_of before) - q)))
            (ap (keep_allowed_by_row (length before.names) before.active next.passive (rows_of before)) (sym images_are) ∙ both.1))
        go false e = rest_open (λ z. true≢false (sym (ap (λ m. eqb m 0) z) ∙ sym e))

pub row_beginnings : (before next : NamedProblem) → are_exchanged before next ≡ true → IsNamedProblem before → IsNamedProblem next
    → BeginningsPass (passes_by_row before next) (length next.names) (length (rows_of before) * next.active.degree)
row_beginnings before next exchanged is next_is labels assignment test k = first_passes before next exchanged is next_is labels assignment.0 assignment.1 test k
