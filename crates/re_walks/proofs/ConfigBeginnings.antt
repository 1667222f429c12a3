-- The first labels of a configuration begin one.
use Rattle.std.proofs.Common.{◌≡◌, ℕ, zero, suc, ◌<◌, ◌≤◌, ◌-◌, min, Bool, true, List, [], ◌∷◌, ◌++◌, length, take, drop, replicate, None, Some, Option, refl, sym, ◌∙◌, subst, arith, length-drop}
use Rattle.std.specs.Prelude.{Contains, find, is_some}
use Rattle.std.specs.List.{AllByRecursion}
use Rattle.std.proofs.lemmas.List.{length-take, take-append-drop}
use Rattle.re_choice.proofs.Beginning.{some_found}
use Rattle.re_labels.proofs.Membership.{Contains-count_from, Contains-here, any_true}
use Rattle.re_labels.specs.Lists.{count_from}
use Rattle.re_labels.proofs.ChoicesOfRows.{choices-IsChoice}
use Rattle.re_labels.specs.Rows.{IsChoice, choices, singles}
use Rattle.re_labels.specs.Constraints.{Constraint, has_config}
use Rattle.re_walks.specs.Begun.{is_begun}

-- ---- parts of lists
pub low-take : (n k : ℕ) (labels : List ℕ) → AllByRecursion (λ label. label < n) labels → AllByRecursion (λ label. label < n) (take k labels)
low-take n zero labels low = tt
low-take n (suc k) [] low = tt
low-take n (suc k) (x ∷ labels) low = (low.0, low-take n k labels low.1)

pub low-drop : (n k : ℕ) (labels : List ℕ) → AllByRecursion (λ label. label < n) labels → AllByRecursion (λ label. label < n) (drop k labels)
low-drop n zero labels low = low
low-drop n (suc k) [] low = tt
low-drop n (suc k) (x ∷ labels) low = low-drop n k labels low.1

-- ---- labels that begin a configuration
begun-choice : (n : ℕ) (rest more : List ℕ) → AllByRecursion (λ label. label < n) more → IsChoice (rest ++ more) (singles rest ++ replicate (length more) (count_from 0 n))
begun-choice n [] [] low = tt
begun-choice n [] (y ∷ more) low = (Contains-count_from 0 n y (omega arith) (omega (arith, low.0)), begun-choice n [] more low.1)
begun-choice n (x ∷ rest) more low = (Contains-here x [], begun-choice n rest more low)

some-found : {X : Type 0} (p : X → Bool) (xs : List X) (x : X) → Contains xs x → p x ≡ true → is_some (find p xs) ≡ true
some-found {X} p xs x held passes = go (find p xs) refl
  where
    go : (o : Option X) → find p xs ≡ o → is_some o ≡ true
    go None e = absurd (some_found p xs (any_true p xs x held passes) e)
    go (Some y) e = refl

-- the first labels of a configuration begin one
pub begun : (active : Constraint) (n : ℕ) (image : List ℕ) (j : ℕ) → has_config active image ≡ true → length image ≡ active.degree → AllByRecursion (λ label. label < n) image → j ≤ active.degree → is_begun active n (take j image) ≡ true
begun active n image j has count low few =
    let rest = take j image in
    let more = drop j image in
    let whole : rest ++ more ≡ image = take-append-drop j image in
    let size : length rest ≡ j = length-take j image ∙ (let z : min j (length image) ≡ j = omega (arith, count, few) in z) in
    let left : active.degree - length rest ≡ length more = (let z : active.degree - length rest ≡ length image - j = omega (arith, size, count) in z ∙ sym (length-drop j image)) in
    let row : List (List ℕ) = singles rest ++ replicate (active.degree - length rest) (count_from 0 n) in
    let choice : IsChoice image row = subst (λ l. IsChoice l row) whole
    (subst (λ m. IsChoice (rest ++ more) (singles rest ++ replicate m (count_from 0 n))) (sym left) (begun-choice n rest more (low-drop n j image low))) in
    some-found (has_config active) (choices row) image (choices-IsChoice row image choice) has
