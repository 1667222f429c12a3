-- The choices of a row by their indexes, read round and round.
use Rattle.std.proofs.Common.{◌≡◌, ℕ, zero, suc, ◌<◌, ◌≤◌, ◌+◌, ◌*◌, ◌/◌, ◌%◌, ◌^◌, List, [], ◌∷◌, length, map, drop, insert, get_or, refl, sym, ap, ◌∙◌, subst, arith, add-one, drop-cons}
use Rattle.std.specs.List.{AllByRecursion}
use Rattle.std.proofs.Math.Nat.{mod-lt, mul-le-mul_left, pow-suc}
use Rattle.std.proofs.lemmas.Nat.{div-add-mod', mul-add-lt}
use Rattle.re_labels.proofs.LeastLabels.{length-set}
use Rattle.re_labels.proofs.OrdersAt.{get_or-flat_map, get_or-map, length-flat_map}
use Rattle.re_labels.specs.Configs.{sorted}
use Rattle.re_labels.specs.Rows.{IsChosen, choices}
use Rattle.re_labels.proofs.Membership.{length-map'}
use Rattle.re_labels.specs.Sets.{IsLabelSet}
use Rattle.re_labels.specs.declared.TheConstants.{MAX_LABELS}

pub length-choices : (s : List ℕ) (row : List (List ℕ)) → length (choices (s ∷ row)) ≡ length s * length (choices row)
length-choices s row = length-flat_map (λ x. map (λ labels. x ∷ labels) (choices row)) (length (choices row)) s 0 (λ k lt. length-map' (λ labels. get_or s k 0 ∷ labels) (choices row))

get_or-choices : (s : List ℕ) (row : List (List ℕ)) (a b : ℕ) → a < length s → b < length (choices row) → get_or (choices (s ∷ row)) (a * length (choices row) + b) [] ≡ get_or s a 0 ∷ get_or (choices row) b []
get_or-choices s row a b h k =
    get_or-flat_map (λ x. map (λ labels. x ∷ labels) (choices row)) (length (choices row)) s a b 0 [] (λ j lt. length-map' (λ labels. get_or s j 0 ∷ labels) (choices row)) h k
    ∙ get_or-map (λ labels. get_or s a 0 ∷ labels) (choices row) b [] [] k

regroup : (q c r m p : ℕ) → (q * c + r) * m + p ≡ q * (c * m) + (r * m + p)
regroup q c r m p = omega arith

pub insert-first : (xs : List ℕ) (x : ℕ) → insert xs 0 x ≡ x ∷ xs
insert-first [] x = refl
insert-first (y ∷ xs) x = refl

pub chosen-step : (first : List ℕ) (others : List (List ℕ)) (index rounds label : ℕ) (labels : List ℕ) → 0 < length first → IsChosen others index rounds labels → label ≡ get_or first (rounds % length first) 0
    → IsChosen (first ∷ others) index (rounds / length first) (label ∷ labels)
chosen-step first others index rounds label labels some (place, below, is, at) e =
    let c = length first in
    let m = length (choices others) in
    let whole : rounds / c * c + rounds % c ≡ rounds = div-add-mod' rounds c in
    let size = length-choices first others in
    let within : rounds % c * m + place < m * c = mul-add-lt (rounds % c) m place c (mod-lt rounds some) below in
    let counted : m * c ≡ c * m = omega arith in (
      rounds % c * m + place,
      subst (λ k. rounds % c * m + place < k) (counted ∙ sym size) within,
      is ∙ ap (λ k. k * m + place) (sym whole) ∙ regroup (rounds / c) c (rounds % c) m place ∙ ap (λ k. rounds / c * k + (rounds % c * m + place)) (sym size),
      (λ i. e i ∷ at i) ∙ sym (get_or-choices first others (rounds % c) place (mod-lt rounds some) below),
    )

pub chosen-found : (sets others : List (List ℕ)) (first : List ℕ) (index rounds count label : ℕ) (labels items : List ℕ) → first ∷ others ≡ sets → AllByRecursion (λ s. IsLabelSet MAX_LABELS s × (0 < length s)) sets
    → IsChosen others index rounds labels → count ≡ length first → label ≡ get_or first (rounds % count) 0 → items ≡ insert labels 0 label → IsChosen sets index (rounds / count) items
chosen-found sets others first index rounds count label labels items e filled c n l i =
    let full = subst (AllByRecursion (λ s. IsLabelSet MAX_LABELS s × (0 < length s))) (sym e) filled in
    let step = chosen-step first others index rounds label labels full.0.1 c (l ∙ ap (λ k. get_or first (rounds % k) 0) n) in
    subst (λ s. IsChosen s index (rounds / count) items) e
    (subst (λ k. IsChosen (first ∷ others) index (rounds / k) items) (sym n)
    (subst (IsChosen (first ∷ others) index (rounds / length first)) (sym (i ∙ insert-first labels label)) step))

-- there are at most 128 ^ 6 choices
pub few-choices : (fuel : ℕ) (row : List (List ℕ)) → AllByRecursion (λ s. IsLabelSet MAX_LABELS s × (0 < length s)) row → length row ≤ fuel → length (choices row) ≤ MAX_LABELS ^ fuel
few-choices zero [] h l = omega arith
few-choices zero (s ∷ row) h l = absurd (omega arith)
few-choices (suc fuel) [] h l =
    let more : 1 ≤ MAX_LABELS ^ fuel = few-choices fuel [] tt (omega arith) in
    let p = pow-suc MAX_LABELS fuel in
    omega (arith, p, more)
few-choices (suc fuel) (s ∷ row) h l =
    let more : length (choices row) ≤ MAX_LABELS ^ fuel = few-choices fuel row h.1 (omega arith) in
    let p : MAX_LABELS ^ suc fuel ≡ MAX_LABELS ^ fuel * MAX_LABELS = pow-suc MAX_LABELS fuel in
    let one : length s ≤ MAX_LABELS = length-set MAX_LABELS s h.0.0 in
    let size = length-choices s row in
    let both : length s * length (choices row) ≤ MAX_LABELS ^ fuel * MAX_LABELS = product (length s) (length (choices row)) MAX_LABELS (MAX_LABELS ^ fuel) one more in
    omega (arith, size, p, both)
  where
    product : (a b c d : ℕ) → a ≤ c → b ≤ d → a * b ≤ d * c
    product a b c d h k = let one = mul-le-mul_left a k in let two = mul-le-mul_left d h in omega (arith, one, two)

-- the choices from an index on, as configurations
pub choices_next : (row : List (List ℕ)) (index rounds : ℕ) (labels : List ℕ) → IsChosen row index rounds labels → rounds ≤ 0
    → (index < length (choices row)) × (drop index (map sorted (choices row)) ≡ sorted labels ∷ drop (index + 1) (map sorted (choices row)))
choices_next row index (suc rounds) labels c h = absurd (omega arith)
choices_next row index zero labels (place, below, is, at) h =
    let same : index ≡ place = (let z : 0 * length (choices row) + place ≡ place = omega arith in is ∙ z) in
    let lt : index < length (choices row) = omega arith in
    let l = length-map' sorted (choices row) in
    let read : sorted labels ≡ get_or (map sorted (choices row)) index [] =
    ap sorted (at ∙ ap (λ i. get_or (choices row) i []) (sym same)) ∙ sym (get_or-map sorted (choices row) index [] [] lt) in
    let k : index < length (map sorted (choices row)) = omega (arith, l) in
    (lt, rw (add-one, drop-cons (map sorted (choices row)) index [], read) refl)
