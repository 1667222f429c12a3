-- All orders of some elements, begun with others, and the first that passes a test.
use Rattle.re_problem.proofs.NewNumbers.{map_flat_map}
use Rattle.re_labels.proofs.OrdersAt.{length-splits}
use Rattle.std.proofs.Common.{◌≡◌, ℕ, zero, suc, ◌+◌, ◌-◌, ◌<◌, ◌≤◌, Bool, cond, List, [], ◌∷◌, ◌++◌, length, map, flat_map, take, drop, get_or, None, Some, refl, sym, ap, ◌∙◌, arith, append_assoc, append-nil}
use Rattle.std.specs.Prelude.{find}
use Rattle.std.specs.Option.{option_or}
use Rattle.std.proofs.lemmas.Grind.{flat_map-append}
use Rattle.std.proofs.lemmas.List.{get_or-map, take-append-drop, take_all, take_more}
use Rattle.std.proofs.lemmas.List.Folds.{find-append}
use Rattle.re_labels.specs.Orders.{orders, splits}
use Rattle.re_problem.proofs.StepLaws.{map-map}

-- ---- an element and the others

split-at : (xs : List ℕ) (k : ℕ) → k < length xs → (get_or (splits xs) k (0, [])).0 ≡ get_or xs k 0
split-at [] k l = absurd (omega arith)
split-at (x ∷ xs) zero l = refl
split-at (x ∷ xs) (suc k) l =
    let d : ℕ × List ℕ = (0, []) in
    ap (λ (p : ℕ × List ℕ). p.0) (get_or-map (λ (p : ℕ × List ℕ). (p.0, x ∷ p.1)) (splits xs) k d d (let e = length-splits xs in omega arith)) ∙ split-at xs k (omega arith)

others-at : (xs : List ℕ) (k : ℕ) → k < length xs → (get_or (splits xs) k (0, [])).1 ≡ take k xs ++ drop (k + 1) xs
others-at [] k l = absurd (omega arith)
others-at (x ∷ xs) zero l = let one : 0 + 1 ≡ 1 = omega arith in sym (ap (λ n. drop n (x ∷ xs)) one)
others-at (x ∷ xs) (suc k) l =
    let d : ℕ × List ℕ = (0, []) in
    let more : suc k + 1 ≡ suc (k + 1) = omega arith in
    ap (λ (p : ℕ × List ℕ). p.1) (get_or-map (λ (p : ℕ × List ℕ). (p.0, x ∷ p.1)) (splits xs) k d d (let e = length-splits xs in omega arith))
    ∙ ap (λ l. x ∷ l) (others-at xs k (omega arith)) ∙ sym (ap (λ n. x ∷ (take k xs ++ drop n (x ∷ xs))) more)

-- ---- orders that begin with some elements
-- those that go on with an element and the others in some order
abbrev pub going_on : List ℕ → ℕ → ℕ × List ℕ → List (List ℕ)
going_on chosen n p = map (λ order. (chosen ++ p.0 ∷ []) ++ order) (orders n p.1)

flat_map-same : {X Y : Type 0} (f g : X → List Y) (xs : List X) → ((x : X) → f x ≡ g x) → flat_map f xs ≡ flat_map g xs
flat_map-same f g [] e = refl
flat_map-same f g (x ∷ xs) e = (λ i. e x i ++ flat_map-same f g xs e i)

map-same : {X Y : Type 0} (f g : X → Y) (xs : List X) → ((x : X) → f x ≡ g x) → map f xs ≡ map g xs
map-same f g [] e = refl
map-same f g (x ∷ xs) e = (λ i. e x i ∷ map-same f g xs e i)

pub by_splits : (chosen rest : List ℕ) (n : ℕ) → length rest ≡ suc n → map (λ order. chosen ++ order) (orders (length rest) rest) ≡ flat_map (going_on chosen n) (splits rest)
by_splits chosen rest n e =
    ap (λ m. map (λ order. chosen ++ order) (orders m rest)) e
    ∙ map_flat_map (λ order. chosen ++ order) (λ (p : ℕ × List ℕ). map (λ order. p.0 ∷ order) (orders n p.1)) (splits rest)
    ∙ flat_map-same (λ (p : ℕ × List ℕ). map (λ order. chosen ++ order) (map (λ order. p.0 ∷ order) (orders n p.1))) (going_on chosen n) (splits rest)
    (λ p. map-map (λ order. chosen ++ order) (λ order. p.0 ∷ order) (orders n p.1)
    ∙ map-same (λ order. chosen ++ p.0 ∷ order) (λ order. (chosen ++ p.0 ∷ []) ++ order) (orders n p.1) (λ order. sym (append_assoc chosen (p.0 ∷ []) order)))

-- ---- the first that passes
module _ (test : List ℕ → Bool) (chosen rest : List ℕ) where
  pub none-left : length rest ≡ 0 → find test (map (λ order. chosen ++ order) (orders (length rest) rest)) ≡ cond (test chosen) (Some chosen) None
  none-left e =
      ap (λ m. find test (map (λ order. chosen ++ order) (orders m rest))) e ∙ ap (λ c. cond (test c) (Some c) None) (append-nil chosen)

  -- the search so far
  abbrev pub NoneAt : ℕ → Type 0
  NoneAt k = find test (flat_map (going_on chosen (length rest - 1)) (take k (splits rest))) ≡ None

  here : (k : ℕ) → k < length rest → flat_map (going_on chosen (length rest - 1)) (take (k + 1) (splits rest))
      ≡ flat_map (going_on chosen (length rest - 1)) (take k (splits rest)) ++ going_on chosen (length rest - 1) (get_or (splits rest) k (0, []))
  here k l =
      let d : ℕ × List ℕ = (0, []) in
      let low : k < length (splits rest) = (let e = length-splits rest in omega arith) in
      ap (flat_map (going_on chosen (length rest - 1))) (take_more (splits rest) k d low)
      ∙ flat_map-append (going_on chosen (length rest - 1)) (take k (splits rest)) (get_or (splits rest) k d ∷ []) ∙ ap (λ l. flat_map (going_on chosen (length rest - 1)) (take k (splits rest)) ++ l) (append-nil (going_on chosen (length rest - 1) (get_or (splits rest) k d)))

  one-list : (k : ℕ) (more others : List ℕ) → k < length rest → more ≡ chosen ++ get_or rest k 0 ∷ [] → others ≡ take k rest ++ drop (k + 1) rest → length others ≡ length rest - 1
      → map (λ order. more ++ order) (orders (length others) others) ≡ going_on chosen (length rest - 1) (get_or (splits rest) k (0, []))
  one-list k more others l e f size =
      (λ i. map (λ order. (e ∙ ap (λ x. chosen ++ x ∷ []) (sym (split-at rest k l))) i ++ order) (orders (size i) ((f ∙ sym (others-at rest k l)) i)))

  pub none-more : (k : ℕ) (more others : List ℕ) → k < length rest → more ≡ chosen ++ get_or rest k 0 ∷ [] → others ≡ take k rest ++ drop (k + 1) rest → length others ≡ length rest - 1 → NoneAt k
      → find test (map (λ order. more ++ order) (orders (length others) others)) ≡ None → NoneAt (k + 1)
  none-more k more others l e f size so_far none =
      ap (find test) (here k l ∙ ap (λ ys. flat_map (going_on chosen (length rest - 1)) (take k (splits rest)) ++ ys) (sym (one-list k more others l e f size)))
      ∙ find-append test (flat_map (going_on chosen (length rest - 1)) (take k (splits rest))) (map (λ order. more ++ order) (orders (length others) others)) ∙ (λ i. option_or (so_far i) (none i))

  pub none-at_all : (k : ℕ) → length rest ≤ k → (length rest ≡ 0 → ⊥) → NoneAt k → find test (map (λ order. chosen ++ order) (orders (length rest) rest)) ≡ None
  none-at_all k l some so_far =
      let size : length rest ≡ suc (length rest - 1) = one_less (length rest) some in
      ap (find test) (by_splits chosen rest (length rest - 1) size ∙ ap (flat_map (going_on chosen (length rest - 1))) (sym (take_all k (splits rest) (let e = length-splits rest in omega arith)))) ∙ so_far
    where
      one_less : (n : ℕ) → (n ≡ 0 → ⊥) → n ≡ suc (n - 1)
      one_less zero some = absurd (some refl)
      one_less (suc n) some = omega arith

  pub some-here : (k : ℕ) (more others found : List ℕ) → k < length rest → more ≡ chosen ++ get_or rest k 0 ∷ [] → others ≡ take k rest ++ drop (k + 1) rest → length others ≡ length rest - 1 → NoneAt k
      → find test (map (λ order. more ++ order) (orders (length others) others)) ≡ Some found → find test (map (λ order. chosen ++ order) (orders (length rest) rest)) ≡ Some found
  some-here k more others found l e f size so_far there =
      let whole : length rest ≡ suc (length rest - 1) = omega arith in
      let split : flat_map (going_on chosen (length rest - 1)) (splits rest) ≡ flat_map (going_on chosen (length rest - 1)) (take (k + 1) (splits rest)) ++ flat_map (going_on chosen (length rest - 1)) (drop (k + 1) (splits rest)) =
      ap (flat_map (going_on chosen (length rest - 1))) (sym (take-append-drop (k + 1) (splits rest))) ∙ flat_map-append (going_on chosen (length rest - 1)) (take (k + 1) (splits rest)) (drop (k + 1) (splits rest)) in
      let first : find test (flat_map (going_on chosen (length rest - 1)) (take (k + 1) (splits rest))) ≡ Some found =
      ap (find test) (here k l ∙ ap (λ ys. flat_map (going_on chosen (length rest - 1)) (take k (splits rest)) ++ ys) (sym (one-list k more others l e f size)))
      ∙ find-append test (flat_map (going_on chosen (length rest - 1)) (take k (splits rest))) (map (λ order. more ++ order) (orders (length others) others)) ∙ (λ i. option_or (so_far i) (there i)) in
      ap (find test) (by_splits chosen rest (length rest - 1) whole ∙ split)
      ∙ find-append test (flat_map (going_on chosen (length rest - 1)) (take (k + 1) (splits rest))) (flat_map (going_on chosen (length rest - 1)) (drop (k + 1) (splits rest)))
      ∙ ap (λ o. option_or o (find test (flat_map (going_on chosen (length rest - 1)) (drop (k + 1) (splits rest))))) first

-- ---- the elements stay below a bound
pub rest-size : (rest others : List ℕ) (k : ℕ) → k < length rest → others ≡ take k rest ++ drop (k + 1) rest → length others ≡ length rest - 1
rest-size rest others k l e = ap length e ∙ go rest k l
  where
    go : (rest : List ℕ) (k : ℕ) → k < length rest → length (take k rest ++ drop (k + 1) rest) ≡ length rest - 1
    go [] k l = absurd (omega arith)
    go (x ∷ rest) zero l =
        let one : 0 + 1 ≡ 1 = omega arith in
        ap (λ n. length (drop n (x ∷ rest))) one ∙ (let e : length rest ≡ suc (length rest) - 1 = omega arith in e)
    go (x ∷ rest) (suc k) l =
        let more : suc k + 1 ≡ suc (k + 1) = omega arith in
        let e : suc (length rest - 1) ≡ suc (length rest) - 1 = omega arith in
        ap (λ n. suc (length (take k rest ++ drop n (x ∷ rest)))) more ∙ ap suc (go rest k (omega arith)) ∙ e
