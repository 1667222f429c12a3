-- What loops find.
use Rattle.std.proofs.Common.{◌≡◌, ℕ, zero, suc, ◌+◌, ◌-◌, ◌<◌, ◌≤◌, Bool, true, false, not, List, [], ◌∷◌, length, map, get_or, refl, sym, ap, ◌∙◌, subst, ◌⊎◌, inl, inr, arith, Some, None, Option, true≢false}
use Rattle.std.specs.Prelude.{if◌then◌else◌, is_some, slice_index_or}
use Rattle.std.specs.Option.{option_map, option_or}
use Rattle.std.proofs.lemmas.Bool.{cases_lt}
use Rattle.re_why.specs.Finding.{first_some, first_unordered}
use Rattle.re_why.specs.Witnesses.{IsAt}

-- ---- the first that isn't before the next one
-- so far, each is before the next one
abbrev pub Ascend : {X : Type 0} → (X → X → Bool) → List X → ℕ → Type 0
Ascend {X} before xs place = (k : ℕ) (x y : X) → suc k < place → IsAt xs k x → IsAt xs (suc k) y → before x y ≡ true

unordered_here : {X : Type 0} (before : X → X → Bool) (k : ℕ) (xs : List X) (i : ℕ) (x y : X) → IsAt xs i x → IsAt xs (suc i) y → Ascend before xs (suc i) → before x y ≡ false → first_unordered before k xs ≡ Some (k + i)
unordered_here before k [] i x y at next all now = absurd (let l = at.0 in omega (arith, l))
unordered_here before k (s ∷ []) i x y at next all now = absurd (let l = next.0 in omega (arith, l))
unordered_here before k (s ∷ t ∷ xs) zero x y at next all now =
    let fails : before s t ≡ false = (λ j. before (at.1 j) (next.1 j)) ∙ now in
    let e : k ≡ k + 0 = omega arith in
    rw fails (ap Some e)
unordered_here before k (s ∷ t ∷ xs) (suc i) x y at next all now =
    let first : before s t ≡ true = all 0 s t (omega arith) (omega arith, refl) (omega arith, refl) in
    let e : suc k + i ≡ k + suc i = omega arith in
    rw first (unordered_here before (suc k) (t ∷ xs) i x y (let l = at.0 in omega (arith, l), at.1) (let l = next.0 in omega (arith, l), next.1)
    (λ j u v h a b. all (suc j) u v (omega (arith, h)) (let l = a.0 in omega (arith, l), a.1) (let l = b.0 in omega (arith, l), b.1)) now ∙ ap Some e)

unordered_none : {X : Type 0} (before : X → X → Bool) (k : ℕ) (xs : List X) → Ascend before xs (length xs) → first_unordered before k xs ≡ None
unordered_none before k [] all = refl
unordered_none before k (x ∷ []) all = refl
unordered_none before k (x ∷ y ∷ xs) all =
    let first : before x y ≡ true = all 0 x y (omega arith) (omega arith, refl) (omega arith, refl) in
    rw first (unordered_none before (suc k) (y ∷ xs) (λ j u v h a b. all (suc j) u v (omega (arith, h)) (let l = a.0 in omega (arith, l), a.1) (let l = b.0 in omega (arith, l), b.1)))

module _ {X : Type 0} (before : X → X → Bool) (xs : List X) (place : ℕ) where
  pub unordered-stop : (x y : X) (r : Bool) → 1 ≤ place → place < length xs → x ≡ slice_index_or xs (place - 1) x → y ≡ slice_index_or xs place y → r ≡ before x y → r ≡ false → Ascend before xs place
      → Some (place - 1) ≡ first_unordered before 0 xs
  unordered-stop x y r low l at next is fails all =
      let same : place ≡ suc (place - 1) = omega (arith, low) in
      let zero_more : 0 + (place - 1) ≡ place - 1 = omega arith in
      sym (unordered_here before 0 xs (place - 1) x y (omega (arith, low, l), sym at) (subst (λ m. IsAt xs m y) same (l, sym next)) (subst (Ascend before xs) same all) (sym is ∙ fails) ∙ ap Some zero_more)

  pub unordered-more : (x y : X) (r : Bool) → 1 ≤ place → place < length xs → x ≡ slice_index_or xs (place - 1) x → y ≡ slice_index_or xs place y → r ≡ before x y → r ≡ true → Ascend before xs place → Ascend before xs (place + 1)
  unordered-more x y r low l at next is passes all k s t h a b = elim (cases_lt (suc k) place) [
    | inl below ↦ all k s t below a b
    | inr above ↦
        let first : k ≡ place - 1 = omega (arith, h, above) in
        let second : suc k ≡ place = omega (arith, h, above) in
        let one : x ≡ s = at ∙ same xs (place - 1) x s (omega (arith, low, l)) ∙ ap (λ m. slice_index_or xs m s) (sym first) ∙ a.1 in
        let two : y ≡ t = next ∙ same xs place y t l ∙ ap (λ m. slice_index_or xs m t) (sym second) ∙ b.1 in
        (λ j. before (sym one j) (sym two j)) ∙ (sym is ∙ passes)
  ]
    where
      same : (xs : List X) (i : ℕ) (d e : X) → i < length xs → slice_index_or xs i d ≡ slice_index_or xs i e
      same [] i d e l = absurd (omega (arith, l))
      same (z ∷ xs) zero d e l = refl
      same (z ∷ xs) (suc i) d e l = same xs i d e (omega (arith, l))

  pub unordered-done : length xs ≤ place → Ascend before xs place → None ≡ first_unordered before 0 xs
  unordered-done l all = sym (unordered_none before 0 xs (λ k x y h a b. all k x y (omega (arith, h, l)) a b))

-- ---- the first that an element gives
pub some_here : {X W : Type 0} (give : X → Option W) (xs : List X) (d : X) (w : W) (i : ℕ) → i < length xs → ((k : ℕ) → k < i → give (get_or xs k d) ≡ None) → give (get_or xs i d) ≡ Some w → first_some give xs ≡ Some w
some_here give [] d w i l before now = absurd (omega arith)
some_here give (x ∷ xs) d w zero l before now = rw now refl
some_here give (x ∷ xs) d w (suc i) l before now = let first : give x ≡ None = before 0 (omega arith) in rw first (some_here give xs d w i (omega arith) (λ k h. before (suc k) (omega arith)) now)

pub some_none : {X W : Type 0} (give : X → Option W) (xs : List X) (d : X) → ((k : ℕ) → k < length xs → give (get_or xs k d) ≡ None) → first_some give xs ≡ None
some_none give [] d before = refl
some_none give (x ∷ xs) d before = let first : give x ≡ None = before 0 (omega arith) in rw first (some_none give xs d (λ k h. before (suc k) (omega arith)))

pub none-of : {W : Type 0} (o : Option W) → is_some o ≡ false → o ≡ None
none-of None e = refl
none-of (Some w) e = absurd (true≢false e)

-- the first that is found
pub some_at : {W : Type 0} (give : List ℕ → Option W) (configs : List (List ℕ)) (place : ℕ) (config : List ℕ) (o : Option W) → place < length configs → config ≡ get_or configs place [] → o ≡ give config
    → ((k : ℕ) → k < place → give (get_or configs k []) ≡ None) → is_some o ≡ true → o ≡ first_some give configs
some_at give configs place config None l at is before found = absurd (true≢false (sym found))
some_at give configs place config (Some w) l at is before found = sym (some_here give configs [] w place l before (ap give (sym at) ∙ sym is))
