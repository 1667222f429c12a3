-- Lists cut at the first element that passes a test.
use Rattle.std.proofs.Common.{◌≡◌, suc, ◌+◌, Bool, true, false, not, cond, List, [], ◌∷◌, ◌++◌, length, take, drop, refl, sym, ap, ◌∙◌, arith}
use Rattle.std.specs.Prelude.{◌||◌}
use Rattle.std.specs.List.{after_first, before_first, list_any, position_or_len}
use Rattle.std.proofs.Math.Seq.{drop-append-add, take-append_seam, take-append-add}
use Rattle.std.proofs.lemmas.List.{append-nil}
use Rattle.std.proofs.lemmas.List.Folds.{list_any-append}

place_there : {X : Type 0} (p : X → Bool) (xs : List X) (x : X) (ys : List X) → list_any p xs ≡ false → p x ≡ true → position_or_len p (xs ++ x ∷ ys) ≡ length xs
place_there p [] x ys none passes = ap (λ b. cond (not b) (1 + position_or_len p ys) 0) passes
place_there p (y ∷ xs) x ys none passes = go (p y) none (λ h. place_there p xs x ys h passes)
  where
    go : (b : Bool) → (b || list_any p xs) ≡ false → (list_any p xs ≡ false → position_or_len p (xs ++ x ∷ ys) ≡ length xs)
        → cond (not b) (1 + position_or_len p (xs ++ x ∷ ys)) 0 ≡ suc (length xs)
    go true h rest = absurd (cc)
    go false h rest = let place = rest h in omega arith

no_place : {X : Type 0} (p : X → Bool) (xs : List X) → list_any p xs ≡ false → position_or_len p xs ≡ length xs
no_place p [] none = refl
no_place p (y ∷ xs) none = go (p y) none (λ h. no_place p xs h)
  where
    go : (b : Bool) → (b || list_any p xs) ≡ false → (list_any p xs ≡ false → position_or_len p xs ≡ length xs) → cond (not b) (1 + position_or_len p xs) 0 ≡ suc (length xs)
    go true h rest = absurd (cc)
    go false h rest = let place = rest h in omega arith

-- ---- where the elements in front don't pass, and the next one does
module _ {X : Type 0} (p : X → Bool) (xs : List X) (x : X) (ys : List X) (none : list_any p xs ≡ false) (passes : p x ≡ true) where
  pub before_there : before_first p (xs ++ x ∷ ys) ≡ xs
  before_there = ap (λ n. take n (xs ++ x ∷ ys)) (place_there p xs x ys none passes) ∙ take-append_seam xs (x ∷ ys)

  pub after_there : after_first p (xs ++ x ∷ ys) ≡ ys
  after_there = ap (λ n. drop (n + 1) (xs ++ x ∷ ys)) (place_there p xs x ys none passes) ∙ drop-append-add xs (x ∷ ys) 1

  pub to_there : take (length (before_first p (xs ++ x ∷ ys)) + 1) (xs ++ x ∷ ys) ≡ xs ++ x ∷ []
  to_there = ap (λ (l : List X). take (length l + 1) (xs ++ x ∷ ys)) before_there ∙ take-append-add xs (x ∷ ys) 1

  pub any_there : list_any p (xs ++ x ∷ ys) ≡ true
  any_there = list_any-append p xs (x ∷ ys) ∙ ap (λ b. b || (p x || list_any p ys)) none ∙ ap (λ b. b || list_any p ys) passes

-- ---- where the elements in front don't pass
place_past : {X : Type 0} (p : X → Bool) (xs ys : List X) → list_any p xs ≡ false → position_or_len p (xs ++ ys) ≡ length xs + position_or_len p ys
place_past p [] ys none = omega arith
place_past p (y ∷ xs) ys none = go (p y) none (λ h. place_past p xs ys h)
  where
    go : (b : Bool) → (b || list_any p xs) ≡ false → (list_any p xs ≡ false → position_or_len p (xs ++ ys) ≡ length xs + position_or_len p ys)
        → cond (not b) (1 + position_or_len p (xs ++ ys)) 0 ≡ suc (length xs) + position_or_len p ys
    go true h rest = absurd (cc)
    go false h rest = let place = rest h in omega arith

pub before_past : {X : Type 0} (p : X → Bool) (xs ys : List X) → list_any p xs ≡ false → before_first p (xs ++ ys) ≡ xs ++ before_first p ys
before_past p xs ys none = ap (λ n. take n (xs ++ ys)) (place_past p xs ys none) ∙ take-append-add xs ys (position_or_len p ys)

pub before_one : {X : Type 0} (p : X → Bool) (x : X) (ys : List X) → p x ≡ false → before_first p (x ∷ ys) ≡ x ∷ before_first p ys
before_one p x ys fails = before_past p (x ∷ []) ys (ap (λ b. b || false) fails)

-- ---- where none passes
pub before_none : {X : Type 0} (p : X → Bool) (xs : List X) → list_any p xs ≡ false → before_first p xs ≡ xs
before_none p xs none = ap (λ n. take n xs) (no_place p xs none) ∙ ap (take (length xs)) (sym (append-nil xs)) ∙ take-append_seam xs []

-- one more that doesn't pass
pub none_more : {X : Type 0} (p : X → Bool) (xs : List X) (x : X) → list_any p xs ≡ false → p x ≡ false → list_any p (xs ++ x ∷ []) ≡ false
none_more p xs x none fails = list_any-append p xs (x ∷ []) ∙ ap (λ b. b || (p x || false)) none ∙ ap (λ b. b || false) fails
