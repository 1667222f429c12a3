-- The first of a list that passes a test.
use Rattle.std.proofs.Common.{◌≡◌, Bool, true, false, not, ◌&&◌, ◌||◌, List, [], ◌∷◌, refl, sym, ap, ◌∙◌, inl, inr, Some, None}
use Rattle.std.specs.List.{list_all, list_any}
use Rattle.std.specs.Prelude.{find, if◌then◌else◌}
use Rattle.re_labels.proofs.Membership.{In}

-- what is found passes, and is one of the list
pub found_passes : {X : Type 0} (p : X → Bool) (xs : List X) (x : X) → Some x ≡ find p xs → (p x ≡ true) × In x xs
found_passes p [] x e = cc
found_passes {X} p (y ∷ xs) x e = go (p y) refl (found_passes p xs x) e
  where
    go : (b : Bool) → b ≡ p y → (Some x ≡ find p xs → (p x ≡ true) × In x xs) → Some x ≡ (if b then Some y else find p xs) → (p x ≡ true) × In x (y ∷ xs)
    go true is later e = let same : x ≡ y = cc in (ap p same ∙ sym is, inl same)
    go false is later e = let (passes, held) = later e in (passes, inr held)

-- where nothing is found, all fail
pub none_all : {X : Type 0} (p : X → Bool) (xs : List X) → find (λ x. not (p x)) xs ≡ None → list_all p xs ≡ true
none_all p [] e = refl
none_all {X} p (x ∷ xs) e = go (p x) (none_all p xs) e
  where
    go : (b : Bool) → (find (λ x. not (p x)) xs ≡ None → list_all p xs ≡ true) → (if not b then Some x else find (λ x. not (p x)) xs) ≡ None → (b && list_all p xs) ≡ true
    go true later e = later e
    go false later e = absurd (cc)

pub not_all : {X : Type 0} (p : X → Bool) (xs : List X) → not (list_all p xs) ≡ list_any (λ x. not (p x)) xs
not_all p [] = refl
not_all {X} p (x ∷ xs) = go (p x) (not_all p xs)
  where
    go : (b : Bool) → not (list_all p xs) ≡ list_any (λ x. not (p x)) xs → not (b && list_all p xs) ≡ (not b || list_any (λ x. not (p x)) xs)
    go true rest = rest
    go false rest = refl
