-- What a search with a limited number of looks finds.
use Rattle.std.proofs.Common.{◌≡◌, ℕ, zero, suc, ◌-◌, ◌<◌, ◌≤◌, Bool, true, false, cond, List, [], ◌∷◌, ◌++◌, length, take, flat_map, None, Some, refl, ap, ◌∙◌, arith}
use Rattle.std.proofs.lemmas.Grind.{flat_map-append}
use Rattle.std.specs.Prelude.{find, if◌then◌else◌}
use Rattle.re_search.specs.Judging.{judged}
use Rattle.re_search.specs.Judging.Judged.{found, full, passed}

-- ---- in the words of find and take
pub passed-none : {X : Type 0} (p : X → Bool) (room : ℕ) (xs : List X) → judged p room xs ≡ passed → (find p (take room xs) ≡ None) × (length xs ≤ room)
passed-none p zero [] e = (refl, omega arith)
passed-none p (suc room) [] e = (refl, omega arith)
passed-none p zero (x ∷ xs) e = cc
passed-none {X} p (suc room) (x ∷ xs) e = go (p x) refl e (passed-none p room xs)
  where
    go : (b : Bool) → p x ≡ b → (if b then found x else judged p room xs) ≡ passed
        → (judged p room xs ≡ passed → (find p (take room xs) ≡ None) × (length xs ≤ room))
        → (find p (take (suc room) (x ∷ xs)) ≡ None) × (length (x ∷ xs) ≤ suc room)
    go true e h rest = let h' : found x ≡ passed = h in absurd (cc)
    go false e h rest =
        let r = rest h in
        let l = r.1 in
        (ap (λ b. cond b (Some x) (find p (take room xs))) e ∙ r.0, omega arith)

pub full-none : {X : Type 0} (p : X → Bool) (room : ℕ) (xs : List X) → judged p room xs ≡ full → (find p (take room xs) ≡ None) × (room < length xs)
full-none p zero [] e = cc
full-none p (suc room) [] e = cc
full-none p zero (x ∷ xs) e = (refl, omega arith)
full-none {X} p (suc room) (x ∷ xs) e = go (p x) refl e (full-none p room xs)
  where
    go : (b : Bool) → p x ≡ b → (if b then found x else judged p room xs) ≡ full
        → (judged p room xs ≡ full → (find p (take room xs) ≡ None) × (room < length xs))
        → (find p (take (suc room) (x ∷ xs)) ≡ None) × (suc room < length (x ∷ xs))
    go true e h rest = let h' : found x ≡ full = h in absurd (cc)
    go false e h rest =
        let r = rest h in
        let l = r.1 in
        (ap (λ b. cond b (Some x) (find p (take room xs))) e ∙ r.0, omega arith)

pub found-some : {X : Type 0} (p : X → Bool) (room : ℕ) (xs : List X) (y : X) → judged p room xs ≡ found y → find p (take room xs) ≡ Some y
found-some p zero [] y e = cc
found-some p (suc room) [] y e = cc
found-some p zero (x ∷ xs) y e = cc
found-some {X} p (suc room) (x ∷ xs) y e = go (p x) refl e (found-some p room xs y)
  where
    go : (b : Bool) → p x ≡ b → (if b then found x else judged p room xs) ≡ found y
        → (judged p room xs ≡ found y → find p (take room xs) ≡ Some y)
        → find p (take (suc room) (x ∷ xs)) ≡ Some y
    go true e h rest =
        let h' : found x ≡ found y = h in
        let same : x ≡ y = cc in
        ap (λ b. cond b (Some x) (find p (take room xs))) e ∙ ap Some same
    go false e h rest = ap (λ b. cond b (Some x) (find p (take room xs))) e ∙ rest h

-- ---- one list behind another
pub passed-on : {X : Type 0} (p : X → Bool) (room : ℕ) (xs ys : List X) → judged p room xs ≡ passed → judged p room (xs ++ ys) ≡ judged p (room - length xs) ys
passed-on p zero [] ys e = let z : 0 ≡ 0 - 0 = omega arith in ap (λ r. judged p r ys) z
passed-on p (suc room) [] ys e = let z : suc room ≡ suc room - 0 = omega arith in ap (λ r. judged p r ys) z
passed-on p zero (x ∷ xs) ys e = cc
passed-on {X} p (suc room) (x ∷ xs) ys e = go (p x) refl e (passed-on p room xs ys)
  where
    go : (b : Bool) → p x ≡ b → (if b then found x else judged p room xs) ≡ passed
        → (judged p room xs ≡ passed → judged p room (xs ++ ys) ≡ judged p (room - length xs) ys)
        → (if p x then found x else judged p room (xs ++ ys)) ≡ judged p (suc room - suc (length xs)) ys
    go true e h rest = let h' : found x ≡ passed = h in absurd (cc)
    go false e h rest =
        let z : room - length xs ≡ suc room - suc (length xs) = omega arith in
        ap (λ b. cond b (found x) (judged p room (xs ++ ys))) e ∙ rest h ∙ ap (λ r. judged p r ys) z

pub full-on : {X : Type 0} (p : X → Bool) (room : ℕ) (xs ys : List X) → judged p room xs ≡ full → judged p room (xs ++ ys) ≡ full
full-on p zero [] ys e = cc
full-on p (suc room) [] ys e = cc
full-on p zero (x ∷ xs) ys e = refl
full-on {X} p (suc room) (x ∷ xs) ys e = go (p x) refl e (full-on p room xs ys)
  where
    go : (b : Bool) → p x ≡ b → (if b then found x else judged p room xs) ≡ full
        → (judged p room xs ≡ full → judged p room (xs ++ ys) ≡ full)
        → (if p x then found x else judged p room (xs ++ ys)) ≡ full
    go true e h rest = let h' : found x ≡ full = h in absurd (cc)
    go false e h rest = ap (λ b. cond b (found x) (judged p room (xs ++ ys))) e ∙ rest h

pub found-on : {X : Type 0} (p : X → Bool) (room : ℕ) (xs ys : List X) (y : X) → judged p room xs ≡ found y → judged p room (xs ++ ys) ≡ found y
found-on p zero [] ys y e = cc
found-on p (suc room) [] ys y e = cc
found-on p zero (x ∷ xs) ys y e = cc
found-on {X} p (suc room) (x ∷ xs) ys y e = go (p x) refl e (found-on p room xs ys y)
  where
    go : (b : Bool) → p x ≡ b → (if b then found x else judged p room xs) ≡ found y
        → (judged p room xs ≡ found y → judged p room (xs ++ ys) ≡ found y)
        → (if p x then found x else judged p room (xs ++ ys)) ≡ found y
    go true e h rest = ap (λ b. cond b (found x) (judged p room (xs ++ ys))) e ∙ (let h' : found x ≡ found y = h in h')
    go false e h rest = ap (λ b. cond b (found x) (judged p room (xs ++ ys))) e ∙ rest h

-- ---- lists of lists
pub flat_map-flat_map : {X Y Z : Type 0} (f : Y → List Z) (g : X → List Y) (xs : List X) → flat_map f (flat_map g xs) ≡ flat_map (λ x. flat_map f (g x)) xs
flat_map-flat_map f g [] = refl
flat_map-flat_map f g (x ∷ xs) = flat_map-append f (g x) (flat_map g xs) ∙ ap (λ l. flat_map f (g x) ++ l) (flat_map-flat_map f g xs)
