-- Options that give a value of which something holds.
use Rattle.std.proofs.Common.{◌≡◌, ℕ, zero, suc, ◌+◌, ◌<◌, Bool, true, false, List, [], ◌∷◌, length, refl, sym, ap, ◌∙◌, subst, arith, Some, None, Option}
use Rattle.std.specs.Prelude.{Contains, if◌then◌else◌}
use Rattle.std.specs.Option.{option_map, option_or}
use Rattle.re_labels.specs.Lists.{IsRising}
use Rattle.re_why.specs.Finding.{first_from, first_some, first_unordered}
use Rattle.re_why.specs.Laws.{Gives}
use Rattle.re_why.specs.Witnesses.{IsAt}

pub gives-or : {W : Type 0} (a b : Option W) (P : W → Type 0) → ((w : W) → a ≡ Some w → P w) → (a ≡ None → Gives b P) → Gives (option_or a b) P
gives-or None b P here later = later refl
gives-or (Some w) b P here later = here w refl

-- where not giving is absurd
pub gives-at_last : {W : Type 0} (a : Option W) (P : W → Type 0) → ((w : W) → a ≡ Some w → P w) → (a ≡ None → ⊥) → Gives a P
gives-at_last None P here never = never refl
gives-at_last (Some w) P here never = here w refl

pub gives-also : {W : Type 0} (a : Option W) (P Q : W → Type 0) → ((w : W) → P w → Q w) → Gives a P → Gives a Q
gives-also None P Q more h = h
gives-also (Some w) P Q more h = more w h

pub map-none : {V W : Type 0} (f : V → W) (o : Option V) → option_map f o ≡ None → o ≡ None
map-none f None e = refl
map-none f (Some v) e = absurd (cc)

pub map-some : {V W : Type 0} (f : V → W) (o : Option V) (w : W) → option_map f o ≡ Some w → (v : V) × (o ≡ Some v) × (f v ≡ w)
map-some f None w e = absurd (cc)
map-some f (Some v) w e = (v, refl, cc)

pub at-held : {X : Type 0} (xs : List X) (i : ℕ) (x : X) → IsAt xs i x → Contains xs x
at-held xs i x at = (i, at.0, at.1)

pub held-at : {X : Type 0} (xs : List X) (x : X) → Contains xs x → (i : ℕ) × IsAt xs i x
held-at xs x held = (held.0, (held.1, held.2))

pub from-some : {X W : Type 0} (give : ℕ → X → Option W) (k : ℕ) (xs : List X) (w : W) → first_from give k xs ≡ Some w → (i : ℕ) × (x : X) × IsAt xs i x × (give (k + i) x ≡ Some w)
from-some give k [] w e = absurd (cc)
from-some {X} {W} give k (x ∷ xs) w e = go (give k x) refl (from-some give (suc k) xs w) e
  where
    go : (o : Option W) → give k x ≡ o → (first_from give (suc k) xs ≡ Some w → (i : ℕ) × (y : X) × IsAt xs i y × (give (suc k + i) y ≡ Some w))
        → option_or o (first_from give (suc k) xs) ≡ Some w → (i : ℕ) × (y : X) × IsAt (x ∷ xs) i y × (give (k + i) y ≡ Some w)
    go None g later e = let (i, y, at, is) = later e in let same : suc k + i ≡ k + suc i = omega arith in (suc i, y, (let l = at.0 in omega (arith, l), at.1), subst (λ m. give m y ≡ Some w) same is)
    go (Some v) g later e = let same : k ≡ k + 0 = omega arith in (0, x, (omega arith, refl), subst (λ m. give m x ≡ Some w) same (g ∙ e))

pub from-none : {X W : Type 0} (give : ℕ → X → Option W) (k : ℕ) (xs : List X) → first_from give k xs ≡ None → (i : ℕ) (x : X) → IsAt xs i x → give (k + i) x ≡ None
from-none give k [] e i x at = absurd (let l = at.0 in omega (arith, l))
from-none {X} {W} give k (y ∷ xs) e i x at = go (give k y) refl (from-none give (suc k) xs) e i at
  where
    go : (o : Option W) → give k y ≡ o → (first_from give (suc k) xs ≡ None → (i : ℕ) (z : X) → IsAt xs i z → give (suc k + i) z ≡ None) → option_or o (first_from give (suc k) xs) ≡ None → (i : ℕ) → IsAt (y ∷ xs) i x → give (k + i) x ≡ None
    go None g later e zero at = let same : k ≡ k + 0 = omega arith in subst (λ m. give m x ≡ None) same (ap (give k) (sym at.1) ∙ g)
    go None g later e (suc i) at = let same : suc k + i ≡ k + suc i = omega arith in subst (λ m. give m x ≡ None) same (later e i x (let l = at.0 in omega (arith, l), at.1))
    go (Some w) g later e i at = absurd (cc)

pub some-some : {X W : Type 0} (give : X → Option W) (xs : List X) (w : W) → first_some give xs ≡ Some w → (i : ℕ) × (x : X) × IsAt xs i x × (give x ≡ Some w)
some-some give [] w e = absurd (cc)
some-some {X} {W} give (x ∷ xs) w e = go (give x) refl (some-some give xs w) e
  where
    go : (o : Option W) → give x ≡ o → (first_some give xs ≡ Some w → (i : ℕ) × (y : X) × IsAt xs i y × (give y ≡ Some w))
        → option_or o (first_some give xs) ≡ Some w → (i : ℕ) × (y : X) × IsAt (x ∷ xs) i y × (give y ≡ Some w)
    go None g later e = let (i, y, at, is) = later e in (suc i, y, (let l = at.0 in omega (arith, l), at.1), is)
    go (Some v) g later e = (0, x, (omega arith, refl), g ∙ e)

pub some-none : {X W : Type 0} (give : X → Option W) (xs : List X) → first_some give xs ≡ None → (i : ℕ) (x : X) → IsAt xs i x → give x ≡ None
some-none give [] e i x at = absurd (let l = at.0 in omega (arith, l))
some-none {X} {W} give (y ∷ xs) e i x at = go (give y) refl (some-none give xs) e i at
  where
    go : (o : Option W) → give y ≡ o → (first_some give xs ≡ None → (i : ℕ) (z : X) → IsAt xs i z → give z ≡ None) → option_or o (first_some give xs) ≡ None → (i : ℕ) → IsAt (y ∷ xs) i x → give x ≡ None
    go None g later e zero at = ap give (sym at.1) ∙ g
    go None g later e (suc i) at = later e i x (let l = at.0 in omega (arith, l), at.1)
    go (Some w) g later e i at = absurd (cc)

pub unordered-some : {X : Type 0} (before : X → X → Bool) (k : ℕ) (xs : List X) (p : ℕ) → first_unordered before k xs ≡ Some p
    → (i : ℕ) × (p ≡ k + i) × (x : X) × (y : X) × IsAt xs i x × IsAt xs (i + 1) y × (before x y ≡ false)
unordered-some before k [] p e = absurd (cc)
unordered-some before k (x ∷ []) p e = absurd (cc)
unordered-some {X} before k (x ∷ y ∷ xs) p e = go (before x y) refl (unordered-some before (suc k) (y ∷ xs) p) e
  where
    go : (b : Bool) → before x y ≡ b → (first_unordered before (suc k) (y ∷ xs) ≡ Some p → (i : ℕ) × (p ≡ suc k + i) × (s : X) × (t : X) × IsAt (y ∷ xs) i s × IsAt (y ∷ xs) (i + 1) t × (before s t ≡ false))
        → (if b then first_unordered before (suc k) (y ∷ xs) else Some k) ≡ Some p → (i : ℕ) × (p ≡ k + i) × (s : X) × (t : X) × IsAt (x ∷ y ∷ xs) i s × IsAt (x ∷ y ∷ xs) (i + 1) t × (before s t ≡ false)
    go true b later e =
        let (i, is, s, t, at, next, fails) = later e in
        let same : suc (i + 1) ≡ suc i + 1 = omega arith in
        let there : IsAt (x ∷ y ∷ xs) (suc (i + 1)) t = (let l = next.0 in omega (arith, l), next.1) in
        (suc i, omega (arith, is), s, t, (let l = at.0 in omega (arith, l), at.1), subst (λ j. IsAt (x ∷ y ∷ xs) j t) same there, fails)
    go false b later e = let same : k ≡ p = cc in (0, omega (arith, same), x, y, (omega arith, refl), (omega arith, refl), b)

pub unordered-rising : {X : Type 0} (before : X → X → Bool) (k : ℕ) (xs : List X) → first_unordered before k xs ≡ None → IsRising (λ x y. before x y ≡ true) xs
unordered-rising before k [] e = tt
unordered-rising before k (x ∷ []) e = tt
unordered-rising {X} before k (x ∷ y ∷ xs) e = go (before x y) refl (unordered-rising before (suc k) (y ∷ xs)) e
  where
    go : (b : Bool) → before x y ≡ b → (first_unordered before (suc k) (y ∷ xs) ≡ None → IsRising (λ x y. before x y ≡ true) (y ∷ xs)) → (if b then first_unordered before (suc k) (y ∷ xs) else Some k) ≡ None → (before x y ≡ true) × IsRising (λ x y. before x y ≡ true) (y ∷ xs)
    go true b later e = (b, later e)
    go false b later e = absurd (cc)
