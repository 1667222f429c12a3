-- Lists in which nothing stands twice, put together of pieces, and lists of ports without one.
use Rattle.std.proofs.Common.{◌≡◌, ℕ, zero, suc, ◌+◌, Bool, true, false, cond, List, [], ◌∷◌, ◌++◌, map, sym, ◌∙◌, subst, arith, ◌⊎◌, inl, inr}
use Rattle.std.specs.Prelude.{Contains, filter, flat_map}
use Rattle.std.proofs.lemmas.List.Elements.{Contains-append_cases}
use Rattle.re_labels.proofs.Membership.{count_from_range, Contains-cases, Contains-filter_cases, Contains-flat_map, Contains-flat_map_cases, Contains-here, Contains-later, Contains-none}
use Rattle.re_labels.specs.Lists.{count_from}
use Rattle.re_layers.specs.Networks.{AreDifferent}
use Rattle.re_layers.proofs.Different.{Different-apart}

-- nothing stands twice
abbrev pub IsOnce : {X : Type 0} → List X → Type 0
IsOnce [] = Unit {0}
IsOnce (x ∷ xs) = (Contains xs x → ⊥) × IsOnce xs

once_join : {X : Type 0} (xs ys : List X) → IsOnce xs → IsOnce ys → ((z : X) → Contains xs z → Contains ys z → ⊥) → IsOnce (xs ++ ys)
once_join [] ys first later apart = later
once_join (x ∷ xs) ys first later apart = (
  λ held. elim (Contains-append_cases xs ys x held) [ inl l ↦ first.0 l | inr r ↦ apart x (Contains-here x xs) r ],
  once_join xs ys first.1 later (λ z l r. apart z (Contains-later z x xs l) r),
)

pub once_pieces : {X Y : Type 0} (f : X → List Y) (xs : List X) → IsOnce xs → ((x : X) → Contains xs x → IsOnce (f x))
    → ((x y : X) (z : Y) → Contains xs x → Contains xs y → (x ≡ y → ⊥) → Contains (f x) z → Contains (f y) z → ⊥) → IsOnce (flat_map f xs)
once_pieces f [] once each apart = tt
once_pieces f (x ∷ xs) once each apart =
    once_join (f x) (flat_map f xs) (each x (Contains-here x xs))
    (once_pieces f xs once.1 (λ y held. each y (Contains-later y x xs held)) (λ y y' z held held'. apart y y' z (Contains-later y x xs held) (Contains-later y' x xs held')))
    (λ z here there.
    (let (y, held, at) = Contains-flat_map_cases f xs z there in
    apart x y z (Contains-here x xs) (Contains-later y x xs held) (λ e. once.0 (subst (Contains xs) (sym e) held)) here at))

once_rest : (xs ys : List ℕ) → AreDifferent (xs ++ ys) → AreDifferent ys
once_rest [] ys once = once
once_rest (x ∷ xs) ys once = once_rest xs ys once.1

pub pieces_apart : (f : ℕ → List ℕ) (xs : List ℕ) (x y z : ℕ) → AreDifferent (flat_map f xs) → Contains xs x → Contains xs y → (x ≡ y → ⊥) → Contains (f x) z → Contains (f y) z → ⊥
pieces_apart f [] x y z once held held' other at at' = Contains-none x held
pieces_apart f (w ∷ xs) x y z once held held' other at at' =
    by (Contains-cases x w xs held) (Contains-cases y w xs held') (λ later later'. pieces_apart f xs x y z (once_rest (f w) (flat_map f xs) once) later later' other at at')
  where
    by : (x ≡ w) ⊎ Contains xs x → (y ≡ w) ⊎ Contains xs y → (Contains xs x → Contains xs y → ⊥) → ⊥
    by (inl e) (inl e') rest = other (e ∙ sym e')
    by (inl e) (inr later) rest = Different-apart (f w) (flat_map f xs) z once (subst (λ v. Contains (f v) z) e at) (Contains-flat_map f xs y z later at')
    by (inr later) (inl e) rest = Different-apart (f w) (flat_map f xs) z once (subst (λ v. Contains (f v) z) e at') (Contains-flat_map f xs x z later at)
    by (inr later) (inr later') rest = rest later later'

pub once_filter : {X : Type 0} (test : X → Bool) (xs : List X) → IsOnce xs → IsOnce (filter test xs)
once_filter test [] once = tt
once_filter {X} test (x ∷ xs) once = by (test x) (once_filter test xs once.1)
  where
    by : (b : Bool) → IsOnce (filter test xs) → IsOnce (cond b (x ∷ filter test xs) (filter test xs))
    by true rest = (λ held. once.0 (Contains-filter_cases test xs x held).0, rest)
    by false rest = rest

pub different_map : {X : Type 0} (f : X → ℕ) (xs : List X) → IsOnce xs → ((x y : X) → Contains xs x → Contains xs y → f x ≡ f y → x ≡ y) → AreDifferent (map f xs)
different_map f [] once each = tt
different_map f (x ∷ xs) once each = (
  λ held. (let (y, there, e) = held_map f xs (f x) held in once.0 (subst (Contains xs) (sym (each x y (Contains-here x xs) (Contains-later y x xs there) e)) there)),
  different_map f xs once.1 (λ y z held held'. each y z (Contains-later y x xs held) (Contains-later z x xs held')),
)
  where
    held_map : {X : Type 0} (f : X → ℕ) (xs : List X) (n : ℕ) → Contains (map f xs) n → (y : X) × Contains xs y × (n ≡ f y)
    held_map f [] n held = absurd (Contains-none n held)
    held_map f (y ∷ xs) n held = elim (Contains-cases n (f y) (map f xs) held) [
      | inl e ↦ (y, Contains-here y xs, e)
      | inr later ↦ (let (z, there, e) = held_map f xs n later in (z, Contains-later z y xs there, e))
    ]

-- ---- ports
-- the list without what stands at a place
abbrev pub dropped : ℕ → List ℕ → List ℕ
dropped k [] = []
dropped zero (x ∷ xs) = xs
dropped (suc k) (x ∷ xs) = x ∷ dropped k xs

pub dropped_held : (k : ℕ) (xs : List ℕ) (x : ℕ) → Contains (dropped k xs) x → Contains xs x
dropped_held k [] x held = held
dropped_held zero (y ∷ xs) x held = Contains-later x y xs held
dropped_held (suc k) (y ∷ xs) x held = elim (Contains-cases x y (dropped k xs) held) [
  | inl e ↦ subst (λ z. Contains (y ∷ xs) z) (sym e) (Contains-here y xs)
  | inr later ↦ Contains-later x y xs (dropped_held k xs x later)
]

pub dropped_other : (q i n k : ℕ) → Contains (dropped q (count_from i n)) k → k ≡ i + q → ⊥
dropped_other q i zero k held e = Contains-none k held
dropped_other zero i (suc n) k held e = let range = count_from_range (suc i) n k held in absurd (omega arith)
dropped_other (suc q) i (suc n) k held e = elim (Contains-cases k i (dropped q (count_from (suc i) n)) held) [
  | inl same ↦ absurd (omega arith)
  | inr later ↦ dropped_other q (suc i) n k later (omega arith)
]

pub once_count : (i n : ℕ) → IsOnce (count_from i n)
once_count i zero = tt
once_count i (suc n) = (λ held. (let range = count_from_range (suc i) n i held in absurd (omega arith)), once_count (suc i) n)

pub once_dropped : (k : ℕ) (xs : List ℕ) → IsOnce xs → IsOnce (dropped k xs)
once_dropped k [] once = tt
once_dropped zero (x ∷ xs) once = once.1
once_dropped (suc k) (x ∷ xs) once = (λ held. once.0 (dropped_held k xs x held), once_dropped k xs once.1)
