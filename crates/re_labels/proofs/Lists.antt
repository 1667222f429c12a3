-- Lists: one element more at the end, the first one and the others, and what is written back.
use Rattle.std.proofs.Common.{◌≡◌, ℕ, suc, ◌≤◌, ◌-◌, List, [], ◌∷◌, ◌++◌, length, take, drop, get_or, sym, ap, ◌∙◌, ◌⊎◌, inl, inr, arith}
use Rattle.std.specs.Prelude.{Contains}
use Rattle.std.specs.List.{refill}
use Rattle.re_labels.proofs.Membership.{Contains-In, Contains-cases, Contains-here, Contains-none, In-Contains, In-append_cases, In-append_left, In-append_right}
use Rattle.re_labels.proofs.Sorting.{take_all, take_front}

pub Contains-last : {X : Type 0} (xs : List X) (x : X) → Contains (xs ++ x ∷ []) x
Contains-last xs x = In-Contains x (xs ++ x ∷ []) (In-append_right x xs (x ∷ []) (Contains-In x (x ∷ []) (Contains-here x [])))

pub Contains-more : {X : Type 0} (xs : List X) (x z : X) → Contains xs z → Contains (xs ++ x ∷ []) z
Contains-more xs x z h = In-Contains z (xs ++ x ∷ []) (In-append_left z xs (x ∷ []) (Contains-In z xs h))

pub Contains-more_cases : {X : Type 0} (xs : List X) (x z : X) → Contains (xs ++ x ∷ []) z → Contains xs z ⊎ (z ≡ x)
Contains-more_cases xs x z h = elim (In-append_cases z xs (x ∷ []) (Contains-In z (xs ++ x ∷ []) h)) [
  | inl i ↦ inl (In-Contains z xs i)
  | inr j ↦ elim (Contains-cases z x [] (In-Contains z (x ∷ []) j)) [ inl e ↦ inr e | inr k ↦ absurd (Contains-none z k) ]
]

-- a list as its first element and the others
pub split_first : (xs : List (List ℕ)) (x : List ℕ) → 1 ≤ length xs → x ≡ get_or xs 0 x → xs ≡ x ∷ take (length xs - 1) (drop 1 xs)
split_first [] x some e = absurd (omega arith)
split_first (y ∷ xs) x some e = ap (λ z. z ∷ xs) (sym e) ∙ ap (λ rest. x ∷ rest) (sym (take_all xs (suc (length xs) - 1) (omega arith)))

-- what is written back, where the number stays
pub refilled : {X : Type 0} (old new : List X) → length new ≡ length old → refill (length old) old new ≡ new
refilled old new e = ap (λ n. take n (new ++ drop (length new) old)) (sym e) ∙ take_front new (drop (length new) old)
