-- Lists of pieces.
use Rattle.std.proofs.Common.{◌++◌, ◌≡◌, ℕ, suc, ◌+◌, ◌*◌, ◌≤◌, List, [], ◌∷◌, length, arith, length-append}
use Rattle.std.specs.Prelude.{Contains, flat_map}
use Rattle.re_labels.proofs.Membership.{Contains-here, Contains-later}

-- so many pieces of at most m elements
pub length-pieces : {X Y : Type 0} (f : X → List Y) (m : ℕ) (xs : List X) → ((x : X) → Contains xs x → length (f x) ≤ m) → length (flat_map f xs) ≤ length xs * m
length-pieces f m [] each = omega arith
length-pieces f m (x ∷ xs) each =
    let one : length (f x) ≤ m = each x (Contains-here x xs) in
    let rest : length (flat_map f xs) ≤ length xs * m = length-pieces f m xs (λ y held. each y (Contains-later y x xs held)) in
    let both : length (f x ++ flat_map f xs) ≡ length (f x) + length (flat_map f xs) = length-append (f x) (flat_map f xs) in
    let count : suc (length xs) * m ≡ length xs * m + m = grind arith in
    omega (arith, one, rest, both, count)
