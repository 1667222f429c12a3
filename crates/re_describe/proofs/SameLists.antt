-- Lists that begin alike and go on alike.
use Rattle.std.proofs.Common.{◌≡◌, ℕ, ◌-◌, ◌≤◌, List, [], ◌∷◌, get_or, length, take, drop, sym, ◌∙◌, arith}
use Rattle.re_labels.proofs.Patterns.{others-are}

-- both have a first element, told by its place, it is the same, and so are the others
pub same_list_at : {X : Type 0} (xs ys : List X) (x y : X) → 1 ≤ length xs → 1 ≤ length ys → get_or xs 0 x ≡ get_or ys 0 y
    → take (length xs - 1) (drop 1 xs) ≡ take (length ys - 1) (drop 1 ys) → xs ≡ ys
same_list_at [] ys x y some more same rest = absurd (omega arith)
same_list_at (a ∷ xs) [] x y some more same rest = absurd (omega arith)
same_list_at (a ∷ xs) (b ∷ ys) x y some more same rest =
    let others : xs ≡ ys = sym (others-are (a ∷ xs)) ∙ rest ∙ others-are (b ∷ ys) in
    λ i. same i ∷ others i

-- the same of first elements with names
pub same_list : {X : Type 0} (xs ys : List X) (x y : X) → 1 ≤ length xs → 1 ≤ length ys → x ≡ get_or xs 0 x → y ≡ get_or ys 0 y → x ≡ y
    → take (length xs - 1) (drop 1 xs) ≡ take (length ys - 1) (drop 1 ys) → xs ≡ ys
same_list xs ys x y some more here there same rest = same_list_at xs ys x y some more (sym here ∙ same ∙ there) rest
