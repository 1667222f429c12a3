-- Lists of rows that grow.
use Rattle.std.proofs.Common.{◌≡◌, ℕ, zero, suc, ◌<◌, get_or, List, [], ◌∷◌, ◌++◌, length, refl, sym, ap, ◌∙◌, subst, arith, append_assoc, append-nil, length-append}
use Rattle.std.specs.Prelude.{Contains}
use Rattle.re_boxes.specs.Growing.{IsLonger}
use Rattle.re_labels.proofs.Membership.{Contains-In, In-Contains, In-append_left}
use Rattle.re_labels.specs.GoodRows.{IsDominated}

abbrev Rows : Type 0
Rows = List (List (List ℕ))

contains_front : (rows more : Rows) (z : List (List ℕ)) → Contains rows z → Contains (rows ++ more) z
contains_front rows more z h = In-Contains z (rows ++ more) (In-append_left z rows more (Contains-In z rows h))

pub longer_on : (one two three : Rows) → IsLonger one two → IsLonger two three → IsLonger one three
longer_on one two three a b = (a.0 ++ b.0, b.1 ∙ ap (λ l. l ++ b.0) a.1 ∙ append_assoc one a.0 b.0)

pub longer_has : (one two : Rows) → IsLonger one two → (z : List (List ℕ)) → Contains one z → Contains two z
longer_has one two a z h = subst (λ l. Contains l z) (sym a.1) (contains_front one a.0 z h)

pub dominated_longer : (one two : Rows) → IsLonger one two → (sets : List (List ℕ)) → IsDominated one sets → IsDominated two sets
dominated_longer one two a sets d = (d.0, longer_has one two a d.0 d.1, d.2)

pub longer_at : (one two : Rows) → IsLonger one two → (j : ℕ) → j < length one → get_or two j [] ≡ get_or one j []
longer_at one two a j inside = ap (λ l. get_or l j []) a.1 ∙ front one a.0 j inside
  where
    front : (xs ys : Rows) (j : ℕ) → j < length xs → get_or (xs ++ ys) j [] ≡ get_or xs j []
    front [] ys j h = absurd (omega arith)
    front (x ∷ xs) ys zero h = refl
    front (x ∷ xs) ys (suc j) h = front xs ys j (omega arith)

-- a list that got no longer stayed as it was
pub same_rows : (one two : Rows) → IsLonger one two → length two ≡ length one → two ≡ one
same_rows one two ([], e) count = e ∙ append-nil one
same_rows one two (row ∷ more, e) count = absurd (let all = ap length e ∙ length-append one (row ∷ more) in omega (arith, all, count))
