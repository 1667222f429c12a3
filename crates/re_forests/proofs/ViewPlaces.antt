-- Where a name stands in a list into which it was put; entries of lists of children.
use Rattle.std.proofs.Common.{◌≡◌, ℕ, zero, suc, ◌≤◌, ◌<◌, false, Some, List, [], ◌∷◌, length, get_or, refl, sym, ap, arith}
use Rattle.std.specs.Prelude.{unwrap_or, ◌==◌}
use Rattle.std.specs.List.{position_or_len}
use Rattle.std.proofs.lemmas.Bool.{eq-eqb, ne_eqb}
use Rattle.std.proofs.lemmas.List.Sums.{position_or_len_is}
use Rattle.re_forests.proofs.Counting.{is_at-same, often}
use Rattle.re_forests.proofs.NamedTrees.{insert, length-insert}
use Rattle.re_given.specs.InputViews.{payloads}
use Rattle.re_laws.specs.Trees.{Child, Tree, child_at, end, leaf, more}

before : (q j : ℕ) (xs : List ℕ) → often q xs ≡ 0 → j ≤ length xs → (k : ℕ) → k < j → (get_or (insert j q xs) k 0 == q) ≡ false
before q zero xs none l k less = absurd (omega arith)
before q (suc j) [] none l k less = absurd (omega arith)
before q (suc j) (x ∷ xs) none l zero less = ne_eqb x q (λ e. let one = is_at-same q x (sym e) in omega arith)
before q (suc j) (x ∷ xs) none l (suc k) less = before q j xs (omega arith) (omega arith) k (omega arith)

there : (q j : ℕ) (xs : List ℕ) → j ≤ length xs → get_or (insert j q xs) j 0 ≡ q
there q zero xs l = refl
there q (suc j) [] l = absurd (omega arith)
there q (suc j) (x ∷ xs) l = there q j xs (omega arith)

pub position-insert : (q j : ℕ) (xs : List ℕ) → often q xs ≡ 0 → j ≤ length xs → position_or_len (λ x. x == q) (insert j q xs) ≡ j
position-insert q j xs none l =
    position_or_len_is (λ x. x == q) (insert j q xs) j 0 (let long = length-insert j q xs in omega arith) (before q j xs none l) (λ _. eq-eqb (get_or (insert j q xs) j 0) q (there q j xs l))

pub payloads-child : (k : ℕ) (c : Child ℕ) (t : Tree ℕ) → child_at k t ≡ Some c → get_or (payloads t) k 0 ≡ c.payload
payloads-child k c leaf at = absurd (cc)
payloads-child k c end at = absurd (cc)
payloads-child zero c (more back label branch rest) at =
    let is : _ = ap (λ found. unwrap_or found c) at in
    ap (λ (c : Child ℕ). c.payload) is
payloads-child (suc k) c (more back label branch rest) at = payloads-child k c rest at
