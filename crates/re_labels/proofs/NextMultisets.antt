-- The multiset that comes next.
use Rattle.std.proofs.Common.{◌≡◌, ℕ, zero, suc, ◌<◌, ◌≤◌, ◌+◌, ◌-◌, List, [], ◌∷◌, ◌++◌, length, map, drop, get_or, replicate, refl, sym, ap, ◌∙◌, subst, arith, Some, None}
use Rattle.std.specs.Prelude.{Option}
use Rattle.std.specs.List.{AllByRecursion}
use Rattle.std.proofs.lemmas.List.{length-replicate}
use Rattle.re_labels.specs.Orders.{IsFollowed, begun, multisets, multisets_left, multisets_on}

-- all multisets are those from the least one on
pub on-first : (d n x : ℕ) → x < n → multisets d x (n - x) ≡ multisets_on n (replicate d x)
on-first zero n x h = refl
on-first (suc d) n x h =
    let e : n - x ≡ suc (n - suc x) = omega arith in
    ap (begun (multisets d) x) e
    ∙ (λ i. map (λ v. x ∷ v) ((ap (multisets d x) (sym e) ∙ on-first d n x h) i) ++ begun (multisets (sym (length-replicate d x) i)) (suc x) (n - suc x))

pub below-replicate : (k x n : ℕ) → x < n → AllByRecursion (λ y. y < n) (replicate k x)
below-replicate zero x n h = tt
below-replicate (suc k) x n h = (h, below-replicate k x n h)

followed-raised : (n x : ℕ) (others : List ℕ) → IsFollowed n others None → suc x < n → length (x ∷ others) ≤ 6 → IsFollowed n (x ∷ others) (Some (replicate (length (x ∷ others)) (suc x)))
followed-raised n x others f h l = (
  (λ i. map (λ v. x ∷ v) (f.0 i) ++ on-first (suc (length others)) n (suc x) h i),
  (below-replicate (suc (length others)) (suc x) n h, (let r = length-replicate (suc (length others)) (suc x) in omega (arith, r))),
  length-replicate (suc (length others)) (suc x),
)

-- ---- as the code takes a list apart
pub parted-numbers : (numbers others : List ℕ) (x : ℕ) → 1 ≤ length numbers → x ≡ get_or numbers 0 0 → others ≡ drop 1 numbers → x ∷ others ≡ numbers
parted-numbers [] others x h e f = absurd (omega arith)
parted-numbers (y ∷ numbers) others x h e f = λ i. e i ∷ f i

module _ (n : ℕ) (numbers others : List ℕ) (x : ℕ) (e : x ∷ others ≡ numbers) (few : length numbers ≤ 6) where
  few-here : length (x ∷ others) ≤ 6
  few-here = subst (λ l. length l ≤ 6) (sym e) few

  pub goes-raised : (count raised : ℕ) (new : List ℕ) (next : Option (List ℕ)) → IsFollowed n others next → next ≡ None → count ≡ length numbers → raised ≡ x + 1 → raised < n → new ≡ replicate count raised → IsFollowed n numbers (Some new)
  goes-raised count raised new next f is c r h ne =
      let up : raised ≡ suc x = (let s : x + 1 ≡ suc x = omega arith in r ∙ s) in
      let lt : suc x < n = omega arith in
      let all : new ≡ replicate (length (x ∷ others)) (suc x) = ne ∙ (λ i. replicate ((c ∙ ap length (sym e)) i) (up i)) in
      subst (λ l. IsFollowed n l (Some new)) e (subst (λ v. IsFollowed n (x ∷ others) (Some v)) (sym all) (followed-raised n x others (subst (IsFollowed n others) is f) lt few-here))

-- the first multiset of numbers below n, where there is any number
pub first-multiset : (d n : ℕ) (v : List ℕ) → (n ≡ 0 → ⊥) → v ≡ replicate d 0 → multisets_left n (Some v) ≡ multisets d 0 n
first-multiset d n v h e =
    let all : n - 0 ≡ n = omega arith in
    let lt : 0 < n = omega arith in
    ap (multisets_on n) e ∙ sym (on-first d n 0 lt) ∙ ap (multisets d 0) all

pub no-multiset : (d n : ℕ) → n ≡ 0 → 2 ≤ d → [] ≡ multisets d 0 n
no-multiset zero n e h = absurd (omega arith)
no-multiset (suc d) n e h = ap (begun (multisets d) 0) (sym e)
