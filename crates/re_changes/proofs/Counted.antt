-- Lists over the numbers below a bound, one number more at a time.
use Rattle.std.proofs.Common.{◌≡◌, ℕ, zero, suc, ◌+◌, ◌<◌, ◌≤◌, Bool, true, false, cond, List, [], ◌∷◌, ◌++◌, length, map, flat_map, None, Some, refl, sym, ap, ◌∙◌, arith, ◌⊎◌, inl, inr, append-nil, append_assoc}
use Rattle.std.specs.Prelude.{filter, find}
use Rattle.std.specs.List.{AllByRecursion, list_any}
use Rattle.std.proofs.lemmas.Bool.{false≢true}
use Rattle.std.proofs.lemmas.Bool.Decides.{nat_tests}
use Rattle.std.proofs.lemmas.Grind.{flat_map-append}
use Rattle.std.proofs.lemmas.List.{map-append}
use Rattle.std.proofs.lemmas.List.Elements.{filter-append}
use Rattle.re_labels.proofs.Membership.{Contains-count_from, any_found, any_true, count_from_range, length-count_from, length-map', count_from-last}
use Rattle.re_labels.specs.Lists.{count_from}
use Rattle.re_labels.proofs.Sets.{with_label-above}
use Rattle.re_labels.specs.Sets.{with_label}

pub count_from-next : (n : ℕ) → count_from 0 (n + 1) ≡ count_from 0 n ++ n ∷ []
count_from-next n = let e : n + 1 ≡ suc n = omega arith in let f : 0 + n ≡ n = omega arith in ap (count_from 0) e ∙ count_from-last 0 n ∙ ap (λ k. count_from 0 n ++ k ∷ []) f

-- ---- one number more
pub map-next : {X : Type 0} (f : ℕ → X) (n : ℕ) → map f (count_from 0 (n + 1)) ≡ map f (count_from 0 n) ++ f n ∷ []
map-next f n = ap (map f) (count_from-next n) ∙ map-append f (count_from 0 n) (n ∷ [])

pub length-map_counted : {X : Type 0} (f : ℕ → X) (n : ℕ) → length (map f (count_from 0 n)) ≡ n
length-map_counted f n = length-map' f (count_from 0 n) ∙ length-count_from 0 n

pub filter-next_in : (p : ℕ → Bool) (n : ℕ) → p n ≡ true → filter p (count_from 0 (n + 1)) ≡ filter p (count_from 0 n) ++ n ∷ []
filter-next_in p n passes =
    ap (filter p) (count_from-next n) ∙ filter-append p (count_from 0 n) (n ∷ []) ∙ ap (λ b. filter p (count_from 0 n) ++ cond b (n ∷ []) []) passes

pub filter-next_out : (p : ℕ → Bool) (n : ℕ) → p n ≡ false → filter p (count_from 0 (n + 1)) ≡ filter p (count_from 0 n)
filter-next_out p n fails =
    ap (filter p) (count_from-next n) ∙ filter-append p (count_from 0 n) (n ∷ []) ∙ ap (λ b. filter p (count_from 0 n) ++ cond b (n ∷ []) []) fails ∙ append-nil (filter p (count_from 0 n))

pub flat_map-next : {X : Type 0} (f : ℕ → List X) (n : ℕ) → flat_map f (count_from 0 (n + 1)) ≡ flat_map f (count_from 0 n) ++ f n
flat_map-next f n = ap (flat_map f) (count_from-next n) ∙ flat_map-append f (count_from 0 n) (n ∷ []) ∙ ap (λ l. flat_map f (count_from 0 n) ++ l) (append-nil (f n))

pub filter-below : (p : ℕ → Bool) (i n m : ℕ) → i + n ≤ m → AllByRecursion (λ y. y < m) (filter p (count_from i n))
filter-below p i zero m h = tt
filter-below p i (suc n) m h = go (p i) (filter-below p (suc i) n m (omega arith))
  where
    go : (b : Bool) → AllByRecursion (λ y. y < m) (filter p (count_from (suc i) n)) → AllByRecursion (λ y. y < m) (cond b (i ∷ filter p (count_from (suc i) n)) (filter p (count_from (suc i) n)))
    go true rest = (omega arith, rest)
    go false rest = rest

pub with_label-next : (p : ℕ → Bool) (n : ℕ) → p n ≡ true → with_label (filter p (count_from 0 n)) n ≡ filter p (count_from 0 (n + 1))
with_label-next p n passes = with_label-above (filter p (count_from 0 n)) n (filter-below p 0 n n (omega arith)) ∙ sym (filter-next_in p n passes)

pub length-filter_most : (p : ℕ → Bool) (i n : ℕ) → length (filter p (count_from i n)) ≤ n
length-filter_most p i zero = omega arith
length-filter_most p i (suc n) = go (p i) (length-filter_most p (suc i) n)
  where
    go : (b : Bool) → length (filter p (count_from (suc i) n)) ≤ n → length (cond b (i ∷ filter p (count_from (suc i) n)) (filter p (count_from (suc i) n))) ≤ suc n
    go true rest = omega arith
    go false rest = omega arith

-- ---- a search among them
pub below_more : (p : ℕ → Bool) (n : ℕ) → ((k : ℕ) → k < n → p k ≡ false) → p n ≡ false → (k : ℕ) → k < n + 1 → p k ≡ false
below_more p n before here k l = elim (or_last k n l) [ inl low ↦ before k low | inr same ↦ ap p same ∙ here ]
  where
    or_last : (k n : ℕ) → k < n + 1 → (k < n) ⊎ (k ≡ n)
    or_last k n l = grind (arith, nat_tests)

pub any-counted : (p : ℕ → Bool) (n k : ℕ) → k < n → p k ≡ true → list_any p (count_from 0 n) ≡ true
any-counted p n k l h = any_true p (count_from 0 n) k (Contains-count_from 0 n k (omega arith) (omega arith)) h

pub any-none : (p : ℕ → Bool) (n : ℕ) → ((k : ℕ) → k < n → p k ≡ false) → list_any p (count_from 0 n) ≡ false
any-none p n h = go (list_any p (count_from 0 n)) refl
  where
    go : (b : Bool) → list_any p (count_from 0 n) ≡ b → list_any p (count_from 0 n) ≡ false
    go false e = e
    go true e =
        let r = any_found p (count_from 0 n) e in
        let range = count_from_range 0 n r.0 r.1 in
        absurd (false≢true (sym (h r.0 (omega (arith, range.1))) ∙ r.2))

pub find-from : (p : ℕ → Bool) (i n k : ℕ) → k < n → p (i + k) ≡ true → ((j : ℕ) → j < k → p (i + j) ≡ false) → find p (count_from i n) ≡ Some (i + k)
find-from p i zero k l h before = absurd (omega arith)
find-from p i (suc n) zero l h before = let e : i + 0 ≡ i = omega arith in ap (λ b. cond b (Some i) (find p (count_from (suc i) n))) (ap p (sym e) ∙ h) ∙ ap Some (sym e)
find-from p i (suc n) (suc k) l h before =
    let e : i + suc k ≡ suc i + k = omega arith in
    let first : i + 0 ≡ i = omega arith in
    ap (λ b. cond b (Some i) (find p (count_from (suc i) n))) (ap p (sym first) ∙ before 0 (omega arith))
    ∙ find-from p (suc i) n k (omega arith) (ap p (sym e) ∙ h) (λ j m. let f : suc i + j ≡ i + suc j = omega arith in ap p f ∙ before (suc j) (omega arith)) ∙ ap Some (sym e)

pub find-first : (p : ℕ → Bool) (n k : ℕ) → k < n → p k ≡ true → ((j : ℕ) → j < k → p j ≡ false) → find p (count_from 0 n) ≡ Some k
find-first p n k l h before =
    let z : 0 + k ≡ k = omega arith in
    find-from p 0 n k l (ap p z ∙ h) (λ j m. let f : 0 + j ≡ j = omega arith in ap p f ∙ before j m) ∙ ap Some z

pub find-nowhere : (p : ℕ → Bool) (i n : ℕ) → ((k : ℕ) → i ≤ k → k < i + n → p k ≡ false) → find p (count_from i n) ≡ None
find-nowhere p i zero h = refl
find-nowhere p i (suc n) h = ap (λ b. cond b (Some i) (find p (count_from (suc i) n))) (h i (omega arith) (omega arith)) ∙ find-nowhere p (suc i) n (λ k low high. h k (omega arith) (omega arith))

pub find-none : (p : ℕ → Bool) (n : ℕ) → ((k : ℕ) → k < n → p k ≡ false) → find p (count_from 0 n) ≡ None
find-none p n h = find-nowhere p 0 n (λ k low high. h k (omega arith))

-- ---- lists that are made by pushing
pub pushed : {X : Type 0} (f : ℕ → X) (n : ℕ) {before after : List X} (x : X) → after ≡ before ++ x ∷ [] → before ≡ map f (count_from 0 n) → x ≡ f n → after ≡ map f (count_from 0 (n + 1))
pushed f n {before} x push so_far e = push ∙ ap (λ l. l ++ x ∷ []) so_far ∙ ap (λ y. map f (count_from 0 n) ++ y ∷ []) e ∙ sym (map-next f n)

pub kept_in : (p : ℕ → Bool) (n : ℕ) {before after : List ℕ} → after ≡ before ++ n ∷ [] → before ≡ filter p (count_from 0 n) → p n ≡ true → after ≡ filter p (count_from 0 (n + 1))
kept_in p n push so_far passes = push ∙ ap (λ l. l ++ n ∷ []) so_far ∙ sym (filter-next_in p n passes)

pub left_out : (p : ℕ → Bool) (n : ℕ) {before after : List ℕ} → after ≡ before → before ≡ filter p (count_from 0 n) → p n ≡ false → after ≡ filter p (count_from 0 (n + 1))
left_out p n same so_far fails = same ∙ so_far ∙ sym (filter-next_out p n fails)

-- one pair more, where the first is fixed
pub paired_in : (p : ℕ → Bool) (x n : ℕ) (old : List (ℕ × ℕ)) {before after : List (ℕ × ℕ)} → after ≡ before ++ (x, n) ∷ [] → before ≡ old ++ map (λ y. (x, y)) (filter p (count_from 0 n)) → p n ≡ true
    → after ≡ old ++ map (λ y. (x, y)) (filter p (count_from 0 (n + 1)))
paired_in p x n old push so_far passes =
    push ∙ ap (λ l. l ++ (x, n) ∷ []) so_far ∙ append_assoc old (map (λ y. (x, y)) (filter p (count_from 0 n))) ((x, n) ∷ [])
    ∙ ap (λ l. old ++ l) (sym (map-append (λ y. (x, y)) (filter p (count_from 0 n)) (n ∷ []))) ∙ ap (λ l. old ++ map (λ y. (x, y)) l) (sym (filter-next_in p n passes))

pub paired_out : (p : ℕ → Bool) (x n : ℕ) (old : List (ℕ × ℕ)) {before after : List (ℕ × ℕ)} → after ≡ before → before ≡ old ++ map (λ y. (x, y)) (filter p (count_from 0 n)) → p n ≡ false
    → after ≡ old ++ map (λ y. (x, y)) (filter p (count_from 0 (n + 1)))
paired_out p x n old same so_far fails = same ∙ so_far ∙ ap (λ l. old ++ map (λ y. (x, y)) l) (sym (filter-next_out p n fails))
