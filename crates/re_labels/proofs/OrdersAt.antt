-- The order at a place of the list of all orders.
use Rattle.std.proofs.Common.{◌≡◌, ℕ, zero, suc, ◌<◌, ◌+◌, ◌-◌, ◌*◌, ◌/◌, ◌%◌, Bool, false, eqb, List, [], ◌∷◌, ◌++◌, length, map, get_or, refl, sym, ap, ◌∙◌, subst, inl, inr, arith, append_assoc, length-append}
use Rattle.std.specs.List.{flat_map, remove}
use Rattle.std.proofs.Math.ListN.{get_or-append}
use Rattle.std.proofs.lemmas.List.{get_or-append-add}
use Rattle.std.proofs.lemmas.Bool.{false≢true}
use Rattle.std.proofs.lemmas.Bool.Decides.{eqb_tells}
use Rattle.std.proofs.Math.Nat.{mod-lt, div-lt_iff_lt-mul}
use Rattle.std.proofs.lemmas.Nat.{div-add-mod'}
use Rattle.re_labels.specs.Orders.{factorial, orders, placements, splits}
use Rattle.re_labels.proofs.Membership.{length-count_from, length-map', count_from-last}
use Rattle.re_labels.specs.Lists.{count_from}

pub get_or-map : {X Y : Type 0} (f : X → Y) (xs : List X) (i : ℕ) (d : X) (e : Y) → i < length xs → get_or (map f xs) i e ≡ f (get_or xs i d)
get_or-map f [] i d e h = absurd (omega arith)
get_or-map f (x ∷ xs) zero d e h = refl
get_or-map f (x ∷ xs) (suc i) d e h = get_or-map f xs i d e (omega arith)

-- the parts of a list made of parts of one length
pub get_or-flat_map : {X Y : Type 0} (f : X → List Y) (m : ℕ) (xs : List X) (a b : ℕ) (x : X) (d : Y) → ((k : ℕ) → k < length xs → length (f (get_or xs k x)) ≡ m) → a < length xs → b < m
    → get_or (flat_map f xs) (a * m + b) d ≡ get_or (f (get_or xs a x)) b d
get_or-flat_map f m [] a b x d each h k = absurd (omega arith)
get_or-flat_map f m (y ∷ ys) zero b x d each h k =
    let e : 0 * m + b ≡ b = omega arith in
    let l : length (f y) ≡ m = each 0 (omega arith) in
    ap (λ i. get_or (f y ++ flat_map f ys) i d) e ∙ get_or-append (f y) (flat_map f ys) d b (omega arith)
get_or-flat_map f m (y ∷ ys) (suc a) b x d each h k =
    let l : length (f y) ≡ m = each 0 (omega arith) in
    let e : suc a * m + b ≡ length (f y) + (a * m + b) = omega arith in
    ap (λ i. get_or (f y ++ flat_map f ys) i d) e ∙ get_or-append-add (f y) (flat_map f ys) (a * m + b) d
    ∙ get_or-flat_map f m ys a b x d (λ k lt. each (suc k) (omega arith)) (omega arith) k

pub length-flat_map : {X Y : Type 0} (f : X → List Y) (m : ℕ) (xs : List X) (x : X) → ((k : ℕ) → k < length xs → length (f (get_or xs k x)) ≡ m) → length (flat_map f xs) ≡ length xs * m
length-flat_map f m [] x each = omega arith
length-flat_map f m (y ∷ ys) x each =
    let l : length (f y) ≡ m = each 0 (omega arith) in
    let r = length-flat_map f m ys x (λ k lt. each (suc k) (omega arith)) in
    length-append (f y) (flat_map f ys) ∙ omega (arith, l, r)

pub length-splits : (xs : List ℕ) → length (splits xs) ≡ length xs
length-splits [] = refl
length-splits (x ∷ xs) = ap suc (length-map' (λ p. (p.0, x ∷ p.1)) (splits xs) ∙ length-splits xs)

pub get_or-splits : (xs : List ℕ) (k : ℕ) (d : ℕ × List ℕ) → k < length xs → get_or (splits xs) k d ≡ (get_or xs k 0, remove xs k)
get_or-splits [] k d h = absurd (omega arith)
get_or-splits (x ∷ xs) zero d h = refl
get_or-splits (x ∷ xs) (suc k) d h =
    get_or-map (λ p. (p.0, x ∷ p.1)) (splits xs) k d d (let l = length-splits xs in omega (arith, l)) ∙ ap (λ p. (p.0, x ∷ p.1)) (get_or-splits xs k d (omega arith))

length-remove : (xs : List ℕ) (k : ℕ) → k < length xs → length (remove xs k) + 1 ≡ length xs
length-remove [] k h = absurd (omega arith)
length-remove (x ∷ xs) zero h = omega arith
length-remove (x ∷ xs) (suc k) h = let r = length-remove xs k (omega arith) in omega (arith, r)

factorial-suc : (n : ℕ) → factorial (suc n) ≡ suc n * factorial n
unfolding factorial
factorial-suc n = refl

pub length-orders : (n : ℕ) (xs : List ℕ) → length xs ≡ n → length (orders n xs) ≡ factorial n
unfolding factorial
length-orders zero xs h = refl
length-orders (suc n) xs h =
    length-flat_map (λ p. map (λ o. p.0 ∷ o) (orders n p.1)) (factorial n) (splits xs) (0, []) (each_one (length-orders n)) ∙ ap (λ m. m * factorial n) (length-splits xs ∙ h)
  where
    each_one : ((ys : List ℕ) → length ys ≡ n → length (orders n ys) ≡ factorial n)
        → (k : ℕ) → k < length (splits xs) → length (map (λ o. (get_or (splits xs) k (0, [])).0 ∷ o) (orders n (get_or (splits xs) k (0, [])).1)) ≡ factorial n
    each_one more k lt =
        let kx : k < length xs = (let l = length-splits xs in omega (arith, l)) in
        let e = get_or-splits xs k (0, []) kx in
        let r = length-remove xs k kx in
        length-map' (λ o. (get_or (splits xs) k (0, [])).0 ∷ o) (orders n (get_or (splits xs) k (0, [])).1)
        ∙ more (get_or (splits xs) k (0, [])).1 (ap (λ p. length p.1) e ∙ omega (arith, r))

-- the first element of an order, and the place of the rest among the orders of the others
pub get_or-orders : (n : ℕ) (xs : List ℕ) (i : ℕ) → length xs ≡ suc n → i < factorial (suc n) → 0 < factorial n
    → (i / factorial n < suc n) × (get_or (orders (suc n) xs) i [] ≡ get_or xs (i / factorial n) 0 ∷ get_or (orders n (remove xs (i / factorial n))) (i % factorial n) [])
get_or-orders n xs i h lt pos =
    let f = factorial n in
    let a = i / f in
    let b = i % f in
    let whole : a * f + b ≡ i = div-add-mod' i f in
    let below : b < f = mod-lt i pos in
    let top : i < suc n * f = subst (λ m. i < m) (factorial-suc n) lt in
    let ax : a < suc n = (div-lt_iff_lt-mul pos).1 top in
    let ap' : a < length (splits xs) = (let l = length-splits xs in omega (arith, l)) in
    let e = get_or-splits xs a (0, []) (omega arith) in
    let r = length-remove xs a (omega arith) in
    let inner : length (orders n (remove xs a)) ≡ f = length-orders n (remove xs a) (omega (arith, r)) in (
      ax,
      ap (λ j. get_or (orders (suc n) xs) j []) (sym whole)
          ∙ get_or-flat_map (λ p. map (λ o. p.0 ∷ o) (orders n p.1)) f (splits xs) a b (0, []) [] (λ k kl.
          let kx : k < length xs = (let l = length-splits xs in omega (arith, l)) in
          let ek = get_or-splits xs k (0, []) kx in
          let rk = length-remove xs k kx in
          length-map' (λ o. (get_or (splits xs) k (0, [])).0 ∷ o) (orders n (get_or (splits xs) k (0, [])).1)
          ∙ length-orders n (get_or (splits xs) k (0, [])).1 (ap (λ p. length p.1) ek ∙ omega (arith, rk))) ap' below
          ∙ ap (λ p. get_or (map (λ o. p.0 ∷ o) (orders n p.1)) b []) e
          ∙ get_or-map (λ o. get_or xs a 0 ∷ o) (orders n (remove xs a)) b [] [] (omega (arith, inner, below)),
    )

pub count_push : (n : ℕ) (xs : List ℕ) → xs ≡ count_from 0 n → xs ++ n ∷ [] ≡ count_from 0 (n + 1)
count_push n xs e = ap (λ l. l ++ n ∷ []) e ∙ ap (λ m. count_from 0 n ++ m ∷ []) (let z : n ≡ 0 + n = omega arith in z) ∙ sym (count_from-last 0 n) ∙ ap (count_from 0) (let z : suc n ≡ n + 1 = omega arith in z)

-- what is chosen so far, and what is left
pub record ChosenSoFar (n index : ℕ) (places left : List ℕ) (rest : ℕ) : Type 0 where
  pub count : length left + length places ≡ n
  pub below : rest < factorial (length left)
  pub reads : get_or (placements n) index [] ≡ places ++ get_or (orders (length left) left) rest []

pub none_chosen : (n index : ℕ) (left : List ℕ) → left ≡ count_from 0 n → index < factorial n → ChosenSoFar n index [] left index
unfolding placements
none_chosen n index left e h =
    let l : length left ≡ n = ap length e ∙ length-count_from 0 n in
    record {
      count = omega arith;
      below = subst (λ m. index < factorial m) (sym l) h;
      reads = sym (ap (λ m. get_or (orders m left) index []) l ∙ ap (λ xs. get_or (orders n xs) index []) e);
    }

pub one_more_chosen : (n index : ℕ) (places left : List ℕ) (rest size at x : ℕ) (left' : List ℕ) → ChosenSoFar n index places left rest → 0 < length left
    → size ≡ factorial (length left - 1) → 0 < size → at ≡ rest / size → x ≡ get_or left at 0 → left' ≡ remove left at
    → (at < length left) × ChosenSoFar n index (places ++ x ∷ []) left' (rest % size)
one_more_chosen n index places [] rest size at x left' c h s p a xe l = absurd (omega arith)
one_more_chosen n index places (y ∷ ys) rest size at x left' c h s p a xe l =
    let m = length ys in
    let se : size ≡ factorial m = s ∙ ap factorial (let z : suc m - 1 ≡ m = omega arith in z) in
    let pos : 0 < factorial m = subst (λ k. 0 < k) se p in
    let o = get_or-orders m (y ∷ ys) rest refl c.below pos in
    let ae : at ≡ rest / factorial m = a ∙ ap (λ k. rest / k) se in
    let ax : at < suc m = subst (λ k. k < suc m) (sym ae) o.0 in
    let rl : length (remove (y ∷ ys) at) + 1 ≡ suc m = length-remove (y ∷ ys) at ax in
    let ll : length left' ≡ m = ap length l ∙ omega (arith, rl) in
    let re : rest % size ≡ rest % factorial m = ap (λ k. rest % k) se in (
      ax,
      record {
        count = (let pl = length-append places (x ∷ []) in omega (arith, c.count, ll, pl));
        below = subst (λ k. rest % size < factorial k) (sym ll) (subst (λ k. k < factorial m) (sym re) (mod-lt rest pos));
        reads = c.reads ∙ ap (λ l. places ++ l) (o.1 ∙ ap (λ k. get_or (y ∷ ys) k 0 ∷ get_or (orders m (remove (y ∷ ys) k)) (rest % factorial m) []) (sym ae)
            ∙ (λ i. sym xe i ∷ get_or (orders (sym ll i) (sym l i)) (sym re i) []))
            ∙ sym (append_assoc places (x ∷ []) (get_or (orders (length left') left') (rest % size) []));
      },
    )

pub filled_from : (b : Bool) (n : ℕ) → b ≡ eqb n 0 → b ≡ false → 0 < n
filled_from b n e f = elim (eqb_tells n 0) [ inl t ↦ absurd (false≢true (sym f ∙ e ∙ t.0)) | inr t ↦ (let ne : n ≡ 0 → ⊥ = t.1 in omega arith) ]

pub get_or-default : (xs : List ℕ) (i d e : ℕ) → i < length xs → get_or xs i d ≡ get_or xs i e
get_or-default [] i d e h = absurd (omega arith)
get_or-default (x ∷ xs) zero d e h = refl
get_or-default (x ∷ xs) (suc i) d e h = get_or-default xs i d e (omega arith)
