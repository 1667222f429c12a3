-- Networks whose nodes are filled with new neighbours, and networks with arms.
use Rattle.std.proofs.Common.{◌≡◌, ℕ, zero, suc, ◌+◌, ◌-◌, ◌*◌, ◌/◌, ◌%◌, ◌≤◌, ◌<◌, Bool, true, false, cond, eqb, leb, ltb, List, [], ◌∷◌, ◌++◌, map, length, refl, sym, ◌∙◌, ap, ap₂, subst, arith, inl, inr, length-append, append-nil}
use Rattle.std.specs.Prelude.{Contains, not, if◌then◌else◌}
use Rattle.std.proofs.Math.Nat.{mod-eq_of_lt}
use Rattle.std.proofs.lemmas.Bool.{eq-eqb, le-ltb, lt-ltb, ne_eqb}
use Rattle.std.proofs.lemmas.Bool.Decides.{leb_tells}
use Rattle.std.proofs.lemmas.List.{length-map}
use Rattle.std.proofs.lemmas.Nat.{mod-mul-add}
use Rattle.re_forests.proofs.Cuts.{IsCutting}
use Rattle.re_forests.proofs.Hung.{IsHanging, Step, active_inner, hung, hung_cutting, inner, up, down, near_hung, near_inner, only, step_of}
use Rattle.re_labels.proofs.Membership.{Contains-count_from, count_from_range, length-count_from, AllByRecursion-from_contains, Contains-none}
use Rattle.re_labels.specs.Lists.{count_from}
use Rattle.re_layers.specs.Networks.{AreDifferent, AreSame, Network}

-- ---- stars
abbrev pub star : ℕ → ℕ
star i = 0

abbrev pub star_kids : ℕ → ℕ → List ℕ
star_kids l zero = count_from 1 l
star_kids l (suc i) = []

abbrev pub star_kind : Bool → ℕ → Bool
star_kind b zero = b
star_kind b (suc i) = not b

abbrev pub star_under : ℕ → ℕ → Bool
star_under j i = eqb i (suc j)

different_count : (i n : ℕ) → AreDifferent (count_from i n)
different_count i zero = tt
different_count i (suc n) = (λ held. (let (low, high) = count_from_range (suc i) n i held in omega arith), different_count (suc i) n)

star_kid : (l i j : ℕ) → Contains (star_kids l i) j → (k : ℕ) × (j ≡ suc k) × (star k ≡ i) × (suc k ≤ l)
star_kid l zero zero held = let (low, high) = count_from_range 1 l zero held in absurd (omega arith)
star_kid l zero (suc k) held = let (low, high) = count_from_range 1 l (suc k) held in (k, refl, refl, omega arith)
star_kid l (suc i) j held = absurd (Contains-none j held)

star_once : (l i : ℕ) → AreDifferent (star_kids l i)
star_once l zero = different_count 1 l
star_once l (suc i) = tt

none_first : (j : ℕ) → eqb 0 (suc j) ≡ false
none_first j = ne_eqb 0 (suc j) (λ e. omega arith)

pub IsHanging-star : IsHanging star star_kids star_kind star_under
IsHanging-star = record {
  low = λ i. omega arith;
  kid = star_kid;
  held = λ l k le. Contains-count_from 1 l (suc k) (omega arith) (omega arith);
  once = star_once;
  few = λ l i. omega arith;
  root = λ b. refl;
  turn = λ b i. refl;
  self = λ j. eq-eqb (suc j) (suc j) refl;
  top = none_first;
  above = none_first;
  same = λ j i ne. ne_eqb (suc i) (suc j) (λ e. ne (omega arith)) ∙ sym (none_first j);
}

-- ---- paths
abbrev pub path : ℕ → ℕ
path i = i

abbrev pub path_kids : ℕ → ℕ → List ℕ
path_kids l i = cond (ltb i l) (suc i ∷ []) []

abbrev pub path_kind : Bool → ℕ → Bool
path_kind b zero = b
path_kind b (suc i) = not (path_kind b i)

abbrev pub path_under : ℕ → ℕ → Bool
path_under j i = ltb j i

path_kid : (l i j : ℕ) → Contains (path_kids l i) j → (k : ℕ) × (j ≡ suc k) × (path k ≡ i) × (suc k ≤ l)
path_kid l i j held = elim (leb_tells (suc i) l) [
  | inl (t, le) ↦ (i, only j (suc i) (subst (λ b. Contains (cond b (suc i ∷ []) []) j) t held), refl, le)
  | inr (t, gt) ↦ absurd (Contains-none j (subst (λ b. Contains (cond b (suc i ∷ []) []) j) t held))
]

path_held : (l k : ℕ) → suc k ≤ l → Contains (path_kids l k) (suc k)
path_held l k le = subst (λ b. Contains (cond b (suc k ∷ []) []) (suc k)) (sym (lt-ltb k l (omega arith))) (zero, omega arith, refl)

single : (b : Bool) (z : ℕ) → AreDifferent (cond b (z ∷ []) [])
single true z = (λ held. Contains-none z held, tt)
single false z = tt

few_single : (b : Bool) (z : ℕ) → length (cond b (z ∷ []) []) ≤ 1
few_single true z = omega arith
few_single false z = omega arith

path_same : (j i : ℕ) → (i ≡ j → ⊥) → ltb j (suc i) ≡ ltb j i
path_same j i ne = elim (leb_tells (suc j) i) [
  | inl (t, le) ↦ lt-ltb j (suc i) (omega arith) ∙ sym t
  | inr (t, gt) ↦ elim (leb_tells (suc j) (suc i)) [ inl (s, le) ↦ absurd (ne (omega arith)) | inr (s, gt') ↦ s ∙ sym t ]
]

pub IsHanging-path : IsHanging path path_kids path_kind path_under
IsHanging-path = record {
  low = λ i. omega arith;
  kid = path_kid;
  held = path_held;
  once = λ l i. single (ltb i l) (suc i);
  few = λ l i. few_single (ltb (suc i) l) (suc (suc i));
  root = λ b. refl;
  turn = λ b i. refl;
  self = λ j. lt-ltb j (suc j) (omega arith);
  top = λ j. le-ltb j 0 (omega arith);
  above = λ j. le-ltb j j (omega arith);
  same = path_same;
}

-- ---- filled networks: each node with a neighbour gets new ones until it is full
abbrev pub missing : ℕ → List ℕ → ℕ
missing d [] = 0
missing d (x ∷ xs) = d - suc (length xs)

abbrev pub room : ℕ → ℕ → Network → ℕ → ℕ
room a p K v = missing (if K.active v then a else p) (K.near v)

abbrev pub filled : ℕ → ℕ → Network → ℕ → Network
filled a p K Q = hung K Q star star_kids star_kind (room a p K)

abbrev pub fills : ℕ → ℕ → ℕ → Network → ℕ → Network
fills a p zero K Q = K
fills a p (suc n) K Q = fills a p n (filled a p K Q) (7 * Q)

abbrev pub grown : ℕ → ℕ → ℕ
grown zero Q = Q
grown (suc n) Q = grown n (7 * Q)

abbrev pub IsFull : ℕ → ℕ → Network → ℕ → Type 0
IsFull a p G v = length (G.near v) ≡ (if G.active v then a else p)

-- v and all within n hops
abbrev pub Around : Network → (ℕ → Type 0) → ℕ → ℕ → Type 0
Around G P zero v = P v
Around G P (suc n) v = P v × ((w : ℕ) → Contains (G.near v) w → Around G P n w)

missing_full : (d : ℕ) (xs : List ℕ) → length xs ≡ d → missing d xs ≡ 0
missing_full d [] e = refl
missing_full d (x ∷ xs) e = omega arith

missing_most : (d : ℕ) (xs : List ℕ) → length xs ≤ d → length xs + missing d xs ≤ d
missing_most d [] le = omega arith
missing_most d (x ∷ xs) le = omega arith

missing_some : (d : ℕ) (xs : List ℕ) (u : ℕ) → Contains xs u → length xs ≤ d → length xs + missing d xs ≡ d
missing_some d [] u held le = absurd (Contains-none u held)
missing_some d (x ∷ xs) u held le = omega arith

missing_low : (d : ℕ) (xs : List ℕ) → missing d xs ≤ d
missing_low d [] = omega arith
missing_low d (x ∷ xs) = omega arith

module _ (a p : ℕ) where
  module _ (K : Network) (Q : ℕ) (some : 0 < Q) where
    pub near_filled : (v : ℕ) → v < Q → (filled a p K Q).near v ≡ K.near v ++ map (λ j. j * Q + v) (count_from 1 (room a p K v))
    near_filled v l = near_inner K Q star star_kids star_kind star_under (room a p K) IsHanging-star some v l

    pub active_filled : (v : ℕ) → v < Q → (filled a p K Q).active v ≡ K.active v
    active_filled v l = active_inner K Q star star_kids star_kind star_under (room a p K) IsHanging-star some v l

    pub keeps_filled : (v : ℕ) → v < Q → IsFull a p K v → (filled a p K Q).near v ≡ K.near v
    keeps_filled v l full =
        near_filled v l ∙ ap (λ m. K.near v ++ map (λ j. j * Q + v) (count_from 1 m)) (missing_full (if K.active v then a else p) (K.near v) full)
        ∙ append-nil (K.near v)

    pub full_filled : (v u : ℕ) → v < Q → Contains (K.near v) u → length (K.near v) ≤ (if K.active v then a else p) → IsFull a p (filled a p K Q) v
    full_filled v u l held le =
        let count : length (K.near v ++ map (λ j. j * Q + v) (count_from 1 (room a p K v))) ≡ length (K.near v) + room a p K v =
        length-append (K.near v) (map (λ j. j * Q + v) (count_from 1 (room a p K v)))
        ∙ ap (λ n. length (K.near v) + n) (length-map (count_from 1 (room a p K v)) (λ j. j * Q + v) ∙ length-count_from 1 (room a p K v)) in
        ap length (near_filled v l) ∙ count ∙ missing_some (if K.active v then a else p) (K.near v) u held le
        ∙ ap (λ b. if b then a else p) (sym (active_filled v l))

  module _ (two : 2 ≤ a) (two' : 2 ≤ p) (six : a ≤ 6) (six' : p ≤ 6) where
    most_room : (K : Network) (v : ℕ) → room a p K v ≤ 6
    most_room K v = by (K.active v) (K.near v)
      where
        by : (b : Bool) (xs : List ℕ) → missing (if b then a else p) xs ≤ 6
        by true xs = let low = missing_low a xs in omega arith
        by false xs = let low = missing_low p xs in omega arith

    pub filled_cutting : (K : Network) (Q : ℕ) → 0 < Q → IsCutting a p Q K → IsCutting a p (7 * Q) (filled a p K Q)
    filled_cutting K Q some is =
        hung_cutting K Q star star_kids star_kind star_under (room a p K) IsHanging-star some a p 6 two two' is (most_room K)
        (λ v l. subst (λ n. length (K.near v) + n ≤ (if K.active v then a else p)) (sym (length-count_from 1 (room a p K v)))
        (missing_most (if K.active v then a else p) (K.near v) (is.degrees v)))

    pub fills_cutting : (n : ℕ) (K : Network) (Q : ℕ) → 0 < Q → IsCutting a p Q K → IsCutting a p (grown n Q) (fills a p n K Q)
    fills_cutting zero K Q some is = is
    fills_cutting (suc n) K Q some is = fills_cutting n (filled a p K Q) (7 * Q) (omega arith) (filled_cutting K Q some is)

    pub keeps : (n : ℕ) (K : Network) (Q v : ℕ) → 0 < Q → v < Q → IsFull a p K v → ((fills a p n K Q).near v ≡ K.near v) × ((fills a p n K Q).active v ≡ K.active v)
    keeps zero K Q v some l full = (refl, refl)
    keeps (suc n) K Q v some l full =
        let near : (filled a p K Q).near v ≡ K.near v = keeps_filled K Q some v l full in
        let kind : (filled a p K Q).active v ≡ K.active v = active_filled K Q some v l in
        let (near', kind') = keeps n (filled a p K Q) (7 * Q) v (omega arith) (omega arith) (ap length near ∙ full ∙ ap (λ b. if b then a else p) (sym kind)) in
        (near' ∙ near, kind' ∙ kind)

    -- after so many rounds of filling, the surroundings of each node with a neighbour are full
    pub full_around : (n : ℕ) (K : Network) (Q v u : ℕ) → 0 < Q → IsCutting a p Q K → Contains (K.near v) u
        → Around (fills a p (suc n) K Q) (IsFull a p (fills a p (suc n) K Q)) n v
    full_around zero K Q v u some is held = full_filled K Q some v u (is.below v u held).0 held (is.degrees v)
    full_around (suc n) K Q v u some is held =
        let l = (is.below v u held).0 in
        let full : IsFull a p (filled a p K Q) v = full_filled K Q some v u l held (is.degrees v) in
        let (near, kind) = keeps (suc n) (filled a p K Q) (7 * Q) v (omega arith) (omega arith) full in
        let cutting : IsCutting a p (7 * Q) (filled a p K Q) = filled_cutting K Q some is in (
          ap length near ∙ full ∙ ap (λ b. if b then a else p) (sym kind),
          λ w at. full_around n (filled a p K Q) (7 * Q) w v (omega arith) cutting (cutting.both v w (subst (λ xs. Contains xs w) near at)),
        )

-- ---- networks that are alike but far off
pub record Alike (T : ℕ) (G H : Network) (far : ℕ → ℕ) : Type 0 where
  pub active : (x : ℕ) → G.active x ≡ H.active x
  pub near : (x : ℕ) → far x < T → G.near x ≡ H.near x
  pub step : (x y : ℕ) → Contains (G.near x) y → far x < T → far y ≤ suc (far x)

pub same_alike : (T : ℕ) (G H : Network) (far : ℕ → ℕ) → Alike T G H far → (m v : ℕ) → far v + m ≤ T → AreSame m G H v
same_alike T G H far alike zero v le = alike.active v
same_alike T G H far alike (suc m) v le = (
  alike.active v,
  alike.near v (omega arith),
  AllByRecursion-from_contains (λ w. AreSame m G H w) (G.near v) (λ w held. (let s = alike.step v w held (omega arith) in same_alike T G H far alike m w (omega arith))),
)

abbrev pub far_filled : ℕ → ℕ → (ℕ → ℕ) → ℕ → ℕ
far_filled zero Q far = far
far_filled (suc n) Q far = far_filled n (7 * Q) (λ x. far (x % Q))

pub far_inner : (n Q : ℕ) (far : ℕ → ℕ) (v : ℕ) → v < Q → far_filled n Q far v ≡ far v
far_inner zero Q far v l = refl
far_inner (suc n) Q far v l = far_inner n (7 * Q) (λ x. far (x % Q)) v (omega arith) ∙ ap far (mod-eq_of_lt l)

module _ (a p : ℕ) (two : 2 ≤ a) (two' : 2 ≤ p) (six : a ≤ 6) (six' : p ≤ 6) where
  alike_filled : (T : ℕ) (G H : Network) (far : ℕ → ℕ) (Q : ℕ) → 0 < Q → IsCutting a p Q G → Alike T G H far → Alike T (filled a p G Q) (filled a p H Q) (λ x. far (x % Q))
  alike_filled T G H far Q some is alike = record {
    active = λ x. ap (λ b. star_kind b (x / Q)) (alike.active (x % Q));
    near = λ x l. by (x / Q) (x % Q) (alike.near (x % Q) l) (ap₂ (λ b xs. missing (if b then a else p) xs) (alike.active (x % Q)) (alike.near (x % Q) l));
    step = λ x y held l. far_step x y l (step_of G Q star star_kids star_kind star_under (room a p G) IsHanging-star some is.below x y held);
  }
    where
      by : (i v : ℕ) → G.near v ≡ H.near v → room a p G v ≡ room a p H v → near_hung G Q star star_kids (room a p G) i v ≡ near_hung H Q star star_kids (room a p H) i v
      by zero v e f = ap₂ (λ xs l. xs ++ map (λ j. j * Q + v) (star_kids l zero)) e f
      by (suc i) v e f = ap (λ l. cond (leb (suc i) l) ((star i * Q + v) ∷ []) [] ++ map (λ j. j * Q + v) (star_kids l (suc i))) f

      far_step : (x y : ℕ) → far (x % Q) < T → Step G Q star (room a p G) x y → far (y % Q) ≤ suc (far (x % Q))
      far_step x y l (inner a b at) =
          let e : far (x % Q) ≡ far x = ap far (mod-eq_of_lt a) in
          let f : far (y % Q) ≡ far y = ap far (mod-eq_of_lt b) in
          let less : far y ≤ suc (far x) = alike.step x y at (omega arith) in
          omega (arith, e, f, less)
      far_step x y l (up i v low le e f) =
          let g : far (x % Q) ≡ far v = ap (λ z. far (z % Q)) e ∙ ap far (mod-mul-add (suc i) Q v low) in
          let h : far (y % Q) ≡ far v = ap (λ z. far (z % Q)) f ∙ ap far (mod-mul-add (star i) Q v low) in
          omega (arith, g, h)
      far_step x y l (down i v low le e f) =
          let g : far (y % Q) ≡ far v = ap (λ z. far (z % Q)) e ∙ ap far (mod-mul-add (suc i) Q v low) in
          let h : far (x % Q) ≡ far v = ap (λ z. far (z % Q)) f ∙ ap far (mod-mul-add (star i) Q v low) in
          omega (arith, g, h)

  pub alike_fills : (n T : ℕ) (G H : Network) (far : ℕ → ℕ) (Q : ℕ) → 0 < Q → IsCutting a p Q G → Alike T G H far
      → Alike T (fills a p n G Q) (fills a p n H Q) (far_filled n Q far)
  alike_fills zero T G H far Q some is alike = alike
  alike_fills (suc n) T G H far Q some is alike =
      alike_fills n T (filled a p G Q) (filled a p H Q) (λ x. far (x % Q)) (7 * Q) (omega arith) (filled_cutting a p two two' six six' G Q some is)
      (alike_filled T G H far Q some is alike)
