-- Trees hung on the nodes of a network. On v hang as many nodes as its size says, number suc i of them on number par i, where number 0 is v itself.
use Rattle.std.proofs.Common.{◌≡◌, ℕ, zero, suc, ◌+◌, ◌*◌, ◌/◌, ◌%◌, ◌≤◌, ◌<◌, Bool, true, false, cond, ◌&&◌, eqb, leb, List, [], ◌∷◌, ◌++◌, map, length, refl, sym, ◌∙◌, ap, ap₂, subst, arith, inl, inr, length-append}
use Rattle.std.specs.Prelude.{Contains, not, if◌then◌else◌}
use Rattle.std.proofs.Math.Nat.{div-eq_of_lt, mod-eq_of_lt, mul-le-mul_right}
use Rattle.std.proofs.lemmas.Bool.{eq-eqb, le-leb}
use Rattle.std.proofs.lemmas.Bool.Decides.{eqb_tells, leb_tells}
use Rattle.std.proofs.lemmas.List.{length-map}
use Rattle.std.proofs.lemmas.List.Elements.{Contains-append_cases, Contains-append_left, Contains-append_right}
use Rattle.std.proofs.lemmas.Nat.{div-add-mod', div-mul-add, mod-mul-add, mod_below}
use Rattle.std.proofs.Math.Bool.{not-not}
use Rattle.re_forests.proofs.Cuts.{IsCut, IsCutting}
use Rattle.re_labels.proofs.Membership.{Contains-map_cases, Contains-cases, Contains-here, Contains-map, Contains-none}
use Rattle.re_layers.specs.Networks.{AreDifferent, Network}
use Rattle.re_layers.proofs.Rooted.{Different-append}

-- what hangs where: the numbers that hang on a number of a tree of some size, the kinds of the numbers, and which are below number suc j
pub record IsHanging (par : ℕ → ℕ) (kids : ℕ → ℕ → List ℕ) (kind : Bool → ℕ → Bool) (under : ℕ → ℕ → Bool) : Type 0 where
  pub low : (i : ℕ) → par i ≤ i
  pub kid : (l i j : ℕ) → Contains (kids l i) j → (k : ℕ) × (j ≡ suc k) × (par k ≡ i) × (suc k ≤ l)
  pub held : (l k : ℕ) → suc k ≤ l → Contains (kids l (par k)) (suc k)
  pub once : (l i : ℕ) → AreDifferent (kids l i)
  pub few : (l i : ℕ) → length (kids l (suc i)) ≤ 1
  pub root : (b : Bool) → kind b zero ≡ b
  pub turn : (b : Bool) (i : ℕ) → kind b (suc i) ≡ not (kind b (par i))
  pub self : (j : ℕ) → under j (suc j) ≡ true
  pub top : (j : ℕ) → under j zero ≡ false
  pub above : (j : ℕ) → under j (par j) ≡ false
  pub same : (j i : ℕ) → (i ≡ j → ⊥) → under j (suc i) ≡ under j (par i)

-- the neighbours of number i at v: the one on which it hangs, and those that hang on it
abbrev pub own : Network → ℕ → (ℕ → ℕ) → ℕ → ℕ → ℕ → List ℕ
own K Q par l zero v = K.near v
own K Q par l (suc i) v = cond (leb (suc i) l) ((par i * Q + v) ∷ []) []

abbrev pub near_hung : Network → ℕ → (ℕ → ℕ) → (ℕ → ℕ → List ℕ) → (ℕ → ℕ) → ℕ → ℕ → List ℕ
near_hung K Q par kids size i v = own K Q par (size v) i v ++ map (λ j. j * Q + v) (kids (size v) i)

-- number i at v has the identifier i Q + v
abbrev pub hung : Network → ℕ → (ℕ → ℕ) → (ℕ → ℕ → List ℕ) → (Bool → ℕ → Bool) → (ℕ → ℕ) → Network
hung K Q par kids kind size = record { active = λ x. kind (K.active (x % Q)) (x / Q); near = λ x. near_hung K Q par kids size (x / Q) (x % Q) }

-- an edge: of the network, or up or down in a tree
pub data Step (K : Network) (Q : ℕ) (par : ℕ → ℕ) (size : ℕ → ℕ) (x y : ℕ) : Type 0 where
  inner : x < Q → y < Q → Contains (K.near x) y → Step K Q par size x y
  up : (i v : ℕ) → v < Q → suc i ≤ size v → x ≡ suc i * Q + v → y ≡ par i * Q + v → Step K Q par size x y
  down : (i v : ℕ) → v < Q → suc i ≤ size v → y ≡ suc i * Q + v → x ≡ par i * Q + v → Step K Q par size x y

pub only : (x y : ℕ) → Contains (y ∷ []) x → x ≡ y
only x y held = elim (Contains-cases x y [] held) [ inl e ↦ e | inr none ↦ absurd (Contains-none x none) ]

pub different_map : (f : ℕ → ℕ) (xs : List ℕ) → ((x y : ℕ) → f x ≡ f y → x ≡ y) → AreDifferent xs → AreDifferent (map f xs)
different_map f [] one h = tt
different_map f (x ∷ xs) one h = (
  λ held. (let (y, at, e) = Contains-map_cases f xs (f x) held in h.0 (subst (Contains xs) (one y x e) at)),
  different_map f xs one h.1,
)

pub IsCut-back : (G : Network) (v w : ℕ) → IsCut G v w → IsCut G w v
IsCut-back G v w cut = record {
  side = λ x. not (cut.side x);
  here = ap not cut.there;
  there = ap not cut.here;
  same = λ x y edge one two. ap not (cut.same x y edge two one);
}

module _ (K : Network) (Q : ℕ) (par : ℕ → ℕ) (kids : ℕ → ℕ → List ℕ) (kind : Bool → ℕ → Bool) (under : ℕ → ℕ → Bool) (size : ℕ → ℕ)
    (is : IsHanging par kids kind under) (some : 0 < Q) where
  pub near_at : (i v : ℕ) → v < Q → (hung K Q par kids kind size).near (i * Q + v) ≡ near_hung K Q par kids size i v
  near_at i v l = ap₂ (λ i v. near_hung K Q par kids size i v) (div-mul-add i Q v l) (mod-mul-add i Q v l)

  pub near_inner : (v : ℕ) → v < Q → (hung K Q par kids kind size).near v ≡ K.near v ++ map (λ j. j * Q + v) (kids (size v) zero)
  near_inner v l = ap₂ (λ i v. near_hung K Q par kids size i v) (div-eq_of_lt l) (mod-eq_of_lt l)

  pub active_at : (i v : ℕ) → v < Q → (hung K Q par kids kind size).active (i * Q + v) ≡ kind (K.active v) i
  active_at i v l = ap₂ (λ i v. kind (K.active v) i) (div-mul-add i Q v l) (mod-mul-add i Q v l)

  pub active_inner : (v : ℕ) → v < Q → (hung K Q par kids kind size).active v ≡ K.active v
  active_inner v l = ap₂ (λ i v. kind (K.active v) i) (div-eq_of_lt l) (mod-eq_of_lt l) ∙ is.root (K.active v)

  pub step_of : ((v w : ℕ) → Contains (K.near v) w → (v < Q) × (w < Q)) → (x y : ℕ) → Contains ((hung K Q par kids kind size).near x) y → Step K Q par size x y
  step_of below x y held = by (x / Q) (x % Q) (mod_below x Q some) (div-add-mod' x Q) held
    where
      by_own : (i v : ℕ) → v < Q → i * Q + v ≡ x → Contains (own K Q par (size v) i v) y → Step K Q par size x y
      by_own zero v l e at =
          let f : v ≡ x = omega arith in
          let (first, second) = below v y at in
          inner (omega arith) second (subst (λ z. Contains (K.near z) y) f at)
      by_own (suc i) v l e at = elim (leb_tells (suc i) (size v)) [
        | inl (t, le) ↦ up i v l le (sym e) (only y (par i * Q + v) (subst (λ b. Contains (cond b ((par i * Q + v) ∷ []) []) y) t at))
        | inr (t, gt) ↦ absurd (Contains-none y (subst (λ b. Contains (cond b ((par i * Q + v) ∷ []) []) y) t at))
      ]

      by : (i v : ℕ) → v < Q → i * Q + v ≡ x → Contains (near_hung K Q par kids size i v) y → Step K Q par size x y
      by i v l e at = elim (Contains-append_cases (own K Q par (size v) i v) (map (λ j. j * Q + v) (kids (size v) i)) y at) [
        | inl first ↦ by_own i v l e first
        | inr second ↦
            let (j, there, f) = Contains-map_cases (λ j. j * Q + v) (kids (size v) i) y second in
            let (k, g, h, le) = is.kid (size v) i j there in
            down k v l le (sym f ∙ ap (λ j. j * Q + v) g) (sym e ∙ ap (λ j. j * Q + v) (sym h))
      ]

  pub near_of_step : (x y : ℕ) → Step K Q par size x y → Contains ((hung K Q par kids kind size).near x) y
  near_of_step x y (inner l m at) =
      subst (λ near. Contains near y) (sym (near_inner x l)) (Contains-append_left (K.near x) (map (λ j. j * Q + x) (kids (size x) zero)) y at)
  near_of_step x y (up i v l le e f) =
      let first : Contains (own K Q par (size v) (suc i) v) (par i * Q + v) =
      subst (λ b. Contains (cond b ((par i * Q + v) ∷ []) []) (par i * Q + v)) (sym (le-leb (suc i) (size v) le)) (Contains-here (par i * Q + v) []) in
      let there : Contains ((hung K Q par kids kind size).near (suc i * Q + v)) (par i * Q + v) =
      subst (λ near. Contains near (par i * Q + v)) (sym (near_at (suc i) v l))
      (Contains-append_left (own K Q par (size v) (suc i) v) (map (λ j. j * Q + v) (kids (size v) (suc i))) (par i * Q + v) first) in
      subst (λ z. Contains ((hung K Q par kids kind size).near z) y) (sym e) (subst (λ z. Contains ((hung K Q par kids kind size).near (suc i * Q + v)) z) (sym f) there)
  near_of_step x y (down i v l le e f) =
      let there : Contains ((hung K Q par kids kind size).near (par i * Q + v)) (suc i * Q + v) =
      subst (λ near. Contains near (suc i * Q + v)) (sym (near_at (par i) v l))
      (Contains-append_right (own K Q par (size v) (par i) v) (map (λ j. j * Q + v) (kids (size v) (par i))) (suc i * Q + v)
      (Contains-map (λ j. j * Q + v) (kids (size v) (par i)) (suc i) (is.held (size v) i le))) in
      subst (λ z. Contains ((hung K Q par kids kind size).near z) y) (sym f) (subst (λ z. Contains ((hung K Q par kids kind size).near (par i * Q + v)) z) (sym e) there)

  step_back : ((v w : ℕ) → Contains (K.near v) w → Contains (K.near w) v) → (x y : ℕ) → Step K Q par size x y → Step K Q par size y x
  step_back both x y (inner l m at) = inner m l (both x y at)
  step_back both x y (up i v l le e f) = down i v l le e f
  step_back both x y (down i v l le e f) = up i v l le e f

  -- ---- the sides of edges
  abbrev below_it : ℕ → ℕ → ℕ → ℕ → Bool
  below_it j v i u = not (eqb u v && under j i)

  cut_down : (i v : ℕ) → v < Q → ((x y : ℕ) → Contains ((hung K Q par kids kind size).near x) y → Step K Q par size x y)
      → IsCut (hung K Q par kids kind size) (par i * Q + v) (suc i * Q + v)
  cut_down i v l steps = record {
    side = λ x. below_it i v (x / Q) (x % Q);
    here = at_pair (par i) v l ∙ ap (λ b. not (eqb v v && b)) (is.above i) ∙ ap (λ b. not (b && false)) (eq-eqb v v refl);
    there = at_pair (suc i) v l ∙ ap (λ b. not (eqb v v && b)) (is.self i) ∙ ap (λ b. not (b && true)) (eq-eqb v v refl);
    same = λ x y edge one two. by x y one two (steps x y edge);
  }
    where
      at_pair : (k u : ℕ) → u < Q → below_it i v ((k * Q + u) / Q) ((k * Q + u) % Q) ≡ below_it i v k u
      at_pair k u l' = ap₂ (λ k u. below_it i v k u) (div-mul-add k Q u l') (mod-mul-add k Q u l')

      at_one : (u : ℕ) → u < Q → below_it i v (u / Q) (u % Q) ≡ true
      at_one u l' = ap₂ (λ k u. below_it i v k u) (div-eq_of_lt l') (mod-eq_of_lt l') ∙ ap (λ b. not (eqb u v && b)) (is.top i) ∙ clear (eqb u v)
        where
          clear : (b : Bool) → not (b && false) ≡ true
          clear true = refl
          clear false = refl

      in_tree : (k u : ℕ) → (u ≡ v → k ≡ i → ⊥) → below_it i v (suc k) u ≡ below_it i v (par k) u
      in_tree k u other = elim (eqb_tells u v) [
        | inl (t, e) ↦ ap (λ b. not (eqb u v && b)) (is.same i k (other e))
        | inr (t, ne) ↦ ap (λ b. not (b && under i (suc k))) t ∙ sym (ap (λ b. not (b && under i (par k))) t)
      ]

      by : (x y : ℕ) → (x ≡ par i * Q + v → y ≡ suc i * Q + v → ⊥) → (x ≡ suc i * Q + v → y ≡ par i * Q + v → ⊥) → Step K Q par size x y
          → below_it i v (x / Q) (x % Q) ≡ below_it i v (y / Q) (y % Q)
      by x y one two (inner a b at) = at_one x a ∙ sym (at_one y b)
      by x y one two (up k u a le e f) =
          ap (λ z. below_it i v (z / Q) (z % Q)) e ∙ at_pair (suc k) u a
          ∙ in_tree k u (λ g h. two (e ∙ ap₂ (λ k u. suc k * Q + u) h g) (f ∙ ap₂ (λ k u. par k * Q + u) h g))
          ∙ sym (ap (λ z. below_it i v (z / Q) (z % Q)) f ∙ at_pair (par k) u a)
      by x y one two (down k u a le e f) =
          ap (λ z. below_it i v (z / Q) (z % Q)) f ∙ at_pair (par k) u a
          ∙ sym (in_tree k u (λ g h. one (f ∙ ap₂ (λ k u. par k * Q + u) h g) (e ∙ ap₂ (λ k u. suc k * Q + u) h g)))
          ∙ sym (ap (λ z. below_it i v (z / Q) (z % Q)) e ∙ at_pair (suc k) u a)

  cut_inner : (v w : ℕ) → v < Q → w < Q → IsCut K v w → ((x y : ℕ) → Contains ((hung K Q par kids kind size).near x) y → Step K Q par size x y)
      → IsCut (hung K Q par kids kind size) v w
  cut_inner v w l m cut steps = record {
    side = λ x. cut.side (x % Q);
    here = ap cut.side (mod-eq_of_lt l) ∙ cut.here;
    there = ap cut.side (mod-eq_of_lt m) ∙ cut.there;
    same = λ x y edge one two. by x y one two (steps x y edge);
  }
    where
      by : (x y : ℕ) → (x ≡ v → y ≡ w → ⊥) → (x ≡ w → y ≡ v → ⊥) → Step K Q par size x y → cut.side (x % Q) ≡ cut.side (y % Q)
      by x y one two (inner a b at) = ap cut.side (mod-eq_of_lt a) ∙ cut.same x y at one two ∙ sym (ap cut.side (mod-eq_of_lt b))
      by x y one two (up k u a le e f) =
          ap (λ z. cut.side (z % Q)) e ∙ ap cut.side (mod-mul-add (suc k) Q u a) ∙ sym (ap (λ z. cut.side (z % Q)) f ∙ ap cut.side (mod-mul-add (par k) Q u a))
      by x y one two (down k u a le e f) =
          ap (λ z. cut.side (z % Q)) f ∙ ap cut.side (mod-mul-add (par k) Q u a) ∙ sym (ap (λ z. cut.side (z % Q)) e ∙ ap cut.side (mod-mul-add (suc k) Q u a))

  -- ---- all together
  pub hung_cutting : (a p L : ℕ) → 2 ≤ a → 2 ≤ p → IsCutting a p Q K → ((v : ℕ) → size v ≤ L)
      → ((v : ℕ) → v < Q → length (K.near v) + length (kids (size v) zero) ≤ (if K.active v then a else p)) → IsCutting a p (suc L * Q) (hung K Q par kids kind size)
  hung_cutting a p L two two' cutting most fits = record {
    degrees = λ x. degree (x / Q) (x % Q) (mod_below x Q some);
    below = λ x y at. low x y (steps x y at);
    turns = λ x y at. turned x y (steps x y at);
    both = λ x y at. near_of_step y x (step_back cutting.both x y (steps x y at));
    once = λ x. different (x / Q) (x % Q) (mod_below x Q some);
    cuts = λ x y at. cut x y (steps x y at);
  }
    where
      steps : (x y : ℕ) → Contains ((hung K Q par kids kind size).near x) y → Step K Q par size x y
      steps = step_of cutting.below

      wide : (b : Bool) → 2 ≤ (if b then a else p)
      wide true = two
      wide false = two'

      few_own : (b : Bool) (z : ℕ) → length (cond b (z ∷ []) []) ≤ 1
      few_own true z = omega arith
      few_own false z = omega arith

      degree : (i v : ℕ) → v < Q → length (near_hung K Q par kids size i v) ≤ (if kind (K.active v) i then a else p)
      degree zero v l =
          let count : length (K.near v ++ map (λ j. j * Q + v) (kids (size v) zero)) ≡ length (K.near v) + length (kids (size v) zero) =
          length-append (K.near v) (map (λ j. j * Q + v) (kids (size v) zero)) ∙ ap (λ n. length (K.near v) + n) (length-map (kids (size v) zero) (λ j. j * Q + v)) in
          subst (λ b. length (near_hung K Q par kids size zero v) ≤ (if b then a else p)) (sym (is.root (K.active v)))
          (subst (λ n. n ≤ (if K.active v then a else p)) (sym count) (fits v l))
      degree (suc i) v l =
          let count : length (near_hung K Q par kids size (suc i) v) ≡ length (own K Q par (size v) (suc i) v) + length (kids (size v) (suc i)) =
          length-append (own K Q par (size v) (suc i) v) (map (λ j. j * Q + v) (kids (size v) (suc i)))
          ∙ ap (λ n. length (own K Q par (size v) (suc i) v) + n) (length-map (kids (size v) (suc i)) (λ j. j * Q + v)) in
          let first : length (own K Q par (size v) (suc i) v) ≤ 1 = few_own (leb (suc i) (size v)) (par i * Q + v) in
          let second : length (kids (size v) (suc i)) ≤ 1 = is.few (size v) i in
          let enough : 2 ≤ (if kind (K.active v) (suc i) then a else p) = wide (kind (K.active v) (suc i)) in
          omega (arith, count, first, second, enough)

      product : (i u : ℕ) → i ≤ L → u < Q → i * Q + u < suc L * Q
      product i u le l =
          let more : suc i * Q ≤ suc L * Q = mul-le-mul_right Q (omega arith) in
          let one : suc i * Q ≡ i * Q + Q = grind arith in
          omega (arith, more, one)

      low : (x y : ℕ) → Step K Q par size x y → (x < suc L * Q) × (y < suc L * Q)
      low x y (inner l m at) =
          let f = product zero x (omega arith) l in let s = product zero y (omega arith) m in (omega (arith, f), omega (arith, s))
      low x y (up i v l le e f) =
          let most' : size v ≤ L = most v in
          let less : par i ≤ i = is.low i in
          let g = product (suc i) v (omega arith) l in let s = product (par i) v (omega arith) l in (omega (arith, g), omega (arith, s))
      low x y (down i v l le e f) =
          let most' : size v ≤ L = most v in
          let less : par i ≤ i = is.low i in
          let g = product (suc i) v (omega arith) l in let s = product (par i) v (omega arith) l in (omega (arith, s), omega (arith, g))

      turned : (x y : ℕ) → Step K Q par size x y → (hung K Q par kids kind size).active y ≡ not ((hung K Q par kids kind size).active x)
      turned x y (inner l m at) = active_inner y m ∙ cutting.turns x y at ∙ ap not (sym (active_inner x l))
      turned x y (up i v l le e f) =
          ap (hung K Q par kids kind size).active f ∙ active_at (par i) v l
          ∙ sym (ap not (ap (hung K Q par kids kind size).active e ∙ active_at (suc i) v l ∙ is.turn (K.active v) i) ∙ not-not (kind (K.active v) (par i)))
      turned x y (down i v l le e f) =
          ap (hung K Q par kids kind size).active e ∙ active_at (suc i) v l ∙ is.turn (K.active v) i
          ∙ ap not (sym (ap (hung K Q par kids kind size).active f ∙ active_at (par i) v l))

      injective : (v i j : ℕ) → v < Q → i * Q + v ≡ j * Q + v → i ≡ j
      injective v i j l e = sym (div-mul-add i Q v l) ∙ ap (λ z. z / Q) e ∙ div-mul-add j Q v l

      single : (b : Bool) (z : ℕ) → AreDifferent (cond b (z ∷ []) [])
      single true z = (λ held. Contains-none z held, tt)
      single false z = tt

      in_single : (b : Bool) (z y : ℕ) → Contains (cond b (z ∷ []) []) y → y ≡ z
      in_single true z y held = only y z held
      in_single false z y held = absurd (Contains-none y held)

      different_own : (i v : ℕ) → AreDifferent (own K Q par (size v) i v)
      different_own zero v = cutting.once v
      different_own (suc i) v = single (leb (suc i) (size v)) (par i * Q + v)

      apart_own : (i v y : ℕ) → v < Q → Contains (own K Q par (size v) i v) y → Contains (map (λ j. j * Q + v) (kids (size v) i)) y → ⊥
      apart_own zero v y l first second =
          let (j, there, f) = Contains-map_cases (λ j. j * Q + v) (kids (size v) zero) y second in
          let (k, g, h, le) = is.kid (size v) zero j there in
          let (a, b) = cutting.below v y first in
          let row : j ≡ 0 = sym (div-mul-add j Q v l) ∙ ap (λ z. z / Q) f ∙ div-eq_of_lt b in
          omega arith
      apart_own (suc i) v y l first second =
          let (j, there, f) = Contains-map_cases (λ j. j * Q + v) (kids (size v) (suc i)) y second in
          let (k, g, h, le) = is.kid (size v) (suc i) j there in
          let e : y ≡ par i * Q + v = in_single (leb (suc i) (size v)) (par i * Q + v) y first in
          let row : j ≡ par i = injective v j (par i) l (f ∙ e) in
          let less : par i ≤ i = is.low i in
          let less' : par k ≤ k = is.low k in
          omega arith

      different : (i v : ℕ) → v < Q → AreDifferent (near_hung K Q par kids size i v)
      different i v l =
          Different-append (own K Q par (size v) i v) (map (λ j. j * Q + v) (kids (size v) i)) (different_own i v)
          (different_map (λ j. j * Q + v) (kids (size v) i) (λ i j e. injective v i j l e) (is.once (size v) i)) (λ y first second. apart_own i v y l first second)

      cut : (x y : ℕ) → Step K Q par size x y → IsCut (hung K Q par kids kind size) x y
      cut x y (inner l m at) = cut_inner x y l m (cutting.cuts x y at) steps
      cut x y (down i v l le e f) =
          subst (λ z. IsCut (hung K Q par kids kind size) z y) (sym f) (subst (λ z. IsCut (hung K Q par kids kind size) (par i * Q + v) z) (sym e) (cut_down i v l steps))
      cut x y (up i v l le e f) =
          IsCut-back (hung K Q par kids kind size) y x
          (subst (λ z. IsCut (hung K Q par kids kind size) z x) (sym f) (subst (λ z. IsCut (hung K Q par kids kind size) (par i * Q + v) z) (sym e) (cut_down i v l steps)))
