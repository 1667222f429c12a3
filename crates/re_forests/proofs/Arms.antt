-- Arms lead out from the leaves of a network, and the arms of two leaves of different parts are linked.
use Rattle.std.proofs.Common.{◌≡◌, ℕ, zero, suc, ◌+◌, ◌*◌, ◌/◌, ◌%◌, ◌≤◌, ◌<◌, Bool, true, false, cond, eqb, leb, ltb, List, [], ◌∷◌, ◌++◌, map, length, refl, sym, ◌∙◌, ap, ap₂, subst, arith, ◌⊎◌, inl, inr, length-append, append-nil}
use Rattle.std.specs.Prelude.{Contains, not, if◌then◌else◌}
use Rattle.std.proofs.Math.Nat.{mod-eq_of_lt, mul-le-mul_right, div-eq_of_lt}
use Rattle.std.proofs.lemmas.Bool.{eq-eqb, false≢true, le-leb, le-ltb, lt-ltb, ne_eqb}
use Rattle.std.proofs.lemmas.List.{length-map}
use Rattle.std.proofs.lemmas.Nat.{div-mul-add, mod-mul-add}
use Rattle.re_forests.proofs.Cuts.{IsCutting}
use Rattle.re_forests.proofs.Growing.{Alike, IsHanging-path, path, path_kids, path_kind, path_under}
use Rattle.re_forests.proofs.Hung.{Step, active_at, down, hung, hung_cutting, inner, near_at, near_hung, near_inner, near_of_step, own, step_of, up}
use Rattle.re_forests.proofs.Link.{Linked, added, back, link, link_cutting, linked_of, near_of_linked, new, old}
use Rattle.re_forests.proofs.TreeWalks.{Walk, walk_back, walk_in, walk_joined, walk_one_more}
use Rattle.re_layers.specs.Networks.{Network}

abbrev pub is_single : List ℕ → Bool
is_single [] = false
is_single (x ∷ []) = true
is_single (x ∷ y ∷ xs) = false

-- how long the arms are: that of l has t nodes more
abbrev pub arm : Network → ℕ → ℕ → ℕ → ℕ → ℕ
arm K A t l v = cond (is_single (K.near v)) (cond (eqb v l) (A + t) A) 0

abbrev pub arms : Network → ℕ → ℕ → ℕ → ℕ → Network
arms K Q A t l = hung K Q path path_kids path_kind (arm K A t l)

-- the ends of the arms of l and m are linked
abbrev pub bridged : Network → ℕ → ℕ → ℕ → ℕ → ℕ → Network
bridged K Q A t l m = link (arms K Q A t l) ((A + t) * Q + l) (A * Q + m)

arm_most : (K : Network) (A t l v : ℕ) → arm K A t l v ≤ A + t
arm_most K A t l v = by (is_single (K.near v)) (eqb v l)
  where
    by : (b c : Bool) → cond b (cond c (A + t) A) 0 ≤ A + t
    by true true = omega arith
    by true false = omega arith
    by false c = omega arith

pub arm_own : (K : Network) (A t l x : ℕ) → K.near l ≡ x ∷ [] → arm K A t l l ≡ A + t
arm_own K A t l x e = ap (λ near. cond (is_single near) (cond (eqb l l) (A + t) A) 0) e ∙ ap (λ b. cond b (A + t) A) (eq-eqb l l refl)

pub arm_other : (K : Network) (A t l m x : ℕ) → K.near m ≡ x ∷ [] → (m ≡ l → ⊥) → arm K A t l m ≡ A
arm_other K A t l m x e ne = ap (λ near. cond (is_single near) (cond (eqb m l) (A + t) A) 0) e ∙ ap (λ b. cond b (A + t) A) (ne_eqb m l ne)

-- both have no arm, or both an arm of A nodes at least
arms_both : (K : Network) (A t l s k v : ℕ) → (arm K A t l v ≡ arm K A s k v) ⊎ ((A ≤ arm K A t l v) × (A ≤ arm K A s k v))
arms_both K A t l s k v = by (is_single (K.near v)) (eqb v l) (eqb v k)
  where
    by : (b c d : Bool) → (cond b (cond c (A + t) A) 0 ≡ cond b (cond d (A + s) A) 0) ⊎ ((A ≤ cond b (cond c (A + t) A) 0) × (A ≤ cond b (cond d (A + s) A) 0))
    by false c d = inl refl
    by true true true = inr (omega arith, omega arith)
    by true true false = inr (omega arith, omega arith)
    by true false true = inr (omega arith, omega arith)
    by true false false = inr (omega arith, omega arith)

few_kids : (l i : ℕ) → length (path_kids l i) ≤ 1
few_kids l i = by (ltb i l)
  where
    by : (b : Bool) → length (cond b (suc i ∷ []) []) ≤ 1
    by true = omega arith
    by false = omega arith

module _ (a p : ℕ) (two : 2 ≤ a) (two' : 2 ≤ p) (K : Network) (Q : ℕ) (some : 0 < Q) (cutting : IsCutting a p Q K) where
  wide : (b : Bool) → 2 ≤ (if b then a else p)
  wide true = two
  wide false = two'

  pub arms_cutting : (A t l L : ℕ) → A + t ≤ L → IsCutting a p (suc L * Q) (arms K Q A t l)
  arms_cutting A t l L le =
      hung_cutting K Q path path_kids path_kind path_under (arm K A t l) IsHanging-path some a p L two two' cutting
      (λ v. let most = arm_most K A t l v in omega arith) (λ v low. fits v (K.near v) refl)
    where
      fits : (v : ℕ) (near : List ℕ) → K.near v ≡ near → length (K.near v) + length (path_kids (arm K A t l v) zero) ≤ (if K.active v then a else p)
      fits v [] e =
          let none : arm K A t l v ≡ 0 = ap (λ near. cond (is_single near) (cond (eqb v l) (A + t) A) 0) e in
          let kids : length (path_kids (arm K A t l v) zero) ≡ 0 = ap (λ s. length (path_kids s zero)) none ∙ ap (λ b. length {A = ℕ} (cond b (1 ∷ []) [])) (le-ltb 0 0 (omega arith)) in
          let count : length (K.near v) ≡ 0 = ap length e in
          omega arith
      fits v (x ∷ []) e =
          let few = few_kids (arm K A t l v) zero in
          let count : length (K.near v) ≡ 1 = ap length e in
          let enough = wide (K.active v) in
          omega arith
      fits v (x ∷ y ∷ xs) e =
          let none : arm K A t l v ≡ 0 = ap (λ near. cond (is_single near) (cond (eqb v l) (A + t) A) 0) e in
          let kids : length (path_kids (arm K A t l v) zero) ≡ 0 = ap (λ s. length (path_kids s zero)) none ∙ ap (λ b. length {A = ℕ} (cond b (1 ∷ []) [])) (le-ltb 0 0 (omega arith)) in
          let most = cutting.degrees v in
          omega arith

  pub arms_steps : (A t l x y : ℕ) → Contains ((arms K Q A t l).near x) y → Step K Q path (arm K A t l) x y
  arms_steps A t l = step_of K Q path path_kids path_kind path_under (arm K A t l) IsHanging-path some cutting.below

  edge_of : (A t l x y : ℕ) → Step K Q path (arm K A t l) x y → Contains ((arms K Q A t l).near x) y
  edge_of A t l = near_of_step K Q path path_kids path_kind path_under (arm K A t l) IsHanging-path some

  pub arms_edge : (A t l v w : ℕ) → Contains (K.near v) w → Contains ((arms K Q A t l).near v) w
  arms_edge A t l v w held = let (low, low') = cutting.below v w held in edge_of A t l v w (inner low low' held)

  pub arms_near : (A t l v : ℕ) → v < Q → is_single (K.near v) ≡ false → (arms K Q A t l).near v ≡ K.near v
  arms_near A t l v low e =
      near_inner K Q path path_kids path_kind path_under (arm K A t l) IsHanging-path some v low
      ∙ ap (λ s. K.near v ++ map (λ j. j * Q + v) (path_kids s zero)) (ap (λ b. cond b (cond (eqb v l) (A + t) A) 0) e)
      ∙ ap (λ b. K.near v ++ map (λ j. j * Q + v) (cond b (1 ∷ []) [])) (le-ltb 0 0 (omega arith))
      ∙ append-nil (K.near v)

  arms_active : (A t l i v : ℕ) → v < Q → (arms K Q A t l).active (i * Q + v) ≡ path_kind (K.active v) i
  arms_active A t l i v low = active_at K Q path path_kids path_kind path_under (arm K A t l) IsHanging-path some i v low

  -- the end of an arm has at most one neighbour
  few_at_end : (A t l i v : ℕ) → v < Q → 1 ≤ i → arm K A t l v ≡ i → length ((arms K Q A t l).near (i * Q + v)) ≤ 1
  few_at_end A t l zero v low le e = absurd (omega arith)
  few_at_end A t l (suc i) v low le e =
      let count : length (near_hung K Q path path_kids (arm K A t l) (suc i) v) ≡ length (own K Q path (arm K A t l v) (suc i) v) + length (path_kids (arm K A t l v) (suc i)) =
      length-append (own K Q path (arm K A t l v) (suc i) v) (map (λ j. j * Q + v) (path_kids (arm K A t l v) (suc i)))
      ∙ ap (λ n. length (own K Q path (arm K A t l v) (suc i) v) + n) (length-map (path_kids (arm K A t l v) (suc i)) (λ j. j * Q + v)) in
      let none : length (path_kids (arm K A t l v) (suc i)) ≡ 0 =
      ap (λ s. length (path_kids s (suc i))) e ∙ ap (λ b. length {A = ℕ} (cond b (suc (suc i) ∷ []) [])) (le-ltb (suc i) (suc i) (omega arith)) in
      let one : length (own K Q path (arm K A t l v) (suc i) v) ≤ 1 = few (leb (suc i) (arm K A t l v)) in
      subst (λ near. length near ≤ 1) (sym (near_at K Q path path_kids path_kind path_under (arm K A t l) IsHanging-path some (suc i) v low)) (omega (arith, count, none, one))
    where
      few : (b : Bool) → length (cond b ((path i * Q + v) ∷ []) []) ≤ 1
      few true = omega arith
      few false = omega arith

  -- the walk out through an arm
  out_of : (A t l m x i : ℕ) → m < Q → x < Q → suc i ≤ arm K A t l m → Walk (arms K Q A t l) (suc i) x m (i * Q + m) (suc i * Q + m)
  out_of A t l m x zero low low' le = (
    1 * Q + m,
    edge_of A t l m (1 * Q + m) (down 0 m low le refl (let e : m ≡ path 0 * Q + m = omega arith in e)),
    λ h. omega arith,
    (let e : m ≡ 0 * Q + m = omega arith in e, refl),
  )
  out_of A t l m x (suc i) low low' le =
      walk_one_more (arms K Q A t l) (suc i) x m (i * Q + m) (suc i * Q + m) (suc (suc i) * Q + m) (out_of A t l m x i low low' (omega arith))
      (edge_of A t l (suc i * Q + m) (suc (suc i) * Q + m) (down (suc i) m low le refl refl))
      (λ h. let big : suc (suc i) * Q ≡ i * Q + Q + Q = grind arith in omega (arith, big))

  -- and on to another node at its end
  across : (J : Network) (A t l m x i n z : ℕ) → ((v w : ℕ) → Contains ((arms K Q A t l).near v) w → Contains (J.near v) w) → m < Q → n < Q → x < Q → arm K A t l m ≡ i → 1 ≤ i
      → (n ≡ m → ⊥) → Contains (J.near (i * Q + m)) (z * Q + n) → Walk J (suc i) x m (i * Q + m) (z * Q + n)
  across J A t l m x zero n z more low low'' low' size le ne held = absurd (omega arith)
  across J A t l m x (suc i) n z more low low'' low' size le ne held =
      walk_one_more J (suc i) x m (i * Q + m) (suc i * Q + m) (z * Q + n)
      (walk_in (arms K Q A t l) J more (suc i) x m (i * Q + m) (suc i * Q + m) (out_of A t l m x i low low' (omega arith))) held
      (λ e. ne (sym (mod-mul-add z Q n low'') ∙ ap (λ y. y % Q) e ∙ mod-mul-add i Q m low))

  module _ (part : ℕ → Bool) (kept : (v w : ℕ) → Contains (K.near v) w → part v ≡ part w) (A t l m x y : ℕ) (long : 1 ≤ A) (low : l < Q) (low' : m < Q)
      (leaf : K.near l ≡ x ∷ []) (leaf' : K.near m ≡ y ∷ []) (first : part l ≡ true) (second : part m ≡ false) where
    apart : m ≡ l → ⊥
    apart e = false≢true (sym second ∙ ap part e ∙ first)

    kept_arms : (v w : ℕ) → Contains ((arms K Q A t l).near v) w → part (v % Q) ≡ part (w % Q)
    kept_arms v w held = by v w (arms_steps A t l v w held)
      where
        by : (v w : ℕ) → Step K Q path (arm K A t l) v w → part (v % Q) ≡ part (w % Q)
        by v w (inner a b at) = ap part (mod-eq_of_lt a) ∙ kept v w at ∙ sym (ap part (mod-eq_of_lt b))
        by v w (up i u a le e f) =
            ap (λ z. part (z % Q)) e ∙ ap part (mod-mul-add (suc i) Q u a) ∙ sym (ap (λ z. part (z % Q)) f ∙ ap part (mod-mul-add (path i) Q u a))
        by v w (down i u a le e f) =
            ap (λ z. part (z % Q)) f ∙ ap part (mod-mul-add (path i) Q u a) ∙ sym (ap (λ z. part (z % Q)) e ∙ ap part (mod-mul-add (suc i) Q u a))

    product : (L i u : ℕ) → i ≤ L → u < Q → i * Q + u < suc L * Q
    product L i u le l =
        let more : suc i * Q ≤ suc L * Q = mul-le-mul_right Q (omega arith) in
        let one : suc i * Q ≡ i * Q + Q = grind arith in
        omega (arith, more, one)

    pub bridged_cutting : (L : ℕ) → A + t ≤ L → path_kind (K.active m) A ≡ not (path_kind (K.active l) (A + t)) → IsCutting a p (suc L * Q) (bridged K Q A t l m)
    bridged_cutting L le kinds =
        let few : length ((arms K Q A t l).near ((A + t) * Q + l)) ≤ 1 = few_at_end A t l (A + t) l low (omega arith) (arm_own K A t l x leaf) in
        let few' : length ((arms K Q A t l).near (A * Q + m)) ≤ 1 = few_at_end A t l A m low' long (arm_other K A t l m y leaf' apart) in
        let enough = wide ((arms K Q A t l).active ((A + t) * Q + l)) in
        let enough' = wide ((arms K Q A t l).active (A * Q + m)) in
        link_cutting (arms K Q A t l) ((A + t) * Q + l) (A * Q + m) (λ v. part (v % Q)) (ap part (mod-mul-add (A + t) Q l low) ∙ first)
        (ap part (mod-mul-add A Q m low') ∙ second) kept_arms a p (suc L * Q) (arms_cutting A t l L le) (product L (A + t) l le low) (product L A m (omega arith) low')
        (arms_active A t l A m low' ∙ kinds ∙ ap not (sym (arms_active A t l (A + t) l low))) (omega arith) (omega arith)

    -- the walk through both arms
    pub bridge_walk : ((v w : ℕ) → Contains ((bridged K Q A t l m).near v) w → Contains ((bridged K Q A t l m).near w) v)
        → Walk (bridged K Q A t l m) (suc (A + t) + suc A) x l m y
    bridge_walk both =
        let more : (v w : ℕ) → Contains ((arms K Q A t l).near v) w → Contains ((bridged K Q A t l m).near v) w =
        λ v w at. near_of_linked (arms K Q A t l) ((A + t) * Q + l) (A * Q + m) v w (old at) in
        let there : Contains ((bridged K Q A t l m).near ((A + t) * Q + l)) (A * Q + m) =
        near_of_linked (arms K Q A t l) ((A + t) * Q + l) (A * Q + m) ((A + t) * Q + l) (A * Q + m) (new refl refl) in
        let out_edge : Contains (K.near l) x = subst (λ near. Contains near x) (sym leaf) (zero, omega arith, refl) in
        let out_edge' : Contains (K.near m) y = subst (λ near. Contains near y) (sym leaf') (zero, omega arith, refl) in
        let walk = across (bridged K Q A t l m) A t l l x (A + t) m A more low low' (cutting.below l x out_edge).1 (arm_own K A t l x leaf) (omega arith) apart there in
        let walk' = across (bridged K Q A t l m) A t l m y A l (A + t) more low' low (cutting.below m y out_edge').1 (arm_other K A t l m y leaf' apart) long
        (λ e. apart (sym e)) (both ((A + t) * Q + l) (A * Q + m) there) in
        walk_joined (bridged K Q A t l m) (suc (A + t)) (suc A) x l ((A + t) * Q + l) (A * Q + m) m y walk
        (walk_back (bridged K Q A t l m) both (suc A) y m (A * Q + m) ((A + t) * Q + l) (more m y (arms_edge A t l m y out_edge')) walk')

    pub bridged_edge : (v w : ℕ) → Contains (K.near v) w → Contains ((bridged K Q A t l m).near v) w
    bridged_edge v w at = near_of_linked (arms K Q A t l) ((A + t) * Q + l) (A * Q + m) v w (old (arms_edge A t l v w at))

    -- fewer than A hops from the network nothing tells whether, and how, the arms are linked
    pub bridged_alike : (T s k : ℕ) → T ≤ A → Alike T (bridged K Q A t l m) (arms K Q A s k) (λ x. x / Q)
    bridged_alike T s k le = record {
      active = λ x. refl;
      near = λ x less. alike_near x less;
      step = λ x y held less. far x y less (linked_of (arms K Q A t l) ((A + t) * Q + l) (A * Q + m) x y held);
    }
      where
        not_end : (x i v : ℕ) → v < Q → A ≤ i → x / Q < T → x ≡ i * Q + v → ⊥
        not_end x i v l le' less e = let row : x / Q ≡ i = ap (λ z. z / Q) e ∙ div-mul-add i Q v l in omega arith

        none : (x : ℕ) → x / Q < T → added ((A + t) * Q + l) (A * Q + m) x ≡ []
        none x less =
            ap (λ b. cond b ((A * Q + m) ∷ []) [] ++ cond (eqb x (A * Q + m)) (((A + t) * Q + l) ∷ []) [])
            (ne_eqb x ((A + t) * Q + l) (not_end x (A + t) l low (omega arith) less))
            ∙ ap (λ b. cond b (((A + t) * Q + l) ∷ []) []) (ne_eqb x (A * Q + m) (not_end x A m low' (omega arith) less))

        same_tests : (i c d : ℕ) → i < A → (c ≡ d) ⊎ ((A ≤ c) × (A ≤ d)) → (leb i c ≡ leb i d) × (ltb i c ≡ ltb i d)
        same_tests i c d less (inl e) = (ap (leb i) e, ap (ltb i) e)
        same_tests i c d less (inr (f, g)) =
            (le-leb i c (omega arith) ∙ sym (le-leb i d (omega arith)), lt-ltb i c (omega arith) ∙ sym (lt-ltb i d (omega arith)))

        by : (i v : ℕ) → i < A → near_hung K Q path path_kids (arm K A t l) i v ≡ near_hung K Q path path_kids (arm K A s k) i v
        by zero v less =
            ap (λ b. K.near v ++ map (λ j. j * Q + v) (cond b (1 ∷ []) [])) (same_tests 0 (arm K A t l v) (arm K A s k v) less (arms_both K A t l s k v)).1
        by (suc i) v less =
            let (one, two) = same_tests (suc i) (arm K A t l v) (arm K A s k v) less (arms_both K A t l s k v) in
            ap₂ (λ b c. cond b ((path i * Q + v) ∷ []) [] ++ map (λ j. j * Q + v) (cond c (suc (suc i) ∷ []) [])) one two

        alike_near : (x : ℕ) → x / Q < T → (bridged K Q A t l m).near x ≡ (arms K Q A s k).near x
        alike_near x less =
            ap (λ zs. (arms K Q A t l).near x ++ zs) (none x less) ∙ append-nil ((arms K Q A t l).near x) ∙ by (x / Q) (x % Q) (omega arith)

        by_step : (x y : ℕ) → Step K Q path (arm K A t l) x y → y / Q ≤ suc (x / Q)
        by_step x y (inner a b at) = let e : y / Q ≡ 0 = div-eq_of_lt b in omega arith
        by_step x y (up i v a le e f) =
            let g : x / Q ≡ suc i = ap (λ z. z / Q) e ∙ div-mul-add (suc i) Q v a in
            let h : y / Q ≡ i = ap (λ z. z / Q) f ∙ div-mul-add i Q v a in
            omega arith
        by_step x y (down i v a le e f) =
            let g : y / Q ≡ suc i = ap (λ z. z / Q) e ∙ div-mul-add (suc i) Q v a in
            let h : x / Q ≡ i = ap (λ z. z / Q) f ∙ div-mul-add i Q v a in
            omega arith

        far : (x y : ℕ) → x / Q < T → Linked (arms K Q A t l) ((A + t) * Q + l) (A * Q + m) x y → y / Q ≤ suc (x / Q)
        far x y less (old at) = by_step x y (arms_steps A t l x y at)
        far x y less (new e f) = absurd (not_end x (A + t) l low (omega arith) less e)
        far x y less (back e f) = absurd (not_end x A m low' (omega arith) less e)
