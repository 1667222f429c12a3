-- Networks with one edge more, between two nodes that nothing connects.
use Rattle.std.proofs.Common.{◌≡◌, ℕ, ◌+◌, ◌≤◌, ◌<◌, Bool, true, false, cond, eqb, List, [], ◌∷◌, ◌++◌, length, refl, sym, ◌∙◌, ap, ap₂, subst, arith, ◌⊎◌, inl, inr, length-append}
use Rattle.std.specs.Prelude.{Contains, not, if◌then◌else◌}
use Rattle.std.proofs.lemmas.Bool.{eq-eqb, false≢true}
use Rattle.std.proofs.lemmas.Bool.Decides.{eqb_tells}
use Rattle.std.proofs.lemmas.List.Elements.{Contains-append_cases, Contains-append_left, Contains-append_right}
use Rattle.std.proofs.Math.Bool.{not-not}
use Rattle.re_forests.proofs.Cuts.{IsCut, IsCutting}
use Rattle.re_forests.proofs.Hung.{IsCut-back, only}
use Rattle.re_labels.proofs.Membership.{Contains-here, Contains-none}
use Rattle.re_layers.specs.Networks.{AreDifferent, Network}
use Rattle.re_layers.proofs.Rooted.{Different-append}
use Rattle.re_labels.proofs.Tests.{eqb-true}

-- the new neighbours of x
abbrev pub added : ℕ → ℕ → ℕ → List ℕ
added u v x = cond (eqb x u) (v ∷ []) [] ++ cond (eqb x v) (u ∷ []) []

abbrev pub link : Network → ℕ → ℕ → Network
link G u v = record { active = G.active; near = λ x. G.near x ++ added u v x }

-- an edge: an old one, or the new one in either direction
pub data Linked (G : Network) (u v x y : ℕ) : Type 0 where
  old : Contains (G.near x) y → Linked G u v x y
  new : x ≡ u → y ≡ v → Linked G u v x y
  back : x ≡ v → y ≡ u → Linked G u v x y

in_single : (b : Bool) (z y : ℕ) → Contains (cond b (z ∷ []) []) y → (b ≡ true) × (y ≡ z)
in_single true z y held = (refl, only y z held)
in_single false z y held = absurd (Contains-none y held)

pub linked_of : (G : Network) (u v x y : ℕ) → Contains ((link G u v).near x) y → Linked G u v x y
linked_of G u v x y held = elim (Contains-append_cases (G.near x) (added u v x) y held) [
  | inl first ↦ old first
  | inr second ↦ elim (Contains-append_cases (cond (eqb x u) (v ∷ []) []) (cond (eqb x v) (u ∷ []) []) y second) [
    | inl l ↦ (let (t, e) = in_single (eqb x u) v y l in new (eqb-true x u t) e)
    | inr r ↦ (let (t, e) = in_single (eqb x v) u y r in back (eqb-true x v t) e)
  ]
]

pub near_of_linked : (G : Network) (u v x y : ℕ) → Linked G u v x y → Contains ((link G u v).near x) y
near_of_linked G u v x y (old held) = Contains-append_left (G.near x) (added u v x) y held
near_of_linked G u v x y (new e f) =
    Contains-append_right (G.near x) (added u v x) y (Contains-append_left (cond (eqb x u) (v ∷ []) []) (cond (eqb x v) (u ∷ []) []) y
    (subst (λ b. Contains (cond b (v ∷ []) []) y) (sym (eq-eqb x u e)) (subst (λ z. Contains (v ∷ []) z) (sym f) (Contains-here v []))))
near_of_linked G u v x y (back e f) =
    Contains-append_right (G.near x) (added u v x) y (Contains-append_right (cond (eqb x u) (v ∷ []) []) (cond (eqb x v) (u ∷ []) []) y
    (subst (λ b. Contains (cond b (u ∷ []) []) y) (sym (eq-eqb x v e)) (subst (λ z. Contains (u ∷ []) z) (sym f) (Contains-here u []))))

linked_back : (G : Network) (u v x y : ℕ) → ((x y : ℕ) → Contains (G.near x) y → Contains (G.near y) x) → Linked G u v x y → Linked G u v y x
linked_back G u v x y both (old held) = old (both x y held)
linked_back G u v x y both (new e f) = back f e
linked_back G u v x y both (back e f) = new f e

module _ (G : Network) (u v : ℕ) (part : ℕ → Bool) (first : part u ≡ true) (second : part v ≡ false) (kept : (x y : ℕ) → Contains (G.near x) y → part x ≡ part y) where
  -- the sides of an old edge; what is in the other part is on the side of its end of the new edge
  abbrev side_of : (ℕ → Bool) → Bool → Bool → ℕ → Bool
  side_of side true true n = side n
  side_of side true false n = side u
  side_of side false true n = side v
  side_of side false false n = side n

  side_own : (side : ℕ → Bool) (b : Bool) (n : ℕ) → side_of side b b n ≡ side n
  side_own side true n = refl
  side_own side false n = refl

  cut_old : (x y : ℕ) → Contains (G.near x) y → IsCut G x y → IsCut (link G u v) x y
  cut_old x y edge cut = record {
    side = λ n. side_of cut.side (part x) (part n) n;
    here = side_own cut.side (part x) x ∙ cut.here;
    there = ap (λ b. side_of cut.side (part x) b y) (sym (kept x y edge)) ∙ side_own cut.side (part x) y ∙ cut.there;
    same = λ n m at one two. by n m one two (linked_of G u v n m at);
  }
    where
      inside : (n m : ℕ) (b c : Bool) → cut.side n ≡ cut.side m → side_of cut.side b c n ≡ side_of cut.side b c m
      inside n m true true e = e
      inside n m true false e = refl
      inside n m false true e = refl
      inside n m false false e = e

      across : (b : Bool) → side_of cut.side b true u ≡ side_of cut.side b false v
      across true = refl
      across false = refl

      by : (n m : ℕ) → (n ≡ x → m ≡ y → ⊥) → (n ≡ y → m ≡ x → ⊥) → Linked G u v n m → side_of cut.side (part x) (part n) n ≡ side_of cut.side (part x) (part m) m
      by n m one two (old at) = inside n m (part x) (part n) (cut.same n m at one two) ∙ ap (λ b. side_of cut.side (part x) b m) (kept n m at)
      by n m one two (new e f) =
          ap₂ (λ b n. side_of cut.side (part x) b n) (ap part e ∙ first) e ∙ across (part x) ∙ sym (ap₂ (λ b n. side_of cut.side (part x) b n) (ap part f ∙ second) f)
      by n m one two (back e f) =
          ap₂ (λ b n. side_of cut.side (part x) b n) (ap part e ∙ second) e ∙ sym (across (part x)) ∙ sym (ap₂ (λ b n. side_of cut.side (part x) b n) (ap part f ∙ first) f)

  cut_new : IsCut (link G u v) u v
  cut_new = record {
    side = part;
    here = first;
    there = second;
    same = λ n m at one two. by n m one two (linked_of G u v n m at);
  }
    where
      by : (n m : ℕ) → (n ≡ u → m ≡ v → ⊥) → (n ≡ v → m ≡ u → ⊥) → Linked G u v n m → part n ≡ part m
      by n m one two (old at) = kept n m at
      by n m one two (new e f) = absurd (one e f)
      by n m one two (back e f) = absurd (two e f)

  cut : (x y : ℕ) → ((x y : ℕ) → Contains (G.near x) y → IsCut G x y) → Linked G u v x y → IsCut (link G u v) x y
  cut x y cuts (old at) = cut_old x y at (cuts x y at)
  cut x y cuts (new e f) = subst (λ z. IsCut (link G u v) z y) (sym e) (subst (λ z. IsCut (link G u v) u z) (sym f) cut_new)
  cut x y cuts (back e f) =
      IsCut-back (link G u v) y x (subst (λ z. IsCut (link G u v) z x) (sym f) (subst (λ z. IsCut (link G u v) u z) (sym e) cut_new))

  across_parts : (x y : ℕ) → Contains (G.near x) y → Contains (added u v x) y → ⊥
  across_parts x y at held = elim (Contains-append_cases (cond (eqb x u) (v ∷ []) []) (cond (eqb x v) (u ∷ []) []) y held) [
    | inl l ↦ (let (t, e) = in_single (eqb x u) v y l in false≢true (sym second ∙ sym (ap part e) ∙ sym (kept x y at) ∙ ap part (eqb-true x u t) ∙ first))
    | inr r ↦ (let (t, e) = in_single (eqb x v) u y r in false≢true (sym second ∙ sym (ap part (eqb-true x v t)) ∙ kept x y at ∙ ap part e ∙ first))
  ]

  single : (b : Bool) (z : ℕ) → AreDifferent (cond b (z ∷ []) [])
  single true z = (λ held. Contains-none z held, tt)
  single false z = tt

  different_added : (x : ℕ) → AreDifferent (added u v x)
  different_added x =
      Different-append (cond (eqb x u) (v ∷ []) []) (cond (eqb x v) (u ∷ []) []) (single (eqb x u) v) (single (eqb x v) u)
      (λ y l r. (let (s, e) = in_single (eqb x u) v y l in let (t, f) = in_single (eqb x v) u y r in false≢true (sym second ∙ ap part (sym e ∙ f) ∙ first)))

  pub link_cutting : (a p N : ℕ) → IsCutting a p N G → u < N → v < N → G.active v ≡ not (G.active u)
      → length (G.near u) < (if G.active u then a else p) → length (G.near v) < (if G.active v then a else p) → IsCutting a p N (link G u v)
  link_cutting a p N is low low' kinds room room' = record {
    degrees = λ x. degree x (eqb_tells x u) (eqb_tells x v);
    below = λ x y at. below x y (linked_of G u v x y at);
    turns = λ x y at. turned x y (linked_of G u v x y at);
    both = λ x y at. near_of_linked G u v y x (linked_back G u v x y is.both (linked_of G u v x y at));
    once = λ x. Different-append (G.near x) (added u v x) (is.once x) (different_added x) (λ y first second. across_parts x y first second);
    cuts = λ x y at. cut x y is.cuts (linked_of G u v x y at);
  }
    where
      count : (x : ℕ) → length ((link G u v).near x) ≡ length (G.near x) + (length (cond (eqb x u) (v ∷ []) []) + length (cond (eqb x v) (u ∷ []) []))
      count x =
          length-append (G.near x) (added u v x)
          ∙ ap (λ n. length (G.near x) + n) (length-append (cond (eqb x u) (v ∷ []) []) (cond (eqb x v) (u ∷ []) []))

      degree : (x : ℕ) → ((eqb x u ≡ true) × (x ≡ u)) ⊎ ((eqb x u ≡ false) × (x ≡ u → ⊥)) → ((eqb x v ≡ true) × (x ≡ v)) ⊎ ((eqb x v ≡ false) × (x ≡ v → ⊥))
          → length ((link G u v).near x) ≤ (if G.active x then a else p)
      degree x (inl (t, e)) (inl (s, f)) = absurd (false≢true (sym second ∙ ap part (sym f ∙ e) ∙ first))
      degree x (inl (t, e)) (inr (s, f)) =
          let n : length (cond (eqb x u) (v ∷ []) []) ≡ 1 = ap (λ b. length (cond b (v ∷ []) [])) t in
          let m : length (cond (eqb x v) (u ∷ []) []) ≡ 0 = ap (λ b. length (cond b (u ∷ []) [])) s in
          let r : length (G.near x) < (if G.active x then a else p) = subst (λ z. length (G.near z) < (if G.active z then a else p)) (sym e) room in
          omega (arith, count x, n, m, r)
      degree x (inr (t, e)) (inl (s, f)) =
          let n : length (cond (eqb x u) (v ∷ []) []) ≡ 0 = ap (λ b. length (cond b (v ∷ []) [])) t in
          let m : length (cond (eqb x v) (u ∷ []) []) ≡ 1 = ap (λ b. length (cond b (u ∷ []) [])) s in
          let r : length (G.near x) < (if G.active x then a else p) = subst (λ z. length (G.near z) < (if G.active z then a else p)) (sym f) room' in
          omega (arith, count x, n, m, r)
      degree x (inr (t, e)) (inr (s, f)) =
          let n : length (cond (eqb x u) (v ∷ []) []) ≡ 0 = ap (λ b. length (cond b (v ∷ []) [])) t in
          let m : length (cond (eqb x v) (u ∷ []) []) ≡ 0 = ap (λ b. length (cond b (u ∷ []) [])) s in
          omega (arith, count x, n, m, is.degrees x)

      below : (x y : ℕ) → Linked G u v x y → (x < N) × (y < N)
      below x y (old at) = is.below x y at
      below x y (new e f) = (omega arith, omega arith)
      below x y (back e f) = (omega arith, omega arith)

      turned : (x y : ℕ) → Linked G u v x y → G.active y ≡ not (G.active x)
      turned x y (old at) = is.turns x y at
      turned x y (new e f) = ap G.active f ∙ kinds ∙ ap (λ z. not (G.active z)) (sym e)
      turned x y (back e f) = ap G.active f ∙ sym (ap not kinds ∙ not-not (G.active u)) ∙ ap (λ z. not (G.active z)) (sym e)
