-- The layers that rounds of rake and compress give a forest.
use Rattle.std.proofs.Common.{◌≡◌, ℕ, zero, suc, ◌+◌, ◌*◌, ◌%◌, ◌≤◌, ◌<◌, Bool, true, false, cond, eqb, List, [], ◌∷◌, length, get_or, refl, sym, ap, ◌∙◌, subst, arith, ◌⊎◌, inl, inr}
use Rattle.std.specs.Prelude.{Contains, not, nat_le}
use Rattle.std.proofs.lemmas.Bool.{false≢true}
use Rattle.std.proofs.lemmas.Bool.Decides.{eqb_tells}
use Rattle.re_layers.specs.Layers.{IsColoured, IsLayered, IsPath, upper}
use Rattle.re_layers.specs.Networks.{IsForest, Network, ball}
use Rattle.re_layers.proofs.Claims.{IsClaim, IsOwned, claim_cases, claim_one, owned_cases, owned_is, owned_some}
use Rattle.re_layers.proofs.Peeling.{claim, clear, nonempty, living, onward, trail}
use Rattle.re_layers.proofs.Rounds.{Plan, alive, chosen, dies, path_at, period, raked, removed_cases, removed_path, turn, turn_low}
use Rattle.re_layers.proofs.Trails.{length-trail, node, node_first, node_second, trail_alive, trail_apart, trail_near, trail_onward}
use Rattle.re_layers.proofs.Ways.{onward_cases}
use Rattle.re_labels.proofs.Membership.{AllByRecursion-from_contains, Contains-cases, Contains-filter, Contains-filter_cases, Contains-here, Contains-none, filter-alike}
use Rattle.re_labels.proofs.Tests.{eqb-true}
use Rattle.re_layers.proofs.Filters.{either}
use Rattle.re_layers.proofs.Balls.{ball_back, ball_join, ball_most, ball_near}
use Rattle.re_layers.proofs.LastSteps.{layer, layer_alive, layer_below, layer_dead, layer_high, layer_is, layer_tells, path}

-- nodes whose paths are compressed in one step are far from each other
abbrev pub AreFar : Plan → Network → Type 0
AreFar p G = (s u w : ℕ) → Contains (ball G (p.inner + p.inner) u) w → chosen p G s u ≡ true → chosen p G s w ≡ true → u ≡ w

-- no step both rakes and compresses
abbrev pub AreTimed : Plan → Network → Type 0
AreTimed p G = (s u v : ℕ) → chosen p G s u ≡ true → raked p G s v ≡ true → ⊥

pub coloured_far : (p : Plan) (G : Network) → IsColoured (p.inner + p.inner) p.colours G (p.colour G) → AreFar p G
coloured_far p G coloured s u w near one other = elim (eqb_tells u w) [
  | inl t ↦ t.1
  | inr t ↦
      absurd (coloured.apart u w near t.1
      (eqb-true (p.colour G u) (s % period p) one ∙ sym (eqb-true (p.colour G w) (s % period p) other)))
]

pub coloured_timed : (p : Plan) (G : Network) → IsColoured (p.inner + p.inner) p.colours G (p.colour G) → AreTimed p G
coloured_timed p G coloured s u v one kind =
    let low = coloured.below u in
    let high = (turn_low p G v).0 in
    let same : p.colour G u ≡ turn p G v = eqb-true (p.colour G u) (s % period p) one ∙ sym (eqb-true (turn p G v) (s % period p) kind) in
    omega (arith, low, high, same)

-- ---- paths
module _ {a b N : ℕ} (p : Plan) (G : Network) (is : IsForest a b N G) (one_claimer : AreFar p G) (apart_kinds : AreTimed p G) (M : ℕ) where
  module _ (s : ℕ) where
    abbrev Owned : ℕ → List ℕ → Type 0
    Owned v own = IsOwned G (alive p G s) (chosen p G s) p.inner v own

    claim_of : (v : ℕ) (own : List ℕ) (o : Owned v own) → IsClaim G (alive p G s) (chosen p G s) p.inner o.claimer own
    claim_of v own o = claim_cases G (alive p G s) (chosen p G s) p.inner o.claimer own o.claimed

    -- the path of u, which x is in front of
    module _ (x u : ℕ) (below : s < M) (some : 1 ≤ p.inner) (held : Contains (living G (alive p G s) u) x) (one : chosen p G s u ≡ true)
        (is_clear : clear G (alive p G s) p.inner x u ≡ true)
        (claimed : Contains (claim G (alive p G s) (chosen p G s) p.inner u) (trail G (alive p G s) p.inner x u)) where
      abbrev own : List ℕ
      own = trail G (alive p G s) p.inner x u

      abbrev at : ℕ → ℕ
      at i = node G (alive p G s) p.inner x u i

      on : Contains (G.near u) x
      on = (Contains-filter_cases (alive p G s) (G.near u) x held).0

      -- a path with an inner node near u is this one
      unique : (w : ℕ) (other : List ℕ) → Contains (ball G p.inner u) w → Owned w other → other ≡ own
      unique w other near o =
          let c : IsClaim G (alive p G s) (chosen p G s) p.inner o.claimer other = claim_of w other o in
          let same : u ≡ o.claimer = one_claimer s u o.claimer (ball_join G p.inner p.inner u w o.claimer near o.near) one c.chosen_is in
          claim_one G (alive p G s) (chosen p G s) p.inner u other own
          (subst (λ u. Contains (claim G (alive p G s) (chosen p G s) p.inner u) other) (sym same) o.claimed) claimed

      inner_near : (i : ℕ) → i ≤ p.inner → Contains (ball G p.inner u) (at (suc i))
      inner_near i l = ball_most G i p.inner u (at (suc i)) l (trail_near G (alive p G s) p.inner x u i is_clear l)

      inner_owned : (i : ℕ) → i < p.inner → Owned (at (suc i)) own
      unfolding node
      inner_owned i l = record { claimer = u; near = ball_back G is.both p.inner u (at (suc i)) (inner_near i (omega arith)); claimed = claimed; place = i; within = l; here = refl }

      inner_layer : (i : ℕ) → i < p.inner → layer p M G (at (suc i)) ≡ s
      inner_layer i l =
          layer_is p G M (at (suc i)) s below (trail_alive G (alive p G s) p.inner x u i is_clear (omega arith))
          (dies p G s (at (suc i)) (removed_path p G s (at (suc i)) (owned_some G (alive p G s) (chosen p G s) p.inner (at (suc i)) own (inner_owned i l)).1))

      inner_path : (i : ℕ) → i < p.inner → path p M G (at (suc i)) ≡ own
      unfolding path
      inner_path i l =
          ap (λ t. path_at p G t (at (suc i))) (inner_layer i l)
          ∙ unique (at (suc i)) (path_at p G s (at (suc i))) (inner_near i (omega arith))
          (owned_some G (alive p G s) (chosen p G s) p.inner (at (suc i)) own (inner_owned i l)).0

      -- an outer node stays alive
      outer : (w : ℕ) → Contains (ball G p.inner u) w → alive p G s w ≡ true → ((j : ℕ) → j < p.inner → w ≡ at (suc j) → ⊥) → s < layer p M G w
      unfolding node
      outer w near lives other = elim (either (alive p G (suc s) w)) [
        | inl stays ↦ layer_high p G M w (suc s) below stays
        | inr dead ↦ elim (removed_cases p G s w lives dead) [
          | inl found ↦
              (let o : Owned w (path_at p G s w) = owned_is G (alive p G s) (chosen p G s) p.inner w found in
              let same : path_at p G s w ≡ own = unique w (path_at p G s w) near o in
              absurd (other o.place o.within (sym o.here ∙ ap (λ xs. get_or xs (suc o.place) 0) same)))
          | inr leaf ↦ absurd (apart_kinds s u w one leaf.0)
        ]
      ]

      first_layer : s < layer p M G (at 0)
      first_layer =
          rw (node_first G (alive p G s) p.inner x u) (outer x (ball_most G 1 p.inner u x (omega (arith, some)) (ball_near G 0 u x on)) (Contains-filter_cases (alive p G s) (G.near u) x held).1
          (λ j l e. trail_apart G (alive p G s) is p.inner x u 0 (suc j) (is.both u x on) is_clear (omega arith) (omega arith) (node_first G (alive p G s) p.inner x u ∙ e)))

      last_layer : s < layer p M G (at (suc p.inner))
      last_layer = outer (at (suc p.inner)) (inner_near p.inner (omega arith)) (trail_alive G (alive p G s) p.inner x u p.inner is_clear (omega arith))
          (λ j l e. trail_apart G (alive p G s) is p.inner x u (suc j) (suc p.inner) (is.both u x on) is_clear (omega arith) (omega arith) (sym e))

      way : (i : ℕ) → i < p.inner → onward G (alive p G s) (at i) (at (suc i)) ≡ at (suc (suc i)) ∷ []
      way i l = (trail_onward G (alive p G s) p.inner x u i is_clear l).0

      behind : (i : ℕ) → i < p.inner → Contains (G.near (at (suc i))) (at (suc (suc i)))
      behind i l =
          (onward_cases G (alive p G s) (at i) (at (suc i)) (at (suc (suc i)))
          (subst (λ ys. Contains ys (at (suc (suc i)))) (sym (way i l)) (Contains-here (at (suc (suc i))) []))).1

      before : (i : ℕ) → i < p.inner → Contains (G.near (at (suc i))) (at i)
      before zero l = rw (node_second G (alive p G s) p.inner x u, node_first G (alive p G s) p.inner x u) on
      before (suc i) l = is.both (at (suc i)) (at (suc (suc i))) (behind i (omega arith))

      alone : (i w : ℕ) → i < p.inner → Contains (upper G (layer p M G) (at (suc i))) w → (w ≡ at i) ⊎ (w ≡ at (suc (suc i)))
      alone i w l there =
          let (near, high) = Contains-filter_cases (λ w. nat_le (layer p M G (at (suc i))) (layer p M G w)) (G.near (at (suc i))) w there in
          let lives : alive p G s w ≡ true = sym (layer_tells p G M w s (omega (arith, below))) ∙ subst (λ t. nat_le t (layer p M G w) ≡ true) (inner_layer i l) high in
          elim (eqb_tells w (at i)) [
            | inl t ↦ inl t.1
            | inr t ↦
                (let found : Contains (onward G (alive p G s) (at i) (at (suc i))) w =
                Contains-filter (λ w. not (eqb w (at i))) (living G (alive p G s) (at (suc i))) w
                (Contains-filter (alive p G s) (G.near (at (suc i))) w near lives) (ap not t.0) in
                elim (Contains-cases w (at (suc (suc i))) [] (subst (λ ys. Contains ys w) (way i l) found)) [
                  | inl e ↦ inr e
                  | inr none ↦ absurd (Contains-none w none)
                ])
          ]

      is_path : (l : ℕ) → p.inner ≡ 2 * l + 1 → IsPath G l (layer p M G) (path p M G) own s
      unfolding node
      is_path l odd = record {
        count = (let count = length-trail G (alive p G s) p.inner x u in omega (arith, count, odd));
        first = first_layer;
        last = (let places : suc p.inner ≡ 2 * l + 2 = omega (arith, odd) in subst (λ j. s < layer p M G (at j)) places last_layer);
        one = λ i low. inner_layer i (omega (arith, low, odd));
        same = λ i low. inner_path i (omega (arith, low, odd));
        before = λ i low. before i (omega (arith, low, odd));
        behind = λ i low. behind i (omega (arith, low, odd));
        apart = λ i low. trail_apart G (alive p G s) is p.inner x u i (suc (suc i)) (is.both u x on) is_clear (omega arith) (omega (arith, low, odd));
        alone = λ i w low. alone i w (omega (arith, low, odd));
      }

    owned_path : (v l : ℕ) (own : List ℕ) → s < M → 1 ≤ p.inner → p.inner ≡ 2 * l + 1 → Owned v own → IsPath G l (layer p M G) (path p M G) own s
    owned_path v l own below some odd o =
        let c : IsClaim G (alive p G s) (chosen p G s) p.inner o.claimer own = claim_of v own o in
        subst (λ own. IsPath G l (layer p M G) (path p M G) own s) (sym c.is)
        (is_path c.from o.claimer below some c.held c.chosen_is c.is_clear
        (subst (λ own. Contains (claim G (alive p G s) (chosen p G s) p.inner o.claimer) own) c.is o.claimed) l odd)

  -- ---- leaves
  module _ (v : ℕ) (low : layer p M G v < M) where
    abbrev s : ℕ
    s = layer p M G v

    -- v is raked where it is on no path
    is_leaf : path p M G v ≡ [] → (raked p G s v ≡ true) × (length (living G (alive p G s) v) ≤ 1)
    unfolding path
    is_leaf none = elim (removed_cases p G s v (layer_alive p G M v) (layer_dead p G M v low)) [
      | inl found ↦ absurd (let no : nonempty (path_at p G s v) ≡ false = ap nonempty none in false≢true (sym no ∙ found))
      | inr leaf ↦ leaf
    ]

    upper_living : upper G (layer p M G) v ≡ living G (alive p G s) v
    upper_living = filter-alike (λ w. nat_le s (layer p M G w)) (alive p G s) (G.near v) (λ w on. layer_tells p G M w s (omega (arith, low)))

    -- no neighbour is raked in the same step
    other_layer : (w : ℕ) → Contains (G.near v) w → raked p G s v ≡ true → layer p M G w ≡ s → ⊥
    other_layer w on kind e = elim (removed_cases p G s w (subst (λ t. alive p G t w ≡ true) e (layer_alive p G M w))
        (subst (λ t. alive p G (suc t) w ≡ false) e (layer_dead p G M w (subst (λ t. t < M) (sym e) low)))) [
          | inl found ↦
              (let o : IsOwned G (alive p G s) (chosen p G s) p.inner w (path_at p G s w) = owned_is G (alive p G s) (chosen p G s) p.inner w found in
              apart_kinds s o.claimer v (claim_cases G (alive p G s) (chosen p G s) p.inner o.claimer (path_at p G s w) o.claimed).chosen_is kind)
          | inr leaf ↦ at (G.active v) (G.active w) (is.turns v w on)
              (eqb-true (turn p G v) (s % period p) kind ∙ sym (eqb-true (turn p G w) (s % period p) leaf.0))
        ]
      where
        at : (b c : Bool) → c ≡ not b → cond b p.colours (p.colours + 1) ≡ cond c p.colours (p.colours + 1) → ⊥
        at true true e same = false≢true (sym e)
        at true false e same = omega (arith, same)
        at false true e same = omega (arith, same)
        at false false e same = false≢true e

  pub layered : (l : ℕ) → p.inner ≡ 2 * l + 1 → ((v : ℕ) → alive p G M v ≡ false) → (m : ℕ) → M ≤ m → IsLayered G l m (layer p M G) (path p M G)
  unfolding path
  layered l odd dead m enough = record {
    below = λ v. (let low = layer_below p G M v (dead v) in omega (arith, low, enough));
    raked = λ v none.
        let low = layer_below p G M v (dead v) in
        let (kind, few) = is_leaf v low none in
        (rw (upper_living v low) few, AllByRecursion-from_contains (λ w. layer p M G w ≡ layer p M G v → ⊥) (G.near v) (λ w on. other_layer v low w on kind));
    paths = λ v some.
        let low = layer_below p G M v (dead v) in
        elim (owned_cases G (alive p G (layer p M G v)) (chosen p G (layer p M G v)) p.inner v) [
          | inl none ↦ absurd (some none)
          | inr o ↦ (owned_path (layer p M G v) v l (path_at p G (layer p M G v) v) low (omega (arith, odd)) odd o, (o.place, (let within = o.within in omega (arith, within, odd)), o.here))
        ];
  }
