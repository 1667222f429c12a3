-- Where leaves are raked and long paths compressed, branches with nodes that stay alive grow, so that none stay for long.
use Rattle.std.proofs.Common.{◌≡◌, ℕ, zero, suc, ◌+◌, ◌*◌, ◌^◌, ◌≤◌, ◌<◌, Bool, true, false, eqb, List, [], ◌∷◌, length, refl, sym, ap, subst, arith, ◌⊎◌, inl, inr}
use Rattle.std.specs.Prelude.{Contains, filter, flat_map, not}
use Rattle.std.proofs.Math.Nat.{pow-succ', pow-zero}
use Rattle.re_layers.specs.Networks.{AreDifferent, IsForest, Network, branch, others}
use Rattle.re_layers.proofs.Different.{Different-filter, branch_longer, branch_short, branch_some, left_most, length-piece, length-two_pieces, near_different}
use Rattle.re_layers.proofs.Peeling.{clear, living, next, onward}
use Rattle.re_layers.proofs.Ways.{clear_alive, clear_here, clear_next, clear_on, onward_cases, onward_kept, onward_later, onward_lost, onward_whole}
use Rattle.re_labels.proofs.Membership.{Contains-here, Contains-later, length-filter_most}
use Rattle.re_layers.proofs.Filters.{either, le_cases}

-- which nodes are alive at each time, and when rounds begin: fewer and fewer are; in a round leaves die, and so does the first of k inner nodes of a
-- path, unless something on the path, or in front of it, dies before
pub record Shrinking (G : Network) (alive : ℕ → ℕ → Bool) (time : ℕ → ℕ) (k : ℕ) : Type 0 where
  pub later : (v s t : ℕ) → s ≤ t → alive t v ≡ true → alive s v ≡ true
  pub rising : (m : ℕ) → time m ≤ time (suc m)
  pub rakes : (m v : ℕ) → length (living G (alive (time m)) v) ≤ 1 → alive (time (suc m)) v ≡ false
  pub compresses : (m x v : ℕ) → Contains (G.near v) x → (s : ℕ) × (time m ≤ s) × (s ≤ time (suc m))
      × (alive s x ≡ true → clear G (alive s) k x v ≡ true → alive (time (suc m)) v ≡ false)

module _ {a p N : ℕ} {G : Network} (is : IsForest a p N G) {alive : ℕ → ℕ → Bool} {time : ℕ → ℕ} {k : ℕ} (shrinks : Shrinking G alive time k) where
  dead_later : (v s t : ℕ) → s ≤ t → alive s v ≡ false → alive t v ≡ false
  dead_later v s t l dead = elim (either (alive t v)) [
    | inl lives ↦ absurd (let before : alive s v ≡ true = shrinks.later v s t l lives in cc)
    | inr is_dead ↦ is_dead
  ]

  time_rises : (m n : ℕ) → m ≤ n → time m ≤ time n
  time_rises m zero l = let none : zero ≡ m = omega arith in subst (λ i. time i ≤ time zero) none (omega arith)
  time_rises m (suc n) l = at (le_cases m n l) (λ l'. time_rises m n l')
    where
      at : (m ≤ n) ⊎ (m ≡ suc n) → (m ≤ n → time m ≤ time n) → time m ≤ time (suc n)
      at (inl l') before = let rest = before l' in let one = shrinks.rising n in omega (arith, rest, one)
      at (inr e) before = subst (λ i. time m ≤ time i) e (omega arith)

  -- with no way on but back a node dies
  leaf : (m x v : ℕ) → onward G (alive (time m)) x v ≡ [] → alive (time (suc m)) v ≡ false
  leaf m x v none =
      let most : length (living G (alive (time m)) v) ≤ suc (length (onward G (alive (time m)) x v)) =
      left_most x (living G (alive (time m)) v) (Different-filter (alive (time m)) (G.near v) (near_different is v)) in
      let count : length (onward G (alive (time m)) x v) ≡ 0 = ap length none in
      shrinks.rakes m v (omega (arith, most, count))

  -- a clear walk stays clear as long as its first node isn't dead or about to die
  chain : (j m n s t x v : ℕ) → s ≤ t → t ≤ time m → m + j ≤ n → clear G (alive s) j x v ≡ true
      → (clear G (alive t) j x v ≡ true) ⊎ (alive (time n) v ≡ false)
  chain zero m n s t x v low high l h = elim (either (alive t v)) [
    | inl lives ↦ inl (clear_here G (alive t) x v lives)
    | inr dead ↦ inr (dead_later v t (time n) (let rises = time_rises m n (omega (arith, l)) in omega (arith, high, rises)) dead)
  ]
  chain (suc j) m zero s t x v low high l h = absurd (omega arith)
  chain (suc j) m (suc n) s t x v low high l h = go (clear_next G (alive s) j x v h) (λ y more. chain j m n s t v y low high (omega (arith, l)) more)
    where
      go : (onward G (alive s) x v ≡ next G (alive s) x v ∷ []) × (clear G (alive s) j v (next G (alive s) x v) ≡ true)
          → ((y : ℕ) → clear G (alive s) j v y ≡ true → (clear G (alive t) j v y ≡ true) ⊎ (alive (time n) y ≡ false))
          → (clear G (alive t) (suc j) x v ≡ true) ⊎ (alive (time (suc n)) v ≡ false)
      go (one, more) rest = elim (rest (next G (alive s) x v) more) [
        | inl stays ↦ elim (either (alive t v)) [
          | inl lives ↦ inl (clear_on G (alive t) j x v (next G (alive s) x v) lives
              (onward_kept G (alive s) (alive t) x v (next G (alive s) x v) (λ w. shrinks.later w s t low) one (clear_alive G (alive t) j v (next G (alive s) x v) stays)) stays)
          | inr dead ↦ inr (dead_later v t (time (suc n)) (let rises = time_rises m (suc n) (omega (arith, l)) in omega (arith, high, rises)) dead)
        ]
        | inr dead ↦ inr (leaf n x v (onward_lost G (alive s) (alive (time n)) x v (next G (alive s) x v)
            (λ w. shrinks.later w s (time n) (let rises = time_rises m n (omega (arith, l)) in omega (arith, low, high, rises))) one dead))
      ]

  -- with k inner nodes of a path in front of it a node dies soon
  compressed : (m n x v : ℕ) → 1 ≤ k → suc (m + k) ≤ n → Contains (G.near v) x → clear G (alive (time m)) k x v ≡ true → alive (time n) v ≡ false
  compressed m n x v some l on h = at (shrinks.compresses m x v on)
    where
      lonely : (i s : ℕ) → 1 ≤ i → s ≤ time (suc m) → clear G (alive s) i x v ≡ true → alive s x ≡ false → alive (time n) v ≡ false
      lonely zero s some high stays dead = absurd (omega arith)
      lonely (suc i) s some' high stays dead =
          let one : onward G (alive s) x v ≡ next G (alive s) x v ∷ [] = (clear_next G (alive s) i x v stays).0 in
          let now : alive (time (suc m)) x ≡ false = dead_later x s (time (suc m)) high dead in
          let whole : length (onward G (alive (time (suc m))) x v) ≡ length (living G (alive (time (suc m))) v) = ap length (onward_whole G (alive (time (suc m))) x v now) in
          let less : length (onward G (alive (time (suc m))) x v) ≡ length (filter (alive (time (suc m))) (onward G (alive s) x v)) =
          ap length (onward_later G (alive s) (alive (time (suc m))) x v (λ w. shrinks.later w s (time (suc m)) high)) in
          let most = length-filter_most (alive (time (suc m))) (onward G (alive s) x v) in
          let count : length (onward G (alive s) x v) ≡ 1 = ap length one in
          dead_later v (time (suc (suc m))) (time n) (time_rises (suc (suc m)) n (omega (arith, l, some)))
          (shrinks.rakes (suc m) v (omega (arith, whole, less, most, count)))

      at : (s : ℕ) × (time m ≤ s) × (s ≤ time (suc m)) × (alive s x ≡ true → clear G (alive s) k x v ≡ true → alive (time (suc m)) v ≡ false)
          → alive (time n) v ≡ false
      at (s, low, high, dies) = elim (chain k (suc m) n (time m) s x v low high (omega (arith, l)) h) [
        | inl stays ↦ elim (either (alive s x)) [
          | inl lives ↦ dead_later v (time (suc m)) (time n) (time_rises (suc m) n (omega (arith, l))) (dies lives stays)
          | inr dead ↦ lonely k s some high stays dead
        ]
        | inr dead ↦ dead
      ]

  abbrev Outcome : ℕ → ℕ → ℕ → ℕ → ℕ → ℕ → Type 0
  Outcome m size j n x v = (size + size ≤ length (branch G n x v)) ⊎ ((clear G (alive (time m)) j x v ≡ true) ⊎ (alive (time n) v ≡ false))

  -- where branches with a node that is alive have so many nodes, such a branch has twice as many, or its first node is at the end of a path, or dies
  grown : (m size : ℕ) → ((x v : ℕ) → Contains (G.near x) v → alive (time m) v ≡ true → size ≤ length (branch G m x v))
      → (j n x v : ℕ) → m + j ≤ n → Contains (G.near x) v → alive (time m) v ≡ true → Outcome m size j n x v
  grown m size before zero n x v l on lives = inr (inl (clear_here G (alive (time m)) x v lives))
  grown m size before (suc j) zero x v l on lives = absurd (omega arith)
  grown m size before (suc j) (suc n) x v l on lives = at (onward G (alive (time m)) x v) refl (λ y there here. grown m size before j n v y (omega (arith, l)) there here)
    where
      at : (ys : List ℕ) → onward G (alive (time m)) x v ≡ ys → ((y : ℕ) → Contains (G.near v) y → alive (time m) y ≡ true → Outcome m size j n v y) → Outcome m size (suc j) (suc n) x v
      at [] e rest = inr (inr (dead_later v (time (suc m)) (time (suc n)) (time_rises (suc m) (suc n) (omega (arith, l))) (leaf m x v e)))
      at (y ∷ []) e rest =
          let held : Contains (onward G (alive (time m)) x v) y = subst (λ ys. Contains ys y) (sym e) (Contains-here y []) in
          let (other, there, here) = onward_cases G (alive (time m)) x v y held in
          elim (rest y there here) [
            | inl large ↦ inl (let more : length (branch G n v y) ≤ length (flat_map (λ w. branch G n v w) (others G x v)) = length-piece (λ w. branch G n v w) (others G x v) y other in omega (arith, large, more))
            | inr (inl is_clear) ↦ inr (inl (clear_on G (alive (time m)) j x v y lives e is_clear))
            | inr (inr dead) ↦ inr (inr (leaf n x v (onward_lost G (alive (time m)) (alive (time n)) x v y (λ w. shrinks.later w (time m) (time n) (time_rises m n (omega (arith, l)))) e dead)))
          ]
      at (y ∷ z ∷ ys) e rest =
          let held : Contains (onward G (alive (time m)) x v) y = subst (λ ys. Contains ys y) (sym e) (Contains-here y (z ∷ ys)) in
          let held' : Contains (onward G (alive (time m)) x v) z = subst (λ ys. Contains ys z) (sym e) (Contains-later z y (z ∷ ys) (Contains-here z ys)) in
          let (other, there, here) = onward_cases G (alive (time m)) x v y held in
          let (other', there', here') = onward_cases G (alive (time m)) x v z held' in
          let differ : AreDifferent (y ∷ z ∷ ys) =
          subst AreDifferent e (Different-filter (λ w. not (eqb w x)) (living G (alive (time m)) v) (Different-filter (alive (time m)) (G.near v) (near_different is v))) in
          let apart : y ≡ z → ⊥ = λ same. differ.0 (subst (Contains (z ∷ ys)) (sym same) (Contains-here z ys)) in
          let both : length (branch G n v y) + length (branch G n v z) ≤ length (flat_map (λ w. branch G n v w) (others G x v)) =
          length-two_pieces (λ w. branch G n v w) (others G x v) y z other other' apart in
          let one = before v y there here in
          let two = before v z there' here' in
          let one' = branch_longer G m n v y (omega (arith, l)) in
          let two' = branch_longer G m n v z (omega (arith, l)) in
          inl (omega (arith, both, one, two, one', two'))

  -- after r times k + 1 rounds branches with a node that is alive have 2 ^ r nodes
  growth : 1 ≤ k → (r x v : ℕ) → Contains (G.near x) v → alive (time (r * suc k)) v ≡ true → 2 ^ r ≤ length (branch G (r * suc k) x v)
  growth some zero x v on lives = let one = branch_some G (zero * suc k) x v in rw (pow-zero 2) one
  growth some (suc r) x v on lives = rw (pow-succ' 2 r) (at (growth some r))
    where
      n : ℕ
      n = suc r * suc k

      step : n ≡ r * suc k + suc k
      step = omega arith

      at : ((x v : ℕ) → Contains (G.near x) v → alive (time (r * suc k)) v ≡ true → 2 ^ r ≤ length (branch G (r * suc k) x v)) → 2 * 2 ^ r ≤ length (branch G (suc r * suc k) x v)
      at before = elim (grown (r * suc k) (2 ^ r) before k n x v (omega (arith, step)) on
          (shrinks.later v (time (r * suc k)) (time n) (time_rises (r * suc k) n (omega (arith, step))) lives)) [
            | inl large ↦ omega (arith, large)
            | inr (inl is_clear) ↦ absurd (let dead : alive (time n) v ≡ false = compressed (r * suc k) n x v some (omega (arith, step)) (is.both x v on) is_clear in cc)
            | inr (inr dead) ↦ absurd (let lives' : alive (time n) v ≡ true = lives in cc)
          ]

  -- so none are alive where branches have fewer nodes
  pub none_left : 1 ≤ k → (r : ℕ) → 1 ≤ r → ((x v : ℕ) → Contains (G.near x) v → length (branch G (r * suc k) x v) < 2 ^ r)
      → (v : ℕ) → alive (time (r * suc k)) v ≡ false
  none_left some r some_rounds small v = at (G.near v) refl
    where
      rounds : 1 ≤ r * suc k
      rounds = grind (arith, some, some_rounds)

      at : (xs : List ℕ) → G.near v ≡ xs → alive (time (r * suc k)) v ≡ false
      at [] e =
          let none : length (living G (alive (time 0)) v) ≤ 1 = rw e (omega arith) in
          dead_later v (time 1) (time (r * suc k)) (time_rises 1 (r * suc k) rounds) (shrinks.rakes 0 v none)
      at (x ∷ xs) e = elim (either (alive (time (r * suc k)) v)) [
        | inl lives ↦
            (let held : Contains (G.near v) x = subst (λ ys. Contains ys x) (sym e) (Contains-here x xs) in
            let on : Contains (G.near x) v = is.both v x held in
            let large = growth some r x v on lives in
            let few = small x v on in
            absurd (omega (arith, large, few)))
        | inr dead ↦ dead
      ]

  -- as they have after more rounds than the number of nodes has bits
  pub all_dead : 1 ≤ k → (r : ℕ) → 1 ≤ r → N < 2 ^ r → (v : ℕ) → alive (time (r * suc k)) v ≡ false
  all_dead some r some_rounds enough v = none_left some r some_rounds (λ x v on. (let small = branch_short is (r * suc k) x v on in omega (arith, small, enough))) v
