-- The network of a named tree. Where all names are different it shows the tree, and is a forest.
use Rattle.std.proofs.Common.{◌≡◌, ℕ, zero, suc, pred, ◌+◌, ◌≤◌, ◌<◌, Bool, not, cond, List, [], ◌∷◌, ◌++◌, length, refl, sym, ◌∙◌, ap, ap₂, subst, arith, ◌⊎◌, inl, inr, append-nil}
use Rattle.std.specs.Prelude.{Contains, ◌==◌, nat_lt, if◌then◌else◌, flat_map}
use Rattle.std.proofs.lemmas.Bool.{eq-eqb, ne_eqb}
use Rattle.re_forests.proofs.Counting.{is_at, is_at-same, zero_or}
use Rattle.re_forests.proofs.Moving.{Behind, Rooted}
use Rattle.re_forests.proofs.NamedTrees.{Contains-insert, child_of_top, insert, moved, occurs, payloads-put}
use Rattle.re_forests.proofs.PlantBalls.{different_ball}
use Rattle.re_forests.proofs.Plants.{IsPlant, IsPlant-moved, find}
use Rattle.re_layers.specs.Networks.{AreDifferent, IsForest, Network, ball, branch}
use Rattle.re_given.specs.InputViews.{payloads}
use Rattle.re_laws.specs.Trees.{Child, Tree, end, leaf, more, others}

-- the neighbours of a name in a tree behind q, in the order of its ports
abbrev pub near_in : ℕ → Tree ℕ → ℕ → List ℕ
near_in q leaf n = []
near_in q end n = []
near_in q (more back name branch rest) n = if n == name then insert (pred back) q (payloads branch) else (near_in name branch n ++ near_in q rest n)

-- the network of a tree whose root has the name r, where the names below N are those of active nodes
abbrev pub network_of : ℕ → ℕ → Tree ℕ → Network
network_of N r t = record { active = λ n. nat_lt n N; near = λ n. if n == r then payloads t else near_in r t n }

near_in-at : (q back name : ℕ) (branch rest : Tree ℕ) (n : ℕ) → n ≡ name → near_in q (more back name branch rest) n ≡ insert (pred back) q (payloads branch)
near_in-at q back name branch rest n e = ap (λ b. cond b (insert (pred back) q (payloads branch)) (near_in name branch n ++ near_in q rest n)) (eq-eqb n name e)

near_in-past : (q back name : ℕ) (branch rest : Tree ℕ) (n : ℕ) → (n ≡ name → ⊥) → near_in q (more back name branch rest) n ≡ near_in name branch n ++ near_in q rest n
near_in-past q back name branch rest n e = ap (λ b. cond b (insert (pred back) q (payloads branch)) (near_in name branch n ++ near_in q rest n)) (ne_eqb n name e)

absent : (q : ℕ) (t : Tree ℕ) (n : ℕ) → occurs n t ≡ 0 → near_in q t n ≡ []
absent q leaf n h = refl
absent q end n h = refl
absent q (more back name branch rest) n h =
    let past : n ≡ name → ⊥ = λ e. (let one = is_at-same n name e in omega arith) in
    near_in-past q back name branch rest n past ∙ ap₂ (λ xs ys. xs ++ ys) (absent name branch n (omega arith)) (absent q rest n (omega arith))

-- a network that has these neighbours at all names of a tree with different names shows the tree
behind_in : (G : Network) (q : ℕ) (t : Tree ℕ) → ((n : ℕ) → 1 ≤ occurs n t → G.near n ≡ near_in q t n) → ((n : ℕ) → occurs n t ≤ 1) → Behind G q t
behind_in G q leaf same apart = tt
behind_in G q end same apart = tt
behind_in G q (more back name branch rest) same apart = (
  λ node. (let one = is_at-same name name refl in same name (omega arith) ∙ near_in-at q back name branch rest name refl),
  behind_in G name branch (λ n l. in_branch n l) (λ n. let most = apart n in omega arith),
  behind_in G q rest (λ n l. in_rest n l) (λ n. let most = apart n in omega arith),
)
  where
    other : (n : ℕ) → 1 ≤ occurs n branch + occurs n rest → n ≡ name → ⊥
    other n l e = let one = is_at-same n name e in let most = apart n in omega arith

    in_branch : (n : ℕ) → 1 ≤ occurs n branch → G.near n ≡ near_in name branch n
    in_branch n l =
        let most = apart n in
        same n (omega arith) ∙ (near_in-past q back name branch rest n (other n (omega arith))
        ∙ (ap (λ ys. near_in name branch n ++ ys) (absent q rest n (omega arith)) ∙ append-nil (near_in name branch n)))

    in_rest : (n : ℕ) → 1 ≤ occurs n rest → G.near n ≡ near_in q rest n
    in_rest n l =
        let most = apart n in
        same n (omega arith) ∙ (near_in-past q back name branch rest n (other n (omega arith))
        ∙ ap (λ xs. xs ++ near_in q rest n) (absent name branch n (omega arith)))

module _ (N r : ℕ) (t : Tree ℕ) where
  near_root : (network_of N r t).near r ≡ payloads t
  near_root = ap (λ b. cond b (payloads t) (near_in r t r)) (eq-eqb r r refl)

  near_other : (n : ℕ) → (n ≡ r → ⊥) → (network_of N r t).near n ≡ near_in r t n
  near_other n e = ap (λ b. cond b (payloads t) (near_in r t n)) (ne_eqb n r e)

  pub Rooted-network : ((n : ℕ) → is_at n r + occurs n t ≤ 1) → Rooted (network_of N r t) r t
  Rooted-network apart = record {
    near = near_root;
    behind = behind_in (network_of N r t) r t
        (λ n l. near_other n (λ e. let one = is_at-same n r e in let most = apart n in omega arith)) (λ n. let most = apart n in omega arith);
  }

  pub near_absent : (n : ℕ) → is_at n r + occurs n t ≡ 0 → (network_of N r t).near n ≡ []
  near_absent n h = near_other n (λ e. let one = is_at-same n r e in omega arith) ∙ absent r t n (omega arith)

-- a name that has no neighbours, or is the root of the tree as it sees it
Found : ℕ → ℕ → ℕ → Network → ℕ → Type 0
Found a p M G v = (G.near v ≡ []) ⊎ ((act : Bool) × (t : Tree ℕ) × IsPlant a p M G act v t)

module _ (a p M : ℕ) (G : Network) where
  nothing : (v w : ℕ) → G.near v ≡ [] → Contains (G.near v) w → ⊥
  nothing v w e held = let (k, l, is) = subst (λ xs. Contains xs w) e held in omega arith

  neighbour : (act : Bool) (v : ℕ) (t : Tree ℕ) (w : ℕ) → IsPlant a p M G act v t → Contains (G.near v) w
      → (s : Tree ℕ) × IsPlant a p M G (not act) w s × Contains (payloads s) v
  neighbour act v t w found held =
      let (k, c, there, is) = child_of_top t w (subst (λ xs. Contains xs w) found.rooted.near held) in
      let back : Child ℕ = record { back = suc k; payload = v; branch = others k t } in (
        moved v k c t,
        subst (λ m. IsPlant a p M G (not act) m (moved v k c t)) is (IsPlant-moved a p M G act v k c t there found),
        subst (λ xs. Contains xs v) (sym (payloads-put (pred c.back) back c.branch)) (Contains-insert (pred c.back) v (payloads c.branch)),
      )

  degrees : (v : ℕ) → Found a p M G v → length (G.near v) ≤ (if G.active v then a else p)
  unfolding Found
  degrees v (inl e) = subst (λ xs. length xs ≤ (if G.active v then a else p)) (sym e) (omega arith)
  degrees v (inr (act, t, found)) = rw (found.rooted.near, found.kind) found.degree

  below : (v w : ℕ) → Contains (G.near v) w → Found a p M G v → (v < M) × (w < M)
  unfolding Found
  below v w held (inl e) = absurd (nothing v w e held)
  below v w held (inr (act, t, found)) = let (s, next, back) = neighbour act v t w found held in (found.below, next.below)

  turns : (v w : ℕ) → Contains (G.near v) w → Found a p M G v → G.active w ≡ not (G.active v)
  unfolding Found
  turns v w held (inl e) = absurd (nothing v w e held)
  turns v w held (inr (act, t, found)) = let (s, next, back) = neighbour act v t w found held in next.kind ∙ ap not (sym found.kind)

  both : (v w : ℕ) → Contains (G.near v) w → Found a p M G v → Contains (G.near w) v
  unfolding Found
  both v w held (inl e) = absurd (nothing v w e held)
  both v w held (inr (act, t, found)) = let (s, next, back) = neighbour act v t w found held in subst (λ xs. Contains xs v) (sym next.rooted.near) back

  acyclic : (v k : ℕ) → Found a p M G v → AreDifferent (ball G k v)
  unfolding Found
  acyclic v zero h = (λ (j, l, e). omega arith, tt)
  acyclic v (suc k) (inl e) = subst (λ xs. AreDifferent (v ∷ flat_map (λ w. branch G k v w) xs)) (sym e) (λ (j, l, e). omega arith, tt)
  acyclic v (suc k) (inr (act, t, found)) = different_ball G a p M act v t found (suc k)

  -- a network that shows a whole tree, and has no neighbours elsewhere, is a forest
  pub IsForest-plant : (act : Bool) (r : ℕ) (t : Tree ℕ) → IsPlant a p M G act r t → ((n : ℕ) → is_at n r + occurs n t ≡ 0 → G.near n ≡ []) → IsForest a p M G
  unfolding Found
  IsForest-plant act r t plant absent =
      let at : (v : ℕ) → Found a p M G v = λ v. elim (zero_or (is_at v r + occurs v t)) [ inl none ↦ inl (absent v none) | inr some ↦ inr (find a p M G act r t v plant some) ] in
      record {
        degrees = λ v. degrees v (at v);
        below = λ v w held. below v w held (at v);
        turns = λ v w held. turns v w held (at v);
        both = λ v w held. both v w held (at v);
        acyclic = λ v k. acyclic v k (at v);
      }
