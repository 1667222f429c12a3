-- Whole named trees that a network shows: their names are different, and so it is of the tree as any of its nodes sees it.
use Rattle.std.proofs.Common.{◌≡◌, ℕ, zero, suc, pred, ◌+◌, ◌≤◌, ◌<◌, Bool, not, Some, length, refl, sym, ◌∙◌, ap, subst, arith, ◌⊎◌, inl, inr}
use Rattle.std.specs.Prelude.{unwrap_or, if◌then◌else◌}
use Rattle.std.proofs.Math.Bool.{not-not}
use Rattle.re_forests.proofs.Counting.{is_at, is_at-cases, zero_or}
use Rattle.re_forests.proofs.Moving.{Rooted, Rooted-moved}
use Rattle.re_forests.proofs.NamedTrees.{IsNode, child_at-kept, length-insert, length-others, moved, occurs, occurs-others, occurs-put, payloads-put}
use Rattle.re_layers.specs.Networks.{Network}
use Rattle.re_given.specs.InputViews.{payloads}
use Rattle.re_laws.specs.Trees.{Child, Tree, child_at, end, leaf, more, others, put}

-- how many ports a node has
abbrev pub ports : ℕ → ℕ → Bool → ℕ
ports a p act = if act then a else p

-- behind a node: no leaf, active and passive nodes in turn, none with too many neighbours, and all names below M
abbrev pub Shaped : ℕ → ℕ → ℕ → Network → Bool → Tree ℕ → Type 0
Shaped a p M G act leaf = ⊥
Shaped a p M G act end = Unit {0}
Shaped a p M G act (more back name branch rest) =
    (name < M) × (G.active name ≡ not act) × (suc (length (payloads branch)) ≤ ports a p (not act)) × Shaped a p M G (not act) branch × Shaped a p M G act rest

pub record IsPlant (a p M : ℕ) (G : Network) (act : Bool) (r : ℕ) (t : Tree ℕ) : Type 0 where
  pub rooted : Rooted G r t
  pub below : r < M
  pub kind : G.active r ≡ act
  pub degree : length (payloads t) ≤ ports a p act
  pub shaped : Shaped a p M G act t
  pub apart : (n : ℕ) → is_at n r + occurs n t ≤ 1

module _ (a p M : ℕ) (G : Network) where
  Shaped-node : (act : Bool) (t : Tree ℕ) → Shaped a p M G act t → IsNode t
  Shaped-node act leaf h = absurd h
  Shaped-node act end h = tt
  Shaped-node act (more back name branch rest) h = tt

  Shaped-put : (act : Bool) (k : ℕ) (c : Child ℕ) (t : Tree ℕ) → c.payload < M → G.active c.payload ≡ not act
      → suc (length (payloads c.branch)) ≤ ports a p (not act) → Shaped a p M G (not act) c.branch → Shaped a p M G act t → Shaped a p M G act (put k c t)
  Shaped-put act zero c t below kind degree behind h = (below, kind, degree, behind, h)
  Shaped-put act (suc k) c leaf below kind degree behind h = absurd h
  Shaped-put act (suc k) c end below kind degree behind h = (below, kind, degree, behind, tt)
  Shaped-put act (suc k) c (more back name branch rest) below kind degree behind h =
      (h.0, h.1, h.2, h.3, Shaped-put act k c rest below kind degree behind h.4)

  Shaped-child : (act : Bool) (k : ℕ) (c : Child ℕ) (t : Tree ℕ) → child_at k t ≡ Some c → Shaped a p M G act t
      → (c.payload < M) × (G.active c.payload ≡ not act) × (suc (length (payloads c.branch)) ≤ ports a p (not act)) × Shaped a p M G (not act) c.branch
      × Shaped a p M G act (others k t)
  Shaped-child act k c leaf at h = absurd (cc)
  Shaped-child act k c end at h = absurd (cc)
  Shaped-child act zero c (more back name branch rest) at h =
      let is : _ = ap (λ found. unwrap_or found c) at in
      subst (λ (c : Child ℕ). (c.payload < M) × (G.active c.payload ≡ not act) × (suc (length (payloads c.branch)) ≤ ports a p (not act)) × Shaped a p M G (not act) c.branch × Shaped a p M G act rest) is h
  Shaped-child act (suc k) c (more back name branch rest) at h =
      let (below, kind, degree, behind, later) = Shaped-child act k c rest at h.4 in
      (below, kind, degree, behind, (h.0, h.1, h.2, h.3, later))

  -- the tree as a child of its root sees it
  pub IsPlant-moved : (act : Bool) (r k : ℕ) (c : Child ℕ) (t : Tree ℕ) → child_at k t ≡ Some c → IsPlant a p M G act r t
      → IsPlant a p M G (not act) c.payload (moved r k c t)
  IsPlant-moved act r k c t at h =
      let (below, kind, degree, behind, later) = Shaped-child act k c t at h.shaped in
      let back : Child ℕ = record { back = suc k; payload = r; branch = others k t } in
      let most : suc (length (payloads (others k t))) ≤ ports a p act = subst (λ n. n ≤ ports a p act) (sym (length-others k c t at)) h.degree in
      let long : length (payloads (put (pred c.back) back c.branch)) ≡ suc (length (payloads c.branch)) = ap length (payloads-put (pred c.back) back c.branch) ∙ length-insert (pred c.back) r (payloads c.branch) in
      record {
        rooted = Rooted-moved G r k c t at (Shaped-node (not act) c.branch behind) h.rooted;
        below = below;
        kind = kind;
        degree = subst (λ n. n ≤ ports a p (not act)) (sym long) degree;
        shaped = Shaped-put (not act) (pred c.back) back c.branch h.below (h.kind ∙ sym (not-not act))
            (subst (λ b. suc (length (payloads (others k t))) ≤ ports a p b) (sym (not-not act)) most)
            (subst (λ b. Shaped a p M G b (others k t)) (sym (not-not act)) later) behind;
        apart = λ n. let one = occurs-put n (pred c.back) back c.branch in let two = occurs-others n k c t at in let three = h.apart n in omega arith;
      }

  -- each name of the tree is the root of the tree as it sees it
  find_in : (sub : Tree ℕ) (n : ℕ) → 1 ≤ occurs n sub → (act : Bool) (r : ℕ) (t : Tree ℕ) → IsPlant a p M G act r t
      → ((i : ℕ) (c : Child ℕ) → child_at i sub ≡ Some c → (k : ℕ) × (child_at k t ≡ Some c))
      → (act' : Bool) × (t' : Tree ℕ) × IsPlant a p M G act' n t'
  find_in leaf n h act r t plant each = absurd (omega arith)
  find_in end n h act r t plant each = absurd (omega arith)
  find_in (more back name branch rest) n h act r t plant each =
      let child : Child ℕ = record { back = back; payload = name; branch = branch } in
      let (k, at) = each zero child refl in
      let next : IsPlant a p M G (not act) name (moved r k child t) = IsPlant-moved act r k child t at plant in
      by next
      (λ l. find_in branch n l (not act) name (moved r k child t) next (λ i c there. child_at-kept (pred back) (record { back = suc k; payload = r; branch = others k t }) branch i c there))
      (λ l. find_in rest n l act r t plant (λ i c there. each (suc i) c there))
      (is_at-cases n name) (zero_or (occurs n branch))
    where
      by : {s : Tree ℕ} → IsPlant a p M G (not act) name s → (1 ≤ occurs n branch → (act' : Bool) × (t' : Tree ℕ) × IsPlant a p M G act' n t')
          → (1 ≤ occurs n rest → (act' : Bool) × (t' : Tree ℕ) × IsPlant a p M G act' n t')
          → ((n ≡ name) × (is_at n name ≡ 1)) ⊎ ((n ≡ name → ⊥) × (is_at n name ≡ 0)) → (occurs n branch ≡ 0) ⊎ (1 ≤ occurs n branch)
          → (act' : Bool) × (t' : Tree ℕ) × IsPlant a p M G act' n t'
      by {s} next behind later (inl (e, one)) at = (not act, s, subst (λ m. IsPlant a p M G (not act) m s) (sym e) next)
      by {s} next behind later (inr (e, none)) (inl empty) = later (omega arith)
      by {s} next behind later (inr (e, none)) (inr some) = behind some

  pub find : (act : Bool) (r : ℕ) (t : Tree ℕ) (n : ℕ) → IsPlant a p M G act r t → 1 ≤ is_at n r + occurs n t
      → (act' : Bool) × (t' : Tree ℕ) × IsPlant a p M G act' n t'
  find act r t n plant h = elim (is_at-cases n r) [
    | inl (e, one) ↦ (act, t, subst (λ m. IsPlant a p M G act m t) (sym e) plant)
    | inr (e, none) ↦ find_in t n (omega arith) act r t plant (λ i c at. (i, at))
  ]
