-- What a network shows of a named tree, it shows of the tree as a child of its root sees it.
use Rattle.std.proofs.Common.{◌≡◌, ℕ, zero, suc, pred, Some, sym, ◌∙◌, ap, subst}
use Rattle.std.specs.Prelude.{unwrap_or}
use Rattle.re_forests.proofs.NamedTrees.{IsNode, insert, insert-others, moved, payloads-put}
use Rattle.re_layers.specs.Networks.{Network}
use Rattle.re_given.specs.InputViews.{payloads}
use Rattle.re_laws.specs.Trees.{Child, Tree, child_at, end, leaf, more, others, put}

-- the neighbours of m are those of its branch, and q at its port
abbrev pub Knows : Network → ℕ → ℕ → ℕ → Tree ℕ → Type 0
Knows G q back m branch = IsNode branch → G.near m ≡ insert (pred back) q (payloads branch)

-- the network is as the tree says, behind its root q
abbrev pub Behind : Network → ℕ → Tree ℕ → Type 0
Behind G q leaf = Unit {0}
Behind G q end = Unit {0}
Behind G q (more back name branch rest) = Knows G q back name branch × Behind G name branch × Behind G q rest

-- and at its root
pub record Rooted (G : Network) (r : ℕ) (t : Tree ℕ) : Type 0 where
  pub near : G.near r ≡ payloads t
  pub behind : Behind G r t

pub Behind-put : (G : Network) (q k : ℕ) (c : Child ℕ) (t : Tree ℕ) → Knows G q c.back c.payload c.branch → Behind G c.payload c.branch → Behind G q t → Behind G q (put k c t)
Behind-put G q zero c t knows below h = (knows, below, h)
Behind-put G q (suc k) c leaf knows below h = (knows, below, tt)
Behind-put G q (suc k) c end knows below h = (knows, below, tt)
Behind-put G q (suc k) c (more back name branch rest) knows below h = (h.0, h.1, Behind-put G q k c rest knows below h.2)

pub Behind-child : (G : Network) (q k : ℕ) (c : Child ℕ) (t : Tree ℕ) → child_at k t ≡ Some c → Behind G q t → Knows G q c.back c.payload c.branch × Behind G c.payload c.branch × Behind G q (others k t)
Behind-child G q k c leaf at h = absurd (cc)
Behind-child G q k c end at h = absurd (cc)
Behind-child G q zero c (more back name branch rest) at h =
    let is : _ = ap (λ found. unwrap_or found c) at in
    subst (λ (c : Child ℕ). Knows G q c.back c.payload c.branch × Behind G c.payload c.branch × Behind G q rest) is h
Behind-child G q (suc k) c (more back name branch rest) at h =
    let (knows, below, later) = Behind-child G q k c rest at h.2 in
    (knows, below, (h.0, h.1, later))

pub Rooted-moved : (G : Network) (r k : ℕ) (c : Child ℕ) (t : Tree ℕ) → child_at k t ≡ Some c → IsNode c.branch → Rooted G r t → Rooted G c.payload (moved r k c t)
Rooted-moved G r k c t at node h =
    let (knows, below, later) = Behind-child G r k c t at h.behind in
    let back : Child ℕ = record { back = suc k; payload = r; branch = others k t } in
    record {
      near = knows node ∙ sym (payloads-put (pred c.back) back c.branch);
      behind = Behind-put G c.payload (pred c.back) back c.branch (λ _. h.near ∙ sym (insert-others k c t at)) later below;
    }
