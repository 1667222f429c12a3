-- Networks that show the same tree to a depth are the same within as many hops from its root.
use Rattle.std.proofs.Common.{◌≡◌, ℕ, zero, suc, pred, Some, List, [], ◌∷◌, refl, sym, ◌∙◌, ap, subst, arith}
use Rattle.std.specs.Prelude.{Contains, unwrap_or}
use Rattle.std.specs.List.{AllByRecursion}
use Rattle.re_forests.proofs.Moving.{Rooted, Rooted-moved}
use Rattle.re_forests.proofs.NamedTrees.{IsNode, child_of_top, moved}
use Rattle.re_layers.specs.Networks.{AreSame, Network}
use Rattle.re_laws.specs.Trees.{Child, Tree, child_at, end, leaf, more, others, put}

-- no leaf within so many hops
abbrev pub Reaches : ℕ → Tree ℕ → Type 0
Reaches zero t = Unit {0}
Reaches (suc k) leaf = ⊥
Reaches (suc k) end = Unit {0}
Reaches (suc k) (more back name branch rest) = Reaches k branch × Reaches (suc k) rest

pub Reaches-less : (k : ℕ) (t : Tree ℕ) → Reaches (suc k) t → Reaches k t
Reaches-less zero t h = tt
Reaches-less (suc k) leaf h = h
Reaches-less (suc k) end h = tt
Reaches-less (suc k) (more back name branch rest) h = (Reaches-less k branch h.0, Reaches-less (suc k) rest h.1)

Reaches-child : (k i : ℕ) (c : Child ℕ) (t : Tree ℕ) → child_at i t ≡ Some c → Reaches (suc k) t → Reaches k c.branch × Reaches (suc k) (others i t)
Reaches-child k i c leaf at h = absurd h
Reaches-child k i c end at h = absurd (cc)
Reaches-child k zero c (more back name branch rest) at h =
    let is : _ = ap (λ found. unwrap_or found c) at in
    subst (λ (c : Child ℕ). Reaches k c.branch × Reaches (suc k) rest) is h
Reaches-child k (suc i) c (more back name branch rest) at h = let (here, later) = Reaches-child k i c rest at h.1 in (here, (h.0, later))

Reaches-put : (k i : ℕ) (c : Child ℕ) (t : Tree ℕ) → Reaches k c.branch → Reaches (suc k) t → Reaches (suc k) (put i c t)
Reaches-put k zero c t here h = (here, h)
Reaches-put k (suc i) c leaf here h = absurd h
Reaches-put k (suc i) c end here h = (here, tt)
Reaches-put k (suc i) c (more back name branch rest) here h = (h.0, Reaches-put k i c rest here h.1)

Reaches-moved : (k r i : ℕ) (c : Child ℕ) (t : Tree ℕ) → child_at i t ≡ Some c → Reaches (suc (suc k)) t → Reaches (suc k) (moved r i c t)
Reaches-moved k r i c t at h =
    let (here, later) = Reaches-child (suc k) i c t at h in
    Reaches-put k (pred c.back) (record { back = suc i; payload = r; branch = others i t }) c.branch (Reaches-less k (others i t) (Reaches-less (suc k) (others i t) later)) here

Reaches-node : (k : ℕ) (t : Tree ℕ) → Reaches (suc k) t → IsNode t
Reaches-node k leaf h = h
Reaches-node k end h = tt
Reaches-node k (more back name branch rest) h = tt

all_of : (P : ℕ → Type 0) (xs : List ℕ) → ((x : ℕ) → Contains xs x → P x) → AllByRecursion P xs
all_of P [] each = tt
all_of P (x ∷ xs) each = (each x (zero, omega arith, refl), all_of P xs (λ y (k, l, e). each y (suc k, omega arith, e)))

behind_child : (G H : Network) (T r : ℕ) (t : Tree ℕ) → Reaches (suc (suc T)) t → Rooted G r t → Rooted H r t
    → ((r' : ℕ) (t' : Tree ℕ) → Reaches (suc T) t' → Rooted G r' t' → Rooted H r' t' → AreSame (suc T) G H r')
    → (w : ℕ) → (k : ℕ) × (c : Child ℕ) × (child_at k t ≡ Some c) × (c.payload ≡ w) → AreSame (suc T) G H w
behind_child G H T r t reaches g h each w (k, c, at, is) =
    let node : IsNode c.branch = Reaches-node T c.branch (Reaches-child (suc T) k c t at reaches).0 in
    subst (λ w. AreSame (suc T) G H w) is
    (each c.payload (moved r k c t) (Reaches-moved T r k c t at reaches) (Rooted-moved G r k c t at node g) (Rooted-moved H r k c t at node h))

pub AreSame-shown : (G H : Network) → ((n : ℕ) → G.active n ≡ H.active n) → (T r : ℕ) (t : Tree ℕ) → Reaches T t → Rooted G r t → Rooted H r t → AreSame T G H r
AreSame-shown G H same zero r t reaches g h = same r
AreSame-shown G H same (suc zero) r t reaches g h = (same r, g.near ∙ sym h.near, all_of (λ w. G.active w ≡ H.active w) (G.near r) (λ w held. same w))
AreSame-shown G H same (suc (suc T)) r t reaches g h = (
  same r,
  g.near ∙ sym h.near,
  all_of (λ w. AreSame (suc T) G H w) (G.near r)
      (λ w held. behind_child G H T r t reaches g h (λ r' t'. AreSame-shown G H same (suc T) r' t') w (child_of_top t w (subst (λ xs. Contains xs w) g.near held))),
)
