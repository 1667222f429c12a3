-- Walks that never turn back, and the paths of labels along them.
use Rattle.std.proofs.Common.{◌≡◌, ℕ, zero, suc, ◌+◌, Bool, List, refl, sym, ◌∙◌, ap, ap₂, subst, arith, suc-add}
use Rattle.std.specs.Prelude.{Contains, not}
use Rattle.std.proofs.Math.Bool.{not-not}
use Rattle.re_forests.proofs.EdgeLabels.{joins_around, label_on, label_turned}
use Rattle.re_forests.proofs.Growing.{path_kind}
use Rattle.re_forests.proofs.TrimmedEdges.{Fine}
use Rattle.re_forests.specs.Flexible.{Leads}
use Rattle.re_forests.specs.OnForests.{SolvesOn}
use Rattle.re_layers.specs.Networks.{IsForest, Network}
use Rattle.re_problem.specs.Problems.{IsProblem, Problem}

-- from the edge that leads from u to v, through n nodes of which v is the first, to the edge that leads from x to y
abbrev pub Walk : Network → ℕ → ℕ → ℕ → ℕ → ℕ → Type 0
Walk G zero u v x y = (u ≡ x) × (v ≡ y)
Walk G (suc n) u v x y = (w : ℕ) × Contains (G.near v) w × (w ≡ u → ⊥) × Walk G n v w x y

pub walk_joined : (G : Network) (m n u v x y s t : ℕ) → Walk G m u v x y → Walk G n x y s t → Walk G (m + n) u v s t
walk_joined G zero n u v x y s t first second =
    subst (λ k. Walk G k u v s t) (let e : n ≡ zero + n = omega arith in e)
    (subst (λ z. Walk G n z v s t) (sym first.0) (subst (λ z. Walk G n x z s t) (sym first.1) second))
walk_joined G (suc m) n u v x y s t first second =
    subst (λ k. Walk G k u v s t) (sym (suc-add m n)) (first.0, first.1, first.2, walk_joined G m n v first.0 x y s t first.3 second)

pub walk_as_long : (G : Network) (m n u v x y : ℕ) → m ≡ n → Walk G m u v x y → Walk G n u v x y
walk_as_long G m n u v x y e walk = subst (λ k. Walk G k u v x y) e walk

pub walk_one_more : (G : Network) (n u v x y w : ℕ) → Walk G n u v x y → Contains (G.near y) w → (w ≡ x → ⊥) → Walk G (suc n) u v y w
walk_one_more G n u v x y w walk held ne =
    walk_as_long G (n + 1) (suc n) u v y w (omega arith) (walk_joined G n 1 u v x y y w walk (w, held, ne, (refl, refl)))

-- the same walk the other way
pub walk_back : (G : Network) → ((v w : ℕ) → Contains (G.near v) w → Contains (G.near w) v) → (n u v x y : ℕ) → Contains (G.near v) u → Walk G n u v x y → Walk G n y x v u
walk_back G both zero u v x y held walk = (sym walk.1, sym walk.0)
walk_back G both (suc n) u v x y held walk =
    let (w, at, ne, rest) = walk in
    walk_one_more G n y x w v u (walk_back G both n v w x y (both v w at) rest) held (λ e. ne (sym e))

pub walk_in : (G H : Network) → ((v w : ℕ) → Contains (G.near v) w → Contains (H.near v) w) → (n u v x y : ℕ) → Walk G n u v x y → Walk H n u v x y
walk_in G H more zero u v x y walk = walk
walk_in G H more (suc n) u v x y walk = (walk.0, more v walk.0 walk.1, walk.2, walk_in G H more n v walk.0 x y walk.3)

-- the last edge is one, where the first is
pub walk_edge : (G : Network) → (n u v x y : ℕ) → Contains (G.near u) v → Walk G n u v x y → Contains (G.near x) y
walk_edge G zero u v x y held walk = subst (λ z. Contains (G.near z) y) walk.0 (subst (λ z. Contains (G.near u) z) walk.1 held)
walk_edge G (suc n) u v x y held walk = walk_edge G n v walk.0 x y walk.1 walk.3

-- nodes along a walk have one part
pub walk_part : (G : Network) (part : ℕ → Bool) → ((v w : ℕ) → Contains (G.near v) w → part v ≡ part w) → (n u v x y : ℕ) → Walk G n u v x y → part y ≡ part v
walk_part G part kept zero u v x y walk = ap part (sym walk.1)
walk_part G part kept (suc n) u v x y walk = walk_part G part kept n v walk.0 x y walk.3 ∙ sym (kept v walk.0 walk.1)

-- ---- the kinds of nodes n hops from one
pub kind_not : (b : Bool) (n : ℕ) → path_kind (not b) n ≡ not (path_kind b n)
kind_not b zero = refl
kind_not b (suc n) = ap not (kind_not b n)

pub kind_add : (b : Bool) (m n : ℕ) → path_kind b (m + n) ≡ path_kind (path_kind b m) n
kind_add b m zero = ap (path_kind b) (let e : m + zero ≡ m = omega arith in e)
kind_add b m (suc n) = ap (path_kind b) (let e : m + suc n ≡ suc (m + n) = omega arith in e) ∙ ap not (kind_add b m n)

pub kind_twice : (b : Bool) (n : ℕ) → path_kind (path_kind b n) n ≡ b
kind_twice b zero = refl
kind_twice b (suc n) = ap not (kind_not (path_kind b n) n ∙ ap not (kind_twice b n)) ∙ not-not b

pub walk_kind : (G : Network) → ((v w : ℕ) → Contains (G.near v) w → G.active w ≡ not (G.active v)) → (n u v x y : ℕ) → Walk G n u v x y → G.active y ≡ path_kind (G.active v) n
walk_kind G turns zero u v x y walk = ap G.active (sym walk.1)
walk_kind G turns (suc n) u v x y walk =
    walk_kind G turns n v walk.0 x y walk.3 ∙ ap (λ b. path_kind b n) (turns v walk.0 walk.1) ∙ kind_not (G.active v) n

-- ---- labels
pub leads_joined : (problem : Problem) (set : List ℕ) (active : Bool) (m n x y z : ℕ)
    → Leads problem set active m x y → Leads problem set (path_kind active m) n y z → Leads problem set active (m + n) x z
leads_joined problem set active zero n x y z first second =
    subst (λ k. Leads problem set active k x z) (let e : n ≡ zero + n = omega arith in e) (subst (λ w. Leads problem set active n w z) (sym first) second)
leads_joined problem set active (suc m) n x y z first second =
    subst (λ k. Leads problem set active k x z) (sym (suc-add m n)) (
      first.0,
      first.1,
      first.2,
      leads_joined problem set (not active) m n first.0 y z first.3
          (subst (λ b. Leads problem set b n y z) (sym (kind_not active m)) second),
    )

module _ (problem : Problem) (N : ℕ) (G : Network) (labels : ℕ → List ℕ) (is : IsProblem problem)
    (forest : IsForest problem.active.degree problem.passive.degree N G) (solves : SolvesOn problem G labels)
    (set : List ℕ) (K : Network) (both : (v w : ℕ) → Contains (K.near v) w → Contains (K.near w) v)
    (edges : (v w : ℕ) → Contains (K.near v) w → Contains (G.near v) w) (fine : (v w : ℕ) → Contains (K.near v) w → Fine problem is N G labels forest solves set v) where
  -- along a walk whose nodes are full and have labels of a set alone stands a path of labels
  pub leads_of_walk : (n u v x y : ℕ) → Contains (K.near v) u → Walk K n u v x y → Leads problem set (G.active v) n (label_on G labels v u) (label_on G labels y x)
  leads_of_walk zero u v x y held walk = ap₂ (λ v u. label_on G labels v u) walk.1 walk.0
  leads_of_walk (suc n) u v x y held walk =
      let (w, at, ne, rest) = walk in
      let own = fine v w at in
      let kinds : G.active w ≡ not (G.active v) = forest.turns v w (edges v w at) in
      let next : Leads problem set (G.active w) n (label_on G labels w v) (label_on G labels y x) = leads_of_walk n v w x y (both v w at) rest in (
        label_on G labels v w,
        own.1 w (edges v w at),
        joins_around problem N G labels is forest solves set v u w own.0 own.1 (edges v u held) (edges v w at) ne,
        subst (λ b. Leads problem set b n (label_on G labels v w) (label_on G labels y x)) kinds
            (subst (λ z. Leads problem set (G.active w) n z (label_on G labels y x)) (sym (label_turned G labels v w kinds)) next),
      )
