-- What is decided by what few hops show.
use Rattle.std.proofs.Common.{◌≡◌, ℕ, zero, suc, ◌+◌, ◌≤◌, Bool, not, List, [], ◌∷◌, map, refl, sym, ap, ap₂, ◌∙◌, subst, arith, inl, inr, suc-add}
use Rattle.std.specs.Prelude.{Contains, ◌==◌, filter, flat_map}
use Rattle.re_layers.proofs.Balls.{others_near}
use Rattle.re_labels.proofs.Membership.{AllByRecursion-contains, AllByRecursion-weaker, Contains-cases, Contains-filter_cases, Contains-flat_map_cases, Contains-none, flat_map-alike, map-alike}
use Rattle.re_layers.specs.Networks.{AreSame, IsLocal, Network, ball, branch, others}

-- ---- fewer hops show less
pub same_fewer : (G H : Network) (r T v : ℕ) → r ≤ T → AreSame T G H v → AreSame r G H v
same_fewer G H zero zero v l same = same
same_fewer G H zero (suc T) v l same = same.0
same_fewer G H (suc r) zero v l same = absurd (omega arith)
same_fewer G H (suc r) (suc T) v l same =
    (same.0, same.1, AllByRecursion-weaker (λ w. AreSame T G H w) (λ w. AreSame r G H w) (λ w at. same_fewer G H r T w (omega arith) at) (G.near v) same.2)

pub same_less : (G H : Network) (T v : ℕ) → AreSame (suc T) G H v → AreSame T G H v
same_less G H T v same = same_fewer G H T (suc T) v (omega arith) same

pub same_active : (G H : Network) (T v : ℕ) → AreSame T G H v → G.active v ≡ H.active v
same_active G H zero v same = same
same_active G H (suc T) v same = same.0

pub same_near : (G H : Network) (T v w : ℕ) → AreSame (suc T) G H v → Contains (G.near v) w → AreSame T G H w
same_near G H T v w same held = AllByRecursion-contains (λ w. AreSame T G H w) (G.near v) w same.2 held

-- ---- balls and branches
-- what is seen at v, and in pieces behind its ports
same_pieces : (G H : Network) (k r v : ℕ) (near near' : List ℕ) → near ≡ near' → AreSame r G H v
    → ((w : ℕ) → Contains near w → (branch G k v w ≡ branch H k v w) × ((x : ℕ) → Contains (branch G k v w) x → AreSame r G H x))
    → (v ∷ flat_map (λ w. branch G k v w) near ≡ v ∷ flat_map (λ w. branch H k v w) near')
    × ((w : ℕ) → Contains (v ∷ flat_map (λ w. branch G k v w) near) w → AreSame r G H w)
same_pieces G H k r v near near' ports own each = (
  ap (λ l. v ∷ l) (flat_map-alike (λ w. branch G k v w) (λ w. branch H k v w) near (λ w held. (each w held).0) ∙ ap (λ l. flat_map (λ w. branch H k v w) l) ports),
  λ w held. elim (Contains-cases w v (flat_map (λ w. branch G k v w) near) held) [
    | inl e ↦ subst (λ z. AreSame r G H z) (sym e) own
    | inr later ↦ (let (x, there, at) = Contains-flat_map_cases (λ w. branch G k v w) near w later in (each x there).1 w at)
  ],
)

-- k hops from v stand the same nodes, from which r hops show the same
pub same_branch : (G H : Network) (k r u v : ℕ) → AreSame (k + r) G H v
    → (branch G k u v ≡ branch H k u v) × ((w : ℕ) → Contains (branch G k u v) w → AreSame r G H w)
same_branch G H zero r u v same = (
  refl,
  λ w held. elim (Contains-cases w v [] held) [
    | inl e ↦ subst (λ z. AreSame r G H z) (sym e) (same_fewer G H r (zero + r) v (omega arith) same)
    | inr none ↦ absurd (Contains-none w none)
  ],
)
same_branch G H (suc k) r u v same =
    let more : AreSame (suc (k + r)) G H v = subst (λ T. AreSame T G H v) (suc-add k r) same in
    same_pieces G H k r v (others G u v) (others H u v) (ap (λ near. filter (λ w. not (w == u)) near) more.1) (same_fewer G H r (suc k + r) v (omega arith) same)
    (λ w held. same_branch G H k r v w (same_near G H (k + r) v w more (others_near G u v w held)))

pub same_ball : (G H : Network) (k r v : ℕ) → AreSame (k + r) G H v
    → (ball G k v ≡ ball H k v) × ((w : ℕ) → Contains (ball G k v) w → AreSame r G H w)
same_ball G H zero r v same = same_branch G H zero r v v same
same_ball G H (suc k) r v same =
    let more : AreSame (suc (k + r)) G H v = subst (λ T. AreSame T G H v) (suc-add k r) same in
    same_pieces G H k r v (G.near v) (H.near v) more.1 (same_fewer G H r (suc k + r) v (omega arith) same)
    (λ w held. same_branch G H k r v w (same_near G H (k + r) v w more held))

-- ---- local functions
pub local_most : {X : Type 0} (r T : ℕ) (f : Network → ℕ → X) → r ≤ T → IsLocal r f → IsLocal T f
local_most r T f l is G H v same = is G H v (same_fewer G H r T v l same)

-- what is made of two local things
pub local_of : {X Y Z : Type 0} (T : ℕ) (h : X → Y → Z) (f : Network → ℕ → X) (g : Network → ℕ → Y)
    → IsLocal T f → IsLocal T g → IsLocal T (λ G v. h (f G v) (g G v))
local_of T h f g is also G H v same = ap₂ h (is G H v same) (also G H v same)

-- what those nodes of a ball have that pass a test
pub local_among : {X : Type 0} (k r : ℕ) (test : ℕ → ℕ → Bool) (f : Network → ℕ → X) → IsLocal r f
    → IsLocal (k + r) (λ G v. map (λ w. f G w) (filter (λ w. test v w) (ball G k v)))
local_among k r test f is G H v same =
    let (balls, each) = same_ball G H k r v same in
    map-alike (λ w. f G w) (λ w. f H w) (filter (λ w. test v w) (ball G k v)) (λ w held. is G H w (each w (Contains-filter_cases (λ w. test v w) (ball G k v) w held).0))
    ∙ ap (λ l. map (λ w. f H w) (filter (λ w. test v w) l)) balls

-- what the nodes of a ball have
pub local_within : {X : Type 0} (k r : ℕ) (f : Network → ℕ → X) → IsLocal r f → IsLocal (k + r) (λ G v. map (λ w. f G w) (ball G k v))
local_within k r f is G H v same =
    let (balls, each) = same_ball G H k r v same in
    map-alike (λ w. f G w) (λ w. f H w) (ball G k v) (λ w held. is G H w (each w held)) ∙ ap (λ l. map (λ w. f H w) l) balls
