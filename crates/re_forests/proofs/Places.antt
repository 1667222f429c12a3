-- The nodes of a forest and those thought behind it: a node with fewer neighbours than ports has at each further port one of these, and so on.
use Rattle.std.proofs.Common.{◌≡◌, ℕ, zero, suc, pred, ◌-◌, ◌≤◌, ◌<◌, Bool, true, false, not, List, [], ◌∷◌, length, map, get_or, refl, sym, ◌∙◌, ap, subst, arith, inl, inr}
use Rattle.std.specs.Prelude.{Contains, if◌then◌else◌}
use Rattle.std.proofs.Math.Bool.{not-not}
use Rattle.std.proofs.lemmas.Bool.{cases_lt}
use Rattle.std.proofs.lemmas.List.{get_or-map, get_or_past, length-map}
use Rattle.std.proofs.lemmas.List.Elements.{Contains-get_or}
use Rattle.re_forests.proofs.Filled.{port}
use Rattle.re_forests.proofs.Ports.{near_differ, placed, port_at}
use Rattle.re_forests.proofs.Views.{IsPorted, Ported}
use Rattle.re_layers.specs.Networks.{AreDifferent, IsForest, Network}

-- a node of the network, or what is thought at a port of a place, the port of which to that place is its first
pub data Place : Type 0 where
  real : (v : ℕ) → Place
  beyond : (parent : Place) (port : ℕ) → Place

abbrev pub kind_of : Network → Place → Bool
kind_of G (real v) = G.active v
kind_of G (beyond u i) = not (kind_of G u)

-- a place behind a node or another place gets the spare colours of what is around that, in order
abbrev pub colour_of : {E : Type 0} → (List E → ℕ → E) → (ℕ → E) → Network → Place → E
colour_of spare colour G (real v) = colour v
colour_of spare colour G (beyond (real w) i) = spare (map colour (G.near w)) (i - length (G.near w))
colour_of spare colour G (beyond (beyond u j) i) = spare (colour_of spare colour G u ∷ []) (pred i)

abbrev pub next_of : Network → Place → ℕ → Place
next_of G (real v) k = get_or (map (λ w. real w) (G.near v)) k (beyond (real v) k)
next_of G (beyond u i) zero = u
next_of G (beyond u i) (suc k) = beyond (beyond u i) (suc k)

abbrev pub back_of : Network → Place → ℕ → ℕ
back_of G (real v) k = get_or (map (λ w. port (G.near w) v) (G.near v)) k 0
back_of G (beyond u i) zero = i
back_of G (beyond u i) (suc k) = 0

-- the graph of all places, with these colours
abbrev pub places : {E : Type 0} → ℕ → ℕ → (Place → E) → Network → Ported Place E
places a p colour G = record {
  active = kind_of G;
  colour = colour;
  degree = λ active. if active then a else p;
  next = next_of G;
  back = back_of G;
}

-- the ports at which places are thought have no neighbour
abbrev pub IsGood : ℕ → ℕ → Network → Place → Type 0
IsGood a p G (real v) = Unit {0}
IsGood a p G (beyond u i) = (next_of G u i ≡ beyond u i) × (back_of G u i ≡ 0) × (i < (if kind_of G u then a else p)) × IsGood a p G u

-- ---- real ports and others
-- the port to a neighbour is one, and leads to it
port_held : (near : List ℕ) (w : ℕ) → AreDifferent near → Contains near w → (port near w < length near) × (get_or near (port near w) 0 ≡ w)
port_held near w differ held =
    let (k, low, at) = placed near w held in
    let is : port near w ≡ k = subst (λ v. port near v ≡ k) at (port_at near k differ low) in
    (subst (λ j. j < length near) (sym is) low, ap (λ j. get_or near j 0) is ∙ at)

pub next_real : (G : Network) (v k : ℕ) → k < length (G.near v) → next_of G (real v) k ≡ real (get_or (G.near v) k 0)
next_real G v k low = get_or-map (λ w. real w) (G.near v) k 0 (beyond (real v) k) low

pub back_real : (G : Network) (v k : ℕ) → k < length (G.near v) → back_of G (real v) k ≡ port (G.near (get_or (G.near v) k 0)) v
back_real G v k low = get_or-map (λ w. port (G.near w) v) (G.near v) k 0 0 low

pub next_past : (G : Network) (v k : ℕ) → length (G.near v) ≤ k → next_of G (real v) k ≡ beyond (real v) k
next_past G v k past =
    let same : length (map (λ w. real w) (G.near v)) ≡ length (G.near v) = length-map (G.near v) (λ w. real w) in
    get_or_past (map (λ w. real w) (G.near v)) k (beyond (real v) k) (omega arith)

pub back_past : (G : Network) (v k : ℕ) → length (G.near v) ≤ k → back_of G (real v) k ≡ 0
back_past G v k past =
    let same : length (map (λ w. port (G.near w) v) (G.near v)) ≡ length (G.near v) = length-map (G.near v) (λ w. port (G.near w) v) in
    get_or_past (map (λ w. port (G.near w) v) (G.near v)) k 0 (omega arith)

-- each port of a node leads to a neighbour or lies behind those that do
pub by_port : {P : Type 0} (k n : ℕ) → (k < n → P) → (n ≤ k → P) → P
by_port k n low past = elim (cases_lt k n) [ inl l ↦ low l | inr l ↦ past l ]

-- ---- the laws of ports
module _ {E : Type 0} (a p N : ℕ) (colour : Place → E) (G : Network) (forest : IsForest a p N G) (some_active : 0 < a) (some_passive : 0 < p) where
  held : (v k : ℕ) → k < length (G.near v) → Contains (G.near v) (get_or (G.near v) k 0)
  held v k low = Contains-get_or (G.near v) k 0 low

  some : (b : Bool) → 0 < (if b then a else p)
  some true = some_active
  some false = some_passive

  -- the port by which a neighbour leads back
  back_at : (v k : ℕ) → k < length (G.near v) → (port (G.near (get_or (G.near v) k 0)) v < length (G.near (get_or (G.near v) k 0)))
      × (get_or (G.near (get_or (G.near v) k 0)) (port (G.near (get_or (G.near v) k 0)) v) 0 ≡ v)
  back_at v k low =
      port_held (G.near (get_or (G.near v) k 0)) v (near_differ G forest (get_or (G.near v) k 0)) (forest.both v (get_or (G.near v) k 0) (held v k low))

  stays : (x : Place) (k : ℕ) → IsGood a p G x → k < (if kind_of G x then a else p) → IsGood a p G (next_of G x k)
  stays (real v) k ok l = by_port k (length (G.near v))
      (λ low. subst (IsGood a p G) (sym (next_real G v k low)) tt)
      (λ past. subst (IsGood a p G) (sym (next_past G v k past)) (next_past G v k past, back_past G v k past, l, tt))
  stays (beyond u i) zero ok l = ok.3
  stays (beyond u i) (suc k) ok l = (refl, refl, l, ok)

  turns : (x : Place) (k : ℕ) → IsGood a p G x → k < (if kind_of G x then a else p) → kind_of G (next_of G x k) ≡ not (kind_of G x)
  turns (real v) k ok l = by_port k (length (G.near v))
      (λ low. ap (kind_of G) (next_real G v k low) ∙ forest.turns v (get_or (G.near v) k 0) (held v k low))
      (λ past. ap (kind_of G) (next_past G v k past))
  turns (beyond u i) zero ok l = sym (not-not (kind_of G u))
  turns (beyond u i) (suc k) ok l = refl

  within : (x : Place) (k : ℕ) → IsGood a p G x → k < (if kind_of G x then a else p) → back_of G x k < (if not (kind_of G x) then a else p)
  within (real v) k ok l = by_port k (length (G.near v))
      (λ low.
      let back = back_at v k low in
      let most : length (G.near (get_or (G.near v) k 0)) ≤ (if not (G.active v) then a else p) =
      subst (λ (b : Bool). length (G.near (get_or (G.near v) k 0)) ≤ (if b then a else p)) (forest.turns v (get_or (G.near v) k 0) (held v k low)) (forest.degrees (get_or (G.near v) k 0)) in
      subst (λ j. j < (if not (G.active v) then a else p)) (sym (back_real G v k low)) (omega arith))
      (λ past. subst (λ j. j < (if not (G.active v) then a else p)) (sym (back_past G v k past)) (some (not (G.active v))))
  within (beyond u i) zero ok l = subst (λ (b : Bool). i < (if b then a else p)) (sym (not-not (kind_of G u))) ok.2
  within (beyond u i) (suc k) ok l = some (not (not (kind_of G u)))

  there : (x : Place) (k : ℕ) → IsGood a p G x → k < (if kind_of G x then a else p) → next_of G (next_of G x k) (back_of G x k) ≡ x
  there (real v) k ok l = by_port k (length (G.near v))
      (λ low.
      let (less, at) = back_at v k low in
      rw (next_real G v k low, back_real G v k low)
      (next_real G (get_or (G.near v) k 0) (port (G.near (get_or (G.near v) k 0)) v) less ∙ ap (λ w. real w) at))
      (λ past. rw (next_past G v k past, back_past G v k past) refl)
  there (beyond u i) zero ok l = ok.0
  there (beyond u i) (suc k) ok l = refl

  same : (x : Place) (k : ℕ) → IsGood a p G x → k < (if kind_of G x then a else p) → back_of G (next_of G x k) (back_of G x k) ≡ k
  same (real v) k ok l = by_port k (length (G.near v))
      (λ low.
      let (less, at) = back_at v k low in
      rw (next_real G v k low, back_real G v k low)
      (back_real G (get_or (G.near v) k 0) (port (G.near (get_or (G.near v) k 0)) v) less
      ∙ ap (λ w. port (G.near w) (get_or (G.near v) k 0)) at ∙ port_at (G.near v) k (near_differ G forest v) low))
      (λ past. rw (next_past G v k past, back_past G v k past) refl)
  same (beyond u i) zero ok l = ok.1
  same (beyond u i) (suc k) ok l = refl

  pub IsPorted-places : IsPorted (places a p colour G) (IsGood a p G)
  IsPorted-places = record { stays = stays; turns = turns; within = within; there = there; same = same }
