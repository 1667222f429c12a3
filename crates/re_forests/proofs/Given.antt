-- Labels from layers, the highest first: those of each layer from those of the layers above it, in a constant number of rounds.
use Rattle.std.proofs.Common.{◌≡◌, ℕ, zero, suc, ◌+◌, ◌*◌, ◌≤◌, ◌<◌, Bool, true, false, cond, eqb, leb, List, [], ◌∷◌, ◌++◌, length, map, get_or, refl, sym, ap, ◌∙◌, subst, arith}
use Rattle.std.specs.Prelude.{Contains, filter}
use Rattle.std.specs.List.{AllByRecursion, list_any}
use Rattle.std.proofs.lemmas.Bool.{cond-true, cond-false, cond_both, le-leb, lt-leb}
use Rattle.std.proofs.lemmas.List.{length-map}
use Rattle.re_forests.proofs.Filled.{length-one_given, length-two_given, one_given, one_given_all, port, two_given, two_given_all}
use Rattle.re_forests.proofs.Walks.{around, around_in, beside, beside_in, between, between_in, fixed, fixed_in, turned}
use Rattle.re_forests.proofs.Fills.{Fills}
use Rattle.re_forests.specs.OnForests.{label_towards}
use Rattle.re_labels.proofs.Membership.{any_found, any_true, filter-alike}
use Rattle.re_labels.proofs.Tests.{eqb-same, eqb-true}
use Rattle.re_layers.proofs.Locality.{local_most, same_ball, same_fewer, same_near}
use Rattle.re_layers.specs.Layers.{upper}
use Rattle.re_layers.specs.Networks.{AreSame, IsLocal, Network, ball}
use Rattle.re_problem.specs.Problems.{Problem}

-- ---- a label looked up
-- the label that u puts on its edge to w, as v sees it within k hops
abbrev pub seen : ℕ → Network → (ℕ → List ℕ) → ℕ → ℕ → ℕ → ℕ
seen k G labels v u w = cond (list_any (eqb u) (ball G k v)) (label_towards G labels w u) 0

pub seen_is : (k : ℕ) (G : Network) (labels : ℕ → List ℕ) (v u w : ℕ) → Contains (ball G k v) u → seen k G labels v u w ≡ label_towards G labels w u
seen_is k G labels v u w held = cond-true (list_any (eqb u) (ball G k v)) (label_towards G labels w u) 0 (any_true (eqb u) (ball G k v) u held (eqb-same u))

same_label : (G H : Network) (labels others : ℕ → List ℕ) (u w : ℕ) → labels u ≡ others u → G.near u ≡ H.near u → label_towards G labels w u ≡ label_towards H others w u
same_label G H labels others u w e f =
    ap (λ (own : List ℕ). get_or own (port (G.near u) w) 0) e ∙ ap (λ (near : List ℕ). get_or (others u) (port near w) 0) f

same_seen : (k T : ℕ) (G H : Network) (labels others : ℕ → List ℕ) (v u w : ℕ) → AreSame (k + suc T) G H v
    → ((x : ℕ) → AreSame T G H x → labels x ≡ others x) → seen k G labels v u w ≡ seen k H others v u w
same_seen k T G H labels others v u w same alike = go (list_any (eqb u) (ball G k v)) refl
  where
    balls : ball G k v ≡ ball H k v
    balls = (same_ball G H k (suc T) v same).0

    go : (b : Bool) → list_any (eqb u) (ball G k v) ≡ b → cond b (label_towards G labels w u) 0 ≡ seen k H others v u w
    go true is =
        let (y, held, e) = any_found (eqb u) (ball G k v) is in
        let there : AreSame (suc T) G H u = (same_ball G H k (suc T) v same).1 u (subst (Contains (ball G k v)) (sym (eqb-true u y e)) held) in
        let also : list_any (eqb u) (ball H k v) ≡ true = subst (λ nodes. list_any (eqb u) nodes ≡ true) balls is in
        same_label G H labels others u w (alike u (same_fewer G H T (suc T) u (omega arith) there)) there.1
        ∙ sym (cond-true (list_any (eqb u) (ball H k v)) (label_towards H others w u) 0 also)
    go false is =
        let also : list_any (eqb u) (ball H k v) ≡ false = subst (λ nodes. list_any (eqb u) nodes ≡ false) balls is in
        sym (cond-false (list_any (eqb u) (ball H k v)) (label_towards H others w u) 0 also)

abbrev pub before : ℕ → ℕ
before zero = zero
before (suc i) = i

-- the neighbour in the highest layer, where there is one that isn't lower
abbrev pub highest : (Network → ℕ → ℕ) → Network → ℕ → ℕ
highest layer G v = get_or (upper G (layer G) v ++ G.near v) 0 0

same_upper : (r T : ℕ) (layer : Network → ℕ → ℕ) (G H : Network) (v : ℕ) → IsLocal r layer → r ≤ T → AreSame (suc T) G H v
    → upper G (layer G) v ≡ upper H (layer H) v
same_upper r T layer G H v local most same =
    let own : layer G v ≡ layer H v = local G H v (same_fewer G H r (suc T) v (omega arith) same) in
    let near : G.near v ≡ H.near v = same.1 in
    filter-alike (λ w. leb (layer G v) (layer G w)) (λ w. leb (layer H v) (layer H w)) (G.near v)
    (λ w held. let other : layer G w ≡ layer H w = local G H w (same_fewer G H r T w most (same_near G H T v w same held)) in
    ap (λ x. leb x (layer G w)) own ∙ ap (λ x. leb (layer H v) x) other)
    ∙ ap (λ (nodes : List ℕ). filter (λ w. leb (layer H v) (layer H w)) nodes) near

-- ---- a node's labels
module _ (problem : Problem) (set : List ℕ) (l : ℕ) {Paths : Type 0} (fills : Fills problem set l Paths) where
  abbrev pub raked_labels : Bool → List ℕ → ℕ → ℕ → List ℕ
  raked_labels active near h z = one_given fills.some.0 h (fixed problem set l fills z) (around problem set l fills active z) near

  -- at the node behind i others on a path of nodes, the first of them of this kind, with x at its beginning and y at its end
  abbrev pub path_labels : Bool → List ℕ → List ℕ → ℕ → ℕ → ℕ → List ℕ
  path_labels active near own i x y =
      two_given fills.some.0 (get_or own i 0) (get_or own (suc (suc i)) 0) (between problem set l fills active x y i)
      (between problem set l fills active x y (suc i)) (beside problem set l fills active x y i) near

  abbrev pub labels_of : List ℕ → Bool → List ℕ → ℕ → ℕ → ℕ → ℕ → ℕ → List ℕ
  labels_of [] active near h z i x y = raked_labels active near h z
  labels_of (u ∷ own) active near h z i x y = path_labels (turned i active) near (u ∷ own) i x y

  pub labels_of-raked : (own : List ℕ) (active : Bool) (near : List ℕ) (h z i x y : ℕ) → own ≡ [] → labels_of own active near h z i x y ≡ raked_labels active near h z
  labels_of-raked [] active near h z i x y e = refl
  labels_of-raked (u ∷ own) active near h z i x y e = absurd (cc)

  pub labels_of-path : (own : List ℕ) (active : Bool) (near : List ℕ) (h z i x y : ℕ) → (own ≡ [] → ⊥)
      → labels_of own active near h z i x y ≡ path_labels (turned i active) near own i x y
  labels_of-path [] active near h z i x y e = absurd (e refl)
  labels_of-path (u ∷ own) active near h z i x y e = refl

  length-labels_of : (own : List ℕ) (active : Bool) (near : List ℕ) (h z i x y : ℕ) → length (labels_of own active near h z i x y) ≡ length near
  length-labels_of [] active near h z i x y = length-one_given fills.some.0 h (fixed problem set l fills z) (around problem set l fills active z) near
  length-labels_of (u ∷ own) active near h z i x y =
      length-two_given fills.some.0 (get_or (u ∷ own) i 0) (get_or (u ∷ own) (suc (suc i)) 0) (between problem set l fills (turned i active) x y i)
      (between problem set l fills (turned i active) x y (suc i)) (beside problem set l fills (turned i active) x y i) near

  labels_of_in : (own : List ℕ) (active : Bool) (near : List ℕ) (h z i x y : ℕ) → AllByRecursion (λ w. Contains set w) (labels_of own active near h z i x y)
  labels_of_in [] active near h z i x y =
      one_given_all (λ w. Contains set w) fills.some.0 fills.some.1 h (fixed problem set l fills z) (around problem set l fills active z) near
      (fixed_in problem set l fills z) (around_in problem set l fills active z)
  labels_of_in (u ∷ own) active near h z i x y =
      let kind = turned i active in
      two_given_all (λ w. Contains set w) fills.some.0 fills.some.1 (get_or (u ∷ own) i 0) (get_or (u ∷ own) (suc (suc i)) 0)
      (between problem set l fills kind x y i) (between problem set l fills kind x y (suc i)) (beside problem set l fills kind x y i) near
      (between_in problem set l fills kind x y i) (between_in problem set l fills kind x y (suc i)) (beside_in problem set l fills kind x y i)

  same_labels_of : {own own' : List ℕ} {active active' : Bool} {near near' : List ℕ} {h h' z z' i i' x x' y y' : ℕ}
      → own ≡ own' → active ≡ active' → near ≡ near' → h ≡ h' → z ≡ z' → i ≡ i' → x ≡ x' → y ≡ y'
      → labels_of own active near h z i x y ≡ labels_of own' active' near' h' z' i' x' y'
  same_labels_of {own} {own'} {active} {active'} {near} {near'} {h} {h'} {z} {z'} {i} {i'} {x} {x'} {y} {y'} e1 e2 e3 e4 e5 e6 e7 e8 =
      ap (λ (t : List ℕ). labels_of t active near h z i x y) e1 ∙ ap (λ (t : Bool). labels_of own' t near h z i x y) e2
      ∙ ap (λ (t : List ℕ). labels_of own' active' t h z i x y) e3 ∙ ap (λ (t : ℕ). labels_of own' active' near' t z i x y) e4
      ∙ ap (λ (t : ℕ). labels_of own' active' near' h' t i x y) e5 ∙ ap (λ (t : ℕ). labels_of own' active' near' h' z' t x y) e6
      ∙ ap (λ (t : ℕ). labels_of own' active' near' h' z' i' t y) e7 ∙ ap (λ (t : ℕ). labels_of own' active' near' h' z' i' x' t) e8

  module _ (layer : Network → ℕ → ℕ) (path : Network → ℕ → List ℕ) where
    -- from the labels of higher layers
    abbrev pub fresh : Network → (ℕ → List ℕ) → ℕ → List ℕ
    fresh G labels v =
        labels_of (path G v) (G.active v) (G.near v) (highest layer G v) (seen (suc (2 * l)) G labels v (highest layer G v) v) (before (port (path G v) v))
        (seen (suc (2 * l)) G labels v (get_or (path G v) 0 0) (get_or (path G v) 1 0))
        (seen (suc (2 * l)) G labels v (get_or (path G v) (suc (suc (2 * l))) 0) (get_or (path G v) (suc (2 * l)) 0))

    -- the labels of the n highest of M layers
    abbrev pub given : ℕ → ℕ → Network → ℕ → List ℕ
    given M zero G v = map (λ w. fills.some.0) (G.near v)
    given M (suc n) G v = cond (leb M (layer G v + n)) (given M n G v) (fresh G (given M n G) v)

    pub length-given : (M n : ℕ) (G : Network) (v : ℕ) → length (given M n G v) ≡ length (G.near v)
    length-given M zero G v = length-map (G.near v) (λ w. fills.some.0)
    length-given M (suc n) G v =
        cond_both (leb M (layer G v + n)) (given M n G v) (fresh G (given M n G) v) (λ (labels : List ℕ). length labels ≡ length (G.near v))
        (λ e. length-given M n G v) (λ e. length-labels_of (path G v) (G.active v) (G.near v) _ _ _ _ _)

    pub given_in : (M n : ℕ) (G : Network) (v : ℕ) → AllByRecursion (λ w. Contains set w) (given M n G v)
    given_in M zero G v = alike (G.near v)
      where
        alike : (near : List ℕ) → AllByRecursion (λ w. Contains set w) (map (λ w. fills.some.0) near)
        alike [] = tt
        alike (u ∷ near) = (fills.some.1, alike near)
    given_in M (suc n) G v =
        cond_both (leb M (layer G v + n)) (given M n G v) (fresh G (given M n G) v) (AllByRecursion (λ w. Contains set w))
        (λ e. given_in M n G v) (λ e. labels_of_in (path G v) (G.active v) (G.near v) _ _ _ _ _)

    pub given_old : (M n : ℕ) (G : Network) (v : ℕ) → M ≤ layer G v + n → given M (suc n) G v ≡ given M n G v
    given_old M n G v old = cond-true (leb M (layer G v + n)) (given M n G v) (fresh G (given M n G) v) (le-leb M (layer G v + n) old)

    pub given_new : (M n : ℕ) (G : Network) (v : ℕ) → layer G v + n < M → given M (suc n) G v ≡ fresh G (given M n G) v
    given_new M n G v new = cond-false (leb M (layer G v + n)) (given M n G v) (fresh G (given M n G) v) (lt-leb M (layer G v + n) new)

    -- ---- the rounds
    module _ (r : ℕ) (local_layer : IsLocal r layer) (local_path : IsLocal r path) where
      same_fresh : (T : ℕ) (G H : Network) (labels others : ℕ → List ℕ) (v : ℕ) → r ≤ T → AreSame (suc (2 * l) + suc T) G H v
          → ((x : ℕ) → AreSame T G H x → labels x ≡ others x) → fresh G labels v ≡ fresh H others v
      same_fresh T G H labels others v most same alike =
          let step : AreSame (suc T) G H v = same_fewer G H (suc T) (suc (2 * l) + suc T) v (omega arith) same in
          let own : path G v ≡ path H v = local_path G H v (same_fewer G H r (suc T) v (omega arith) step) in
          let near : G.near v ≡ H.near v = step.1 in
          let high : highest layer G v ≡ highest layer H v =
          ap (λ (nodes : List ℕ). get_or (nodes ++ G.near v) 0 0) (same_upper r T layer G H v local_layer most step)
          ∙ ap (λ (nodes : List ℕ). get_or (upper H (layer H) v ++ nodes) 0 0) near in
          let look : (u w : ℕ) → seen (suc (2 * l)) G labels v u w ≡ seen (suc (2 * l)) H others v u w =
          λ u w. same_seen (suc (2 * l)) T G H labels others v u w same alike in
          same_labels_of own step.0 near high
          (look (highest layer G v) v ∙ ap (λ u. seen (suc (2 * l)) H others v u v) high)
          (ap (λ (nodes : List ℕ). before (port nodes v)) own)
          (look (get_or (path G v) 0 0) (get_or (path G v) 1 0)
          ∙ ap (λ (nodes : List ℕ). seen (suc (2 * l)) H others v (get_or nodes 0 0) (get_or nodes 1 0)) own)
          (look (get_or (path G v) (suc (suc (2 * l))) 0) (get_or (path G v) (suc (2 * l)) 0)
          ∙ ap (λ (nodes : List ℕ). seen (suc (2 * l)) H others v (get_or nodes (suc (suc (2 * l))) 0) (get_or nodes (suc (2 * l)) 0)) own)

      pub given_local : (M n : ℕ) → IsLocal (r + suc n * (2 * l + 4)) (given M n)
      given_local M zero = local_most 1 (r + 1 * (2 * l + 4)) (given M 0) (omega arith) (λ G H v same. ap (map (λ w. fills.some.0)) same.1)
      given_local M (suc n) = λ G H v same.
          let T : ℕ = r + suc n * (2 * l + 4) in
          let wide : AreSame (suc (2 * l) + suc T) G H v =
          same_fewer G H (suc (2 * l) + suc T) (r + suc (suc n) * (2 * l + 4)) v (grind arith) same in
          let few : r ≤ T = omega arith in
          let own : layer G v ≡ layer H v = local_layer G H v (same_fewer G H r (suc (2 * l) + suc T) v (omega (arith, few)) wide) in
          let old : given M n G v ≡ given M n H v = given_local M n G H v (same_fewer G H T (suc (2 * l) + suc T) v (omega arith) wide) in
          let new : fresh G (given M n G) v ≡ fresh H (given M n H) v =
          same_fresh T G H (given M n G) (given M n H) v few wide (λ x there. given_local M n G H x there) in
          ap (λ (s : ℕ). cond (leb M (s + n)) (given M n G v) (fresh G (given M n G) v)) own
          ∙ ap (λ (t : List ℕ). cond (leb M (layer H v + n)) t (fresh G (given M n G) v)) old
          ∙ ap (λ (t : List ℕ). cond (leb M (layer H v + n)) (given M n H v) t) new
