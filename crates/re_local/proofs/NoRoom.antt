-- Where there are fewer identifiers than a node sees nodes, nothing is asked of a local algorithm.
use Rattle.std.proofs.Common.{◌≡◌, ℕ, zero, suc, pred, ◌+◌, ◌-◌, ◌*◌, ◌^◌, ◌≤◌, ◌<◌, List, [], ◌∷◌, ◌++◌, length, refl, sym, ◌∙◌, subst, arith, inl, inr, length-append}
use Rattle.std.specs.Prelude.{Contains, replicate}
use Rattle.std.proofs.Math.Nat.{mul-le-mul, pow-suc, pow-zero}
use Rattle.std.proofs.lemmas.List.{map-id}
use Rattle.std.proofs.lemmas.List.Elements.{Contains-append_cases}
use Rattle.re_labels.proofs.LawsOfRows.{multisets_law}
use Rattle.re_labels.proofs.Rearranging.{Contains-Rearranged}
use Rattle.re_labels.proofs.Sorting.{Rearranged-sorted}
use Rattle.re_labels.specs.Configs.{IsConfig, sorted}
use Rattle.re_given.proofs.Fitting.{Has-around}
use Rattle.re_given.specs.InputViews.{Fits, FitsAround, InputView, payloads}
use Rattle.re_labels.proofs.Membership.{AllByRecursion-contains, Contains-cases, Contains-here, Contains-map_cases, Contains-none, count_from_range}
use Rattle.re_labels.specs.Lists.{count_from}
use Rattle.re_local.proofs.ColouredLocal.{all_alike}
use Rattle.re_local.proofs.FewerRounds.{none}
use Rattle.re_layers.specs.Networks.{AreDifferent}
use Rattle.re_local.specs.LocalAlgorithms.{behind_active, behind_passive, identified, shown}
use Rattle.re_local.specs.Shown.{LinearRoomLaw, LogarithmicRoomLaw, NoRoomLaw, NodesSeenLaw, nodes_behind, nodes_seen}
use Rattle.re_labels.specs.Constraints.{Has}
use Rattle.re_laws.specs.Trees.{IsTree, IsView, end, leaf, more}
use Rattle.re_layers.proofs.Different.{pigeonhole}

-- ---- the nodes that a tree shows
before : (n : ℕ) → 1 ≤ n → pred n ≡ n - 1
before zero l = absurd (omega (arith, l))
before (suc n) l = omega arith

module _ (a p : ℕ) where
  abbrev mutual
    actives : ℕ → ℕ → ℕ
    actives zero n = 0
    actives (suc t) n = n * passives t (pred p)

    passives : ℕ → ℕ → ℕ
    passives zero n = 0
    passives (suc t) n = n * (1 + actives t (pred a))

  mutual
    count_active : (t n : ℕ) (x : InputView) → IsTree a p t n x → length (behind_active x) ≡ actives t n
    count_active zero n leaf tree = refl
    count_active zero n end tree = absurd tree
    count_active zero n (more back label branch rest) tree = absurd tree
    count_active (suc t) n leaf tree = absurd tree
    count_active (suc t) zero end tree = omega arith
    count_active (suc t) (suc n) end tree = absurd tree
    count_active (suc t) zero (more back label branch rest) tree = absurd tree
    count_active (suc t) (suc n) (more back label branch rest) tree =
        let here : length (behind_passive branch) ≡ passives t (pred p) = count_passive t (pred p) branch tree.2 in
        let there : length (behind_active rest) ≡ n * passives t (pred p) = count_active (suc t) n rest tree.3 in
        length-append (behind_passive branch) (behind_active rest) ∙ omega (arith, here, there)

    count_passive : (t n : ℕ) (x : InputView) → IsTree p a t n x → length (behind_passive x) ≡ passives t n
    count_passive zero n leaf tree = refl
    count_passive zero n end tree = absurd tree
    count_passive zero n (more back label branch rest) tree = absurd tree
    count_passive (suc t) n leaf tree = absurd tree
    count_passive (suc t) zero end tree = omega arith
    count_passive (suc t) (suc n) end tree = absurd tree
    count_passive (suc t) zero (more back label branch rest) tree = absurd tree
    count_passive (suc t) (suc n) (more back label branch rest) tree =
        let here : length (behind_active branch) ≡ actives t (pred a) = count_active t (pred a) branch tree.2 in
        let there : length (behind_passive rest) ≡ n * (1 + actives t (pred a)) = count_passive (suc t) n rest tree.3 in
        length-append (label ∷ behind_active branch) (behind_passive rest) ∙ omega (arith, here, there)

  passives-behind : (t : ℕ) → 1 ≤ a → 1 ≤ p → passives t (pred p) ≡ nodes_behind a p t
  passives-behind zero some some' = refl
  passives-behind (suc zero) some some' = let one : pred p ≡ p - 1 = before p some' in omega (arith, one)
  passives-behind (suc (suc t)) some some' =
      let one : pred p ≡ p - 1 = before p some' in
      let two : pred a ≡ a - 1 = before a some in
      rw (one, two, sym (passives-behind t some some')) (rw one refl)

  nodes-seen : (T : ℕ) → 1 ≤ a → 1 ≤ p → suc (actives (suc T) a) ≡ nodes_seen a p T
  nodes-seen T some some' = let e : passives T (pred p) ≡ nodes_behind a p T = passives-behind T some some' in rw e (omega arith)

  pub shown_nodes : (T : ℕ) (v : InputView) → 1 ≤ a → 1 ≤ p → IsView a p (suc T) v → length (shown v) ≡ nodes_seen a p T
  shown_nodes T leaf some some' view = absurd view
  shown_nodes T end some some' view = none_here a some view
    where
      none_here : (n : ℕ) → 1 ≤ n → IsTree {E = ℕ} a p (suc T) n end → 0 ≡ nodes_seen a p T
      none_here zero some view = absurd (omega (arith, some))
      none_here (suc n) some view = absurd view
  shown_nodes T (more back label branch rest) some some' view =
      let count : length (behind_active (more back label branch rest)) ≡ actives (suc T) a = count_active (suc T) a (more back label branch rest) view in
      let seen : suc (actives (suc T) a) ≡ nodes_seen a p T = nodes-seen T some some' in
      omega (arith, count, seen)

  -- a passive node sees no fewer, one round later
  passives-more : (T : ℕ) → 2 ≤ a → 2 ≤ p → nodes_seen a p T ≤ passives (suc (suc T)) p
  passives-more T two two' =
      let e : passives T (pred p) ≡ nodes_behind a p T = passives-behind T (omega (arith, two)) (omega (arith, two')) in
      rw e (more (nodes_behind a p T) a p two two')
    where
      more : (n a p : ℕ) → 2 ≤ a → 2 ≤ p → 1 + a * n ≤ p * (1 + pred a * n)
      more n zero p two two' = absurd (omega (arith, two))
      more n (suc a) p two two' =
          let twice : 2 * (1 + a * n) ≤ p * (1 + a * n) = mul-le-mul two' (omega arith) in
          let once : 1 * n ≤ a * n = mul-le-mul (omega (arith, two)) (omega arith) in
          omega (arith, twice, once)

-- ---- the identifiers that a tree shows
module _ (a p N : ℕ) where
  passive_below : (labels : List ℕ) → Has (identified a p N).passive labels → (y : ℕ) → Contains labels y → y < N
  passive_below labels has y at =
      let is : IsConfig p N (sorted labels) = ((multisets_law p N).1 (sorted labels)).0 has in
      AllByRecursion-contains (λ y. y < N) (sorted labels) y is.below (Contains-Rearranged y (Rearranged-sorted labels) at)

  active_below : (labels : List ℕ) → Has (identified a p N).active labels → (y : ℕ) → Contains labels y → y < N
  active_below labels has y at =
      let (x, there, is) = Contains-map_cases (replicate a) (count_from 0 N) (sorted labels) has in
      let low = (count_from_range 0 N x there).1 in
      let same : y ≡ x = AllByRecursion-contains (λ y. y ≡ x) (replicate a x) y (all_alike a x)
      (subst (λ (c : List ℕ). Contains c y) (sym is) (Contains-Rearranged y (Rearranged-sorted labels) at)) in
      omega (arith, low, same)

  mutual
    low_active : (t n : ℕ) (seen : List ℕ) (x : InputView) → IsTree a p t n x → FitsAround (identified a p N).active (identified a p N).passive seen x
        → (z : ℕ) → Contains (behind_active x) z → z < N
    low_active t n seen leaf tree fits z at = absurd (Contains-none z at)
    low_active t n seen end tree fits z at = absurd (Contains-none z at)
    low_active zero n seen (more back label branch rest) tree fits z at = absurd tree
    low_active (suc t) zero seen (more back label branch rest) tree fits z at = absurd tree
    low_active (suc t) (suc n) seen (more back label branch rest) tree fits z at =
        elim (Contains-append_cases (behind_passive branch) (behind_active rest) z at) [
          | inl here ↦ low_passive t (pred p) (label ∷ []) branch tree.2 fits.0 z here
          | inr there ↦ low_active (suc t) n (label ∷ seen) rest tree.3 fits.1 z there
        ]

    low_passive : (t n : ℕ) (seen : List ℕ) (x : InputView) → IsTree p a t n x → FitsAround (identified a p N).passive (identified a p N).active seen x
        → (z : ℕ) → Contains (behind_passive x) z → z < N
    low_passive t n seen leaf tree fits z at = absurd (Contains-none z at)
    low_passive t n seen end tree fits z at = absurd (Contains-none z at)
    low_passive zero n seen (more back label branch rest) tree fits z at = absurd tree
    low_passive (suc t) zero seen (more back label branch rest) tree fits z at = absurd tree
    low_passive (suc t) (suc n) seen (more back label branch rest) tree fits z at =
        let all : (y : ℕ) → Contains (label ∷ payloads rest ++ seen) y → y < N =
        passive_below (label ∷ payloads rest ++ seen)
        (Has-around (identified a p N).passive (identified a p N).active p a t (suc n) seen (more back label branch rest) tree fits) in
        elim (Contains-append_cases (label ∷ behind_active branch) (behind_passive rest) z at) [
          | inl here ↦ elim (Contains-cases z label (behind_active branch) here) [
            | inl e ↦ subst (λ w. w < N) (sym e) (all label (Contains-here label (payloads rest ++ seen)))
            | inr behind ↦ low_active t (pred a) (label ∷ []) branch tree.2 fits.0 z behind
          ]
          | inr there ↦ low_passive (suc t) n (label ∷ seen) rest tree.3 fits.1 z there
        ]

  -- a view of an active node shows no more nodes than there are identifiers, where they are different
  room_active : (T : ℕ) (v : InputView) → 1 ≤ a → 1 ≤ p → IsView a p (suc T) v → Fits (identified a p N).active (identified a p N).passive v → AreDifferent (shown v)
      → nodes_seen a p T ≤ N
  room_active T leaf some some' view fits d = absurd view
  room_active T end some some' view fits d = let count = shown_nodes a p T end some some' view in omega (arith, count)
  room_active T (more back label branch rest) some some' view fits d =
      let v : InputView = more back label branch rest in
      let around : Has (identified a p N).active (payloads v ++ []) = Has-around (identified a p N).active (identified a p N).passive a p T a [] v view fits in
      let own : label < N = active_below (payloads v ++ []) around label (Contains-here label (payloads rest ++ [])) in
      let few : length (shown v) ≤ N = pigeonhole N (shown v) d (λ z at. elim (Contains-cases z label (behind_active v) at) [
        | inl e ↦ subst (λ w. w < N) (sym e) own
        | inr there ↦ low_active (suc T) a [] v view fits z there
      ]) in
      let count : length (shown v) ≡ nodes_seen a p T = shown_nodes a p T v some some' view in
      omega (arith, few, count)

  -- nor does one of a passive node
  room_passive : (T : ℕ) (v : InputView) → 2 ≤ a → 2 ≤ p → IsView p a (suc (suc T)) v → Fits (identified a p N).passive (identified a p N).active v
      → AreDifferent (behind_passive v) → nodes_seen a p T ≤ N
  room_passive T v two two' view fits d =
      let few : length (behind_passive v) ≤ N = pigeonhole N (behind_passive v) d (low_passive (suc (suc T)) p [] v view fits) in
      let count : length (behind_passive v) ≡ passives a p (suc (suc T)) p = count_passive a p (suc (suc T)) p v view in
      let seen : nodes_seen a p T ≤ passives a p (suc (suc T)) p = passives-more a p T two two' in
      omega (arith, few, count, seen)

pub all_nodes : NodesSeenLaw
all_nodes a p T v some some' view = shown_nodes a p T v some some' view

pub no_room : NoRoomLaw
no_room problem N T is few =
    let a : ℕ = problem.active.degree in
    let p : ℕ = problem.passive.degree in
    let two : 2 ≤ a = is.active.least in
    let two' : 2 ≤ p = is.passive.least in (
      (λ k. []),
      record {
        active = λ v view fits apart.
            let l : nodes_seen a p T ≤ N =
            room_active a p N T v (omega (arith, two)) (omega (arith, two')) view fits (subst AreDifferent (map-id (shown v)) apart) in
            absurd (omega (arith, l, few));
        passive = λ v view fits apart.
            let l : nodes_seen a p T ≤ N =
            room_passive a p N T v two two' view fits (subst AreDifferent (map-id (behind_passive v)) apart) in
            absurd (omega (arith, l, few));
      },
    )

-- ---- how many those are
module _ (a p : ℕ) (two : 2 ≤ a) (two' : 2 ≤ p) where
  -- at least a power of (a - 1) (p - 1), with one hop more for each node
  powers_behind : (s t : ℕ) → 2 * s ≤ t + 1 → ((a - 1) * (p - 1)) ^ s ≤ 1 + a * nodes_behind a p t
  powers_behind zero t l = rw (pow-zero ((a - 1) * (p - 1))) (omega arith)
  powers_behind (suc zero) zero l = absurd (omega (arith, l))
  powers_behind (suc zero) (suc zero) l =
      let one : ((a - 1) * (p - 1)) ^ 1 ≡ ((a - 1) * (p - 1)) ^ 0 * ((a - 1) * (p - 1)) = pow-suc ((a - 1) * (p - 1)) 0 in
      let none : ((a - 1) * (p - 1)) ^ 0 ≡ 1 = pow-zero ((a - 1) * (p - 1)) in
      let low : (a - 1) * (p - 1) ≤ a * (p - 1) = mul-le-mul (omega arith) (omega arith) in
      rw (one, none) (omega (arith, low))
  powers_behind (suc (suc s)) zero l = absurd (omega (arith, l))
  powers_behind (suc (suc s)) (suc zero) l = absurd (omega (arith, l))
  powers_behind (suc s) (suc (suc t)) l =
      let q : ℕ = (a - 1) * (p - 1) in
      let n : ℕ = nodes_behind a p t in
      let before : q ^ s ≤ 1 + a * n = powers_behind s t (omega (arith, l)) in
      let power : q ^ suc s ≡ q ^ s * q = pow-suc q s in
      let up : q ^ s * q ≤ (1 + a * n) * q = mul-le-mul before (omega arith) in
      step n (a - 1) (p - 1) a (omega (arith, two)) (q ^ suc s) (omega (arith, power, up))
    where
      step : (n b c a : ℕ) → suc b ≡ a → (x : ℕ) → x ≤ (1 + a * n) * (b * c) → x ≤ 1 + a * (c * (1 + b * n))
      step n b c a is x = subst (λ a. x ≤ (1 + a * n) * (b * c) → x ≤ 1 + a * (c * (1 + b * n))) is (λ l. omega (arith, l))

  rounds_behind : (t : ℕ) → t ≤ a * nodes_behind a p t
  rounds_behind zero = omega arith
  rounds_behind (suc zero) =
      let some : 1 ≤ a = omega (arith, two) in
      let some' : 1 ≤ p - 1 = omega (arith, two') in
      let low : 1 * 1 ≤ a * (p - 1) = mul-le-mul some some' in
      omega (arith, low)
  rounds_behind (suc (suc t)) =
      let n : ℕ = nodes_behind a p t in
      let before : t ≤ a * n = rounds_behind t in
      let low : 1 * (1 + (a - 1) * n) ≤ (p - 1) * (1 + (a - 1) * n) = mul-le-mul (omega (arith, two')) (omega arith) in
      let own : 1 * n ≤ (a - 1) * n = mul-le-mul (omega (arith, two)) (omega arith) in
      let all : a * (1 * (1 + n)) ≤ a * ((p - 1) * (1 + (a - 1) * n)) = mul-le-mul (omega arith) (omega (arith, low, own)) in
      omega (arith, before, all, two)

pub logarithmic_room : LogarithmicRoomLaw
logarithmic_room problem N s T is l few =
    let a : ℕ = problem.active.degree in
    let p : ℕ = problem.passive.degree in
    let enough : ((a - 1) * (p - 1)) ^ s ≤ 1 + a * nodes_behind a p T = powers_behind a p is.active.least is.passive.least s T l in
    no_room problem N T is (omega (arith, enough, few))

pub linear_room : LinearRoomLaw
linear_room problem N T is few =
    let a : ℕ = problem.active.degree in
    let p : ℕ = problem.passive.degree in
    let enough : T ≤ a * nodes_behind a p T = rounds_behind a p is.active.least is.passive.least T in
    no_room problem N T is (omega (arith, enough, few))
