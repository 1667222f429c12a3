-- A part of a network, whose nodes have their colours as names: it is a forest, where the colours differ within the part.
use Rattle.std.proofs.Common.{◌≡◌, ℕ, zero, suc, ◌≤◌, ◌<◌, Bool, true, false, cond, eqb, List, [], ◌∷◌, map, length, refl, sym, ap, ◌∙◌, subst, ◌⊎◌, inl, inr, arith}
use Rattle.std.specs.Prelude.{Contains, ◌&&◌, filter, not, if◌then◌else◌}
use Rattle.std.specs.List.{list_any}
use Rattle.std.proofs.lemmas.Bool.{false≢true}
use Rattle.std.proofs.lemmas.List.{length-map}
use Rattle.re_labels.proofs.Rearranging.{length-Rearranged}
use Rattle.re_labels.specs.Rearranging.{Rearranged}
use Rattle.re_gap.proofs.Members.{different_counted, different_map, same_members}
use Rattle.re_gap.proofs.Trees.{IsTree}
use Rattle.re_labels.proofs.Membership.{Contains-count_from, Contains-map_cases, any_found, any_true, filter-alike, length-filter_most}
use Rattle.re_labels.proofs.Tests.{and-true, eqb-same, eqb-true, same_tests, true-and}
use Rattle.re_labels.specs.Lists.{count_from}
use Rattle.re_layers.proofs.Balls.{ball_before, ball_own}
use Rattle.re_layers.proofs.Different.{Different-filter}
use Rattle.re_layers.proofs.Filters.{filter_all}
use Rattle.re_layers.proofs.FreeNumbers.{Contains-holds, holds, holds-Contains}
use Rattle.re_labels.proofs.Membership.{AllByRecursion-from_contains, Contains-filter, Contains-filter_cases, Contains-here, Contains-later, Contains-map, Contains-none}
use Rattle.re_layers.proofs.Rooted.{ball_different}
use Rattle.re_layers.specs.Networks.{AreDifferent, AreSame, IsForest, Network, ball}

-- ---- the tests
module _ (G : Network) (colour : ℕ → ℕ) where
  -- whether a node of the part with colour c has a neighbour of the part with colour e
  pub linked : List ℕ → ℕ → ℕ → Bool
  linked part c e = list_any (λ x. eqb (colour x) c && list_any (λ y. eqb (colour y) e && holds part y) (G.near x)) part

  -- whether an active node of the part has colour c
  pub marked : List ℕ → ℕ → Bool
  marked part c = list_any (λ x. eqb (colour x) c && G.active x) part

  pub linked_of : (part : List ℕ) (x y : ℕ) → Contains part x → Contains part y → Contains (G.near x) y
      → linked part (colour x) (colour y) ≡ true
  unfolding linked
  linked_of part x y at there on =
      any_true (λ x'. eqb (colour x') (colour x) && list_any (λ y'. eqb (colour y') (colour y) && holds part y') (G.near x')) part x at
      (true-and (eqb (colour x) (colour x)) (list_any (λ y'. eqb (colour y') (colour y) && holds part y') (G.near x))
      (eqb-same (colour x))
      (any_true (λ y'. eqb (colour y') (colour y) && holds part y') (G.near x) y on
      (true-and (eqb (colour y) (colour y)) (holds part y) (eqb-same (colour y)) (Contains-holds part y there))))

  pub linked_cases : (part : List ℕ) (c e : ℕ) → linked part c e ≡ true
      → (x : ℕ) × (y : ℕ) × Contains part x × Contains part y × Contains (G.near x) y × (colour x ≡ c) × (colour y ≡ e)
  unfolding linked
  linked_cases part c e test =
      let (x, at, passes) = any_found (λ x. eqb (colour x) c && list_any (λ y. eqb (colour y) e && holds part y) (G.near x)) part test in
      let (own, rest) = and-true (eqb (colour x) c) (list_any (λ y. eqb (colour y) e && holds part y) (G.near x)) passes in
      let (y, on, passes') = any_found (λ y. eqb (colour y) e && holds part y) (G.near x) rest in
      let (other, there) = and-true (eqb (colour y) e) (holds part y) passes' in
      (x, y, at, holds-Contains part y there, on, eqb-true (colour x) c own, eqb-true (colour y) e other)

  pub marked_of : (part : List ℕ) (x : ℕ) → Contains part x → G.active x ≡ true → marked part (colour x) ≡ true
  unfolding marked
  marked_of part x at is =
      any_true (λ y. eqb (colour y) (colour x) && G.active y) part x at
      (true-and (eqb (colour x) (colour x)) (G.active x) (eqb-same (colour x)) is)

  pub marked_cases : (part : List ℕ) (c : ℕ) → marked part c ≡ true → (x : ℕ) × Contains part x × (colour x ≡ c) × (G.active x ≡ true)
  unfolding marked
  marked_cases part c test =
      let (x, at, passes) = any_found (λ x. eqb (colour x) c && G.active x) part test in
      let (own, is) = and-true (eqb (colour x) c) (G.active x) passes in
      (x, at, eqb-true (colour x) c own, is)

abbrev pub renamed : ℕ → Network → (ℕ → ℕ) → List ℕ → Network
renamed N G colour part = record {
  active = marked G colour part;
  near = λ c. filter (linked G colour part c) (count_from 0 N);
}

-- ---- a part whose nodes have different colours
pub IsOneToOne : (ℕ → ℕ) → List ℕ → Type 0
IsOneToOne colour part = (x y : ℕ) → Contains part x → Contains part y → colour x ≡ colour y → x ≡ y

pub one_to_one : (colour : ℕ → ℕ) (part : List ℕ) → ((x y : ℕ) → Contains part x → Contains part y → colour x ≡ colour y → x ≡ y)
    → IsOneToOne colour part
unfolding IsOneToOne
one_to_one colour part one = one

-- the node of a colour
node : (ℕ → ℕ) → List ℕ → ℕ → ℕ
node colour [] c = c
node colour (x ∷ part) c = cond (eqb (colour x) c) x (node colour part c)

node_is : (colour : ℕ → ℕ) (part : List ℕ) (x : ℕ) → Contains part x → Contains part (node colour part (colour x))
    × (colour (node colour part (colour x)) ≡ colour x)
unfolding node
node_is colour [] x held = absurd (Contains-none x held)
node_is colour (y ∷ part) x held = by (eqb (colour y) (colour x)) refl held (λ at. node_is colour part x at)
  where
    by : (b : Bool) → eqb (colour y) (colour x) ≡ b → Contains (y ∷ part) x
        → (Contains part x → Contains part (node colour part (colour x)) × (colour (node colour part (colour x)) ≡ colour x))
        → Contains (y ∷ part) (cond b y (node colour part (colour x))) × (colour (cond b y (node colour part (colour x))) ≡ colour x)
    by true e at rest = (Contains-here y part, eqb-true (colour y) (colour x) e)
    by false e (zero, l, same) rest = absurd (false≢true (sym e ∙ (ap (λ z. eqb (colour z) (colour x)) same ∙ eqb-same (colour x))))
    by false e (suc k, l, same) rest = let (at, f) = rest (k, omega arith, same) in
        (Contains-later (node colour part (colour x)) y part at, f)

module _ (N : ℕ) (G : Network) (colour : ℕ → ℕ) (part : List ℕ) (low : (v : ℕ) → colour v < N) (one : IsOneToOne colour part) where
  pub marked_same : (x : ℕ) → Contains part x → marked G colour part (colour x) ≡ G.active x
  unfolding IsOneToOne
  marked_same x at =
      same_tests (marked G colour part (colour x)) (G.active x)
      (λ test. (let (y, there, same, is) = marked_cases G colour part (colour x) test in
      subst (λ z. G.active z ≡ true) (one y x there at same) is))
      (marked_of G colour part x at)

  pub near_cases : (x e : ℕ) → Contains part x → Contains ((renamed N G colour part).near (colour x)) e
      → (y : ℕ) × Contains part y × Contains (G.near x) y × (colour y ≡ e)
  unfolding IsOneToOne
  near_cases x e at held =
      let test : linked G colour part (colour x) e ≡ true =
      (Contains-filter_cases (linked G colour part (colour x)) (count_from 0 N) e held).1 in
      let (x', y, at', there, on, same, other) = linked_cases G colour part (colour x) e test in
      (y, there, subst (λ z. Contains (G.near z) y) (one x' x at' at same) on, other)

  pub near_held : (x y : ℕ) → Contains part x → Contains part y → Contains (G.near x) y
      → Contains ((renamed N G colour part).near (colour x)) (colour y)
  near_held x y at there on =
      Contains-filter (linked G colour part (colour x)) (count_from 0 N) (colour y)
      (Contains-count_from 0 N (colour y) (omega arith) (let l = low y in omega (arith, l))) (linked_of G colour part x y at there on)

  pub near_apart : (c : ℕ) → AreDifferent ((renamed N G colour part).near c)
  near_apart c = Different-filter (linked G colour part c) (count_from 0 N) (different_counted 0 N)

  near_rearranged : (x : ℕ) → Contains part x → AreDifferent (G.near x)
      → Rearranged (map colour (filter (holds part) (G.near x))) ((renamed N G colour part).near (colour x))
  unfolding IsOneToOne
  near_rearranged x at differ =
      same_members (map colour (filter (holds part) (G.near x))) ((renamed N G colour part).near (colour x))
      (different_map colour (filter (holds part) (G.near x)) (λ y z held held'. one y z (in_part y held) (in_part z held'))
      (Different-filter (holds part) (G.near x) differ))
      (near_apart (colour x))
      (λ e held. (let (y, there, same) = Contains-map_cases colour (filter (holds part) (G.near x)) e held in
      subst (Contains ((renamed N G colour part).near (colour x))) same
      (near_held x y at (in_part y there) (Contains-filter_cases (holds part) (G.near x) y there).0)))
      (λ e held. (let (y, there, on, same) = near_cases x e at held in
      subst (Contains (map colour (filter (holds part) (G.near x)))) same
      (Contains-map colour (filter (holds part) (G.near x)) y
      (Contains-filter (holds part) (G.near x) y on (Contains-holds part y there)))))
    where
      in_part : (y : ℕ) → Contains (filter (holds part) (G.near x)) y → Contains part y
      in_part y held = holds-Contains part y (Contains-filter_cases (holds part) (G.near x) y held).1

  -- the neighbours of a node all of whose neighbours are of the part, by their colours
  pub near_whole : (x : ℕ) → Contains part x → AreDifferent (G.near x) → ((y : ℕ) → Contains (G.near x) y → Contains part y)
      → Rearranged (map colour (G.near x)) ((renamed N G colour part).near (colour x))
  near_whole x at differ within =
      subst (λ near. Rearranged (map colour near) ((renamed N G colour part).near (colour x)))
      (filter_all (holds part) (G.near x) (λ y on. Contains-holds part y (within y on))) (near_rearranged x at differ)

  near_few : (x : ℕ) → Contains part x → AreDifferent (G.near x) → length ((renamed N G colour part).near (colour x)) ≤ length (G.near x)
  near_few x at differ =
      let count = length-Rearranged (near_rearranged x at differ) in
      let mapped : length (map colour (filter (holds part) (G.near x))) ≡ length (filter (holds part) (G.near x)) = length-map
      (filter (holds part) (G.near x)) colour in
      let most = length-filter_most (holds part) (G.near x) in
      omega (arith, count, mapped, most)

  -- ---- a forest
  module _ {a p : ℕ} (tree : IsTree a p G) where
    rank_of : ℕ → ℕ
    rank_of c = tree.rank (node colour part c)

    up_of : ℕ → ℕ
    up_of c = cond (holds part (tree.up (node colour part c)) && eqb (colour (node colour part c)) c)
        (colour (tree.up (node colour part c))) c

    node_of : (x : ℕ) → Contains part x → node colour part (colour x) ≡ x
    unfolding IsOneToOne
    node_of x at = let (there, same) = node_is colour part x at in one (node colour part (colour x)) x there at same

    rank_at : (x : ℕ) → Contains part x → rank_of (colour x) ≡ tree.rank x
    unfolding rank_of
    rank_at x at = ap tree.rank (node_of x at)

    up_at : (x : ℕ) → Contains part x → Contains part (tree.up x) → up_of (colour x) ≡ colour (tree.up x)
    unfolding up_of
    up_at x at there =
        rw (node_of x at) (ap (λ b. cond b (colour (tree.up x)) (colour x))
        (true-and (holds part (tree.up x)) (eqb (colour x) (colour x)) (Contains-holds part (tree.up x) there) (eqb-same (colour x))))

    up_lower : (c : ℕ) → rank_of (up_of c) ≤ rank_of c
    unfolding up_of rank_of
    up_lower c = by (holds part (tree.up (node colour part c)) && eqb (colour (node colour part c)) c) refl
      where
        by : (b : Bool) → (holds part (tree.up (node colour part c)) && eqb (colour (node colour part c)) c) ≡ b
            → tree.rank (node colour part (cond b (colour (tree.up (node colour part c))) c)) ≤ tree.rank (node colour part c)
        by true e =
            let there = (and-true (holds part (tree.up (node colour part c))) (eqb (colour (node colour part c)) c) e).0 in
            let same : node colour part (colour (tree.up (node colour part c))) ≡ tree.up (node colour part c) =
            node_of (tree.up (node colour part c)) (holds-Contains part (tree.up (node colour part c)) there) in
            subst (λ x. tree.rank x ≤ tree.rank (node colour part c)) (sym same) (tree.lower (node colour part c))
        by false e = omega arith

    edge_of : (c e : ℕ) → Contains ((renamed N G colour part).near c) e
        → ((e ≡ up_of c) × (rank_of e < rank_of c)) ⊎ ((c ≡ up_of e) × (rank_of c < rank_of e))
    edge_of c e held =
        let (x, y, at, there, on, own, other) = linked_cases G colour part c e
        (Contains-filter_cases (linked G colour part c) (count_from 0 N) e held).1 in
        subst (λ c. ((e ≡ up_of c) × (rank_of e < rank_of c)) ⊎ ((c ≡ up_of e) × (rank_of c < rank_of e))) own
        (subst (λ e. ((e ≡ up_of (colour x)) × (rank_of e < rank_of (colour x)))
        ⊎ ((colour x ≡ up_of e) × (rank_of (colour x) < rank_of e))) other
        (at_nodes x y at there (tree.edge x y on)))
      where
        at_nodes : (x y : ℕ) → Contains part x → Contains part y → ((y ≡ tree.up x) × (tree.rank y < tree.rank x))
            ⊎ ((x ≡ tree.up y) × (tree.rank x < tree.rank y))
            → ((colour y ≡ up_of (colour x)) × (rank_of (colour y) < rank_of (colour x)))
            ⊎ ((colour x ≡ up_of (colour y)) × (rank_of (colour x) < rank_of (colour y)))
        at_nodes x y at there (inl high) =
            let up_at' = up_at x at (subst (Contains part) high.0 there) in
            let r = rank_at x at in let s = rank_at y there in let less = high.1 in
            inl (ap colour high.0 ∙ sym up_at', omega (arith, r, s, less))
        at_nodes x y at there (inr high) =
            let up_at' = up_at y there (subst (Contains part) high.0 at) in
            let r = rank_at x at in let s = rank_at y there in let less = high.1 in
            inr (ap colour high.0 ∙ sym up_at', omega (arith, r, s, less))

    pub renamed_forest : IsForest a p N (renamed N G colour part)
    renamed_forest = record {
      degrees = λ c. few c ((renamed N G colour part).near c) refl;
      below = λ c e held. (
          let (x, y, at, there, on, own, other) = of_edge c e held in
          (subst (λ z. z < N) own (low x), subst (λ z. z < N) other (low y)));
      turns = λ c e held. (
          let (x, y, at, there, on, own, other) = of_edge c e held in
          subst (λ z. marked G colour part e ≡ not (marked G colour part z)) own
          (subst (λ z. marked G colour part z ≡ not (marked G colour part (colour x))) other
          (marked_same y there ∙ (tree.turns x y on ∙ ap not (sym (marked_same x at))))));
      both = λ c e held. (
          let (x, y, at, there, on, own, other) = of_edge c e held in
          subst (λ z. Contains ((renamed N G colour part).near e) z) own
          (subst (λ z. Contains ((renamed N G colour part).near z) (colour x)) other (near_held y x there at (tree.both x y on))));
      acyclic = ball_different (renamed N G colour part) rank_of up_of up_lower edge_of near_apart;
    }
      where
        of_edge : (c e : ℕ) → Contains ((renamed N G colour part).near c) e
            → (x : ℕ) × (y : ℕ) × Contains part x × Contains part y × Contains (G.near x) y × (colour x ≡ c) × (colour y ≡ e)
        of_edge c e held = linked_cases G colour part c e (Contains-filter_cases (linked G colour part c) (count_from 0 N) e held).1

        few : (c : ℕ) (near : List ℕ) → (renamed N G colour part).near c ≡ near
            → length ((renamed N G colour part).near c) ≤ (if marked G colour part c then a else p)
        few c [] e = let none : length ((renamed N G colour part).near c) ≡ 0 = ap length e in omega (arith, none)
        few c (d ∷ near) e =
            let (x, y, at, there, on, own, other) = of_edge c d (subst (λ xs. Contains xs d) (sym e) (Contains-here d near)) in
            subst (λ z. length ((renamed N G colour part).near z) ≤ (if marked G colour part z then a else p)) own
            (subst (λ b. length ((renamed N G colour part).near (colour x)) ≤ (if b then a else p)) (sym (marked_same x at))
            (let fewer = near_few x at (tree.differ x) in let most = tree.degrees x in omega (arith, fewer, most)))

-- ---- the same in two parts
same_always : (G H : Network) → ((c : ℕ) → G.active c ≡ H.active c) → ((c : ℕ) → G.near c ≡ H.near c) → (T c : ℕ) → AreSame T G H c
same_always G H kinds near zero c = kinds c
same_always G H kinds near (suc T) c =
    (kinds c, near c, AllByRecursion-from_contains (λ e. AreSame T G H e) (G.near c) (λ e held. same_always G H kinds near T e))

-- each node and each edge of one part are seen in the other, with the same colours
pub record IsSeenIn (G : Network) (colour : ℕ → ℕ) (part : List ℕ) (H : Network) (tint : ℕ → ℕ) (whole : List ℕ) : Type 0 where
  pub nodes : (x : ℕ) → Contains part x → G.active x ≡ true → (y : ℕ) × Contains whole y × (tint y ≡ colour x) × (H.active y ≡ true)
  pub edges : (x y : ℕ) → Contains part x → Contains part y → Contains (G.near x) y
      → (u : ℕ) × (w : ℕ) × Contains whole u × Contains whole w × Contains (H.near u) w × (tint u ≡ colour x) × (tint w ≡ colour y)

seen_active : {G H : Network} {colour tint : ℕ → ℕ} {part whole : List ℕ} → IsSeenIn G colour part H tint whole
    → (c : ℕ) → marked G colour part c ≡ true → marked H tint whole c ≡ true
seen_active {G} {H} {colour} {tint} {part} {whole} seen c test =
    let (x, at, own, is) = marked_cases G colour part c test in
    let (y, there, same, also) = seen.nodes x at is in
    subst (λ z. marked H tint whole z ≡ true) (same ∙ own) (marked_of H tint whole y there also)

seen_linked : {G H : Network} {colour tint : ℕ → ℕ} {part whole : List ℕ} → IsSeenIn G colour part H tint whole
    → (c e : ℕ) → linked G colour part c e ≡ true → linked H tint whole c e ≡ true
seen_linked {G} {H} {colour} {tint} {part} {whole} seen c e test =
    let (x, y, at, there, on, own, other) = linked_cases G colour part c e test in
    let (u, w, at', there', on', own', other') = seen.edges x y at there on in
    subst (λ z. linked H tint whole z e ≡ true) (own' ∙ own)
    (subst (λ z. linked H tint whole (tint u) z ≡ true) (other' ∙ other) (linked_of H tint whole u w at' there' on'))

pub renamed_alike : (N : ℕ) {G H : Network} {colour tint : ℕ → ℕ} {part whole : List ℕ} → IsSeenIn G colour part H tint whole
    → IsSeenIn H tint whole G colour part
    → (T c : ℕ) → AreSame T (renamed N G colour part) (renamed N H tint whole) c
renamed_alike N {G} {H} {colour} {tint} {part} {whole} there back =
    same_always (renamed N G colour part) (renamed N H tint whole)
    (λ c. same_tests (marked G colour part c) (marked H tint whole c) (seen_active there c) (seen_active back c))
    (λ c. filter-alike (linked G colour part c) (linked H tint whole c) (count_from 0 N)
    (λ e held. same_tests (linked G colour part c e) (linked H tint whole c e) (seen_linked there c e) (seen_linked back c e)))

-- ---- two parts that hold what T hops from v show
pub same_around : (N : ℕ) (G : Network) (colour : ℕ → ℕ) (part whole : List ℕ) → IsOneToOne colour part → IsOneToOne colour whole
    → (low : (v : ℕ) → colour v < N)
    → (T v : ℕ) → ((w : ℕ) → Contains (ball G T v) w → Contains part w × Contains whole w)
    → AreSame T (renamed N G colour part) (renamed N G colour whole) (colour v)
unfolding IsOneToOne
same_around N G colour part whole one one' low zero v within =
    let (at, there) = within v (ball_own G 0 v) in
    marked_same N G colour part low one v at ∙ sym (marked_same N G colour whole low one' v there)
same_around N G colour part whole one one' low (suc T) v within =
    let (at, there) = within v (ball_own G (suc T) v) in (
      marked_same N G colour part low one v at ∙ sym (marked_same N G colour whole low one' v there),
      filter-alike (linked G colour part (colour v)) (linked G colour whole (colour v)) (count_from 0 N)
          (λ e held. same_tests (linked G colour part (colour v) e) (linked G colour whole (colour v) e)
          (across part whole one at there (λ w on. (within w (ball_before G T v w w on (ball_own G T w))).1) e)
          (across whole part one' there at (λ w on. (within w (ball_before G T v w w on (ball_own G T w))).0) e)),
      AllByRecursion-from_contains (λ e. AreSame T (renamed N G colour part) (renamed N G colour whole) e)
          ((renamed N G colour part).near (colour v))
          (λ e held. (let (y, in_part, on, same) = near_cases N G colour part low one v e at held in
          subst (λ z. AreSame T (renamed N G colour part) (renamed N G colour whole) z) same
          (same_around N G colour part whole one one' low T y (λ w near. within w (ball_before G T v y w on near))))),
    )
  where
    across : (first second : List ℕ) → IsOneToOne colour first → Contains first v → Contains second v
        → ((w : ℕ) → Contains (G.near v) w → Contains second w)
        → (e : ℕ) → linked G colour first (colour v) e ≡ true → linked G colour second (colour v) e ≡ true
    across first second one at there within e test =
        let (x, y, at', there', on, own, other) = linked_cases G colour first (colour v) e test in
        let same : x ≡ v = one x v at' at own in
        let near : Contains (G.near v) y = subst (λ z. Contains (G.near z) y) same on in
        subst (λ z. linked G colour second (colour v) z ≡ true) other (linked_of G colour second v y there (within y near) near)
