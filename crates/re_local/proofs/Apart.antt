-- On the trees of a hypergraph of identifiers, from a hypergraph without short closed walks, all identifiers near a node are different, where
-- different labels of one identifier stand around each active node.
use Rattle.std.proofs.Common.{◌≡◌, ℕ, zero, suc, pred, ◌+◌, ◌-◌, ◌*◌, ◌/◌, ◌%◌, ◌^◌, ◌≤◌, ◌<◌, true, inl, inr, List, [], ◌∷◌, ◌++◌, map, get_or, refl, sym, ◌∙◌, ap, subst, arith}
use Rattle.std.specs.Prelude.{Contains, ◌⊎◌}
use Rattle.std.proofs.lemmas.Nat.{div-add-mod', div-mul-add, mod-mul-add, mod_below, same_from_place}
use Rattle.re_labels.proofs.Rearranging.{Contains-Rearranged, Rearranged-map, Rearranged-sym}
use Rattle.re_labels.proofs.Sorting.{Rearranged-sorted}
use Rattle.re_labels.specs.Configs.{sorted}
use Rattle.re_labels.specs.Orders.{multisets}
use Rattle.re_labels.specs.Rearranging.{Rearranged, chained}
use Rattle.re_given.proofs.Fitting.{Has-around}
use Rattle.re_local.specs.Identifiers.{id_labels, IdHypergraph, identifiers}
use Rattle.re_given.specs.InputViews.{FitsAround, InputView, payloads}
use Rattle.re_local.proofs.Matched.{digit_below, digits, edge_labels, labels_at_ids, labels_cases, matched, matched_edge, places_within, points_different}
use Rattle.re_local.proofs.Pruned.{relabel}
use Rattle.re_labels.proofs.Membership.{Contains-In, Contains-filter_cases, Contains-map, Contains-map_cases, Distinct-count_from, In, In-Contains, In-append_cases, In-append_left, In-append_right, count_from_range}
use Rattle.re_labels.specs.Lists.{count_from}
use Rattle.re_local.proofs.ColouredLocal.{different_Rearranged}
use Rattle.re_local.proofs.Complete.{different_distinct}
use Rattle.re_layers.specs.Networks.{AreDifferent}
use Rattle.re_local.specs.LocalAlgorithms.{behind_active, behind_passive, shown}
use Rattle.re_local.specs.Separating.{AreApart}
use Rattle.re_local.proofs.Walks.{joined, turned}
use Rattle.re_local.specs.Hypergraphs.{Hyper, IsHyper, IsSparse, On, Walk, one, step}
use Rattle.re_labels.specs.Constraints.{Constraint, Has}
use Rattle.re_laws.specs.Trees.{IsTree, IsView, end, leaf, more}

different_across : (xs ys : List ℕ) → AreDifferent (xs ++ ys) → (y z : ℕ) → In y xs → In z ys → y ≡ z → ⊥
different_across [] ys d y z i j same = i
different_across (x ∷ xs) ys d y z (inl e) j same = d.0 (subst (Contains (xs ++ ys)) (sym same ∙ e) (In-Contains z (xs ++ ys) (In-append_right z xs ys j)))
different_across (x ∷ xs) ys d y z (inr i) j same = different_across xs ys d.1 y z i j same

-- labels of different identifiers
abbrev Differ : ℕ → List ℕ → Type 0
Differ a [] = Unit {0}
Differ a (y ∷ ys) = ((z : ℕ) → In z ys → y / a ≡ z / a → ⊥) × Differ a ys

Differ-append : (a : ℕ) (xs ys : List ℕ) → Differ a xs → Differ a ys → ((y z : ℕ) → In y xs → In z ys → y / a ≡ z / a → ⊥) → Differ a (xs ++ ys)
Differ-append a [] ys d d' across = d'
Differ-append a (x ∷ xs) ys d d' across =
    (λ z at. elim (In-append_cases z xs ys at) [ inl i ↦ d.0 z i | inr j ↦ across x z (inl refl) j ], Differ-append a xs ys d.1 d' (λ y z i j. across y z (inr i) j))

different_labels : (a : ℕ) (ys : List ℕ) → Differ a ys → AreDifferent (map (λ label. label / a) ys)
different_labels a [] d = tt
different_labels a (y ∷ ys) d =
    (λ at. let (z, held, same) = Contains-map_cases (λ label. label / a) ys (y / a) at in d.0 z (Contains-In z ys held) (sym same), different_labels a ys d.1)

names_relabelled : (a : ℕ) (name : ℕ → ℕ) (labels : List ℕ) → 1 ≤ a → map (λ u. u / a) (map (relabel a name) labels) ≡ map (λ u. name (u / a)) labels
names_relabelled a name [] some = refl
names_relabelled a name (u ∷ labels) some =
    ap (λ x. x ∷ map (λ u. u / a) (map (relabel a name) labels)) (div-mul-add (name (u / a)) a (u % a) (mod_below u a (omega arith))) ∙ ap (λ l. name (u / a) ∷ l) (names_relabelled a name labels some)

module _ (a p g points_below N : ℕ) (hyper : Hyper ℕ) (name : ℕ → ℕ) (kept : IdHypergraph) (some : 1 ≤ a) (is_hyper : IsHyper (p * a ^ p) points_below hyper) (sparse : IsSparse (p * a ^ p) g hyper)
    (from : (labels : List ℕ) → kept (sorted labels) ≡ true → matched a p hyper (sorted (map (relabel a name) labels)) ≡ true)
    (own : Constraint) (around_one : (labels : List ℕ) → Has own labels → (y z : ℕ) → In y labels → In z labels → y / a ≡ z / a) (around_different : (labels : List ℕ) → Has own labels → AreDifferent labels) where
  -- the port at a place
  abbrev port_of : ℕ → ℕ
  port_of place = get_or (digits a p (place / p)) (place % p) 0

  -- ---- labels on edges of the hypergraph
  -- the edge has the identifier of the label at a place of its port
  record Stands (e u : ℕ) : Type 0 where
    there : e < hyper.edges
    place : ℕ
    place_below : place < p * a ^ p
    at : hyper.at e place ≡ name (u / a)
    port : port_of place ≡ u % a

  stands_on : {e u : ℕ} → Stands e u → On (p * a ^ p) hyper e (name (u / a))
  stands_on s = (s.there, s.place, s.place_below, s.at)

  stands_same : {e u v : ℕ} → Stands e u → Stands e v → u / a ≡ v / a → u ≡ v
  stands_same {e} {u} {v} s t same =
      let place : s.place ≡ t.place = is_hyper.apart e s.place t.place s.there s.place_below t.place_below (s.at ∙ (ap name same ∙ sym t.at)) in
      let port : u % a ≡ v % a = sym s.port ∙ (ap port_of place ∙ t.port) in
      sym (div-add-mod' u a) ∙ (ap (λ x. x * a + u % a) same ∙ (ap (λ i. v / a * a + i) port ∙ div-add-mod' v a))

  -- the labels stand on one edge, and their identifiers are different
  record Around (labels : List ℕ) : Type 0 where
    edge : ℕ
    stands : (u : ℕ) → In u labels → Stands edge u
    apart : AreDifferent (map (λ u. name (u / a)) labels)

  around : (labels : List ℕ) → Has (identifiers a p N kept).passive labels → Around labels
  around labels has = go (matched_edge a p hyper (sorted (map (relabel a name) labels)) (from labels (Contains-filter_cases kept (multisets p 0 (a * N)) (sorted labels) has).1))
    where
      go : (e : ℕ) × (e < hyper.edges) × (c : ℕ) × (c < a ^ p) × (sorted (edge_labels a p hyper e c) ≡ sorted (map (relabel a name) labels)) → Around labels
      go (e, el, c, cl, same) = record {
        edge = e;
        stands = on_edge;
        apart = subst AreDifferent (names_relabelled a name labels some)
            (different_Rearranged (Rearranged-map (λ u. u / a) moved) (subst AreDifferent (sym (labels_at_ids a hyper e (c * p) p c some)) (points_different (p * a ^ p) points_below hyper e (c * p) p is_hyper el (places_within a p c cl))));
      }
        where
          moved : Rearranged (edge_labels a p hyper e c) (map (relabel a name) labels)
          moved = chained (Rearranged-sorted (edge_labels a p hyper e c)) (subst (λ l. Rearranged l (map (relabel a name) labels)) (sym same) (Rearranged-sym (Rearranged-sorted (map (relabel a name) labels))))

          on_edge : (u : ℕ) → In u labels → Stands e u
          on_edge u i =
              let (j, jl, is) = labels_cases a hyper e (c * p) p c (relabel a name u) (Contains-Rearranged (relabel a name u) (Rearranged-sym moved) (Contains-map (relabel a name) labels u (In-Contains u labels i))) in
              let (id, port) = same_from_place (name (u / a)) (u % a) (hyper.at e (c * p + j)) (get_or (digits a p c) j 0) a (mod_below u a (omega arith)) (digit_below a p c j some) is in
              record {
                there = el;
                place = c * p + j;
                place_below = (let within = places_within a p c cl in omega (arith, within, jl));
                at = sym id;
                port = rw (div-mul-add c p j jl, mod-mul-add c p j jl) (sym port);
              }

  -- ---- labels around a node
  abbrev FitsActive : List ℕ → InputView → Type 0
  FitsActive seen v = FitsAround own (identifiers a p N kept).passive seen v

  abbrev FitsPassive : List ℕ → InputView → Type 0
  FitsPassive seen v = FitsAround (identifiers a p N kept).passive own seen v

  beside : (t n : ℕ) (seen : List ℕ) (v : InputView) → IsTree own.degree p t n v → FitsActive seen v → (y w : ℕ) → In y (payloads v) → In w seen → (y ≡ w → ⊥) × (y / a ≡ w / a)
  beside zero n seen leaf tree fits y w i j = absurd i
  beside zero n seen end tree fits y w i j = absurd tree
  beside zero n seen (more back u branch rest) tree fits y w i j = absurd tree
  beside (suc t) n seen v tree fits y w i j =
      let has : Has own (payloads v ++ seen) = Has-around own (identifiers a p N kept).passive own.degree p t n seen v tree fits in
      (different_across (payloads v) seen (around_different (payloads v ++ seen) has) y w i j, around_one (payloads v ++ seen) has y w (In-append_left y (payloads v) seen i) (In-append_right w (payloads v) seen j))

  around_passive : (t n : ℕ) (seen : List ℕ) (c : InputView) → IsTree p own.degree (suc t) n c → FitsPassive seen c → Around (payloads c ++ seen)
  around_passive t n seen c tree fits = around (payloads c ++ seen) (Has-around (identifiers a p N kept).passive own p own.degree t n seen c tree fits)

  -- ---- what is behind an edge
  -- a walk of up to t steps from the identifier of u to that of z, along the edge of u first
  record Reach (u t z : ℕ) : Type 0 where
    edge : ℕ
    last : ℕ
    steps : ℕ
    stands : Stands edge u
    walk : Walk (p * a ^ p) hyper steps edge last (name (u / a)) (name (z / a))
    short : steps ≤ t

  longer : {u t t' z : ℕ} → Reach u t z → t ≤ t' → Reach u t' z
  longer r l = record { edge = r.edge; last = r.last; steps = r.steps; stands = r.stands; walk = r.walk; short = (let l' = r.short in omega arith) }

  no_return : {u t z : ℕ} → Reach u t z → t ≤ g → u / a ≡ z / a → ⊥
  no_return {u} {t} {z} r low same =
      let long = sparse r.steps r.edge r.last (name (u / a)) (subst (Walk (p * a ^ p) hyper r.steps r.edge r.last (name (u / a))) (ap name (sym same)) r.walk) in
      let l = r.short in
      omega arith

  no_meeting : {u v t t' y z : ℕ} → Reach u t y → Reach v t' z → (v ≡ u → ⊥) → v / a ≡ u / a → t + t' ≤ g → y / a ≡ z / a → ⊥
  no_meeting {u} {v} {t} {t'} {y} {z} r s away here low same =
      let onward : Walk (p * a ^ p) hyper s.steps s.edge s.last (name (u / a)) (name (y / a)) =
      subst (λ q. Walk (p * a ^ p) hyper s.steps s.edge s.last q (name (y / a))) (ap name here) (subst (Walk (p * a ^ p) hyper s.steps s.edge s.last (name (v / a))) (ap name (sym same)) s.walk) in
      let round = joined (turned r.walk) onward (λ e. away (stands_same (subst (λ f. Stands f v) (sym e) s.stands) r.stands here)) in
      let long = sparse (r.steps + s.steps) r.last s.last (name (y / a)) round in
      let l = r.short in
      let l' = s.short in
      omega arith

  -- z is w, or is reached from the identifier of w by another of its ports
  abbrev Near : ℕ → ℕ → ℕ → Type 0
  Near w t z = (z ≡ w) ⊎ ((v : ℕ) × (v ≡ w → ⊥) × (v / a ≡ w / a) × Reach v t z)

  -- from u along the edge of the passive node to w, and on
  crossing : {e u w t z : ℕ} → Stands e u → Stands e w → (name (u / a) ≡ name (w / a) → ⊥) → Near w t z → Reach u (suc t) z
  crossing {e} {u} {w} {t} {z} left right apart (inl is) = subst (Reach u (suc t)) (sym is) (record {
    edge = e;
    last = e;
    steps = 1;
    stands = left;
    walk = one (stands_on left) (stands_on right) apart;
    short = omega arith;
  })
  crossing {e} {u} {w} {t} {z} left right apart (inr (v, away, same, r)) = record {
    edge = e;
    last = r.last;
    steps = suc r.steps;
    stands = left;
    walk = step (stands_on left) (stands_on right) apart (λ e'. away (stands_same r.stands (subst (λ f. Stands f w) e' right) same))
        (subst (λ q. Walk (p * a ^ p) hyper r.steps r.edge r.last q (name (z / a))) (ap name same) r.walk);
    short = (let l = r.short in omega arith);
  }

  -- each of ys is reached from one of the labels
  abbrev Behind : List ℕ → ℕ → List ℕ → Type 0
  Behind labels t ys = (z : ℕ) → In z ys → (u : ℕ) × In u labels × Reach u t z

  -- each of ys is one of the labels, or is reached from the identifier of one
  abbrev Beyond : List ℕ → ℕ → List ℕ → Type 0
  Beyond labels t ys = (z : ℕ) → In z ys → (w : ℕ) × In w labels × Near w t z

  name_apart : (w : ℕ) (labels : List ℕ) → AreDifferent (map (λ u. name (u / a)) (w ∷ labels)) → (u : ℕ) → In u labels → name (w / a) ≡ name (u / a) → ⊥
  name_apart w labels d u i same = d.0 (subst (Contains (map (λ u. name (u / a)) labels)) (sym same) (Contains-map (λ u. name (u / a)) labels u (In-Contains u labels i)))

  -- from an active node through a passive one
  through : (t n u : ℕ) (c : InputView) → IsTree p own.degree (suc t) n c → FitsPassive (u ∷ []) c → Beyond (payloads c) t (behind_passive c) → (z : ℕ) → In z (behind_passive c) → Reach u (suc t) z
  through t n u c tree fits beyond z at =
      let (w, i, near) = beyond z at in
      let all : Around (payloads c ++ (u ∷ [])) = around_passive t n (u ∷ []) c tree fits in
      crossing (all.stands u (In-append_right u (payloads c) (u ∷ []) (inl refl))) (all.stands w (In-append_left w (payloads c) (u ∷ []) i))
      (λ same. names_across (payloads c) all.apart w i (sym same)) near
    where
      names_across : (ws : List ℕ) → AreDifferent (map (λ u. name (u / a)) (ws ++ (u ∷ []))) → (w : ℕ) → In w ws → name (w / a) ≡ name (u / a) → ⊥
      names_across [] d w i same = i
      names_across (w' ∷ ws) d w (inl e) same = name_apart w' (ws ++ (u ∷ [])) d u (In-append_right u ws (u ∷ []) (inl refl)) (ap (λ x. name (x / a)) (sym e) ∙ same)
      names_across (w' ∷ ws) d w (inr i) same = names_across ws d.1 w i same

  -- the children of an active node: those behind the first edge and those behind the rest
  both_active : (t n u : ℕ) (seen ys : List ℕ) (rest : InputView) → IsTree own.degree p (suc t) n rest → FitsActive (u ∷ seen) rest → 2 * suc t ≤ g
      → Differ a ys → ((z : ℕ) → In z ys → Reach u (suc t) z) → Differ a (behind_active rest) × Behind (payloads rest) (suc t) (behind_active rest)
      → Differ a (ys ++ behind_active rest) × Behind (u ∷ payloads rest) (suc t) (ys ++ behind_active rest)
  both_active t n u seen ys rest tree fits low differ near (differ', behind) = (
    Differ-append a ys (behind_active rest) differ differ' across,
    λ z at. elim (In-append_cases z ys (behind_active rest) at) [
      | inl i ↦ (u, inl refl, near z i)
      | inr j ↦ (let (v, k, s) = behind z j in (v, inr k, s))
    ],
  )
    where
      across : (y z : ℕ) → In y ys → In z (behind_active rest) → y / a ≡ z / a → ⊥
      across y z i j same =
          let (v, k, s) = behind z j in
          let (away, one_node) = beside (suc t) n (u ∷ seen) rest tree fits v u k (inl refl) in
          no_meeting (near y i) s away one_node (omega arith) same

  -- the children of a passive node: those behind the first edge and those behind the rest
  both_passive : (t n m w : ℕ) (seen : List ℕ) (b rest : InputView) → IsTree own.degree p t n b → FitsActive (w ∷ []) b → IsTree p own.degree (suc t) m rest → FitsPassive (w ∷ seen) rest → 2 * suc t ≤ g
      → Differ a (behind_active b) × Behind (payloads b) t (behind_active b) → Differ a (behind_passive rest) × Beyond (payloads rest) t (behind_passive rest)
      → Differ a ((w ∷ behind_active b) ++ behind_passive rest) × Beyond (w ∷ payloads rest) t ((w ∷ behind_active b) ++ behind_passive rest)
  both_passive t n m w seen b rest tree fits tree' fits' low (differ, behind) (differ', beyond) = (
    Differ-append a (w ∷ behind_active b) (behind_passive rest) (first, differ) differ' (λ y z i j. across y z (near y i) j),
    λ z at. elim (In-append_cases z (w ∷ behind_active b) (behind_passive rest) at) [
      | inl i ↦ (w, inl refl, near z i)
      | inr j ↦ (let (v, k, s) = beyond z j in (v, inr k, s))
    ],
  )
    where
      next : (v : ℕ) → In v (payloads b) → (v ≡ w → ⊥) × (v / a ≡ w / a)
      next v i = beside t n (w ∷ []) b tree fits v w i (inl refl)

      first : (z : ℕ) → In z (behind_active b) → w / a ≡ z / a → ⊥
      first z at same = let (v, i, r) = behind z at in no_return r (omega arith) ((next v i).1 ∙ same)

      near : (z : ℕ) → In z (w ∷ behind_active b) → Near w t z
      near z (inl e) = inl e
      near z (inr at) = let (v, i, r) = behind z at in let (away, same) = next v i in inr (v, away, same, r)

      all : Around (payloads rest ++ (w ∷ seen))
      all = around_passive t m (w ∷ seen) rest tree' fits'

      names_across : (ws : List ℕ) → AreDifferent (map (λ u. name (u / a)) (ws ++ (w ∷ seen))) → (v : ℕ) → In v ws → name (v / a) ≡ name (w / a) → ⊥
      names_across [] d v i same = i
      names_across (w' ∷ ws) d v (inl e) same = name_apart w' (ws ++ (w ∷ seen)) d w (In-append_right w ws (w ∷ seen) (inl refl)) (ap (λ x. name (x / a)) (sym e) ∙ same)
      names_across (w' ∷ ws) d v (inr i) same = names_across ws d.1 v i same

      over : (z : ℕ) → In z (behind_passive rest) → Reach w (suc t) z
      over z j =
          let (v, k, s) = beyond z j in
          crossing (all.stands w (In-append_right w (payloads rest) (w ∷ seen) (inl refl))) (all.stands v (In-append_left v (payloads rest) (w ∷ seen) k)) (λ same. names_across (payloads rest) all.apart v k (sym same)) s

      across : (y z : ℕ) → Near w t y → In z (behind_passive rest) → y / a ≡ z / a → ⊥
      across y z (inl e) j same = no_return (over z j) (omega arith) (ap (λ x. x / a) (sym e) ∙ same)
      across y z (inr (v, away, here, r)) j same = no_meeting r (over z j) (λ e. away (sym e)) (sym here) (omega arith) same

  mutual
    children : (t n : ℕ) (seen : List ℕ) (v : InputView) → IsTree own.degree p t n v → FitsActive seen v → 2 * t ≤ g → Differ a (behind_active v) × Behind (payloads v) t (behind_active v)
    children t n seen leaf tree fits low = (tt, λ z none. absurd none)
    children t n seen end tree fits low = (tt, λ z none. absurd none)
    children zero n seen (more back u branch rest) tree fits low = absurd tree
    children (suc t) zero seen (more back u branch rest) tree fits low = absurd tree
    children (suc zero) (suc n) seen (more back u leaf rest) tree fits low =
        both_active zero n u seen [] rest tree.3 fits.1 low tt (λ z none. absurd none) (children (suc zero) n (u ∷ seen) rest tree.3 fits.1 low)
    children (suc zero) (suc n) seen (more back u end rest) tree fits low = absurd tree.2
    children (suc zero) (suc n) seen (more back u (more back' w b rest') rest) tree fits low = absurd tree.2
    children (suc (suc t)) (suc n) seen (more back u branch rest) tree fits low =
        let inner = crossed t (pred p) (u ∷ []) branch tree.2 fits.0 (omega arith) in
        let outer = children (suc (suc t)) n (u ∷ seen) rest tree.3 fits.1 low in
        both_active (suc t) n u seen (behind_passive branch) rest tree.3 fits.1 low inner.0 (λ z at. longer (through t (pred p) u branch tree.2 fits.0 inner.1 z at) (omega arith)) outer

    crossed : (t n : ℕ) (seen : List ℕ) (c : InputView) → IsTree p own.degree (suc t) n c → FitsPassive seen c → 2 * suc t ≤ g → Differ a (behind_passive c) × Beyond (payloads c) t (behind_passive c)
    crossed t n seen leaf tree fits low = (tt, λ z none. absurd none)
    crossed t n seen end tree fits low = (tt, λ z none. absurd none)
    crossed t zero seen (more back w b rest) tree fits low = absurd tree
    crossed t (suc n) seen (more back w b rest) tree fits low =
        both_passive t (pred own.degree) n w seen b rest tree.2 fits.0 tree.3 fits.1 low (children t (pred own.degree) (w ∷ []) b tree.2 fits.0 (omega arith)) (crossed t n (w ∷ seen) rest tree.3 fits.1 low)

  -- ---- whole views
  apart_active : (T : ℕ) → 2 * suc T ≤ g → (v : InputView) → IsView own.degree p (suc T) v → FitsActive [] v → AreDifferent (map (λ label. label / a) (shown v))
  apart_active T low leaf view fits = tt
  apart_active T low end view fits = tt
  apart_active T low (more back u branch rest) view fits = different_labels a (u ∷ behind_active v) (first, all.0)
    where
      v : InputView
      v = more back u branch rest

      all : Differ a (behind_active v) × Behind (payloads v) (suc T) (behind_active v)
      all = children (suc T) own.degree [] v view fits low

      first : (z : ℕ) → In z (behind_active v) → u / a ≡ z / a → ⊥
      first z at same =
          let (y, i, r) = all.1 z at in
          let has : Has own (payloads v ++ []) = Has-around own (identifiers a p N kept).passive own.degree p T own.degree [] v view fits in
          let one_node : y / a ≡ u / a = around_one (payloads v ++ []) has y u (In-append_left y (payloads v) [] i) (In-append_left u (payloads v) [] (inl refl)) in
          no_return r (omega arith) (one_node ∙ same)

  pub AreApart-own : (T : ℕ) → 2 * suc (suc T) ≤ g → AreApart (record { labels = a * N; active = own; passive = (identifiers a p N kept).passive }) (λ label. label / a) T
  AreApart-own T low = record {
    active = λ v view fits. apart_active T (omega arith) v view fits;
    passive = λ v view fits. different_labels a (behind_passive v) (crossed (suc T) p [] v view fits low).0;
  }

-- ---- identifiers all of whose ports are used
pub identifiers_one : (a p N : ℕ) (kept : IdHypergraph) (labels : List ℕ) → Has (identifiers a p N kept).active labels → (y z : ℕ) → In y labels → In z labels → y / a ≡ z / a
identifiers_one a p N kept labels has y z i j =
    let (x, held, is) = Contains-map_cases (id_labels a) (count_from 0 N) (sorted labels) has in
    let of_x : (u : ℕ) → In u labels → u / a ≡ x = λ u k.
    let (low, high) = count_from_range (x * a) a u (subst (λ config. Contains config u) (sym is) (Contains-Rearranged u (Rearranged-sorted labels) (In-Contains u labels k))) in
    let is_u : u ≡ x * a + (u - x * a) = omega arith in
    ap (λ v. v / a) is_u ∙ div-mul-add x a (u - x * a) (omega arith) in
    of_x y i ∙ sym (of_x z j)

pub identifiers_different : (a p N : ℕ) (kept : IdHypergraph) (labels : List ℕ) → Has (identifiers a p N kept).active labels → AreDifferent labels
identifiers_different a p N kept labels has =
    let (x, held, is) = Contains-map_cases (id_labels a) (count_from 0 N) (sorted labels) has in
    different_Rearranged (Rearranged-sym (Rearranged-sorted labels)) (subst AreDifferent is (different_distinct (id_labels a x) (Distinct-count_from (x * a) a)))
