-- What a view of places shows of active nodes: the colours of the active places that are seen, each once.
use Rattle.std.proofs.Common.{◌≡◌, ℕ, zero, suc, ◌<◌, Bool, true, false, not, cond, List, [], ◌∷◌, ◌++◌, map, refl, sym, ◌∙◌, ap, subst, arith}
use Rattle.std.specs.Prelude.{Contains, filter, flat_map, if◌then◌else◌}
use Rattle.std.proofs.lemmas.List.{map-append}
use Rattle.std.proofs.lemmas.List.Elements.{filter-append}
use Rattle.re_forests.proofs.OnceLists.{dropped, dropped_held}
use Rattle.re_forests.proofs.PlaceWalks.{piece, ports, seen}
use Rattle.re_forests.proofs.Places.{IsGood, IsPorted-places, Place, back_of, kind_of, next_of, places, real}
use Rattle.re_forests.proofs.Views.{payload, row, view}
use Rattle.re_given.specs.InputViews.{InputView}
use Rattle.re_labels.proofs.Membership.{count_from_range, Contains-here, Contains-later}
use Rattle.re_labels.specs.Lists.{count_from}
use Rattle.re_layers.specs.Networks.{IsForest, Network}
use Rattle.re_local.specs.LocalAlgorithms.{behind_active, behind_passive, shown}
use Rattle.re_laws.specs.Trees.{Tree, end, leaf, more, others}

-- what is shown behind a node of a kind
abbrev pub behind : Bool → InputView → List ℕ
behind true x = behind_active x
behind false x = behind_passive x

behind_leaf : (b : Bool) → behind b leaf ≡ []
behind_leaf true = refl
behind_leaf false = refl

behind_end : (b : Bool) → behind b end ≡ []
behind_end true = refl
behind_end false = refl

module _ (a p N : ℕ) (colour : Place → ℕ) (G : Network) (forest : IsForest a p N G) (some_active : 0 < a) (some_passive : 0 < p) where
  -- the children at these ports
  abbrev rows : (Place → Tree ℕ) → Place → List ℕ → Tree ℕ
  rows f x [] = end
  rows f x (k ∷ ks) = more (suc (back_of G x k)) (payload (places a p colour G) x k) (others (back_of G x k) (f (next_of G x k))) (rows f x ks)

  row-rows : (f : Place → Tree ℕ) (x : Place) (k n : ℕ) → row (places a p colour G) f x k n ≡ rows f x (count_from k n)
  row-rows f x k zero = refl
  row-rows f x k (suc n) = ap (more (suc (back_of G x k)) (payload (places a p colour G) x k) (others (back_of G x k) (f (next_of G x k)))) (row-rows f x (suc k) n)

  others-rows : (f : Place → Tree ℕ) (x : Place) (q : ℕ) (ks : List ℕ) → others q (rows f x ks) ≡ rows f x (dropped q ks)
  others-rows f x q [] = refl
  others-rows f x zero (k ∷ ks) = refl
  others-rows f x (suc q) (k ∷ ks) = ap (more (suc (back_of G x k)) (payload (places a p colour G) x k) (others (back_of G x k) (f (next_of G x k)))) (others-rows f x q ks)

  turns : (x : Place) (k : ℕ) → IsGood a p G x → k < (if kind_of G x then a else p) → kind_of G (next_of G x k) ≡ not (kind_of G x)
  turns x k ok l = (IsPorted-places a p N colour G forest some_active some_passive).turns x k ok l

  stays : (x : Place) (k : ℕ) → IsGood a p G x → k < (if kind_of G x then a else p) → IsGood a p G (next_of G x k)
  stays x k ok l = (IsPorted-places a p N colour G forest some_active some_passive).stays x k ok l

  -- the colours of the active ones
  abbrev pub actives : List Place → List ℕ
  actives xs = map colour (filter (kind_of G) xs)

  actives-append : (xs ys : List Place) → actives (xs ++ ys) ≡ actives xs ++ actives ys
  actives-append xs ys = ap (map colour) (filter-append (kind_of G) xs ys) ∙ map-append colour (filter (kind_of G) xs) (filter (kind_of G) ys)

  listed : (t : ℕ) → ((y : Place) → IsGood a p G y → (q : ℕ) → behind (kind_of G y) (others q (view (places a p colour G) t y)) ≡ actives (seen a p G t y (dropped q (ports a p G y))))
      → (x : Place) → IsGood a p G x → (ks : List ℕ) → ((k : ℕ) → Contains ks k → k < (if kind_of G x then a else p))
      → behind (kind_of G x) (rows (λ y. view (places a p colour G) t y) x ks) ≡ actives (flat_map (λ k. piece a p G t x k) ks)
  listed t below x ok [] range = behind_end (kind_of G x)
  listed t below x ok (k ∷ ks) range =
      step (kind_of G x) refl
      ∙ ap (λ l. actives (piece a p G t x k) ++ l) (listed t below x ok ks (λ j held. range j (Contains-later j k ks held)))
      ∙ sym (actives-append (piece a p G t x k) (flat_map (λ k. piece a p G t x k) ks))
    where
      low : k < (if kind_of G x then a else p)
      low = range k (Contains-here k ks)

      branch : Tree ℕ
      branch = others (back_of G x k) (view (places a p colour G) t (next_of G x k))

      rest : List Place
      rest = seen a p G t (next_of G x k) (dropped (back_of G x k) (ports a p G (next_of G x k)))

      fine : behind (kind_of G (next_of G x k)) branch ≡ actives rest
      fine = below (next_of G x k) (stays x k ok low) (back_of G x k)

      step : (b : Bool) → kind_of G x ≡ b
          → behind b (rows (λ y. view (places a p colour G) t y) x (k ∷ ks)) ≡ actives (next_of G x k ∷ rest) ++ behind b (rows (λ y. view (places a p colour G) t y) x ks)
      step true e =
          let dark : kind_of G (next_of G x k) ≡ false = turns x k ok low ∙ ap not e in
          let none : filter (kind_of G) (next_of G x k ∷ rest) ≡ filter (kind_of G) rest = ap (λ b. cond b (next_of G x k ∷ filter (kind_of G) rest) (filter (kind_of G) rest)) dark in
          ap (λ l. l ++ behind_active (rows (λ y. view (places a p colour G) t y) x ks)) (subst (λ b. behind b branch ≡ actives rest) dark fine ∙ ap (map colour) (sym none))
      step false e =
          let bright : kind_of G (next_of G x k) ≡ true = turns x k ok low ∙ ap not e in
          let one : filter (kind_of G) (next_of G x k ∷ rest) ≡ next_of G x k ∷ filter (kind_of G) rest =
          ap (λ b. cond b (next_of G x k ∷ filter (kind_of G) rest) (filter (kind_of G) rest)) bright in
          let label : payload (places a p colour G) x k ≡ colour (next_of G x k) = ap (λ (b : Bool). if b then colour x else colour (next_of G x k)) e in
          ap (λ l. l ++ behind_passive (rows (λ y. view (places a p colour G) t y) x ks))
          (ap (λ n. n ∷ behind_active branch) label ∙ ap (λ l. colour (next_of G x k) ∷ l) (subst (λ b. behind b branch ≡ actives rest) bright fine) ∙ ap (map colour) (sym one))

  behind_seen : (t : ℕ) (y : Place) → IsGood a p G y → (q : ℕ) → behind (kind_of G y) (others q (view (places a p colour G) t y)) ≡ actives (seen a p G t y (dropped q (ports a p G y)))
  behind_seen zero y ok q = behind_leaf (kind_of G y)
  behind_seen (suc t) y ok q =
      ap (λ x. behind (kind_of G y) (others q x)) (row-rows (λ z. view (places a p colour G) t z) y 0 (if kind_of G y then a else p))
      ∙ ap (behind (kind_of G y)) (others-rows (λ z. view (places a p colour G) t z) y q (ports a p G y))
      ∙ listed t (λ z fine q. behind_seen t z fine q) y ok (dropped q (ports a p G y))
      (λ k held. (let all = count_from_range 0 (if kind_of G y then a else p) k (dropped_held q (ports a p G y) k held) in omega (arith, all)))

  pub view_seen : (t : ℕ) (y : Place) → IsGood a p G y → behind (kind_of G y) (view (places a p colour G) (suc t) y) ≡ actives (seen a p G (suc t) y (ports a p G y))
  view_seen t y ok =
      ap (behind (kind_of G y)) (row-rows (λ z. view (places a p colour G) t z) y 0 (if kind_of G y then a else p))
      ∙ listed t (λ z fine q. behind_seen t z fine q) y ok (ports a p G y) (λ k held. (let all = count_from_range 0 (if kind_of G y then a else p) k held in omega (arith, all)))

  shown-row : (f : Place → Tree ℕ) (x : Place) (k n : ℕ) → 0 < n → shown (row (places a p colour G) f x k n) ≡ payload (places a p colour G) x k ∷ behind_active (row (places a p colour G) f x k n)
  shown-row f x k zero l = absurd (omega arith)
  shown-row f x k (suc n) l = refl

  -- an active node shows itself first
  pub active_shown : (t v : ℕ) → G.active v ≡ true → shown (view (places a p colour G) (suc t) (real v)) ≡ actives (real v ∷ seen a p G (suc t) (real v) (ports a p G (real v)))
  active_shown t v kind =
      let some : 0 < (if G.active v then a else p) = subst (λ (b : Bool). 0 < (if b then a else p)) (sym kind) some_active in
      let label : payload (places a p colour G) (real v) 0 ≡ colour (real v) = ap (λ (b : Bool). if b then colour (real v) else colour (next_of G (real v) 0)) kind in
      let one : filter (kind_of G) (real v ∷ seen a p G (suc t) (real v) (ports a p G (real v))) ≡ real v ∷ filter (kind_of G) (seen a p G (suc t) (real v) (ports a p G (real v))) =
      ap (λ b. cond b (real v ∷ filter (kind_of G) (seen a p G (suc t) (real v) (ports a p G (real v)))) (filter (kind_of G) (seen a p G (suc t) (real v) (ports a p G (real v))))) kind in
      shown-row (λ y. view (places a p colour G) t y) (real v) 0 (if G.active v then a else p) some
      ∙ ap (λ n. n ∷ behind_active (view (places a p colour G) (suc t) (real v))) label
      ∙ ap (λ l. colour (real v) ∷ l) (subst (λ b. behind b (view (places a p colour G) (suc t) (real v)) ≡ actives (seen a p G (suc t) (real v) (ports a p G (real v)))) kind (view_seen t (real v) tt))
      ∙ ap (map colour) (sym one)

  pub passive_shown : (t v : ℕ) → G.active v ≡ false → behind_passive (view (places a p colour G) (suc t) (real v)) ≡ actives (seen a p G (suc t) (real v) (ports a p G (real v)))
  passive_shown t v kind = subst (λ b. behind b (view (places a p colour G) (suc t) (real v)) ≡ actives (seen a p G (suc t) (real v) (ports a p G (real v)))) kind (view_seen t (real v) tt)
