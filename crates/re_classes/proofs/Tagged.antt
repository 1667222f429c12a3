-- Each active node of a view with its place on the way around the view.
use Rattle.std.proofs.Common.{◌≡◌, ℕ, zero, suc, pred, ◌+◌, List, [], ◌∷◌, ◌++◌, map, length, refl, sym, ◌∙◌, ap}
use Rattle.std.proofs.lemmas.List.{length-append, length-map, map-append}
use Rattle.re_given.proofs.Relabelled.{relabelled}
use Rattle.re_given.specs.InputViews.{InputView, known}
use Rattle.re_labels.specs.Lists.{count_from}
use Rattle.re_classes.proofs.Ranks.{labels}
use Rattle.re_classes.proofs.Turns.{Turn, active_parts, active_parts-relabelled, active_turns, after, after-map, around_active, around_passive, before, before-map, joined_all, level, lowered, passive_parts, passive_parts-relabelled, passive_turns, raised, turned_to}
use Rattle.re_problem.proofs.Walks.{count_from_split}
use Rattle.re_laws.specs.Trees.{IsTree, Tree, end, leaf, more}

-- how many nodes come before the node itself around it, and how many there are in all
abbrev pub sooner_active : {E : Type 0} → ℕ → Tree E → ℕ
sooner_active j x = length (after j (active_parts x))

abbrev pub later_active : {E : Type 0} → ℕ → Tree E → ℕ
later_active j x = length (before j (active_parts x))

abbrev pub sooner_passive : {E : Type 0} → ℕ → Tree E → ℕ
sooner_passive j x = length (after j (passive_parts x))

abbrev pub later_passive : {E : Type 0} → ℕ → Tree E → ℕ
later_passive j x = length (before j (passive_parts x))

-- the children of the active node i, and of a passive node, which is entered at place j, with the places from a on after that and those from b on
-- before it
abbrev mutual
  pub tagged_active : {E : Type 0} → ℕ → ℕ → ℕ → ℕ → Tree E → Tree (ℕ × E)
  tagged_active i j a b leaf = leaf
  tagged_active i j a b end = end
  tagged_active i zero a b (more back label branch rest) =
      more back (i, label) (tagged_passive (pred back) a (a + sooner_passive (pred back) branch) branch)
      (tagged_active i zero (a + (sooner_passive (pred back) branch + later_passive (pred back) branch)) b rest)
  tagged_active i (suc j) a b (more back label branch rest) =
      more back (i, label) (tagged_passive (pred back) b (b + sooner_passive (pred back) branch) branch)
      (tagged_active i j a (b + (sooner_passive (pred back) branch + later_passive (pred back) branch)) rest)

  pub tagged_passive : {E : Type 0} → ℕ → ℕ → ℕ → Tree E → Tree (ℕ × E)
  tagged_passive j a b leaf = leaf
  tagged_passive j a b end = end
  tagged_passive zero a b (more back label branch rest) =
      more back (a + sooner_active (pred back) branch, label) (tagged_active (a + sooner_active (pred back) branch) (pred back) a (suc (a + sooner_active (pred back) branch)) branch)
      (tagged_passive zero (a + (sooner_active (pred back) branch + suc (later_active (pred back) branch))) b rest)
  tagged_passive (suc j) a b (more back label branch rest) =
      more back (b + sooner_active (pred back) branch, label) (tagged_active (b + sooner_active (pred back) branch) (pred back) b (suc (b + sooner_active (pred back) branch)) branch)
      (tagged_passive j a (b + (sooner_active (pred back) branch + suc (later_active (pred back) branch))) rest)

abbrev pub fst : {E : Type 0} → ℕ × E → ℕ
fst p = p.0

abbrev pub snd : {E : Type 0} → ℕ × E → E
snd p = p.1

-- without the places it is the view
mutual
  pub untagged_active : {E : Type 0} (i j a b : ℕ) (x : Tree E) → relabelled snd (tagged_active i j a b x) ≡ x
  untagged_active i j a b leaf = refl
  untagged_active i j a b end = refl
  untagged_active i zero a b (more back label branch rest) =
      let here = untagged_passive (pred back) a (a + sooner_passive (pred back) branch) branch in
      let there = untagged_active i zero (a + (sooner_passive (pred back) branch + later_passive (pred back) branch)) b rest in
      rw (here, there) refl
  untagged_active i (suc j) a b (more back label branch rest) =
      let here = untagged_passive (pred back) b (b + sooner_passive (pred back) branch) branch in
      let there = untagged_active i j a (b + (sooner_passive (pred back) branch + later_passive (pred back) branch)) rest in
      rw (here, there) refl

  pub untagged_passive : {E : Type 0} (j a b : ℕ) (x : Tree E) → relabelled snd (tagged_passive j a b x) ≡ x
  untagged_passive j a b leaf = refl
  untagged_passive j a b end = refl
  untagged_passive zero a b (more back label branch rest) =
      let here = untagged_active (a + sooner_active (pred back) branch) (pred back) a (suc (a + sooner_active (pred back) branch)) branch in
      let there = untagged_passive zero (a + (sooner_active (pred back) branch + suc (later_active (pred back) branch))) b rest in
      rw (here, there) refl
  untagged_passive (suc j) a b (more back label branch rest) =
      let here = untagged_active (b + sooner_active (pred back) branch) (pred back) b (suc (b + sooner_active (pred back) branch)) branch in
      let there = untagged_passive j a (b + (sooner_active (pred back) branch + suc (later_active (pred back) branch))) rest in
      rw (here, there) refl

-- ---- the places don't depend on the labels
after_count : {X Y : Type 0} (f : X → Y) (j : ℕ) (ps : List (List X)) → length (after j (map (map f) ps)) ≡ length (after j ps)
after_count f j ps = ap length (after-map f j ps) ∙ length-map (after j ps) f

before_count : {X Y : Type 0} (f : X → Y) (j : ℕ) (ps : List (List X)) → length (before j (map (map f) ps)) ≡ length (before j ps)
before_count f j ps = ap length (before-map f j ps) ∙ length-map (before j ps) f

sooner_active-relabelled : {E F : Type 0} (f : E → F) (j : ℕ) (x : Tree E) → sooner_active j (relabelled f x) ≡ sooner_active j x
sooner_active-relabelled f j x = ap (λ ps. length (after j ps)) (active_parts-relabelled f x) ∙ after_count (turned_to f) j (active_parts x)

later_active-relabelled : {E F : Type 0} (f : E → F) (j : ℕ) (x : Tree E) → later_active j (relabelled f x) ≡ later_active j x
later_active-relabelled f j x = ap (λ ps. length (before j ps)) (active_parts-relabelled f x) ∙ before_count (turned_to f) j (active_parts x)

sooner_passive-relabelled : {E F : Type 0} (f : E → F) (j : ℕ) (x : Tree E) → sooner_passive j (relabelled f x) ≡ sooner_passive j x
sooner_passive-relabelled f j x = ap (λ ps. length (after j ps)) (passive_parts-relabelled f x) ∙ after_count (turned_to f) j (passive_parts x)

later_passive-relabelled : {E F : Type 0} (f : E → F) (j : ℕ) (x : Tree E) → later_passive j (relabelled f x) ≡ later_passive j x
later_passive-relabelled f j x = ap (λ ps. length (before j ps)) (passive_parts-relabelled f x) ∙ before_count (turned_to f) j (passive_parts x)

-- the view with the places alone
abbrev pub places_active : {E : Type 0} → ℕ → ℕ → ℕ → ℕ → Tree E → InputView
places_active i j a b x = relabelled fst (tagged_active i j a b x)

abbrev pub places_passive : {E : Type 0} → ℕ → ℕ → ℕ → Tree E → InputView
places_passive j a b x = relabelled fst (tagged_passive j a b x)

mutual
  pub places_active-relabelled : {E F : Type 0} (f : E → F) (i j a b : ℕ) (x : Tree E) → places_active i j a b (relabelled f x) ≡ places_active i j a b x
  places_active-relabelled f i j a b leaf = refl
  places_active-relabelled f i j a b end = refl
  places_active-relabelled f i zero a b (more back label branch rest) =
      let here = places_passive-relabelled f (pred back) a (a + sooner_passive (pred back) branch) branch in
      let there = places_active-relabelled f i zero (a + (sooner_passive (pred back) branch + later_passive (pred back) branch)) b rest in
      rw (sooner_passive-relabelled f (pred back) branch, later_passive-relabelled f (pred back) branch, here, there) refl
  places_active-relabelled f i (suc j) a b (more back label branch rest) =
      let here = places_passive-relabelled f (pred back) b (b + sooner_passive (pred back) branch) branch in
      let there = places_active-relabelled f i j a (b + (sooner_passive (pred back) branch + later_passive (pred back) branch)) rest in
      rw (sooner_passive-relabelled f (pred back) branch, later_passive-relabelled f (pred back) branch, here, there) refl

  pub places_passive-relabelled : {E F : Type 0} (f : E → F) (j a b : ℕ) (x : Tree E) → places_passive j a b (relabelled f x) ≡ places_passive j a b x
  places_passive-relabelled f j a b leaf = refl
  places_passive-relabelled f j a b end = refl
  places_passive-relabelled f zero a b (more back label branch rest) =
      let here = places_active-relabelled f (a + sooner_active (pred back) branch) (pred back) a (suc (a + sooner_active (pred back) branch)) branch in
      let there = places_passive-relabelled f zero (a + (sooner_active (pred back) branch + suc (later_active (pred back) branch))) b rest in
      rw (sooner_active-relabelled f (pred back) branch, later_active-relabelled f (pred back) branch, here, there) refl
  places_passive-relabelled f (suc j) a b (more back label branch rest) =
      let here = places_active-relabelled f (b + sooner_active (pred back) branch) (pred back) b (suc (b + sooner_active (pred back) branch)) branch in
      let there = places_passive-relabelled f j a (b + (sooner_active (pred back) branch + suc (later_active (pred back) branch))) rest in
      rw (sooner_active-relabelled f (pred back) branch, later_active-relabelled f (pred back) branch, here, there) refl

-- ---- nor on the back ports of the last layer
after_none : {X : Type 0} (j : ℕ) → after {X = X} j [] ≡ []
after_none zero = refl
after_none (suc j) = refl

before_none : {X : Type 0} (j : ℕ) → before {X = X} j [] ≡ []
before_none zero = refl
before_none (suc j) = refl

mutual
  pub active_parts-known : (d e T n : ℕ) (x : InputView) → IsTree d e (suc T) n x → active_parts (known T x) ≡ active_parts x
  active_parts-known d e T n leaf h = refl
  active_parts-known d e T n end h = refl
  active_parts-known d e T zero (more back label branch rest) h = absurd h
  active_parts-known d e zero (suc n) (more back label leaf rest) h =
      let there = active_parts-known d e zero n rest h.3 in
      rw (after_none {X = Turn ℕ} (pred back), before_none {X = Turn ℕ} (pred back), there) refl
  active_parts-known d e zero (suc n) (more back label end rest) h = absurd h.2
  active_parts-known d e zero (suc n) (more back label (more b l br re) rest) h = absurd h.2
  active_parts-known d e (suc T) (suc n) (more back label branch rest) h =
      let here = passive_parts-known e d T (pred e) branch h.2 in
      let there = active_parts-known d e (suc T) n rest h.3 in
      rw (here, there) refl

  pub passive_parts-known : (d e T n : ℕ) (x : InputView) → IsTree d e (suc T) n x → passive_parts (known T x) ≡ passive_parts x
  passive_parts-known d e T n leaf h = refl
  passive_parts-known d e T n end h = refl
  passive_parts-known d e T zero (more back label branch rest) h = absurd h
  passive_parts-known d e zero (suc n) (more back label leaf rest) h =
      let there = passive_parts-known d e zero n rest h.3 in
      rw (after_none {X = Turn ℕ} (pred back), before_none {X = Turn ℕ} (pred back), there) refl
  passive_parts-known d e zero (suc n) (more back label end rest) h = absurd h.2
  passive_parts-known d e zero (suc n) (more back label (more b l br re) rest) h = absurd h.2
  passive_parts-known d e (suc T) (suc n) (more back label branch rest) h =
      let here = active_parts-known e d T (pred e) branch h.2 in
      let there = passive_parts-known d e (suc T) n rest h.3 in
      rw (here, there) refl

-- the places that are known are those of what is known
mutual
  pub places_active-known : (d e T n i j a b : ℕ) (x : InputView) → IsTree d e (suc T) n x → known T (places_active i j a b x) ≡ places_active i j a b (known T x)
  places_active-known d e T n i j a b leaf h = refl
  places_active-known d e T n i j a b end h = refl
  places_active-known d e T zero i j a b (more back label branch rest) h = absurd h
  places_active-known d e zero (suc n) i zero a b (more back label leaf rest) h =
      let there = places_active-known d e zero n i zero (a + 0) b rest h.3 in
      rw (after_none {X = Turn ℕ} (pred back), before_none {X = Turn ℕ} (pred back), there) refl
  places_active-known d e zero (suc n) i (suc j) a b (more back label leaf rest) h =
      let there = places_active-known d e zero n i j a (b + 0) rest h.3 in
      rw (after_none {X = Turn ℕ} (pred back), before_none {X = Turn ℕ} (pred back), there) refl
  places_active-known d e zero (suc n) i j a b (more back label end rest) h = absurd h.2
  places_active-known d e zero (suc n) i j a b (more back label (more b' l br re) rest) h = absurd h.2
  places_active-known d e (suc T) (suc n) i zero a b (more back label branch rest) h =
      let parts = passive_parts-known e d T (pred e) branch h.2 in
      let here = places_passive-known e d T (pred e) (pred back) a (a + sooner_passive (pred back) branch) branch h.2 in
      let there = places_active-known d e (suc T) n i zero (a + (sooner_passive (pred back) branch + later_passive (pred back) branch)) b rest h.3 in
      rw (parts, here, there) refl
  places_active-known d e (suc T) (suc n) i (suc j) a b (more back label branch rest) h =
      let parts = passive_parts-known e d T (pred e) branch h.2 in
      let here = places_passive-known e d T (pred e) (pred back) b (b + sooner_passive (pred back) branch) branch h.2 in
      let there = places_active-known d e (suc T) n i j a (b + (sooner_passive (pred back) branch + later_passive (pred back) branch)) rest h.3 in
      rw (parts, here, there) refl

  pub places_passive-known : (d e T n j a b : ℕ) (x : InputView) → IsTree d e (suc T) n x → known T (places_passive j a b x) ≡ places_passive j a b (known T x)
  places_passive-known d e T n j a b leaf h = refl
  places_passive-known d e T n j a b end h = refl
  places_passive-known d e T zero j a b (more back label branch rest) h = absurd h
  places_passive-known d e zero (suc n) zero a b (more back label leaf rest) h =
      let there = places_passive-known d e zero n zero (a + (0 + 1)) b rest h.3 in
      rw (after_none {X = Turn ℕ} (pred back), before_none {X = Turn ℕ} (pred back), there) refl
  places_passive-known d e zero (suc n) (suc j) a b (more back label leaf rest) h =
      let there = places_passive-known d e zero n j a (b + (0 + 1)) rest h.3 in
      rw (after_none {X = Turn ℕ} (pred back), before_none {X = Turn ℕ} (pred back), there) refl
  places_passive-known d e zero (suc n) j a b (more back label end rest) h = absurd h.2
  places_passive-known d e zero (suc n) j a b (more back label (more b' l br re) rest) h = absurd h.2
  places_passive-known d e (suc T) (suc n) zero a b (more back label branch rest) h =
      let parts = active_parts-known e d T (pred e) branch h.2 in
      let here = places_active-known e d T (pred e) (a + sooner_active (pred back) branch) (pred back) a (suc (a + sooner_active (pred back) branch)) branch h.2 in
      let there = places_passive-known d e (suc T) n zero (a + (sooner_active (pred back) branch + suc (later_active (pred back) branch))) b rest h.3 in
      rw (parts, here, there) refl
  places_passive-known d e (suc T) (suc n) (suc j) a b (more back label branch rest) h =
      let parts = active_parts-known e d T (pred e) branch h.2 in
      let here = places_active-known e d T (pred e) (b + sooner_active (pred back) branch) (pred back) b (suc (b + sooner_active (pred back) branch)) branch h.2 in
      let there = places_passive-known d e (suc T) n j a (b + (sooner_active (pred back) branch + suc (later_active (pred back) branch))) rest h.3 in
      rw (parts, here, there) refl

-- ---- the places are the numbers from the first one on, in order
pub labels-raised : (ts : List (Turn ℕ)) → labels (map raised ts) ≡ labels ts
labels-raised [] = refl
labels-raised (t ∷ ts) = ap (◌∷◌ t.label) (labels-raised ts)

pub labels-lowered : (ts : List (Turn ℕ)) → labels (map lowered ts) ≡ labels ts
labels-lowered [] = refl
labels-lowered (t ∷ ts) = ap (◌∷◌ t.label) (labels-lowered ts)

pub labels-append : (ts us : List (Turn ℕ)) → labels (ts ++ us) ≡ labels ts ++ labels us
labels-append ts us = map-append (λ (t : Turn ℕ). t.label) ts us

labels_joined : (ts us : List (Turn ℕ)) (a m n : ℕ) → labels ts ≡ count_from a m → labels us ≡ count_from (a + m) n → labels (ts ++ us) ≡ count_from a (m + n)
labels_joined ts us a m n h i = labels-append ts us ∙ (ap (λ ls. ls ++ labels us) h ∙ (ap (λ ls. count_from a m ++ ls) i ∙ sym (count_from_split a m n)))

labels_around_passive : (j a m n : ℕ) (ps : List (List (Turn ℕ))) → labels (after j ps) ≡ count_from a m → labels (before j ps) ≡ count_from (a + m) n → labels (around_passive j ps) ≡ count_from a (m + n)
labels_around_passive j a m n ps h i = labels_joined (map raised (after j ps)) (before j ps) a m n (labels-raised (after j ps) ∙ h) i

labels_around_active : (j a m n : ℕ) (ps : List (List (Turn ℕ))) → labels (after j ps) ≡ count_from a m → labels (before j ps) ≡ count_from (suc (a + m)) n → labels (around_active (a + m) j ps) ≡ count_from a (m + suc n)
labels_around_active j a m n ps h i = labels_joined (after j ps) (level (a + m) ∷ map lowered (before j ps)) a m (suc n) h (ap (◌∷◌ (a + m)) (labels-lowered (before j ps) ∙ i))

length_around_passive : {E : Type 0} (j : ℕ) (ps : List (List (Turn E))) → length (around_passive j ps) ≡ length (after j ps) + length (before j ps)
length_around_passive j ps = length-append (map raised (after j ps)) (before j ps) ∙ ap (λ n. n + length (before j ps)) (length-map (after j ps) raised)

length_around_active : {E : Type 0} (label : E) (j : ℕ) (ps : List (List (Turn E))) → length (around_active label j ps) ≡ length (after j ps) + suc (length (before j ps))
length_around_active label j ps = length-append (after j ps) (level label ∷ map lowered (before j ps)) ∙ ap (λ n. length (after j ps) + suc n) (length-map (before j ps) lowered)

-- the nodes of a first child and of further ones
labels_further : {E : Type 0} (ts us : List (Turn ℕ)) (vs ws : List (Turn E)) (a m : ℕ) → length vs ≡ m → labels ts ≡ count_from a m → labels us ≡ count_from (a + m) (length ws) → labels (ts ++ us) ≡ count_from a (length (vs ++ ws))
labels_further ts us vs ws a m e h i = labels_joined ts us a m (length ws) h i ∙ ap (count_from a) (sym (length-append vs ws ∙ ap (λ k. k + length ws) e))

mutual
  pub numbered_active : {E : Type 0} (i j a b : ℕ) (x : Tree E) → (labels (after j (active_parts (places_active i j a b x))) ≡ count_from a (sooner_active j x)) × (labels (before j (active_parts (places_active i j a b x))) ≡ count_from b (later_active j x))
  numbered_active i zero a b leaf = (refl, refl)
  numbered_active i (suc j) a b leaf = (refl, refl)
  numbered_active i zero a b end = (refl, refl)
  numbered_active i (suc j) a b end = (refl, refl)
  numbered_active i zero a b (more back label branch rest) =
      let k : ℕ = pred back in
      let m : ℕ = sooner_passive k branch in
      let n : ℕ = later_passive k branch in
      let here = numbered_passive k a (a + m) branch in
      let there = numbered_active i zero (a + (m + n)) b rest in (
        labels_further (around_passive k (passive_parts (places_passive k a (a + m) branch))) (joined_all (active_parts (places_active i zero (a + (m + n)) b rest))) (around_passive k (passive_parts branch)) (joined_all (active_parts rest)) a (m + n)
            (length_around_passive k (passive_parts branch)) (labels_around_passive k a m n (passive_parts (places_passive k a (a + m) branch)) here.0 here.1) there.0,
        refl,
      )
  numbered_active i (suc j) a b (more back label branch rest) =
      let k : ℕ = pred back in
      let m : ℕ = sooner_passive k branch in
      let n : ℕ = later_passive k branch in
      let here = numbered_passive k b (b + m) branch in
      let there = numbered_active i j a (b + (m + n)) rest in (
        there.0,
        labels_further (around_passive k (passive_parts (places_passive k b (b + m) branch))) (before j (active_parts (places_active i j a (b + (m + n)) rest))) (around_passive k (passive_parts branch)) (before j (active_parts rest)) b (m + n)
            (length_around_passive k (passive_parts branch)) (labels_around_passive k b m n (passive_parts (places_passive k b (b + m) branch)) here.0 here.1) there.1,
      )

  pub numbered_passive : {E : Type 0} (j a b : ℕ) (x : Tree E) → (labels (after j (passive_parts (places_passive j a b x))) ≡ count_from a (sooner_passive j x)) × (labels (before j (passive_parts (places_passive j a b x))) ≡ count_from b (later_passive j x))
  numbered_passive zero a b leaf = (refl, refl)
  numbered_passive (suc j) a b leaf = (refl, refl)
  numbered_passive zero a b end = (refl, refl)
  numbered_passive (suc j) a b end = (refl, refl)
  numbered_passive zero a b (more back label branch rest) =
      let k : ℕ = pred back in
      let m : ℕ = sooner_active k branch in
      let n : ℕ = later_active k branch in
      let here = numbered_active (a + m) k a (suc (a + m)) branch in
      let there = numbered_passive zero (a + (m + suc n)) b rest in (
        labels_further (around_active (a + m) k (active_parts (places_active (a + m) k a (suc (a + m)) branch))) (joined_all (passive_parts (places_passive zero (a + (m + suc n)) b rest))) (around_active label k (active_parts branch)) (joined_all (passive_parts rest)) a (m + suc n)
            (length_around_active label k (active_parts branch)) (labels_around_active k a m n (active_parts (places_active (a + m) k a (suc (a + m)) branch)) here.0 here.1) there.0,
        refl,
      )
  numbered_passive (suc j) a b (more back label branch rest) =
      let k : ℕ = pred back in
      let m : ℕ = sooner_active k branch in
      let n : ℕ = later_active k branch in
      let here = numbered_active (b + m) k b (suc (b + m)) branch in
      let there = numbered_passive j a (b + (m + suc n)) rest in (
        there.0,
        labels_further (around_active (b + m) k (active_parts (places_active (b + m) k b (suc (b + m)) branch))) (before j (passive_parts (places_passive j a (b + (m + suc n)) rest))) (around_active label k (active_parts branch)) (before j (passive_parts rest)) b (m + suc n)
            (length_around_active label k (active_parts branch)) (labels_around_active k b m n (active_parts (places_active (b + m) k b (suc (b + m)) branch)) here.0 here.1) there.1,
      )

-- ---- the view of an active node, whose own place is 0, and of a passive one
abbrev pub tagged : {E : Type 0} → Tree E → Tree (ℕ × E)
tagged v = tagged_active 0 zero 1 0 v

abbrev pub places : {E : Type 0} → Tree E → InputView
places v = places_active 0 zero 1 0 v

abbrev pub places_around : {E : Type 0} → Tree E → InputView
places_around v = places_passive zero 0 0 v

pub numbered_turns : {E : Type 0} (v : Tree E) → labels (active_turns 0 (places v)) ≡ count_from 0 (suc (length (joined_all (active_parts v))))
numbered_turns v = ap (◌∷◌ 0) (labels-lowered (joined_all (active_parts (places v))) ∙ (numbered_active 0 zero 1 0 v).0)

pub numbered_around : {E : Type 0} (v : Tree E) → labels (passive_turns (places_around v)) ≡ count_from 0 (length (passive_turns v))
numbered_around v = (numbered_passive zero 0 0 v).0
