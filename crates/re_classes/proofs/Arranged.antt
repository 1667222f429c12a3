-- Views whose active nodes have labels that are ordered as the way around the view says: they exist for each list of enough labels, and there is one.
use Rattle.std.proofs.Common.{◌≡◌, ℕ, zero, suc, pred, ◌≤◌, ◌<◌, Some, List, [], ◌∷◌, ◌++◌, map, length, get_or, refl, sym, ◌∙◌, ap, subst, arith, inl, inr, ◌⊎◌, append-nil}
use Rattle.std.specs.Prelude.{Contains, unwrap_or}
use Rattle.std.proofs.lemmas.List.{length-map}
use Rattle.std.proofs.lemmas.List.Elements.{Contains-append_cases, Contains-append_left, Contains-append_right}
use Rattle.re_labels.proofs.Rearranging.{Rearranged-map, Rearranged-refl}
use Rattle.re_labels.specs.Configs.{sorted}
use Rattle.re_labels.specs.Rearranging.{Rearranged, chained, kept, swapped, unmoved}
use Rattle.re_given.proofs.Relabelled.{IsTree-relabelled, relabelled, relabelled-known}
use Rattle.re_given.specs.InputViews.{InputView, known}
use Rattle.re_labels.proofs.Membership.{Contains-here, Contains-later, Contains-map, Contains-none}
use Rattle.re_local.specs.LocalAlgorithms.{behind_active, behind_passive}
use Rattle.re_classes.proofs.Parts.{Pairwise}
use Rattle.re_classes.proofs.Ranks.{labels, ordered_ranks, rank, ranks_found}
use Rattle.re_classes.proofs.Tagged.{active_parts-known, fst, labels-append, labels-lowered, labels-raised, numbered_around, numbered_turns, places, places_active, places_active-known, places_active-relabelled, places_around, places_passive, snd, tagged, tagged_active, tagged_passive, untagged_active, untagged_passive}
use Rattle.re_classes.proofs.Turns.{Ordered, Turn, active_parts, active_parts-relabelled, active_turns, active_turns-relabelled, after, around_active, around_passive, before, joined_all, joined_all-map, level, lowered, passive_parts, passive_turns, passive_turns-relabelled, raised, turned_to}
use Rattle.re_laws.proofs.ViewLaws.{shift-at}
use Rattle.re_laws.specs.Trees.{Child, IsTree, Tree, child_at, cut, end, leaf, more, others, put, shift}

-- ---- each active node has its label on all its edges
abbrev mutual
  pub NamedActive : {E : Type 0} → E → Tree E → Type 0
  NamedActive label leaf = Unit {0}
  NamedActive label end = Unit {0}
  NamedActive label (more back own branch rest) = (own ≡ label) × NamedPassive branch × NamedActive label rest

  pub NamedPassive : {E : Type 0} → Tree E → Type 0
  NamedPassive leaf = Unit {0}
  NamedPassive end = Unit {0}
  NamedPassive (more back label branch rest) = NamedActive label branch × NamedPassive rest

mutual
  pub named_active-relabelled : {E F : Type 0} (f : E → F) (label : E) (x : Tree E) → NamedActive label x → NamedActive (f label) (relabelled f x)
  named_active-relabelled f label leaf h = tt
  named_active-relabelled f label end h = tt
  named_active-relabelled f label (more back own branch rest) h = (ap f h.0, named_passive-relabelled f branch h.1, named_active-relabelled f label rest h.2)

  pub named_passive-relabelled : {E F : Type 0} (f : E → F) (x : Tree E) → NamedPassive x → NamedPassive (relabelled f x)
  named_passive-relabelled f leaf h = tt
  named_passive-relabelled f end h = tt
  named_passive-relabelled f (more back label branch rest) h = (named_active-relabelled f label branch h.0, named_passive-relabelled f rest h.1)

mutual
  named_active-cut : {E : Type 0} (t : ℕ) (label : E) (x : Tree E) → NamedActive label x → NamedActive label (cut t x)
  named_active-cut zero label x h = tt
  named_active-cut (suc t) label leaf h = tt
  named_active-cut (suc t) label end h = tt
  named_active-cut (suc t) label (more back own branch rest) h = (h.0, named_passive-cut t branch h.1, named_active-cut (suc t) label rest h.2)

  named_passive-cut : {E : Type 0} (t : ℕ) (x : Tree E) → NamedPassive x → NamedPassive (cut t x)
  named_passive-cut zero x h = tt
  named_passive-cut (suc t) leaf h = tt
  named_passive-cut (suc t) end h = tt
  named_passive-cut (suc t) (more back label branch rest) h = (named_active-cut t label branch h.0, named_passive-cut (suc t) rest h.1)

named-others : {E : Type 0} (k : ℕ) (x : Tree E) → NamedPassive x → NamedPassive (others k x)
named-others k leaf h = tt
named-others k end h = tt
named-others zero (more back label branch rest) h = h.1
named-others (suc k) (more back label branch rest) h = (h.0, named-others k rest h.1)

named-child : {E : Type 0} (k : ℕ) (c : Child E) (x : Tree E) → child_at k x ≡ Some c → NamedPassive x → NamedActive c.payload c.branch
named-child k c leaf at h = absurd (cc)
named-child k c end at h = absurd (cc)
named-child {E = E} zero c (more back label branch rest) at h =
    let is = ap (λ found. unwrap_or found c) at in
    subst (λ (d : Child E). NamedActive d.payload d.branch) is h.0
named-child (suc k) c (more back label branch rest) at h = named-child k c rest at h.1

named-put : {E : Type 0} (k : ℕ) (c : Child E) (x : Tree E) → NamedActive c.payload x → NamedPassive c.branch → NamedActive c.payload (put k c x)
named-put zero c x h i = (refl, i, h)
named-put (suc k) c leaf h i = (refl, i, tt)
named-put (suc k) c end h i = (refl, i, tt)
named-put (suc k) c (more back own branch rest) h i = (h.0, h.1, named-put k c rest h.2 i)

pub named_shift : (T k : ℕ) (v : InputView) (c : Child ℕ) → child_at k v ≡ Some c → NamedPassive v → NamedActive c.payload (shift (suc T) v (suc k))
named_shift T k v c at h = rw (shift-at (suc T) v (suc k) c at)
    (named-put (pred c.back) (record { back = suc k; payload = c.payload; branch = cut T (others k v) }) c.branch (named-child k c v at h) (named_passive-cut T (others k v) (named-others k v h)))

mutual
  named_tagged_active : {E : Type 0} (i j a b : ℕ) (label : E) (x : Tree E) → NamedActive label x → NamedActive (i, label) (tagged_active i j a b x)
  named_tagged_active i j a b label leaf h = tt
  named_tagged_active i j a b label end h = tt
  named_tagged_active i zero a b label (more back own branch rest) h =
      (ap (λ l. (i, l)) h.0, named_tagged_passive (pred back) a _ branch h.1, named_tagged_active i zero _ b label rest h.2)
  named_tagged_active i (suc j) a b label (more back own branch rest) h =
      (ap (λ l. (i, l)) h.0, named_tagged_passive (pred back) b _ branch h.1, named_tagged_active i j a _ label rest h.2)

  named_tagged_passive : {E : Type 0} (j a b : ℕ) (x : Tree E) → NamedPassive x → NamedPassive (tagged_passive j a b x)
  named_tagged_passive j a b leaf h = tt
  named_tagged_passive j a b end h = tt
  named_tagged_passive zero a b (more back label branch rest) h = (named_tagged_active _ (pred back) a _ label branch h.0, named_tagged_passive zero _ b rest h.1)
  named_tagged_passive (suc j) a b (more back label branch rest) h = (named_tagged_active _ (pred back) b _ label branch h.0, named_tagged_passive j a _ rest h.1)

-- the places are so named
mutual
  named_places_active : {E : Type 0} (i j a b : ℕ) (x : Tree E) → NamedActive i (places_active i j a b x)
  named_places_active i j a b leaf = tt
  named_places_active i j a b end = tt
  named_places_active i zero a b (more back label branch rest) = (refl, named_places_passive (pred back) a _ branch, named_places_active i zero _ b rest)
  named_places_active i (suc j) a b (more back label branch rest) = (refl, named_places_passive (pred back) b _ branch, named_places_active i j a _ rest)

  named_places_passive : {E : Type 0} (j a b : ℕ) (x : Tree E) → NamedPassive (places_passive j a b x)
  named_places_passive j a b leaf = tt
  named_places_passive j a b end = tt
  named_places_passive zero a b (more back label branch rest) = (named_places_active _ (pred back) a _ branch, named_places_passive zero _ b rest)
  named_places_passive (suc j) a b (more back label branch rest) = (named_places_active _ (pred back) b _ branch, named_places_passive j a _ rest)

-- ---- what holds of all labels
abbrev pub Everywhere : {E : Type 0} → (E → Type 0) → Tree E → Type 0
Everywhere P leaf = Unit {0}
Everywhere P end = Unit {0}
Everywhere P (more back label branch rest) = P label × Everywhere P branch × Everywhere P rest

pub everywhere_relabelled : {E F : Type 0} (P : F → Type 0) (f : E → F) → ((e : E) → P (f e)) → (x : Tree E) → Everywhere P (relabelled f x)
everywhere_relabelled P f each leaf = tt
everywhere_relabelled P f each end = tt
everywhere_relabelled P f each (more back label branch rest) = (each label, everywhere_relabelled P f each branch, everywhere_relabelled P f each rest)

relabelled_alike : {E F : Type 0} (f g : E → F) (x : Tree E) → Everywhere (λ e. f e ≡ g e) x → relabelled f x ≡ relabelled g x
relabelled_alike f g leaf h = refl
relabelled_alike f g end h = refl
relabelled_alike f g (more back label branch rest) h =
    let here = relabelled_alike f g branch h.1 in
    let there = relabelled_alike f g rest h.2 in
    rw (h.0, here, there) refl

pub relabelled_twice : {E F G : Type 0} (f : F → G) (g : E → F) (x : Tree E) → relabelled f (relabelled g x) ≡ relabelled (λ e. f (g e)) x
relabelled_twice f g leaf = refl
relabelled_twice f g end = refl
relabelled_twice f g (more back label branch rest) =
    let here = relabelled_twice f g branch in
    let there = relabelled_twice f g rest in
    rw (here, there) refl

joined_cases : {X : Type 0} (j : ℕ) (ps : List (List X)) (x : X) → Contains (joined_all ps) x → Contains (after j ps) x ⊎ Contains (before j ps) x
joined_cases zero ps x at = inl at
joined_cases (suc j) [] x at = absurd (Contains-none x at)
joined_cases (suc j) (p ∷ ps) x at = elim (Contains-append_cases p (joined_all ps) x at) [
  | inl here ↦ inr (Contains-append_left p (before j ps) x here)
  | inr there ↦ elim (joined_cases j ps x there) [ inl l ↦ inl l | inr r ↦ inr (Contains-append_right p (before j ps) x r) ]
]

-- what holds of the labels on the way holds of all labels
mutual
  everywhere_active : {E : Type 0} (P : E → Type 0) (label : E) (x : Tree E) → NamedActive label x → P label → ((t : Turn E) → Contains (joined_all (active_parts x)) t → P t.label) → Everywhere P x
  everywhere_active P label leaf h own each = tt
  everywhere_active P label end h own each = tt
  everywhere_active {E = E} P label (more back l branch rest) h own each = (
    subst P (sym h.0) own,
    everywhere_passive P branch h.1 (λ t at. elim (joined_cases (pred back) (passive_parts branch) t at) [
      | inl late ↦ each (raised t) (within (raised t) (Contains-append_left (map raised (after (pred back) (passive_parts branch))) (before (pred back) (passive_parts branch)) (raised t) (Contains-map raised (after (pred back) (passive_parts branch)) t late)))
      | inr soon ↦ each t (within t (Contains-append_right (map raised (after (pred back) (passive_parts branch))) (before (pred back) (passive_parts branch)) t soon))
    ]),
    everywhere_active P label rest h.2 own (λ t at. each t (Contains-append_right (around_passive (pred back) (passive_parts branch)) (joined_all (active_parts rest)) t at)),
  )
    where
      within : (t : Turn E) → Contains (around_passive (pred back) (passive_parts branch)) t → Contains (joined_all (active_parts (more back l branch rest))) t
      within t at = Contains-append_left (around_passive (pred back) (passive_parts branch)) (joined_all (active_parts rest)) t at

  everywhere_passive : {E : Type 0} (P : E → Type 0) (x : Tree E) → NamedPassive x → ((t : Turn E) → Contains (joined_all (passive_parts x)) t → P t.label) → Everywhere P x
  everywhere_passive P leaf h each = tt
  everywhere_passive P end h each = tt
  everywhere_passive {E = E} P (more back l branch rest) h each = (
    each (level l) (within (level l) own),
    everywhere_active P l branch h.0 (each (level l) (within (level l) own)) (λ t at. elim (joined_cases (pred back) (active_parts branch) t at) [
      | inl late ↦ each t (within t (Contains-append_left late_ones (level l ∷ map lowered soon_ones) t late))
      | inr soon ↦ each (lowered t) (within (lowered t) (Contains-append_right late_ones (level l ∷ map lowered soon_ones) (lowered t) (Contains-later (lowered t) (level l) (map lowered soon_ones) (Contains-map lowered soon_ones t soon))))
    ]),
    everywhere_passive P rest h.1 (λ t at. each t (Contains-append_right (around_active l (pred back) (active_parts branch)) (joined_all (passive_parts rest)) t at)),
  )
    where
      late_ones : List (Turn E)
      late_ones = after (pred back) (active_parts branch)

      soon_ones : List (Turn E)
      soon_ones = before (pred back) (active_parts branch)

      within : (t : Turn E) → Contains (around_active l (pred back) (active_parts branch)) t → Contains (joined_all (passive_parts (more back l branch rest))) t
      within t at = Contains-append_left (around_active l (pred back) (active_parts branch)) (joined_all (passive_parts rest)) t at

      own : Contains (around_active l (pred back) (active_parts branch)) (level l)
      own = Contains-append_right late_ones (level l ∷ map lowered soon_ones) (level l) (Contains-here (level l) (map lowered soon_ones))

-- ---- the nodes on the way are those that are shown
between : {X : Type 0} (xs p ys : List X) → Rearranged (xs ++ (p ++ ys)) (p ++ (xs ++ ys))
between [] p ys = Rearranged-refl (p ++ ys)
between (x ∷ xs) p ys = chained (kept (between xs p ys)) (to_front p x (xs ++ ys))
  where
    to_front : {X : Type 0} (p : List X) (x : X) (zs : List X) → Rearranged (x ∷ p ++ zs) (p ++ (x ∷ zs))
    to_front [] x zs = Rearranged-refl (x ∷ zs)
    to_front (y ∷ p) x zs = chained swapped (kept (to_front p x zs))

kept_all : {X : Type 0} (p : List X) {xs ys : List X} → Rearranged xs ys → Rearranged (p ++ xs) (p ++ ys)
kept_all [] h = h
kept_all (x ∷ p) h = kept (kept_all p h)

both_kept : {X : Type 0} {xs ys us vs : List X} → Rearranged xs ys → Rearranged us vs → Rearranged (xs ++ us) (ys ++ vs)
both_kept {us = us} {vs = vs} unmoved i = i
both_kept (kept h) i = kept (both_kept h i)
both_kept {us = us} {vs = vs} (swapped {x = x} {y = y} {xs = xs}) i = chained swapped (kept (kept (kept_all xs i)))
both_kept {us = us} (chained h g) i = chained (both_kept h (Rearranged-refl us)) (both_kept g i)

after_before : {X : Type 0} (j : ℕ) (ps : List (List X)) → Rearranged (after j ps ++ before j ps) (joined_all ps)
after_before zero ps = subst (λ xs. Rearranged xs (joined_all ps)) (sym (append-nil (joined_all ps))) (Rearranged-refl (joined_all ps))
after_before (suc j) [] = unmoved
after_before (suc j) (p ∷ ps) = chained (between (after j ps) p (before j ps)) (kept_all p (after_before j ps))

shown_around_passive : (j : ℕ) (ps : List (List (Turn ℕ))) → Rearranged (labels (around_passive j ps)) (labels (joined_all ps))
shown_around_passive j ps =
    let same : labels (around_passive j ps) ≡ labels (after j ps ++ before j ps) =
    labels-append (map raised (after j ps)) (before j ps) ∙ (ap (λ ls. ls ++ labels (before j ps)) (labels-raised (after j ps)) ∙ sym (labels-append (after j ps) (before j ps))) in
    subst (λ ls. Rearranged ls (labels (joined_all ps))) (sym same) (Rearranged-map (λ (t : Turn ℕ). t.label) (after_before j ps))

shown_around_active : (label j : ℕ) (ps : List (List (Turn ℕ))) → Rearranged (labels (around_active label j ps)) (label ∷ labels (joined_all ps))
shown_around_active label j ps =
    let same : labels (around_active label j ps) ≡ labels (after j ps) ++ (label ∷ labels (before j ps)) =
    labels-append (after j ps) (level label ∷ map lowered (before j ps)) ∙ ap (λ ls. labels (after j ps) ++ (label ∷ ls)) (labels-lowered (before j ps)) in
    let front : Rearranged (labels (after j ps) ++ (label ∷ labels (before j ps))) (label ∷ (labels (after j ps) ++ labels (before j ps))) = between (labels (after j ps)) (label ∷ []) (labels (before j ps)) in
    let rest : Rearranged (labels (after j ps) ++ labels (before j ps)) (labels (joined_all ps)) =
    subst (λ ls. Rearranged ls (labels (joined_all ps))) (labels-append (after j ps) (before j ps)) (Rearranged-map (λ (t : Turn ℕ). t.label) (after_before j ps)) in
    subst (λ ls. Rearranged ls (label ∷ labels (joined_all ps))) (sym same) (chained front (kept rest))

mutual
  shown_active : (x : InputView) → Rearranged (labels (joined_all (active_parts x))) (behind_active x)
  shown_active leaf = unmoved
  shown_active end = unmoved
  shown_active (more back label branch rest) =
      subst (λ ls. Rearranged ls (behind_passive branch ++ behind_active rest)) (sym (labels-append (around_passive (pred back) (passive_parts branch)) (joined_all (active_parts rest))))
      (both_kept (chained (shown_around_passive (pred back) (passive_parts branch)) (shown_passive branch)) (shown_active rest))

  pub shown_passive : (x : InputView) → Rearranged (labels (joined_all (passive_parts x))) (behind_passive x)
  shown_passive leaf = unmoved
  shown_passive end = unmoved
  shown_passive (more back label branch rest) =
      subst (λ ls. Rearranged ls ((label ∷ behind_active branch) ++ behind_passive rest)) (sym (labels-append (around_active label (pred back) (active_parts branch)) (joined_all (passive_parts rest))))
      (both_kept (chained (shown_around_active label (pred back) (active_parts branch)) (kept (shown_active branch))) (shown_passive rest))

pub shown_turns : (label : ℕ) (x : InputView) → Rearranged (labels (active_turns label x)) (label ∷ behind_active x)
shown_turns label x = kept (subst (λ ls. Rearranged ls (behind_active x)) (sym (labels-lowered (joined_all (active_parts x)))) (shown_active x))

-- ---- labels by rank
-- how many active nodes the view of an active node shows
abbrev pub size : {E : Type 0} → Tree E → ℕ
size v = suc (length (joined_all (active_parts v)))

-- the view of an active node, and of a passive one, with the labels of the list by rank, and d past its end
abbrev pub given : {E : Type 0} → ℕ → List ℕ → Tree E → InputView
given d xs v = relabelled (λ i. get_or xs (rank (active_turns 0 (places v)) i) d) (places v)

abbrev pub given_around : {E : Type 0} → ℕ → List ℕ → Tree E → InputView
given_around d xs v = relabelled (λ i. get_or xs (rank (passive_turns (places_around v)) i) d) (places_around v)

pub size_turns : {E : Type 0} (label : E) (v : Tree E) → length (active_turns label v) ≡ size v
size_turns label v = ap suc (length-map (joined_all (active_parts v)) lowered)

pub size-relabelled : {E F : Type 0} (f : E → F) (v : Tree E) → size (relabelled f v) ≡ size v
size-relabelled f v = ap suc (ap (λ ps. length (joined_all ps)) (active_parts-relabelled f v) ∙ (ap length (joined_all-map (turned_to f) (active_parts v)) ∙ length-map (joined_all (active_parts v)) (turned_to f)))

IsTree-from : {E F : Type 0} (f : E → F) (d e t n : ℕ) (x : Tree E) → IsTree d e t n (relabelled f x) → IsTree d e t n x
IsTree-from f d e zero n leaf h = tt
IsTree-from f d e zero n end h = absurd h
IsTree-from f d e zero n (more back payload branch rest) h = absurd h
IsTree-from f d e (suc t) n leaf h = absurd h
IsTree-from f d e (suc t) zero end h = tt
IsTree-from f d e (suc t) (suc n) end h = absurd h
IsTree-from f d e (suc t) zero (more back payload branch rest) h = absurd h
IsTree-from f d e (suc t) (suc n) (more back payload branch rest) h = (h.0, h.1, IsTree-from f e d t (pred e) branch h.2, IsTree-from f d e (suc t) n rest h.3)

pub IsTree-places : {E : Type 0} (d e t n : ℕ) (v : Tree E) → IsTree d e t n v → IsTree d e t n (places v)
IsTree-places d e t n v h = IsTree-relabelled fst d e t n (tagged v) (IsTree-from snd d e t n (tagged v) (subst (IsTree d e t n) (sym (untagged_active 0 zero 1 0 v)) h))

pub IsTree-places_around : {E : Type 0} (d e t n : ℕ) (v : Tree E) → IsTree d e t n v → IsTree d e t n (places_around v)
IsTree-places_around d e t n v h = IsTree-relabelled fst d e t n (tagged_passive zero 0 0 v) (IsTree-from snd d e t n (tagged_passive zero 0 0 v) (subst (IsTree d e t n) (sym (untagged_passive zero 0 0 v)) h))

-- they don't depend on the labels of the view, nor on the back ports of its last layer
pub given-relabelled : {E F : Type 0} (f : E → F) (d : ℕ) (xs : List ℕ) (v : Tree E) → given d xs (relabelled f v) ≡ given d xs v
given-relabelled f d xs v = ap (λ w. relabelled (λ i. get_or xs (rank (active_turns 0 w) i) d) w) (places_active-relabelled f 0 zero 1 0 v)

pub given-known : (a p T n d : ℕ) (xs : List ℕ) (v : InputView) → IsTree a p (suc T) n v → known T (given d xs v) ≡ given d xs (known T v)
given-known a p T n d xs v is =
    let same : known T (places v) ≡ places (known T v) = places_active-known a p T n 0 zero 1 0 v is in
    let turns : active_turns 0 (known T (places v)) ≡ active_turns 0 (places v) = ap (λ ps. level 0 ∷ map lowered (joined_all ps)) (active_parts-known a p T n (places v) (IsTree-places a p (suc T) n v is)) in
    sym (relabelled-known (λ i. get_or xs (rank (active_turns 0 (places v)) i) d) T (places v))
    ∙ (ap (λ ts. relabelled (λ i. get_or xs (rank ts i) d) (known T (places v))) (sym turns)
    ∙ ap (λ w. relabelled (λ i. get_or xs (rank (active_turns 0 w) i) d) w) same)

pub size-known : (a p T n : ℕ) (v : InputView) → IsTree a p (suc T) n v → size (known T v) ≡ size v
size-known a p T n v is = ap (λ ps. suc (length (joined_all ps))) (active_parts-known a p T n v is)

-- they are ordered
pub ordered_given : {E : Type 0} (d : ℕ) (xs : List ℕ) (v : Tree E) → Pairwise (λ x y. x < y) xs → size v ≤ length xs → Pairwise Ordered (active_turns (get_or xs (rank (active_turns 0 (places v)) 0) d) (given d xs v))
ordered_given d xs v rises enough =
    let count : length (active_turns 0 (places v)) ≡ size v = size_turns 0 (places v) ∙ (size-relabelled fst (tagged v) ∙ (sym (size-relabelled snd (tagged v)) ∙ ap size (untagged_active 0 zero 1 0 v))) in
    subst (Pairwise Ordered) (sym (active_turns-relabelled (λ i. get_or xs (rank (active_turns 0 (places v)) i) d) 0 (places v)))
    (ordered_ranks (active_turns 0 (places v)) (size v) (numbered_turns v) xs d rises (omega (arith, count, enough)))

pub ordered_given_around : {E : Type 0} (d : ℕ) (xs : List ℕ) (v : Tree E) → Pairwise (λ x y. x < y) xs → length (passive_turns (places_around v)) ≤ length xs → Pairwise Ordered (passive_turns (given_around d xs v))
ordered_given_around d xs v rises enough =
    subst (Pairwise Ordered) (sym (passive_turns-relabelled (λ i. get_or xs (rank (passive_turns (places_around v)) i) d) (places_around v)))
    (ordered_ranks (passive_turns (places_around v)) (length (passive_turns v)) (numbered_around v) xs d rises enough)

pub named_given : {E : Type 0} (d : ℕ) (xs : List ℕ) (v : Tree E) → NamedActive (get_or xs (rank (active_turns 0 (places v)) 0) d) (given d xs v)
named_given d xs v = named_active-relabelled (λ i. get_or xs (rank (active_turns 0 (places v)) i) d) 0 (places v) (named_places_active 0 zero 1 0 v)

pub named_given_around : {E : Type 0} (d : ℕ) (xs : List ℕ) (v : Tree E) → NamedPassive (given_around d xs v)
named_given_around d xs v = named_passive-relabelled (λ i. get_or xs (rank (passive_turns (places_around v)) i) d) (places_around v) (named_places_passive zero 0 0 v)

-- labels that are ordered are those of their list by rank
pub given_back : (label d : ℕ) (z : InputView) → NamedActive label z → Pairwise Ordered (active_turns label z) → given d (sorted (labels (active_turns label z))) z ≡ z
given_back label d z named ordered =
    relabelled_twice (λ i. get_or xs (rank (active_turns 0 (places z)) i) d) fst (tagged z)
    ∙ (relabelled_alike (λ p. get_or xs (rank (active_turns 0 (places z)) p.0) d) snd (tagged z) (everywhere_active P (0, label) (tagged z) (named_tagged_active 0 zero 1 0 label z named) (each (level (0, label)) (Contains-here (level (0, label)) later))
    (λ t at. each (lowered t) (Contains-later (lowered t) (level (0, label)) later (Contains-map lowered (joined_all (active_parts (tagged z))) t at))))
    ∙ untagged_active 0 zero 1 0 z)
  where
    xs : List ℕ
    xs = sorted (labels (active_turns label z))

    P : ℕ × ℕ → Type 0
    P p = get_or xs (rank (active_turns 0 (places z)) p.0) d ≡ p.1

    ts : List (Turn (ℕ × ℕ))
    ts = active_turns (0, label) (tagged z)

    later : List (Turn (ℕ × ℕ))
    later = map lowered (joined_all (active_parts (tagged z)))

    ones : map (turned_to (λ (p : ℕ × ℕ). p.0)) ts ≡ active_turns 0 (places z)
    ones = sym (active_turns-relabelled (λ (p : ℕ × ℕ). p.0) (0, label) (tagged z))

    twos : map (turned_to (λ (p : ℕ × ℕ). p.1)) ts ≡ active_turns label z
    twos = sym (active_turns-relabelled (λ (p : ℕ × ℕ). p.1) (0, label) (tagged z)) ∙ ap (active_turns label) (untagged_active 0 zero 1 0 z)

    each : (t : Turn (ℕ × ℕ)) → Contains ts t → get_or xs (rank (active_turns 0 (places z)) t.label.0) d ≡ t.label.1
    each t at =
        let found : get_or (sorted (labels (map (turned_to (λ (p : ℕ × ℕ). p.1)) ts))) (rank (map (turned_to (λ (p : ℕ × ℕ). p.0)) ts) t.label.0) d ≡ t.label.1 =
        ranks_found ts (size z) d (ap labels ones ∙ numbered_turns z) (subst (Pairwise Ordered) (sym twos) ordered) t at in
        subst (λ us. get_or (sorted (labels us)) (rank (active_turns 0 (places z)) t.label.0) d ≡ t.label.1) twos
        (subst (λ us. get_or (sorted (labels (map (turned_to (λ (p : ℕ × ℕ). p.1)) ts))) (rank us t.label.0) d ≡ t.label.1) ones found)
