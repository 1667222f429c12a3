-- The way around a view. It goes around the plane tree that the port numbers draw, and comes by each active node once; a turn counts how often it
-- is wound about the root there. Of two active nodes the one with less windings comes first, and of two with as many the one by which the way
-- comes first. This order is the same from wherever in the tree one looks: seen from a child of the root the way begins at another place, and what
-- lies before that place has one winding less.
use Rattle.std.proofs.Common.{◌≡◌, ℕ, zero, suc, pred, ◌+◌, ◌≤◌, ◌<◌, Some, List, [], ◌∷◌, ◌++◌, map, refl, sym, ◌∙◌, ap, subst, arith, inl, inr, append_assoc}
use Rattle.std.specs.Prelude.{Contains, unwrap_or}
use Rattle.std.proofs.lemmas.List.{map-append}
use Rattle.re_given.proofs.Relabelled.{relabelled}
use Rattle.re_given.specs.InputViews.{InputView}
use Rattle.re_labels.proofs.Membership.{Contains-cases, Contains-here, Contains-later, Contains-map_cases, Contains-none}
use Rattle.re_classes.proofs.Parts.{Pairwise, Part, held, none, pairwise_across, pairwise_append, pairwise_left, pairwise_map, pairwise_part, pairwise_right, part_append, part_empty, part_map, part_whole}
use Rattle.re_laws.proofs.ViewLaws.{shift-at}
use Rattle.re_laws.specs.Trees.{Child, Tree, child_at, cut, end, leaf, more, others, put, shift}

-- an active node on the way, with its label
pub record Turn (E : Type 0) : Type 0 where
  pub ups : ℕ
  pub downs : ℕ
  pub label : E

abbrev pub level : {E : Type 0} → E → Turn E
level label = record { ups = 0; downs = 0; label = label }

abbrev pub raised : {E : Type 0} → Turn E → Turn E
raised t = record { ups = suc t.ups; downs = t.downs; label = t.label }

abbrev pub lowered : {E : Type 0} → Turn E → Turn E
lowered t = record { ups = t.ups; downs = suc t.downs; label = t.label }

abbrev pub turned_to : {E F : Type 0} → (E → F) → Turn E → Turn F
turned_to f t = record { ups = t.ups; downs = t.downs; label = f t.label }

-- all lists one after another; those from a place on; those before it
abbrev pub joined_all : {X : Type 0} → List (List X) → List X
joined_all [] = []
joined_all (p ∷ ps) = p ++ joined_all ps

abbrev pub after : {X : Type 0} → ℕ → List (List X) → List X
after zero ps = joined_all ps
after (suc j) [] = []
after (suc j) (p ∷ ps) = after j ps

abbrev pub before : {X : Type 0} → ℕ → List (List X) → List X
before zero ps = []
before (suc j) [] = []
before (suc j) (p ∷ ps) = p ++ before j ps

-- the way around a node that is entered at place j, where those around its further children are given
abbrev pub around_passive : {E : Type 0} → ℕ → List (List (Turn E)) → List (Turn E)
around_passive j ps = map raised (after j ps) ++ before j ps

abbrev pub around_active : {E : Type 0} → E → ℕ → List (List (Turn E)) → List (Turn E)
around_active label j ps = after j ps ++ (level label ∷ map lowered (before j ps))

-- the ways around the children of an active and of a passive node
abbrev mutual
  pub active_parts : {E : Type 0} → Tree E → List (List (Turn E))
  active_parts leaf = []
  active_parts end = []
  active_parts (more back label branch rest) = around_passive (pred back) (passive_parts branch) ∷ active_parts rest

  pub passive_parts : {E : Type 0} → Tree E → List (List (Turn E))
  passive_parts leaf = []
  passive_parts end = []
  passive_parts (more back label branch rest) = around_active label (pred back) (active_parts branch) ∷ passive_parts rest

-- the way around the view of an active node with this label, and of a passive node
abbrev pub active_turns : {E : Type 0} → E → Tree E → List (Turn E)
active_turns label v = level label ∷ map lowered (joined_all (active_parts v))

abbrev pub passive_turns : {E : Type 0} → Tree E → List (Turn E)
passive_turns v = joined_all (passive_parts v)

-- ---- other labels
raised-to : {E F : Type 0} (f : E → F) (ts : List (Turn E)) → map raised (map (turned_to f) ts) ≡ map (turned_to f) (map raised ts)
raised-to f [] = refl
raised-to f (t ∷ ts) = ap (◌∷◌ (turned_to f (raised t))) (raised-to f ts)

pub lowered-to : {E F : Type 0} (f : E → F) (ts : List (Turn E)) → map lowered (map (turned_to f) ts) ≡ map (turned_to f) (map lowered ts)
lowered-to f [] = refl
lowered-to f (t ∷ ts) = ap (◌∷◌ (turned_to f (lowered t))) (lowered-to f ts)

pub joined_all-map : {X Y : Type 0} (f : X → Y) (ps : List (List X)) → joined_all (map (map f) ps) ≡ map f (joined_all ps)
joined_all-map f [] = refl
joined_all-map f (p ∷ ps) = ap (λ qs. map f p ++ qs) (joined_all-map f ps) ∙ sym (map-append f p (joined_all ps))

pub after-map : {X Y : Type 0} (f : X → Y) (j : ℕ) (ps : List (List X)) → after j (map (map f) ps) ≡ map f (after j ps)
after-map f zero ps = joined_all-map f ps
after-map f (suc j) [] = refl
after-map f (suc j) (p ∷ ps) = after-map f j ps

pub before-map : {X Y : Type 0} (f : X → Y) (j : ℕ) (ps : List (List X)) → before j (map (map f) ps) ≡ map f (before j ps)
before-map f zero ps = refl
before-map f (suc j) [] = refl
before-map f (suc j) (p ∷ ps) = ap (λ qs. map f p ++ qs) (before-map f j ps) ∙ sym (map-append f p (before j ps))

around_passive-to : {E F : Type 0} (f : E → F) (j : ℕ) (ps : List (List (Turn E))) → around_passive j (map (map (turned_to f)) ps) ≡ map (turned_to f) (around_passive j ps)
around_passive-to f j ps =
    rw (after-map (turned_to f) j ps, before-map (turned_to f) j ps, raised-to f (after j ps), map-append (turned_to f) (map raised (after j ps)) (before j ps)) refl

around_active-to : {E F : Type 0} (f : E → F) (label : E) (j : ℕ) (ps : List (List (Turn E))) → around_active (f label) j (map (map (turned_to f)) ps) ≡ map (turned_to f) (around_active label j ps)
around_active-to f label j ps =
    rw (after-map (turned_to f) j ps, before-map (turned_to f) j ps, lowered-to f (before j ps), map-append (turned_to f) (after j ps) (level label ∷ map lowered (before j ps))) refl

mutual
  pub active_parts-relabelled : {E F : Type 0} (f : E → F) (x : Tree E) → active_parts (relabelled f x) ≡ map (map (turned_to f)) (active_parts x)
  active_parts-relabelled f leaf = refl
  active_parts-relabelled f end = refl
  active_parts-relabelled f (more back label branch rest) =
      let here : passive_parts (relabelled f branch) ≡ map (map (turned_to f)) (passive_parts branch) = passive_parts-relabelled f branch in
      let there : active_parts (relabelled f rest) ≡ map (map (turned_to f)) (active_parts rest) = active_parts-relabelled f rest in
      rw (here, there, around_passive-to f (pred back) (passive_parts branch)) refl

  pub passive_parts-relabelled : {E F : Type 0} (f : E → F) (x : Tree E) → passive_parts (relabelled f x) ≡ map (map (turned_to f)) (passive_parts x)
  passive_parts-relabelled f leaf = refl
  passive_parts-relabelled f end = refl
  passive_parts-relabelled f (more back label branch rest) =
      let here : active_parts (relabelled f branch) ≡ map (map (turned_to f)) (active_parts branch) = active_parts-relabelled f branch in
      let there : passive_parts (relabelled f rest) ≡ map (map (turned_to f)) (passive_parts rest) = passive_parts-relabelled f rest in
      rw (here, there, around_active-to f label (pred back) (active_parts branch)) refl

pub passive_turns-relabelled : {E F : Type 0} (f : E → F) (v : Tree E) → passive_turns (relabelled f v) ≡ map (turned_to f) (passive_turns v)
passive_turns-relabelled f v = ap joined_all (passive_parts-relabelled f v) ∙ joined_all-map (turned_to f) (passive_parts v)

pub active_turns-relabelled : {E F : Type 0} (f : E → F) (label : E) (v : Tree E) → active_turns (f label) (relabelled f v) ≡ map (turned_to f) (active_turns label v)
active_turns-relabelled f label v =
    ap (λ ps. level (f label) ∷ map lowered (joined_all ps)) (active_parts-relabelled f v)
    ∙ ap (λ ts. level (f label) ∷ map lowered ts) (joined_all-map (turned_to f) (active_parts v))
    ∙ ap (◌∷◌ (level (f label))) (lowered-to f (joined_all (active_parts v)))

-- ---- less of a view has a part of its way
-- each list is a part of that at the same place, and there may be less of them
abbrev Within : {X : Type 0} → List (List X) → List (List X) → Type 0
Within [] qs = Unit {0}
Within (p ∷ ps) [] = ⊥
Within (p ∷ ps) (q ∷ qs) = Part p q × Within ps qs

joined_all_within : {X : Type 0} (ps qs : List (List X)) → Within ps qs → Part (joined_all ps) (joined_all qs)
joined_all_within [] qs h = part_empty (joined_all qs)
joined_all_within (p ∷ ps) [] h = absurd h
joined_all_within (p ∷ ps) (q ∷ qs) h = part_append h.0 (joined_all_within ps qs h.1)

after_within : {X : Type 0} (j : ℕ) (ps qs : List (List X)) → Within ps qs → Part (after j ps) (after j qs)
after_within zero ps qs h = joined_all_within ps qs h
after_within (suc j) [] qs h = part_empty (after (suc j) qs)
after_within (suc j) (p ∷ ps) [] h = absurd h
after_within (suc j) (p ∷ ps) (q ∷ qs) h = after_within j ps qs h.1

before_within : {X : Type 0} (j : ℕ) (ps qs : List (List X)) → Within ps qs → Part (before j ps) (before j qs)
before_within zero ps qs h = none
before_within (suc j) [] qs h = part_empty (before (suc j) qs)
before_within (suc j) (p ∷ ps) [] h = absurd h
before_within (suc j) (p ∷ ps) (q ∷ qs) h = part_append h.0 (before_within j ps qs h.1)

mutual
  active_parts-cut : {E : Type 0} (t : ℕ) (x : Tree E) → Within (active_parts (cut t x)) (active_parts x)
  active_parts-cut zero x = tt
  active_parts-cut (suc t) leaf = tt
  active_parts-cut (suc t) end = tt
  active_parts-cut (suc t) (more back label branch rest) = (
    part_append (part_map raised (after_within (pred back) (passive_parts (cut t branch)) (passive_parts branch) (passive_parts-cut t branch)))
        (before_within (pred back) (passive_parts (cut t branch)) (passive_parts branch) (passive_parts-cut t branch)),
    active_parts-cut (suc t) rest,
  )

  passive_parts-cut : {E : Type 0} (t : ℕ) (x : Tree E) → Within (passive_parts (cut t x)) (passive_parts x)
  passive_parts-cut zero x = tt
  passive_parts-cut (suc t) leaf = tt
  passive_parts-cut (suc t) end = tt
  passive_parts-cut (suc t) (more back label branch rest) = (
    part_append (after_within (pred back) (active_parts (cut t branch)) (active_parts branch) (active_parts-cut t branch))
        (held (part_map lowered (before_within (pred back) (active_parts (cut t branch)) (active_parts branch) (active_parts-cut t branch)))),
    passive_parts-cut (suc t) rest,
  )

-- ---- one child of a passive node, and the others
parts_at : {E : Type 0} (i : ℕ) (v : Tree E) (c : Child E) → child_at i v ≡ Some c
    → joined_all (passive_parts v) ≡ before i (passive_parts v) ++ (around_active c.payload (pred c.back) (active_parts c.branch) ++ after (suc i) (passive_parts v))
parts_at i leaf c at = absurd (cc)
parts_at i end c at = absurd (cc)
parts_at {E = E} zero (more back label branch rest) c at =
    let is = ap (λ found. unwrap_or found c) at in
    ap (λ (d : Child E). around_active d.payload (pred d.back) (active_parts d.branch) ++ joined_all (passive_parts rest)) is
parts_at (suc i) (more back label branch rest) c at =
    ap (λ ts. around_active label (pred back) (active_parts branch) ++ ts) (parts_at i rest c at)
    ∙ sym (append_assoc (around_active label (pred back) (active_parts branch)) (before i (passive_parts rest)) (around_active c.payload (pred c.back) (active_parts c.branch) ++ after (suc i) (passive_parts rest)))

before-others : {E : Type 0} (i : ℕ) (v : Tree E) → before i (passive_parts (others i v)) ≡ before i (passive_parts v)
before-others i leaf = refl
before-others i end = refl
before-others zero (more back label branch rest) = refl
before-others (suc i) (more back label branch rest) = ap (λ ts. around_active label (pred back) (active_parts branch) ++ ts) (before-others i rest)

after-others : {E : Type 0} (i : ℕ) (v : Tree E) → after i (passive_parts (others i v)) ≡ after (suc i) (passive_parts v)
after-others zero leaf = refl
after-others (suc i) leaf = refl
after-others zero end = refl
after-others (suc i) end = refl
after-others zero (more back label branch rest) = refl
after-others (suc i) (more back label branch rest) = after-others i rest

parts-put : {E : Type 0} (j : ℕ) (c : Child E) (x : Tree E)
    → joined_all (active_parts (put j c x)) ≡ before j (active_parts x) ++ (around_passive (pred c.back) (passive_parts c.branch) ++ after j (active_parts x))
parts-put zero c x = refl
parts-put (suc j) c leaf = refl
parts-put (suc j) c end = refl
parts-put (suc j) c (more back label branch rest) =
    ap (λ ts. around_passive (pred back) (passive_parts branch) ++ ts) (parts-put j c rest)
    ∙ sym (append_assoc (around_passive (pred back) (passive_parts branch)) (before j (active_parts rest)) (around_passive (pred c.back) (passive_parts c.branch) ++ after j (active_parts rest)))

-- ---- the order
-- where the first one comes by first, it has the lower label if it isn't wound about more often, else the higher one
abbrev pub Ordered : Turn ℕ → Turn ℕ → Type 0
Ordered t u = (t.ups + u.downs ≤ u.ups + t.downs → t.label < u.label) × (u.ups + t.downs < t.ups + u.downs → u.label < t.label)

-- the same node with as many windings
abbrev Same : Turn ℕ → Turn ℕ → Type 0
Same t u = (t.label ≡ u.label) × (t.ups + u.downs ≡ u.ups + t.downs)

abbrev Like : List (Turn ℕ) → List (Turn ℕ) → Type 0
Like [] [] = Unit {0}
Like [] (u ∷ us) = ⊥
Like (t ∷ ts) [] = ⊥
Like (t ∷ ts) (u ∷ us) = Same t u × Like ts us

like_itself : (ts : List (Turn ℕ)) → Like ts ts
like_itself [] = tt
like_itself (t ∷ ts) = ((refl, refl), like_itself ts)

like_member : (ts us : List (Turn ℕ)) → Like ts us → (u : Turn ℕ) → Contains us u → (t : Turn ℕ) × Contains ts t × Same t u
like_member [] [] h u at = absurd (Contains-none u at)
like_member [] (v ∷ us) h u at = absurd h
like_member (t ∷ ts) [] h u at = absurd h
like_member (t ∷ ts) (v ∷ us) h u at = elim (Contains-cases u v us at) [
  | inl is ↦ (t, Contains-here t ts, subst (Same t) (sym is) h.0)
  | inr there ↦ later (like_member ts us h.1 u there)
]
  where
    later : (s : Turn ℕ) × Contains ts s × Same s u → (s : Turn ℕ) × Contains (t ∷ ts) s × Same s u
    later (s, there, same) = (s, Contains-later s t ts there, same)

ordered_same : (t u t' u' : Turn ℕ) → Same t t' → Same u u' → Ordered t u → Ordered t' u'
ordered_same t u t' u' (label, wound) (label', wound') (low, high) = (
  λ l. (let m = low (omega (arith, wound, wound', l)) in omega (arith, m, label, label')),
  (λ l. (let m = high (omega (arith, wound, wound', l)) in omega (arith, m, label, label'))),
)

pairwise_like : (ts us : List (Turn ℕ)) → Like ts us → Pairwise Ordered ts → Pairwise Ordered us
pairwise_like [] [] h i = tt
pairwise_like [] (u ∷ us) h i = absurd h
pairwise_like (t ∷ ts) [] h i = absurd h
pairwise_like (t ∷ ts) (u ∷ us) h i = ((λ y at. each y (like_member ts us h.1 y at)), pairwise_like ts us h.1 i.1)
  where
    each : (y : Turn ℕ) → (s : Turn ℕ) × Contains ts s × Same s y → Ordered u y
    each y (s, there, same) = ordered_same t s u y h.0 same (i.0 s there)

ordered_lowered : (t u : Turn ℕ) → Ordered t u → Ordered (lowered t) (lowered u)
ordered_lowered t u (low, high) = ((λ l. low (omega (arith, l))), (λ l. high (omega (arith, l))))

ordered_turned : (t u : Turn ℕ) → Ordered t u → Ordered u (lowered t)
ordered_turned t u (low, high) = ((λ l. high (omega (arith, l))), (λ l. low (omega (arith, l))))

-- what lies at the front of the way may go to its end with one winding less
pub pairwise_turned : (ts us : List (Turn ℕ)) → Pairwise Ordered (ts ++ us) → Pairwise Ordered (us ++ map lowered ts)
pairwise_turned ts us h = pairwise_append Ordered us (map lowered ts) (pairwise_right Ordered ts us h) (pairwise_map Ordered Ordered lowered ordered_lowered ts (pairwise_left Ordered ts us h))
    (λ x y at at'. across x y at (Contains-map_cases lowered ts y at'))
  where
    across : (x y : Turn ℕ) → Contains us x → (t : Turn ℕ) × Contains ts t × (lowered t ≡ y) → Ordered x y
    across x y at (t, there, e) = subst (Ordered x) e (ordered_turned t x (pairwise_across Ordered ts us h t x there at))

regrouped : {X : Type 0} (xs ks qs ys : List X) → xs ++ ((ks ++ qs) ++ ys) ≡ (xs ++ ks) ++ (qs ++ ys)
regrouped xs ks qs ys = ap (λ zs. xs ++ zs) (append_assoc ks qs ys) ∙ sym (append_assoc xs ks (qs ++ ys))

like_turned : (bs ys xs ks : List (Turn ℕ)) → Like ((map lowered bs ++ ys) ++ map lowered (xs ++ ks)) (map lowered (bs ++ ((map raised ys ++ xs) ++ ks)))
like_turned [] [] xs ks = like_itself (map lowered (xs ++ ks))
like_turned [] (y ∷ ys) xs ks = ((refl, omega arith), like_turned [] ys xs ks)
like_turned (b ∷ bs) ys xs ks = ((refl, refl), like_turned bs ys xs ks)

-- seen from a child of the root the order is the same
pub ordered_shift : (T i : ℕ) (v : InputView) (c : Child ℕ) → child_at i v ≡ Some c → Pairwise Ordered (passive_turns v) → Pairwise Ordered (active_turns c.payload (shift (suc T) v (suc i)))
ordered_shift T i v c at h = rw (shift-at (suc T) v (suc i) c at) (subst (λ ts. Pairwise Ordered (level c.payload ∷ map lowered ts)) (sym (parts-put j turned c.branch)) less)
  where
    j : ℕ
    j = pred c.back

    turned : Child ℕ
    turned = record { back = suc i; payload = c.payload; branch = cut T (others i v) }

    xs : List (Turn ℕ)
    xs = before i (passive_parts v)

    ys : List (Turn ℕ)
    ys = after (suc i) (passive_parts v)

    ks : List (Turn ℕ)
    ks = after j (active_parts c.branch)

    bs : List (Turn ℕ)
    bs = before j (active_parts c.branch)

    front : Pairwise Ordered ((xs ++ ks) ++ ((level c.payload ∷ map lowered bs) ++ ys))
    front = subst (Pairwise Ordered) (parts_at i v c at ∙ regrouped xs ks (level c.payload ∷ map lowered bs) ys) h

    whole : Pairwise Ordered (level c.payload ∷ map lowered (bs ++ ((map raised ys ++ xs) ++ ks)))
    whole = pairwise_like (((level c.payload ∷ map lowered bs) ++ ys) ++ map lowered (xs ++ ks)) (level c.payload ∷ map lowered (bs ++ ((map raised ys ++ xs) ++ ks))) ((refl, refl), like_turned bs ys xs ks)
        (pairwise_turned (xs ++ ks) ((level c.payload ∷ map lowered bs) ++ ys) front)

    later : Part (after i (passive_parts (cut T (others i v)))) ys
    later = subst (Part (after i (passive_parts (cut T (others i v))))) (after-others i v) (after_within i (passive_parts (cut T (others i v))) (passive_parts (others i v)) (passive_parts-cut T (others i v)))

    sooner : Part (before i (passive_parts (cut T (others i v)))) xs
    sooner = subst (Part (before i (passive_parts (cut T (others i v))))) (before-others i v) (before_within i (passive_parts (cut T (others i v))) (passive_parts (others i v)) (passive_parts-cut T (others i v)))

    less : Pairwise Ordered (level c.payload ∷ map lowered (bs ++ (around_passive i (passive_parts (cut T (others i v))) ++ ks)))
    less = pairwise_part Ordered (held (part_map lowered (part_append (part_whole bs) (part_append (part_append (part_map raised later) sooner) (part_whole ks))))) whole
