-- Named trees: trees whose payloads are the names of the children. Which names stand in one, and what its children at a place and at others show.
use Rattle.std.proofs.Common.{◌≡◌, ℕ, zero, suc, pred, ◌+◌, ◌≤◌, Some, List, [], ◌∷◌, length, refl, sym, ◌∙◌, ap, arith}
use Rattle.std.specs.Prelude.{Contains, unwrap_or}
use Rattle.re_forests.proofs.Counting.{is_at, often}
use Rattle.re_given.specs.InputViews.{payloads}
use Rattle.re_laws.specs.Trees.{Child, Tree, child_at, end, leaf, more, others, put}

-- how often a name stands in a tree
abbrev pub occurs : ℕ → Tree ℕ → ℕ
occurs n leaf = 0
occurs n end = 0
occurs n (more back name branch rest) = is_at n name + occurs n branch + occurs n rest

-- the list with one more at a place
abbrev pub insert : ℕ → ℕ → List ℕ → List ℕ
insert zero q xs = q ∷ xs
insert (suc k) q [] = q ∷ []
insert (suc k) q (x ∷ xs) = x ∷ insert k q xs

-- not the leaf, which shows nothing
abbrev pub IsNode : Tree ℕ → Type 0
IsNode leaf = ⊥
IsNode end = Unit {0}
IsNode (more back name branch rest) = Unit {0}

-- the tree as its child c at place k sees it, where its root has the name r
abbrev pub moved : ℕ → ℕ → Child ℕ → Tree ℕ → Tree ℕ
moved r k c t = put (pred c.back) (record { back = suc k; payload = r; branch = others k t }) c.branch

pub payloads-put : (k : ℕ) (c : Child ℕ) (t : Tree ℕ) → payloads (put k c t) ≡ insert k c.payload (payloads t)
payloads-put zero c t = refl
payloads-put (suc k) c leaf = refl
payloads-put (suc k) c end = refl
payloads-put (suc k) c (more back name branch rest) = ap (λ xs. name ∷ xs) (payloads-put k c rest)

pub insert-others : (k : ℕ) (c : Child ℕ) (t : Tree ℕ) → child_at k t ≡ Some c → insert k c.payload (payloads (others k t)) ≡ payloads t
insert-others k c leaf at = absurd (cc)
insert-others k c end at = absurd (cc)
insert-others zero c (more back name branch rest) at =
    let is : _ = ap (λ found. unwrap_or found c) at in
    ap (λ (c : Child ℕ). c.payload ∷ payloads rest) (sym is)
insert-others (suc k) c (more back name branch rest) at = ap (λ xs. name ∷ xs) (insert-others k c rest at)

pub occurs-put : (n k : ℕ) (c : Child ℕ) (t : Tree ℕ) → occurs n (put k c t) ≡ is_at n c.payload + occurs n c.branch + occurs n t
occurs-put n zero c t = refl
occurs-put n (suc k) c leaf = refl
occurs-put n (suc k) c end = refl
occurs-put n (suc k) c (more back name branch rest) = let later = occurs-put n k c rest in omega arith

pub occurs-others : (n k : ℕ) (c : Child ℕ) (t : Tree ℕ) → child_at k t ≡ Some c → occurs n t ≡ is_at n c.payload + occurs n c.branch + occurs n (others k t)
occurs-others n k c leaf at = absurd (cc)
occurs-others n k c end at = absurd (cc)
occurs-others n zero c (more back name branch rest) at =
    let is : _ = ap (λ found. unwrap_or found c) at in
    ap (λ (c : Child ℕ). is_at n c.payload + occurs n c.branch + occurs n rest) is
occurs-others n (suc k) c (more back name branch rest) at = let later = occurs-others n k c rest at in omega arith

pub often-payloads : (n : ℕ) (t : Tree ℕ) → often n (payloads t) ≤ occurs n t
often-payloads n leaf = omega arith
often-payloads n end = omega arith
often-payloads n (more back name branch rest) = let later = often-payloads n rest in omega arith

pub length-insert : (k q : ℕ) (xs : List ℕ) → length (insert k q xs) ≡ suc (length xs)
length-insert zero q xs = refl
length-insert (suc k) q [] = refl
length-insert (suc k) q (x ∷ xs) = ap suc (length-insert k q xs)

pub length-others : (k : ℕ) (c : Child ℕ) (t : Tree ℕ) → child_at k t ≡ Some c → suc (length (payloads (others k t))) ≡ length (payloads t)
length-others k c t at = sym (length-insert k c.payload (payloads (others k t))) ∙ ap length (insert-others k c t at)

pub Contains-insert : (k q : ℕ) (xs : List ℕ) → Contains (insert k q xs) q
Contains-insert zero q xs = (zero, omega arith, refl)
Contains-insert (suc k) q [] = (zero, omega arith, refl)
Contains-insert (suc k) q (x ∷ xs) = let (j, l, e) = Contains-insert k q xs in (suc j, omega arith, e)

-- a name among those of the children is that of a child
pub child_of_top : (t : Tree ℕ) (n : ℕ) → Contains (payloads t) n → (k : ℕ) × (c : Child ℕ) × (child_at k t ≡ Some c) × (c.payload ≡ n)
child_of_top leaf n (k, l, e) = absurd (omega arith)
child_of_top end n (k, l, e) = absurd (omega arith)
child_of_top (more back name branch rest) n (zero, l, e) = (zero, record { back = back; payload = name; branch = branch }, refl, e)
child_of_top (more back name branch rest) n (suc k, l, e) = let (j, c, at, is) = child_of_top rest n (k, omega arith, e) in (suc j, c, at, is)

-- the other children of a list to which one was put are still among them
pub child_at-kept : (j : ℕ) (d : Child ℕ) (t : Tree ℕ) (i : ℕ) (c : Child ℕ) → child_at i t ≡ Some c → (k : ℕ) × (child_at k (put j d t) ≡ Some c)
child_at-kept zero d t i c at = (suc i, at)
child_at-kept (suc j) d leaf i c at = absurd (cc)
child_at-kept (suc j) d end i c at = absurd (cc)
child_at-kept (suc j) d (more back name branch rest) zero c at = (zero, at)
child_at-kept (suc j) d (more back name branch rest) (suc i) c at = let (k, there) = child_at-kept j d rest i c at in (suc k, there)
