-- What loops over links make.
use Rattle.std.proofs.Common.{◌≡◌, ℕ, zero, suc, ◌+◌, ◌-◌, ◌≤◌, ◌<◌, List, [], ◌∷◌, ◌++◌, length, get_or, take, refl, sym, ap, ◌∙◌, subst, arith, length-append}
use Rattle.std.proofs.lemmas.List.{take_more}
use Rattle.re_laws.proofs.ShownLemmas.{after, tree_of_children-append}
use Rattle.re_laws.specs.declared.Branch.{Branch}
use Rattle.re_laws.specs.declared.Child.{Child}
use Rattle.re_laws.specs.Shown.{tree_of_branch, tree_of_children}
use Rattle.re_laws.specs.Trees.{Tree, cut, leaf, end, more}
use Rattle.re_pool.proofs.Growing.{Keeps-children, Keeps-refl, Keeps-trans}
use Rattle.re_pool.specs.Narrow.{IsNarrow, width}
use Rattle.re_pool.specs.Pools.{AreLinksHeld, Keeps, children_of, tree_at, trees}
use Rattle.re_pool.specs.declared.shape.Link.{Link}
use Rattle.re_pool.specs.declared.shape.Shape.{Shape}

-- ---- links that are held
pub held-append : (bound : ℕ) (xs ys : List Link) → AreLinksHeld bound xs → AreLinksHeld bound ys → AreLinksHeld bound (xs ++ ys)
held-append bound [] ys held held' = held'
held-append bound (x ∷ xs) ys held held' = (held.0, held-append bound xs ys held.1 held')

pub held-more : (bound more' : ℕ) (xs : List Link) → bound ≤ more' → AreLinksHeld bound xs → AreLinksHeld more' xs
held-more bound more' [] l held = tt
held-more bound more' (x ∷ xs) l held = (let here = held.0 in omega arith, held-more bound more' xs l held.1)

pub held-at : (bound : ℕ) (xs : List Link) (i : ℕ) (link : Link) → AreLinksHeld bound xs → i < length xs → link ≡ get_or xs i link → link.below < bound
held-at bound [] i link held l e = absurd (omega arith)
held-at bound (x ∷ xs) zero link held l e = subst (λ (one : Link). one.below < bound) (sym e) held.0
held-at bound (x ∷ xs) (suc i) link held l e = held-at bound xs i link held.1 (omega arith) e

-- ---- lists of children, one behind another
pub children_of-append : (known : List (Tree (Unit {0}))) (xs ys : List Link) → children_of known (xs ++ ys) ≡ after (children_of known xs) (children_of known ys)
children_of-append known [] ys = refl
children_of-append known (x ∷ xs) ys = ap (more x.back tt (get_or known x.below leaf)) (children_of-append known xs ys)

cut-after : (t back : ℕ) (known : List (Tree (Unit {0}))) (xs : List Link) (y : Tree (Unit {0})) → cut (suc t) (after (children_of known xs) (more back tt y end)) ≡ after (cut (suc t) (children_of known xs)) (more back tt (cut t y) end)
cut-after t back known [] y = refl
cut-after t back known (x ∷ xs) y = ap (more x.back tt (cut t (get_or known x.below leaf))) (cut-after t back known xs y)

-- one child more is read
pub taken_children : (items read : List (Child (Unit {0}))) (i : ℕ) (child : Child (Unit {0})) → read ≡ items → i < length read → child ≡ get_or read i child
    → after (tree_of_children (take i items)) (more child.back tt (tree_of_branch child.branch) end) ≡ tree_of_children (take (i + 1) items)
taken_children items read i child same below is =
    let item : child ≡ get_or items i child = is ∙ ap (λ l. get_or l i child) same in
    let taken : take (i + 1) items ≡ take i items ++ child ∷ [] = take_more items i child (rw same at below) ∙ ap (λ c. take i items ++ c ∷ []) (sym item) in
    sym (ap tree_of_children taken ∙ tree_of_children-append (take i items) (child ∷ []))

-- one link more is read
pub taken_links : (known : List (Tree (Unit {0}))) (items : List Link) (i : ℕ) (link : Link) → i < length items → link ≡ get_or items i link
    → after (children_of known (take i items)) (more link.back tt (get_or known link.below leaf) end) ≡ children_of known (take (i + 1) items)
taken_links known items i link below is =
    let taken : take (i + 1) items ≡ take i items ++ link ∷ [] = take_more items i link below ∙ ap (λ c. take i items ++ c ∷ []) (sym is) in
    sym (ap (children_of known) taken ∙ children_of-append known (take i items) (link ∷ []))

pub taken_cut : (depth : ℕ) (known : List (Tree (Unit {0}))) (items : List Link) (i : ℕ) (link : Link) → 1 ≤ depth → i < length items → link ≡ get_or items i link
    → after (cut depth (children_of known (take i items))) (more link.back tt (cut (depth - 1) (get_or known link.below leaf)) end) ≡ cut depth (children_of known (take (i + 1) items))
taken_cut zero known items i link some below is = absurd (omega arith)
taken_cut (suc t) known items i link some below is =
    let less : suc t - 1 ≡ t = omega arith in
    ap (λ n. after (cut (suc t) (children_of known (take i items))) (more link.back tt (cut n (get_or known link.below leaf)) end)) less
    ∙ (sym (cut-after t link.back known (take i items) (get_or known link.below leaf))
    ∙ ap (cut (suc t)) (taken_links known items i link below is))

-- ---- the links that a loop has made
-- so many links, which show this list of children, and the pool has kept what it held
pub record Made (start here : List Shape) (links : List Link) (number : ℕ) (shown : Tree (Unit {0})) : Type 0 where
  pub keeps : Keeps start here
  pub held : AreLinksHeld (length here) links
  pub count : length links ≡ number
  pub tree : children_of (trees here) links ≡ shown

pub made_more : (start here next : List Shape) (links links' : List Link) (count back below : ℕ) (shown shown' branch : Tree (Unit {0})) → Made start here links count shown → Keeps here next
    → below < length next → tree_at next below ≡ branch → links' ≡ links ++ record { back = back; below = below } ∷ [] → after shown (more back tt branch end) ≡ shown' → Made start next links' (count + 1) shown'
made_more start here next links links' count back below shown shown' branch made keeps inside is are joined =
    let one : Link = record { back = back; below = below } in
    let far = keeps.held in
    let old : children_of (trees next) links ≡ shown = Keeps-children here next links keeps made.held ∙ made.tree in
    record {
      keeps = Keeps-trans start here next made.keeps keeps;
      held = rw are (held-append (length next) links (one ∷ []) (held-more (length here) (length next) links far made.held) (inside, tt));
      count = rw are (length-append links (one ∷ []) ∙ ap (λ n. n + 1) made.count);
      tree = ap (children_of (trees next)) are ∙ (children_of-append (trees next) links (one ∷ []) ∙ (ap (λ x. after x (children_of (trees next) (one ∷ []))) old ∙ (ap (λ b. after shown (more back tt b end)) is ∙ joined)));
    }

-- ---- narrow trees
pub width-children : (children : List (Child (Unit {0}))) → width (tree_of_children children) ≡ length children
width-children [] = refl
width-children (x ∷ xs) = ap suc (width-children xs)

pub narrow_count : (children : List (Child (Unit {0}))) → IsNarrow (tree_of_children children) → length children ≤ 6
narrow_count [] h = omega arith
narrow_count (x ∷ xs) h = let few = h.0 in omega (arith, width-children xs)

pub narrow_at : (children read : List (Child (Unit {0}))) (i : ℕ) (child : Child (Unit {0})) → read ≡ children → IsNarrow (tree_of_children children) → i < length read → child ≡ get_or read i child → IsNarrow (tree_of_branch child.branch)
narrow_at children read i child same narrow l e = go children i narrow (rw same at l) (e ∙ ap (λ r. get_or r i child) same)
  where
    go : (children : List (Child (Unit {0}))) (i : ℕ) → IsNarrow (tree_of_children children) → i < length children → child ≡ get_or children i child → IsNarrow (tree_of_branch child.branch)
    go [] i narrow l e = absurd (omega arith)
    go (x ∷ xs) zero narrow l e = subst (λ (c : Child (Unit {0})). IsNarrow (tree_of_branch c.branch)) (sym e) narrow.1
    go (x ∷ xs) (suc i) narrow l e = go xs i narrow.2 (omega arith) e

-- ---- how many children a tree has in all
abbrev pub weight : Tree (Unit {0}) → ℕ
weight leaf = 0
weight end = 0
weight (more back payload branch rest) = suc (weight branch + weight rest)

pub weight_at : (children read : List (Child (Unit {0}))) (i : ℕ) (child : Child (Unit {0})) → read ≡ children → i < length read → child ≡ get_or read i child → weight (tree_of_branch child.branch) < weight (tree_of_children children)
weight_at children read i child same l e = go children i (rw same at l) (e ∙ ap (λ r. get_or r i child) same)
  where
    go : (children : List (Child (Unit {0}))) (i : ℕ) → i < length children → child ≡ get_or children i child → weight (tree_of_branch child.branch) < weight (tree_of_children children)
    go [] i l e = absurd (omega arith)
    go (x ∷ xs) zero l e = let same' : weight (tree_of_branch child.branch) ≡ weight (tree_of_branch x.branch) = ap (λ (c : Child (Unit {0})). weight (tree_of_branch c.branch)) e in omega arith
    go (x ∷ xs) (suc i) l e = let rest = go xs i (omega arith) e in omega arith

-- one link more is written out
pub read_more : (known : List (Tree (Unit {0}))) (children children' : List (Child (Unit {0}))) (items : List Link) (i : ℕ) (link : Link) (branch : Branch (Unit {0})) → i < length items → link ≡ get_or items i link
    → tree_of_children children ≡ children_of known (take i items) → tree_of_branch branch ≡ get_or known link.below leaf
    → children' ≡ children ++ record { back = link.back; payload = tt; branch = branch } ∷ [] → tree_of_children children' ≡ children_of known (take (i + 1) items)
read_more known children children' items i link branch below is so_far here are =
    let one : Child (Unit {0}) = record { back = link.back; payload = tt; branch = branch } in
    ap tree_of_children are
    ∙ (tree_of_children-append children (one ∷ [])
    ∙ (ap (λ x. after x (tree_of_children (one ∷ []))) so_far
    ∙ (ap (λ b. after (children_of known (take i items)) (more link.back tt b end)) here
    ∙ taken_links known items i link below is)))
