use Rattle.std.proofs.Common.{◌≡◌, ℕ, zero, suc, pred, ◌+◌, ◌-◌, ◌≤◌, ◌<◌, List, [], ◌∷◌, ◌++◌, length, take, get_or, subst, refl, sym, ◌∙◌, ap, arith, sub-one, ◌≢◌}
use Rattle.std.specs.Prelude.{All, Vec, Option, Some, None, slice_get}
use Rattle.std.specs.declared.alloc.Global.{Global}
use Rattle.std.proofs.lemmas.List.Elements.{All-nil, All-cons, All-head, All-tail, All-more}
use Rattle.std.proofs.lemmas.List.{take_all, take_more}
use Rattle.re_laws.specs.declared.Branch.{Branch, Node, Row_of-Child, end_of-Child, more_of-Child, items-the_row-Child, items_hidden-the_row-Child-0}
use Rattle.re_laws.specs.declared.Branch.TheBlock.{hidden-the_row-Child-0}
use Rattle.re_laws.specs.declared.Child.{Child}
use Rattle.re_laws.specs.Shown.{IsShownChild, tree_of_branch, tree_of_children, tree_of_row}
use Rattle.re_laws.specs.Trees.{IsTree, Tree, cut, end, grown, leaf, more}

pub tree_of_row-items : {E : Type 0} {n : _} (row : Row_of-Child E n) → tree_of_row row ≡ tree_of_children (items-the_row-Child E n row)
tree_of_row-items end_of-Child = refl
tree_of_row-items (more_of-Child back payload branch rest) = ap (more back payload (tree_of_branch branch)) (tree_of_row-items rest)

-- a branch that is a node is the list of its children
pub tree_of_branch-Node : {E : Type 0} (children : Vec (Child E) Global) → tree_of_branch (Node children) ≡ tree_of_children children.items
tree_of_branch-Node {E} children = tree_of_row-items (hidden-the_row-Child-0 E children) ∙ ap tree_of_children (items_hidden-the_row-Child-0 E children)

-- a list of children is no tree of depth 0
pub shown_zero : {E : Type 0} (d e n : ℕ) (children : List (Child E)) → IsTree d e 0 n (tree_of_children children) → ⊥
shown_zero d e n [] h = h
shown_zero d e n (child ∷ children) h = h

-- it is a tree exactly where it has a child for each port
pub tree-children : {E : Type 0} (d e t n : ℕ) (children : List (Child E)) → length children ≡ n → All (IsShownChild e d t) children → IsTree d e (suc t) n (tree_of_children children)
tree-children d e t zero [] count all = tt
tree-children d e t (suc n) [] count all = absurd (cc)
tree-children d e t zero (child ∷ children) count all = absurd (cc)
tree-children d e t (suc n) (child ∷ children) count all =
    let here : IsShownChild e d t child = All-head (IsShownChild e d t) child children all in
    (here.0, here.1, rw sub-one at here.2, tree-children d e t n children (omega arith) (All-tail (IsShownChild e d t) child children all))

pub children-tree : {E : Type 0} (d e t n : ℕ) (children : List (Child E)) → IsTree d e (suc t) n (tree_of_children children) → (length children ≡ n) × All (IsShownChild e d t) children
children-tree d e t zero [] h = (refl, All-nil (IsShownChild e d t))
children-tree d e t (suc n) [] h = absurd h
children-tree d e t zero (child ∷ children) h = absurd h
children-tree d e t (suc n) (child ∷ children) h =
    let (count, all) = children-tree d e t n children h.3 in
    (ap suc count, All-cons (IsShownChild e d t) child children (h.0, h.1, rw sub-one h.2) all)

-- the same where the depth isn't 0
pub shown_children : {E : Type 0} (d e depth n : ℕ) (children : List (Child E)) → depth ≢ 0 → length children ≡ n → All (IsShownChild e d (depth - 1)) children → IsTree d e depth n (tree_of_children children)
shown_children d e zero n children some count all = absurd (some refl)
shown_children d e (suc t) n children some count all = tree-children d e t n children count (rw sub-one at all)

pub children_shown : {E : Type 0} (d e depth n : ℕ) (children : List (Child E)) → IsTree d e depth n (tree_of_children children) → (length children ≡ n) × All (IsShownChild e d (depth - 1)) children
children_shown d e zero n children h = absurd (shown_zero d e n children h)
children_shown d e (suc t) n children h = rw sub-one (children-tree d e t n children h)

-- the child at an index of a loop over the children
pub item_is : {A : Type 0} (P : A → Type 0) (items read : List A) (i : ℕ) (child : A) → read ≡ items → i < length read → child ≡ get_or read i child → All P items → P child
item_is P items read i child same below is all = rw is (rw same (all i child (rw same at below)))

pub item_more : {A : Type 0} (P : A → Type 0) (items read : List A) (i : ℕ) (child : A) → read ≡ items → i < length read → child ≡ get_or read i child → All P (take i items) → P child → All P (take (i + 1) items)
item_more P items read i child same below is all here = All-more P items i child (rw same at below) all (subst P (is ∙ ap (λ l. get_or l i child) same) here)

pub items_all : {A : Type 0} (P : A → Type 0) (items read : List A) (i : ℕ) → read ≡ items → length read ≤ i → All P (take i items) → All P items
items_all P items read i same past all = rw (take_all i items (rw same at past)) at all

-- one list of children and then another one
abbrev pub after : {E : Type 0} → Tree E → Tree E → Tree E
after leaf y = y
after end y = y
after (more back payload branch rest) y = more back payload branch (after rest y)

pub tree_of_children-append : {E : Type 0} (xs ys : List (Child E)) → tree_of_children (xs ++ ys) ≡ after (tree_of_children xs) (tree_of_children ys)
tree_of_children-append [] ys = refl
tree_of_children-append (x ∷ xs) ys = ap (more x.back x.payload (tree_of_branch x.branch)) (tree_of_children-append xs ys)

-- lists of children that show the same are of one length
pub length-shown : {E : Type 0} (xs ys : List (Child E)) → tree_of_children xs ≡ tree_of_children ys → length xs ≡ length ys
length-shown [] [] h = refl
length-shown [] (y ∷ ys) h = absurd (cc)
length-shown (x ∷ xs) [] h = absurd (cc)
length-shown (x ∷ xs) (y ∷ ys) h =
    let rest : tree_of_children xs ≡ tree_of_children ys = cc in
    ap suc (length-shown xs ys rest)

-- the children with their branches sent on
abbrev pub mapped : {E : Type 0} → (Tree E → Tree E) → Tree E → Tree E
mapped f leaf = leaf
mapped f end = end
mapped f (more back payload branch rest) = more back payload (f branch) (mapped f rest)

mapped-after : {E : Type 0} (f : Tree E → Tree E) (xs : List (Child E)) (y : Tree E) → mapped f (after (tree_of_children xs) y) ≡ after (mapped f (tree_of_children xs)) (mapped f y)
mapped-after f [] y = refl
mapped-after f (x ∷ xs) y = ap (more x.back x.payload (f (tree_of_branch x.branch))) (mapped-after f xs y)

-- a loop over the children sends one more branch on
pub mapped_more : {E : Type 0} (f : Tree E → Tree E) (kept items read : List (Child E)) (i : ℕ) (child : Child E) (branch : Branch E) → read ≡ items → i < length read → child ≡ get_or read i child → tree_of_children kept ≡ mapped f (tree_of_children (take i items)) → tree_of_branch branch ≡ f (tree_of_branch child.branch) → tree_of_children (kept ++ record { back = child.back; payload = child.payload; branch = branch } ∷ []) ≡ mapped f (tree_of_children (take (i + 1) items))
mapped_more {E} f kept items read i child branch same below is so_far here =
    let item : child ≡ get_or items i child = is ∙ ap (λ l. get_or l i child) same in
    let one : Child E = record { back = child.back; payload = child.payload; branch = branch } in
    let last : more child.back child.payload (tree_of_branch branch) end ≡ more child.back child.payload (f (tree_of_branch child.branch)) end = ap (λ b. more child.back child.payload b end) here in
    let taken : take (i + 1) items ≡ take i items ++ child ∷ [] = take_more items i child (rw same at below) ∙ ap (λ c. take i items ++ c ∷ []) (sym item) in
    tree_of_children-append kept (one ∷ []) ∙ (ap (λ x. after x (tree_of_children (one ∷ []))) so_far ∙ (ap (after (mapped f (tree_of_children (take i items)))) last ∙ (sym (mapped-after f (take i items) (tree_of_children (child ∷ []))) ∙ (ap (mapped f) (sym (tree_of_children-append (take i items) (child ∷ []))) ∙ ap (λ cs. mapped f (tree_of_children cs)) (sym taken)))))

-- after it all are sent on
pub mapped_all : {E : Type 0} (f : Tree E → Tree E) (kept items read : List (Child E)) (i : ℕ) → read ≡ items → length read ≤ i → tree_of_children kept ≡ mapped f (tree_of_children (take i items)) → tree_of_children kept ≡ mapped f (tree_of_children items)
mapped_all f kept items read i same past so_far = so_far ∙ ap (λ cs. mapped f (tree_of_children cs)) (take_all i items (rw same at past))

pub mapped-same : {E : Type 0} (x : Tree E) → mapped (λ y. y) x ≡ x
mapped-same leaf = refl
mapped-same end = refl
mapped-same (more back payload branch rest) = ap (more back payload branch) (mapped-same rest)

pub mapped-cut : {E : Type 0} (t : ℕ) (x : Tree E) → mapped (cut t) x ≡ cut (suc t) x
mapped-cut t leaf = refl
mapped-cut t end = refl
mapped-cut t (more back payload branch rest) = ap (more back payload (cut t branch)) (mapped-cut t rest)

pub mapped-grown : {E : Type 0} (d e t n : ℕ) (fill : E) (xs : List (Child E)) → mapped (grown e d (pred t) (pred e) fill) (tree_of_children xs) ≡ grown d e t n fill (tree_of_children xs)
mapped-grown d e t n fill [] = refl
mapped-grown d e t n fill (x ∷ xs) = ap (more x.back x.payload (grown e d (pred t) (pred e) fill (tree_of_branch x.branch))) (mapped-grown d e t n fill xs)

-- the first child of a list that is a tree
pub first_none : {E : Type 0} (d e t n : ℕ) (items : List (Child E)) → ◌≡◌ {A = Option (Child E)} None (slice_get items 0) → 1 ≤ n → IsTree d e t n (tree_of_children items) → ⊥
first_none d e zero n [] first some h = h
first_none d e (suc t) zero [] first some h = omega arith
first_none d e (suc t) (suc n) [] first some h = h
first_none d e t n (x ∷ items) first some h = cc

pub first_some : {E : Type 0} (d e t n : ℕ) (items : List (Child E)) (child : Child E) → ◌≡◌ {A = Option (Child E)} (Some child) (slice_get items 0) → IsTree d e t n (tree_of_children items) → (u : ℕ) × (t ≡ suc u) × IsTree e d u (pred e) (tree_of_branch child.branch)
first_some d e t n [] child first h = absurd (cc)
first_some d e zero n (x ∷ items) child first h = absurd h
first_some d e (suc t) zero (x ∷ items) child first h = absurd h
first_some {E} d e (suc t) (suc n) (x ∷ items) child first h =
    let same : child ≡ x = cc in
    (t, refl, subst (λ (c : Child E). IsTree e d t (pred e) (tree_of_branch c.branch)) (sym same) h.2)
