use Rattle.std.proofs.Common.{◌≡◌, ℕ, zero, suc, pred, ◌≤◌, ◌<◌, Some, refl, sym, ◌∙◌, ap, arith}
use Rattle.re_laws.specs.Trees.{Child, IsBranch, IsTree, IsView, Tree, child_at, copies, cut, end, full, grown, leaf, more, others, pad, put, shift, turned}

-- a cut of a cut is the shorter cut
pub cut-cut : {E : Type 0} (m n : ℕ) (x : Tree E) → m ≤ n → cut m (cut n x) ≡ cut m x
cut-cut zero n x h = refl
cut-cut (suc m) zero x h = absurd (omega arith)
cut-cut (suc m) (suc n) leaf h = refl
cut-cut (suc m) (suc n) end h = refl
cut-cut (suc m) (suc n) (more back payload branch rest) h =
    let here : cut m (cut n branch) ≡ cut m branch = cut-cut m n branch (omega arith) in
    let there : cut (suc m) (cut (suc n) rest) ≡ cut (suc m) rest = cut-cut (suc m) (suc n) rest h in
    cc

-- how many children stand in the list
abbrev pub HasRoom : {E : Type 0} → ℕ → Tree E → Type 0
HasRoom zero x = Unit {0}
HasRoom (suc k) leaf = ⊥
HasRoom (suc k) end = ⊥
HasRoom (suc k) (more back payload branch rest) = HasRoom k rest

pub child_at-put : {E : Type 0} (k : ℕ) (c : Child E) (x : Tree E) → HasRoom k x → child_at k (put k c x) ≡ Some c
child_at-put zero c x h = refl
child_at-put (suc k) c leaf h = absurd h
child_at-put (suc k) c end h = absurd h
child_at-put (suc k) c (more back payload branch rest) h = child_at-put k c rest h

pub others-put : {E : Type 0} (k : ℕ) (c : Child E) (x : Tree E) → HasRoom k x → others k (put k c x) ≡ x
others-put zero c x h = refl
others-put (suc k) c leaf h = absurd h
others-put (suc k) c end h = absurd h
others-put (suc k) c (more back payload branch rest) h = ap (more back payload branch) (others-put k c rest h)

-- a list is the child at a place, put back among the others
pub put-others : {E : Type 0} (k : ℕ) (c : Child E) (x : Tree E) → child_at k x ≡ Some c → put k c (others k x) ≡ x
put-others k c leaf h = absurd (cc)
put-others k c end h = absurd (cc)
put-others zero c (more back payload branch rest) h = cc
put-others (suc k) c (more back payload branch rest) h = ap (more back payload branch) (put-others k c rest h)

pub cut-put : {E : Type 0} (t k : ℕ) (c : Child E) (x : Tree E) → cut (suc t) (put k c x) ≡ put k (record c { branch = cut t c.branch }) (cut (suc t) x)
cut-put t zero c x = refl
cut-put t (suc k) c leaf = refl
cut-put t (suc k) c end = refl
cut-put t (suc k) c (more back payload branch rest) = ap (more back payload (cut t branch)) (cut-put t k c rest)

pub others-cut : {E : Type 0} (t k : ℕ) (x : Tree E) → others k (cut (suc t) x) ≡ cut (suc t) (others k x)
others-cut t k leaf = refl
others-cut t k end = refl
others-cut t zero (more back payload branch rest) = refl
others-cut t (suc k) (more back payload branch rest) = ap (more back payload (cut t branch)) (others-cut t k rest)

pub child_at-cut : {E : Type 0} (t k : ℕ) (c : Child E) (x : Tree E) → child_at k x ≡ Some c → child_at k (cut (suc t) x) ≡ Some (record c { branch = cut t c.branch })
child_at-cut t k c leaf h = absurd (cc)
child_at-cut t k c end h = absurd (cc)
child_at-cut t zero c (more back payload branch rest) h = cc
child_at-cut t (suc k) c (more back payload branch rest) h = child_at-cut t k c rest h

-- what a view says of its child at a port
pub record IsChild {E : Type 0} (e d t : ℕ) (c : Child E) : Type 0 where
  pub least : 1 ≤ c.back
  pub most : c.back ≤ e
  pub branch : IsBranch e d t c.branch

-- a tree that shows n ports has a child at each place below n
pub child_of : {E : Type 0} (d e t n : ℕ) (x : Tree E) → IsTree d e (suc t) n x → (k : ℕ) → k < n → (c : Child E) × (child_at k x ≡ Some c) × IsChild e d t c
child_of d e t n leaf h k l = absurd h
child_of d e t zero end h k l = absurd (omega arith)
child_of d e t (suc n) end h k l = absurd h
child_of d e t zero (more back payload branch rest) h k l = absurd h
child_of d e t (suc n) (more back payload branch rest) h zero l = (record { back = back; payload = payload; branch = branch }, refl, record { least = h.0; most = h.1; branch = h.2 })
child_of d e t (suc n) (more back payload branch rest) h (suc k) l = child_of d e t n rest h.3 k (omega arith)

pub HasRoom-tree : {E : Type 0} (d e t n : ℕ) (x : Tree E) → IsTree d e (suc t) n x → (k : ℕ) → k ≤ n → HasRoom k x
HasRoom-tree d e t n x h zero l = tt
HasRoom-tree d e t n leaf h (suc k) l = absurd h
HasRoom-tree d e t zero end h (suc k) l = absurd (omega arith)
HasRoom-tree d e t (suc n) end h (suc k) l = absurd h
HasRoom-tree d e t zero (more back payload branch rest) h (suc k) l = absurd h
HasRoom-tree d e t (suc n) (more back payload branch rest) h (suc k) l = HasRoom-tree d e t n rest h.3 k (omega arith)

-- the neighbour's view, where the child at that port is known
pub shift-at : {E : Type 0} (t : ℕ) (v : Tree E) (i : ℕ) (c : Child E) → child_at (pred i) v ≡ Some c → shift t v i ≡ turned t i (others (pred i) v) (Some c)
shift-at t v i c h = ap (turned t i (others (pred i) v)) h

pub shift-put : {E : Type 0} (t : ℕ) (i : ℕ) (c : Child E) (x : Tree E) → HasRoom (pred i) x → shift t (put (pred i) c x) i ≡ turned t i x (Some c)
shift-put t i c x h =
    let a : child_at (pred i) (put (pred i) c x) ≡ Some c = child_at-put (pred i) c x h in
    let b : others (pred i) (put (pred i) c x) ≡ x = others-put (pred i) c x h in
    cc

-- a child put into its list and looked back at from behind
pub shift-turned : {E : Type 0} (t i : ℕ) (c : Child E) (x : Tree E) → HasRoom (pred c.back) c.branch → shift t (turned (suc t) i x (Some c)) c.back ≡ cut t (put (pred i) c x)
shift-turned zero i c x room = shift-put zero c.back (record { back = i; payload = c.payload; branch = cut zero x }) c.branch room
shift-turned (suc t) i c x room =
    shift-put (suc t) c.back (record { back = i; payload = c.payload; branch = cut (suc t) x }) c.branch room ∙ sym (cut-put t (pred i) c x)

-- seen from the neighbour on port i over its port q, the node shows its own view with two rounds less
pub shift-shift : {E : Type 0} (d e t : ℕ) (v : Tree E) (i : ℕ) (c : Child E) → IsView d e (suc (suc t)) v → child_at (pred i) v ≡ Some c → IsChild e d (suc t) c → shift t (shift (suc t) v i) c.back ≡ cut t v
shift-shift d e t v i c is_view at child =
    let room : HasRoom (pred c.back) c.branch = HasRoom-tree e d t (pred e) c.branch child.branch (pred c.back) (omega arith) in
    rw (shift-at (suc t) v i c at) (shift-turned t i c (others (pred i) v) room ∙ ap (cut t) (put-others (pred i) c v at))

-- a cut view, seen from the neighbour, is the neighbour's view cut
pub shift-cut : {E : Type 0} (t u : ℕ) (v : Tree E) (i : ℕ) (c : Child E) → u ≤ t → child_at (pred i) v ≡ Some c → shift u (cut (suc u) v) i ≡ cut u (shift t v i)
shift-cut t u v i c l at =
    rw (shift-at t v i c at, shift-at u (cut (suc u) v) i (record c { branch = cut u c.branch }) (child_at-cut u (pred i) c v at), others-cut u (pred i) v) (turned-cut t u i c (others (pred i) v) l)
  where
    turned-cut : {E : Type 0} (t u i : ℕ) (c : Child E) (x : Tree E) → u ≤ t → turned u i (cut (suc u) x) (Some (record c { branch = cut u c.branch })) ≡ cut u (turned t i x (Some c))
    turned-cut t zero i c x l = refl
    turned-cut zero (suc u) i c x l = absurd (omega arith)
    turned-cut (suc t) (suc u) i c x l =
        rw (cut-put u (pred c.back) (record { back = i; payload = c.payload; branch = cut t x }) c.branch, cut-cut u t x (omega arith), cut-cut u (suc (suc u)) x (omega arith)) refl

-- a tree cut to its own depth is itself, also after it was grown
pub cut-grown : {E : Type 0} (d e t n m r : ℕ) (fill : E) (x : Tree E) → IsTree d e t n x → t ≤ r → cut t (grown d e r m fill x) ≡ x
cut-grown d e zero n m r fill leaf h l = refl
cut-grown d e zero n m r fill end h l = absurd h
cut-grown d e zero n m r fill (more back payload branch rest) h l = absurd h
cut-grown d e (suc t) n m r fill leaf h l = absurd h
cut-grown d e (suc t) n m r fill end h l = refl
cut-grown d e (suc t) zero m r fill (more back payload branch rest) h l = absurd h
cut-grown d e (suc t) (suc n) m r fill (more back payload branch rest) h l =
    let here : cut t (grown e d (pred r) (pred e) fill branch) ≡ branch = cut-grown e d t (pred e) (pred e) (pred r) fill branch h.2 (omega arith) in
    let there : cut (suc t) (grown d e r m fill rest) ≡ rest = cut-grown d e (suc t) n m r fill rest h.3 l in
    cc

pub cut-pad : {E : Type 0} (d e t radius : ℕ) (fill : E) (v : Tree E) → IsView d e t v → t ≤ radius → cut t (pad d e radius fill v) ≡ v
cut-pad d e t radius fill v h l = cut-grown d e t d d radius fill v h l

-- a tree cut to no less than its own depth is itself
pub cut-whole : {E : Type 0} (d e t n r : ℕ) (x : Tree E) → IsTree d e t n x → t ≤ r → cut r x ≡ x
cut-whole d e zero n zero leaf h l = refl
cut-whole d e zero n (suc r) leaf h l = refl
cut-whole d e zero n r end h l = absurd h
cut-whole d e zero n r (more back payload branch rest) h l = absurd h
cut-whole d e (suc t) n zero x h l = absurd (omega arith)
cut-whole d e (suc t) n (suc r) leaf h l = absurd h
cut-whole d e (suc t) n (suc r) end h l = refl
cut-whole d e (suc t) zero (suc r) (more back payload branch rest) h l = absurd h
cut-whole d e (suc t) (suc n) (suc r) (more back payload branch rest) h l =
    let here : cut r branch ≡ branch = cut-whole e d t (pred e) r branch h.2 (omega arith) in
    let there : cut (suc r) rest ≡ rest = cut-whole d e (suc t) n (suc r) rest h.3 l in
    cc

pub cut-same : {E : Type 0} (d e t n : ℕ) (x : Tree E) → IsTree d e t n x → cut t x ≡ x
cut-same d e t n x h = cut-whole d e t n t x h (omega arith)

-- what is cut is a tree of the lesser depth
pub IsTree-cut : {E : Type 0} (d e t u n : ℕ) (x : Tree E) → IsTree d e t n x → u ≤ t → IsTree d e u n (cut u x)
IsTree-cut d e t zero n x h l = tt
IsTree-cut d e zero (suc u) n x h l = absurd (omega arith)
IsTree-cut d e (suc t) (suc u) n leaf h l = absurd h
IsTree-cut d e (suc t) (suc u) zero end h l = tt
IsTree-cut d e (suc t) (suc u) (suc n) end h l = absurd h
IsTree-cut d e (suc t) (suc u) zero (more back payload branch rest) h l = absurd h
IsTree-cut d e (suc t) (suc u) (suc n) (more back payload branch rest) h l =
    (h.0, h.1, IsTree-cut e d t u (pred e) branch h.2 (omega arith), IsTree-cut d e (suc t) (suc u) n rest h.3 l)

-- a list with a child more or less shows a port more or less
pub IsTree-put : {E : Type 0} (d e t n k : ℕ) (c : Child E) (x : Tree E) → IsTree d e (suc t) n x → IsChild e d t c → IsTree d e (suc t) (suc n) (put k c x)
IsTree-put d e t n zero c x h child = (child.least, child.most, child.branch, h)
IsTree-put d e t n (suc k) c leaf h child = absurd h
IsTree-put d e t zero (suc k) c end h child = (child.least, child.most, child.branch, tt)
IsTree-put d e t (suc n) (suc k) c end h child = absurd h
IsTree-put d e t zero (suc k) c (more back payload branch rest) h child = absurd h
IsTree-put d e t (suc n) (suc k) c (more back payload branch rest) h child = (h.0, h.1, h.2, IsTree-put d e t n k c rest h.3 child)

pub IsTree-others : {E : Type 0} (d e t n k : ℕ) (x : Tree E) → IsTree d e (suc t) (suc n) x → k < suc n → IsTree d e (suc t) n (others k x)
IsTree-others d e t n k leaf h l = absurd h
IsTree-others d e t n k end h l = absurd h
IsTree-others d e t n zero (more back payload branch rest) h l = h.3
IsTree-others d e t zero (suc k) (more back payload branch rest) h l = absurd (omega arith)
IsTree-others d e t (suc n) (suc k) (more back payload branch rest) h l = (h.0, h.1, h.2, IsTree-others d e t n k rest h.3 (omega arith))

-- the neighbour's view is a view of the other side, of a radius less by one
pub IsView-shift : {E : Type 0} (d e t : ℕ) (v : Tree E) (i : ℕ) (c : Child E) → IsView d e (suc t) v → 1 ≤ i → i ≤ d → child_at (pred i) v ≡ Some c → IsChild e d t c → IsView e d t (shift t v i)
IsView-shift d e zero v i c is_view low high at child = tt
IsView-shift zero e (suc t) v i c is_view low high at child = absurd (omega arith)
IsView-shift (suc d) zero (suc t) v i c is_view low high at child = absurd (omega arith)
IsView-shift (suc d) (suc e) (suc t) v i c is_view low high at child =
    let rest : IsTree (suc d) (suc e) (suc (suc t)) d (others (pred i) v) = IsTree-others (suc d) (suc e) (suc t) d (pred i) v is_view (omega arith) in
    rw (shift-at (suc t) v i c at) (IsTree-put (suc e) (suc d) t e (pred c.back) (record { back = i; payload = c.payload; branch = cut t (others (pred i) v) }) c.branch child.branch (record { least = low; most = high; branch = IsTree-cut (suc d) (suc e) (suc (suc t)) t d (others (pred i) v) rest (omega arith) }))

-- n equal children show n ports
IsTree-copies : {E : Type 0} (d e t n : ℕ) (fill : E) (branch : Tree E) → 1 ≤ e → IsBranch e d t branch → IsTree d e (suc t) n (copies n fill branch)
IsTree-copies d e t zero fill branch some h = tt
IsTree-copies d e t (suc n) fill branch some h = (omega arith, some, h, IsTree-copies d e t n fill branch some h)

pub IsTree-full : {E : Type 0} (d e t n : ℕ) (fill : E) → 1 ≤ d → 1 ≤ e → IsTree d e t n (full d e t n fill)
IsTree-full d e zero n fill some some' = tt
IsTree-full d e (suc t) n fill some some' = IsTree-copies d e t n fill (full e d t (pred e) fill) some' (IsTree-full e d t (pred e) fill some' some)

-- a grown view is a view of the greater radius
pub IsTree-grown : {E : Type 0} (d e t n m r : ℕ) (fill : E) (x : Tree E) → 1 ≤ d → 1 ≤ e → IsTree d e t n x → t ≤ r → (t ≡ 0 → n ≡ m) → IsTree d e r n (grown d e r m fill x)
IsTree-grown d e zero n m r fill leaf some some' h l even = rw (even refl) (IsTree-full d e r m fill some some')
IsTree-grown d e zero n m r fill end some some' h l even = absurd h
IsTree-grown d e zero n m r fill (more back payload branch rest) some some' h l even = absurd h
IsTree-grown d e (suc t) n m r fill leaf some some' h l even = absurd h
IsTree-grown d e (suc t) n m zero fill x some some' h l even = absurd (omega arith)
IsTree-grown d e (suc t) zero m (suc r) fill end some some' h l even = tt
IsTree-grown d e (suc t) (suc n) m (suc r) fill end some some' h l even = absurd h
IsTree-grown d e (suc t) zero m (suc r) fill (more back payload branch rest) some some' h l even = absurd h
IsTree-grown d e (suc t) (suc n) m (suc r) fill (more back payload branch rest) some some' h l even =
    (h.0, h.1, IsTree-grown e d t (pred e) (pred e) r fill branch some' some h.2 (omega arith) (λ _. refl), IsTree-grown d e (suc t) n m (suc r) fill rest some some' h.3 l (λ e. absurd (cc)))

pub IsView-pad : {E : Type 0} (d e t radius : ℕ) (fill : E) (v : Tree E) → 1 ≤ d → 1 ≤ e → IsView d e t v → t ≤ radius → IsView d e radius (pad d e radius fill v)
IsView-pad d e t radius fill v some some' h l = IsTree-grown d e t d d radius fill v some some' h l (λ _. refl)
