-- Views under other payloads.
use Rattle.std.proofs.Common.{◌≡◌, ℕ, zero, suc, pred, Some, ◌∷◌, refl, ◌∙◌, ap}
use Rattle.std.specs.Prelude.{unwrap_or}
use Rattle.re_given.specs.InputViews.{InputView, known}
use Rattle.re_laws.proofs.ViewLaws.{shift-at}
use Rattle.re_laws.specs.Trees.{Child, IsTree, Tree, backs, child_at, cut, end, leaf, more, others, put, shift, turned}

-- the view with the image of each payload
abbrev pub relabelled : {E F : Type 0} → (E → F) → Tree E → Tree F
relabelled f leaf = leaf
relabelled f end = end
relabelled f (more back payload branch rest) = more back (f payload) (relabelled f branch) (relabelled f rest)

abbrev pub relabelled_child : {E F : Type 0} → (E → F) → Child E → Child F
relabelled_child f c = record { back = c.back; payload = f c.payload; branch = relabelled f c.branch }

pub IsTree-relabelled : {E F : Type 0} (f : E → F) (d e t n : ℕ) (x : Tree E) → IsTree d e t n x → IsTree d e t n (relabelled f x)
IsTree-relabelled f d e zero n leaf h = tt
IsTree-relabelled f d e zero n end h = absurd h
IsTree-relabelled f d e zero n (more back payload branch rest) h = absurd h
IsTree-relabelled f d e (suc t) n leaf h = absurd h
IsTree-relabelled f d e (suc t) zero end h = tt
IsTree-relabelled f d e (suc t) (suc n) end h = absurd h
IsTree-relabelled f d e (suc t) zero (more back payload branch rest) h = absurd h
IsTree-relabelled f d e (suc t) (suc n) (more back payload branch rest) h =
    (h.0, h.1, IsTree-relabelled f e d t (pred e) branch h.2, IsTree-relabelled f d e (suc t) n rest h.3)

pub backs-relabelled : {E F : Type 0} (f : E → F) (x : Tree E) → backs (relabelled f x) ≡ backs x
backs-relabelled f leaf = refl
backs-relabelled f end = refl
backs-relabelled f (more back payload branch rest) = ap (◌∷◌ back) (backs-relabelled f rest)

pub relabelled-cut : {E F : Type 0} (f : E → F) (t : ℕ) (x : Tree E) → relabelled f (cut t x) ≡ cut t (relabelled f x)
relabelled-cut f zero x = refl
relabelled-cut f (suc t) leaf = refl
relabelled-cut f (suc t) end = refl
relabelled-cut f (suc t) (more back payload branch rest) =
    let here : relabelled f (cut t branch) ≡ cut t (relabelled f branch) = relabelled-cut f t branch in
    let there : relabelled f (cut (suc t) rest) ≡ cut (suc t) (relabelled f rest) = relabelled-cut f (suc t) rest in
    cc

pub relabelled-put : {E F : Type 0} (f : E → F) (k : ℕ) (c : Child E) (x : Tree E) → relabelled f (put k c x) ≡ put k (relabelled_child f c) (relabelled f x)
relabelled-put f zero c x = refl
relabelled-put f (suc k) c leaf = refl
relabelled-put f (suc k) c end = refl
relabelled-put f (suc k) c (more back payload branch rest) = ap (more back (f payload) (relabelled f branch)) (relabelled-put f k c rest)

pub relabelled-others : {E F : Type 0} (f : E → F) (k : ℕ) (x : Tree E) → relabelled f (others k x) ≡ others k (relabelled f x)
relabelled-others f k leaf = refl
relabelled-others f k end = refl
relabelled-others f zero (more back payload branch rest) = refl
relabelled-others f (suc k) (more back payload branch rest) = ap (more back (f payload) (relabelled f branch)) (relabelled-others f k rest)

pub child_at-relabelled : {E F : Type 0} (f : E → F) (k : ℕ) (c : Child E) (x : Tree E) → child_at k x ≡ Some c → child_at k (relabelled f x) ≡ Some (relabelled_child f c)
child_at-relabelled f k c leaf h = absurd (cc)
child_at-relabelled f k c end h = absurd (cc)
child_at-relabelled f zero c (more back payload branch rest) h =
    let is = ap (λ found. unwrap_or found c) h in
    ap (λ c. Some (relabelled_child f c)) is
child_at-relabelled f (suc k) c (more back payload branch rest) h = child_at-relabelled f k c rest h

pub relabelled-shift : {E F : Type 0} (f : E → F) (t : ℕ) (v : Tree E) (i : ℕ) (c : Child E) → child_at (pred i) v ≡ Some c → relabelled f (shift t v i) ≡ shift t (relabelled f v) i
relabelled-shift f t v i c at = rw (shift-at t v i c at, shift-at t (relabelled f v) i (relabelled_child f c) (child_at-relabelled f (pred i) c v at)) (same t)
  where
    same : (t : ℕ) → relabelled f (turned t i (others (pred i) v) (Some c)) ≡ turned t i (others (pred i) (relabelled f v)) (Some (relabelled_child f c))
    same zero = refl
    same (suc t) =
        let inner : relabelled f (cut t (others (pred i) v)) ≡ cut t (others (pred i) (relabelled f v)) = relabelled-cut f t (others (pred i) v) ∙ ap (cut t) (relabelled-others f (pred i) v) in
        relabelled-put f (pred c.back) (record { back = i; payload = c.payload; branch = cut t (others (pred i) v) }) c.branch
        ∙ ap (λ branch. put (pred c.back) (record { back = i; payload = f c.payload; branch = branch }) (relabelled f c.branch)) inner

pub backs-cut : {E : Type 0} (t : ℕ) (v : Tree E) → backs (cut (suc t) v) ≡ backs v
backs-cut t leaf = refl
backs-cut t end = refl
backs-cut t (more back payload branch rest) = ap (◌∷◌ back) (backs-cut t rest)

pub relabelled-known : (f : ℕ → ℕ) (T : ℕ) (x : InputView) → relabelled f (known T x) ≡ known T (relabelled f x)
relabelled-known f T leaf = refl
relabelled-known f T end = refl
relabelled-known f zero (more back label branch rest) = ap (more 0 (f label) leaf) (relabelled-known f zero rest)
relabelled-known f (suc T) (more back label branch rest) =
    let here : relabelled f (known T branch) ≡ known T (relabelled f branch) = relabelled-known f T branch in
    let there : relabelled f (known (suc T) rest) ≡ known (suc T) (relabelled f rest) = relabelled-known f (suc T) rest in
    cc
