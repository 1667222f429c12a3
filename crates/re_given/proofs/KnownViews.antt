-- What is known of an input view, child by child.
use Rattle.std.proofs.Common.{◌≡◌, ℕ, zero, suc, pred, ◌≤◌, ◌<◌, Some, ◌∷◌, refl, sym, ◌∙◌, ap, arith}
use Rattle.std.specs.Prelude.{unwrap_or}
use Rattle.re_given.specs.InputViews.{InputView, known, payloads}
use Rattle.re_laws.proofs.ViewLaws.{shift-at}
use Rattle.re_laws.specs.Trees.{Child, IsTree, Tree, backs, child_at, cut, end, leaf, more, others, put, shift}

-- a child with what is known of it
abbrev pub known_child : ℕ → Child ℕ → Child ℕ
known_child zero c = record { back = 0; payload = c.payload; branch = leaf }
known_child (suc T) c = record { back = c.back; payload = c.payload; branch = known T c.branch }

pub known-put : (T k : ℕ) (c : Child ℕ) (x : InputView) → known T (put k c x) ≡ put k (known_child T c) (known T x)
known-put zero zero c x = refl
known-put (suc T) zero c x = refl
known-put zero (suc k) c leaf = refl
known-put (suc T) (suc k) c leaf = refl
known-put zero (suc k) c end = refl
known-put (suc T) (suc k) c end = refl
known-put zero (suc k) c (more back label branch rest) = ap (more 0 label leaf) (known-put zero k c rest)
known-put (suc T) (suc k) c (more back label branch rest) = ap (more back label (known T branch)) (known-put (suc T) k c rest)

pub others-known : (T k : ℕ) (x : InputView) → others k (known T x) ≡ known T (others k x)
others-known T k leaf = refl
others-known T k end = refl
others-known zero zero (more back label branch rest) = refl
others-known (suc T) zero (more back label branch rest) = refl
others-known zero (suc k) (more back label branch rest) = ap (more 0 label leaf) (others-known zero k rest)
others-known (suc T) (suc k) (more back label branch rest) = ap (more back label (known T branch)) (others-known (suc T) k rest)

pub child_at-known : (T k : ℕ) (c : Child ℕ) (x : InputView) → child_at k x ≡ Some c → child_at k (known T x) ≡ Some (known_child T c)
child_at-known T k c leaf h = absurd (cc)
child_at-known T k c end h = absurd (cc)
child_at-known zero zero c (more back label branch rest) h = cc
child_at-known (suc T) zero c (more back label branch rest) h = cc
child_at-known zero (suc k) c (more back label branch rest) h = child_at-known zero k c rest h
child_at-known (suc T) (suc k) c (more back label branch rest) h = child_at-known (suc T) k c rest h

pub backs-known : (T : ℕ) (x : InputView) → backs (known (suc T) x) ≡ backs x
backs-known T leaf = refl
backs-known T end = refl
backs-known T (more back label branch rest) = ap (◌∷◌ back) (backs-known T rest)

pub payloads-known : (T : ℕ) (x : InputView) → payloads (known T x) ≡ payloads x
payloads-known T leaf = refl
payloads-known T end = refl
payloads-known zero (more back label branch rest) = ap (◌∷◌ label) (payloads-known zero rest)
payloads-known (suc T) (more back label branch rest) = ap (◌∷◌ label) (payloads-known (suc T) rest)

pub known-cut : (T t : ℕ) (x : InputView) → T < t → known T (cut t x) ≡ known T x
known-cut T zero x l = absurd (omega arith)
known-cut T (suc t) leaf l = refl
known-cut T (suc t) end l = refl
known-cut zero (suc t) (more back label branch rest) l = ap (more 0 label leaf) (known-cut zero (suc t) rest l)
known-cut (suc T) (suc t) (more back label branch rest) l =
    let here : known T (cut t branch) ≡ known T branch = known-cut T t branch (omega arith) in
    let there : known (suc T) (cut (suc t) rest) ≡ known (suc T) rest = known-cut (suc T) (suc t) rest l in
    cc

pub known-known : (T t : ℕ) (x : InputView) → T ≤ t → known T (known t x) ≡ known T x
known-known T t leaf l = refl
known-known T t end l = refl
known-known zero zero (more back label branch rest) l = ap (more 0 label leaf) (known-known zero zero rest l)
known-known zero (suc t) (more back label branch rest) l = ap (more 0 label leaf) (known-known zero (suc t) rest l)
known-known (suc T) zero (more back label branch rest) l = absurd (omega arith)
known-known (suc T) (suc t) (more back label branch rest) l =
    let here : known T (known t branch) ≡ known T branch = known-known T t branch (omega arith) in
    let there : known (suc T) (known (suc t) rest) ≡ known (suc T) rest = known-known (suc T) (suc t) rest l in
    cc

-- what a neighbour knows with T rounds is known with one round more
pub known-shift : (T : ℕ) (v : InputView) (i : ℕ) (c : Child ℕ) → child_at (pred i) v ≡ Some c → known T (shift (suc T) (known (suc T) v) i) ≡ known T (shift (suc T) v i)
known-shift T v i c at =
    rw (shift-at (suc T) v i c at, shift-at (suc T) (known (suc T) v) i (known_child (suc T) c) (child_at-known (suc T) (pred i) c v at), others-known (suc T) (pred i) v) (same T (others (pred i) v))
  where
    behind : (T : ℕ) (x : InputView) → known_child T (record { back = i; payload = c.payload; branch = cut T (known (suc T) x) }) ≡ known_child T (record { back = i; payload = c.payload; branch = cut T x })
    behind zero x = refl
    behind (suc T) x =
        ap (λ branch. record { back = i; payload = c.payload; branch = branch })
        (known-cut T (suc T) (known (suc (suc T)) x) (omega arith) ∙ (known-known T (suc (suc T)) x (omega arith) ∙ sym (known-cut T (suc T) x (omega arith))))

    same : (T : ℕ) (x : InputView) → known T (put (pred c.back) (record { back = i; payload = c.payload; branch = cut T (known (suc T) x) }) (known T c.branch)) ≡ known T (put (pred c.back) (record { back = i; payload = c.payload; branch = cut T x }) c.branch)
    same T x =
        let one = known-put T (pred c.back) (record { back = i; payload = c.payload; branch = cut T (known (suc T) x) }) (known T c.branch) in
        let two = known-put T (pred c.back) (record { back = i; payload = c.payload; branch = cut T x }) c.branch in
        rw (one, two, behind T x, known-known T T c.branch (omega arith)) refl

-- a list of exactly n children
abbrev pub HasCount : {E : Type 0} → ℕ → Tree E → Type 0
HasCount n leaf = ⊥
HasCount zero end = Unit {0}
HasCount (suc n) end = ⊥
HasCount zero (more back payload branch rest) = ⊥
HasCount (suc n) (more back payload branch rest) = HasCount n rest

pub HasCount-tree : {E : Type 0} (d e t n : ℕ) (x : Tree E) → IsTree d e (suc t) n x → HasCount n x
HasCount-tree d e t n leaf h = absurd h
HasCount-tree d e t zero end h = tt
HasCount-tree d e t (suc n) end h = absurd h
HasCount-tree d e t zero (more back payload branch rest) h = absurd h
HasCount-tree d e t (suc n) (more back payload branch rest) h = HasCount-tree d e t n rest h.3

pub HasCount-known : (T n : ℕ) (x : InputView) → HasCount n x → HasCount n (known T x)
HasCount-known T n leaf h = absurd h
HasCount-known T zero end h = tt
HasCount-known T (suc n) end h = absurd h
HasCount-known T zero (more back payload branch rest) h = absurd h
HasCount-known zero (suc n) (more back payload branch rest) h = HasCount-known zero n rest h
HasCount-known (suc T) (suc n) (more back payload branch rest) h = HasCount-known (suc T) n rest h

-- lists of as many children that are the same place by place
pub same_children : {E : Type 0} (n : ℕ) (x y : Tree E) → HasCount n x → HasCount n y → ((k : ℕ) → k < n → (c : Child E) × (child_at k x ≡ Some c) × (child_at k y ≡ Some c)) → x ≡ y
same_children n leaf y h h' each = absurd h
same_children n x leaf h h' each = absurd h'
same_children zero end end h h' each = refl
same_children (suc n) end y h h' each = absurd h
same_children zero (more back payload branch rest) y h h' each = absurd h
same_children (suc n) x end h h' each = absurd h'
same_children zero end (more back payload branch rest) h h' each = absurd h'
same_children (suc n) (more back payload branch rest) (more back' payload' branch' rest') h h' each =
    let (c, at, at') = each zero (omega arith) in
    let behind : rest ≡ rest' = same_children n rest rest' h h' (λ k l. each (suc k) (omega arith)) in
    let at_back : back ≡ back' = ap (λ found. (unwrap_or found c).back) (at ∙ sym at') in
    let at_payload : payload ≡ payload' = ap (λ found. (unwrap_or found c).payload) (at ∙ sym at') in
    let at_branch : branch ≡ branch' = ap (λ found. (unwrap_or found c).branch) (at ∙ sym at') in
    rw (at_back, at_payload, at_branch, behind) refl
