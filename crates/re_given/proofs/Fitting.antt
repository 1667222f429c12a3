-- Input views that fit: parts of them, and what is put together of such parts.
use Rattle.std.proofs.Common.{◌≡◌, ℕ, zero, suc, pred, Some, List, [], ◌∷◌, ◌++◌, subst, ap, arith}
use Rattle.std.specs.Prelude.{unwrap_or}
use Rattle.re_labels.proofs.Rearranging.{Rearranged-refl}
use Rattle.re_labels.specs.Rearranging.{Rearranged, chained, kept, swapped}
use Rattle.re_given.specs.InputViews.{FitsAround, InputView, payloads}
use Rattle.re_labels.proofs.Goodness.{Has-Rearranged}
use Rattle.re_labels.specs.Constraints.{Constraint, Has}
use Rattle.re_laws.proofs.ViewLaws.{HasRoom, HasRoom-tree, IsChild, shift-at}
use Rattle.re_laws.specs.Trees.{Child, IsTree, child_at, cut, end, leaf, more, others, put, shift}

-- an element within a list moves to its front
pub Rearranged-front : {X : Type 0} (xs : List X) (y : X) (ys : List X) → Rearranged (xs ++ y ∷ ys) (y ∷ xs ++ ys)
Rearranged-front [] y ys = Rearranged-refl (y ∷ ys)
Rearranged-front (x ∷ xs) y ys = chained (kept (Rearranged-front xs y ys)) swapped

pub FitsAround-Rearranged : (own other : Constraint) {seen seen' : List ℕ} → Rearranged seen seen' → (x : InputView) → FitsAround own other seen x → FitsAround own other seen' x
FitsAround-Rearranged own other order leaf h = tt
FitsAround-Rearranged own other order end h = Has-Rearranged own order h
FitsAround-Rearranged own other order (more back label branch rest) h = (h.0, FitsAround-Rearranged own other (kept order) rest h.1)

pub FitsAround-cut : (own other : Constraint) (seen : List ℕ) (t : ℕ) (x : InputView) → FitsAround own other seen x → FitsAround own other seen (cut t x)
FitsAround-cut own other seen zero x h = tt
FitsAround-cut own other seen (suc t) leaf h = tt
FitsAround-cut own other seen (suc t) end h = h
FitsAround-cut own other seen (suc t) (more back label branch rest) h =
    (FitsAround-cut other own (label ∷ []) t branch h.0, FitsAround-cut own other (label ∷ seen) (suc t) rest h.1)

pub FitsAround-put : (own other : Constraint) (seen : List ℕ) (k : ℕ) (c : Child ℕ) (x : InputView) → HasRoom k x → FitsAround other own (c.payload ∷ []) c.branch → FitsAround own other (c.payload ∷ seen) x → FitsAround own other seen (put k c x)
FitsAround-put own other seen zero c x room h h' = (h, h')
FitsAround-put own other seen (suc k) c leaf room h h' = absurd room
FitsAround-put own other seen (suc k) c end room h h' = absurd room
FitsAround-put own other seen (suc k) c (more back label branch rest) room h h' =
    (h'.0, FitsAround-put own other (label ∷ seen) k c rest room h (FitsAround-Rearranged own other swapped rest h'.1))

-- the child at a place and the others
pub FitsAround-others : (own other : Constraint) (seen : List ℕ) (k : ℕ) (c : Child ℕ) (x : InputView) → child_at k x ≡ Some c → FitsAround own other seen x → FitsAround other own (c.payload ∷ []) c.branch × FitsAround own other (c.payload ∷ seen) (others k x)
FitsAround-others own other seen k c leaf at h = absurd (cc)
FitsAround-others own other seen k c end at h = absurd (cc)
FitsAround-others own other seen zero c (more back label branch rest) at h =
    let is = ap (λ found. unwrap_or found c) at in
    subst (λ (c : Child ℕ). FitsAround other own (c.payload ∷ []) c.branch × FitsAround own other (c.payload ∷ seen) rest) is h
FitsAround-others own other seen (suc k) c (more back label branch rest) at h =
    let (first, others_fit) = FitsAround-others own other (label ∷ seen) k c rest at h.1 in
    (first, (h.0, FitsAround-Rearranged own other swapped (others k rest) others_fit))

-- the neighbour's view fits
pub FitsAround-shift : (own other : Constraint) (d e t : ℕ) (v : InputView) (i : ℕ) (c : Child ℕ) → child_at (pred i) v ≡ Some c → IsChild e d t c → FitsAround own other [] v → FitsAround other own [] (shift t v i)
FitsAround-shift own other d e zero v i c at child h = tt
FitsAround-shift own other d e (suc t) v i c at child h =
    let room : HasRoom (pred c.back) c.branch = HasRoom-tree e d t (pred e) c.branch child.branch (pred c.back) (let l = child.least in let m = child.most in omega arith) in
    let (behind, around) = FitsAround-others own other [] (pred i) c v at h in
    let turned : FitsAround other own [] (put (pred c.back) (record { back = i; payload = c.payload; branch = cut t (others (pred i) v) }) c.branch) =
    FitsAround-put other own [] (pred c.back) (record { back = i; payload = c.payload; branch = cut t (others (pred i) v) }) c.branch room (FitsAround-cut own other (c.payload ∷ []) t (others (pred i) v) around) behind in
    rw (shift-at (suc t) v i c at) turned

-- around the node stands a configuration
pub Has-around : (own other : Constraint) (d e t n : ℕ) (seen : List ℕ) (x : InputView) → IsTree d e (suc t) n x → FitsAround own other seen x → Has own (payloads x ++ seen)
Has-around own other d e t n seen leaf is h = absurd is
Has-around own other d e t n seen end is h = h
Has-around own other d e t zero seen (more back label branch rest) is h = absurd is
Has-around own other d e t (suc n) seen (more back label branch rest) is h =
    Has-Rearranged own (Rearranged-front (payloads rest) label seen) (Has-around own other d e t n (label ∷ seen) rest is.3 h.1)
