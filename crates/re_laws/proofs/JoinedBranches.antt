use Rattle.std.proofs.Common.{◌≡◌, ℕ, zero, suc, pred, ◌<◌, Option, Some, List, [], ◌∷◌, length, get_or, refl, sym, ◌∙◌, ap, arith}
use Rattle.re_laws.proofs.ViewLaws.{HasRoom, HasRoom-tree, IsChild, IsTree-others, child_at-put, child_of, others-cut, others-put, put-others, shift-at}
use Rattle.re_laws.specs.Ends.{AreEnds, End, IsEnd, branchwise, no_end}
use Rattle.re_laws.specs.Trees.{Child, IsTree, IsView, Tree, backs, child_at, cut, end, leaf, more, others, put, shift, turned}

abbrev Plain : Type 0
Plain = Tree (Unit {0})

pub backs-child : {E : Type 0} (k : ℕ) (c : Child E) (x : Tree E) → child_at k x ≡ Some c → get_or (backs x) k 0 ≡ c.back
backs-child k c leaf h = cc
backs-child k c end h = cc
backs-child zero c (more back payload branch rest) h = cc
backs-child (suc k) c (more back payload branch rest) h = backs-child k c rest h

-- the child of the joined view at a place
abbrev pub joined : End → Child (Unit {0})
joined here = record { back = here.port; payload = tt; branch = others (pred here.port) here.view }

pub child_at-branchwise : (ends : List End) (k : ℕ) → k < length ends → child_at k (branchwise ends) ≡ Some (joined (get_or ends k no_end))
child_at-branchwise [] k l = absurd (omega arith)
child_at-branchwise (here ∷ ends) zero l = refl
child_at-branchwise (here ∷ ends) (suc k) l = child_at-branchwise ends k (omega arith)

-- an equation of two children, by their fields
same_back : (back : ℕ) (payload : Unit {0}) (branch : Plain) (c : Child (Unit {0})) → ◌≡◌ {A = Option (Child (Unit {0}))} (Some (record { back = back; payload = payload; branch = branch })) (Some c) → back ≡ c.back
same_back back payload branch c h = cc

same_branch : (back : ℕ) (payload : Unit {0}) (branch : Plain) (c : Child (Unit {0})) → ◌≡◌ {A = Option (Child (Unit {0}))} (Some (record { back = back; payload = payload; branch = branch })) (Some c) → branch ≡ c.branch
same_branch back payload branch c h = cc

-- the joined view, cut, is the list of its children, cut
pub cut-branchwise : (d e t n : ℕ) (ends : List End) (w : Plain) → IsTree e d (suc t) n w → length ends ≡ n → ((k : ℕ) → k < n → child_at k w ≡ Some (record (joined (get_or ends k no_end)) { branch = cut t (joined (get_or ends k no_end)).branch })) → cut (suc t) (branchwise ends) ≡ w
cut-branchwise d e t n ends leaf is count each = absurd is
cut-branchwise d e t zero [] end is count each = refl
cut-branchwise d e t zero (here ∷ ends) end is count each = absurd (cc)
cut-branchwise d e t (suc n) ends end is count each = absurd is
cut-branchwise d e t zero ends (more back payload branch rest) is count each = absurd is
cut-branchwise d e t (suc n) [] (more back payload branch rest) is count each = absurd (cc)
cut-branchwise d e t (suc n) (here ∷ ends) (more back payload branch rest) is count each =
    let found : Child (Unit {0}) = record { back = here.port; payload = tt; branch = cut t (others (pred here.port) here.view) } in
    let at_back : back ≡ here.port = same_back back payload branch found (each zero (omega arith)) in
    let at_branch : branch ≡ cut t (others (pred here.port) here.view) = same_branch back payload branch found (each zero (omega arith)) in
    let next : cut (suc t) (branchwise ends) ≡ rest = cut-branchwise d e t n ends rest is.3 (omega arith) (λ k l. each (suc k) (omega arith)) in
    rw (at_back, at_branch) (ap (more here.port tt (cut t (others (pred here.port) here.view))) next)

pub IsTree-branchwise : (d e t n : ℕ) (ends : List End) → length ends ≡ n → ((k : ℕ) → k < n → IsChild d e t (joined (get_or ends k no_end))) → IsTree e d (suc t) n (branchwise ends)
IsTree-branchwise d e t zero [] count each = tt
IsTree-branchwise d e t zero (here ∷ ends) count each = absurd (cc)
IsTree-branchwise d e t (suc n) [] count each = absurd (cc)
IsTree-branchwise d e t (suc n) (here ∷ ends) count each =
    let first : IsChild d e t (joined here) = each zero (omega arith) in
    (first.least, first.most, first.branch, IsTree-branchwise d e t n ends (omega arith) (λ k l. each (suc k) (omega arith)))

IsBranch-end : (d e t : ℕ) (w : Plain) (i : ℕ) (here : End) → IsEnd d e t w i here → IsChild d e (suc t) (joined here)
IsBranch-end zero e t w i here is = let l = is.least in let m = is.most in absurd (omega arith)
IsBranch-end (suc d) e t w i here is = record { least = is.least; most = is.most; branch = IsTree-others (suc d) e t d (pred here.port) here.view is.is_view (let l = is.least in let m = is.most in omega arith) }

-- the child over whose edge the joined node lies
end_child : (d e t : ℕ) (w : Plain) (i : ℕ) (here : End) → IsEnd d e t w i here → (c : Child (Unit {0})) × (child_at (pred here.port) here.view ≡ Some c) × (c.back ≡ i) × IsChild e d t c
end_child d e t w i here is =
    let l = is.least in let m = is.most in
    let c = child_of d e t d here.view is.is_view (pred here.port) (omega arith) in
    (c.0, c.1, sym (backs-child (pred here.port) c.0 here.view c.1) ∙ is.back, c.2)

pub IsView-branchwise : (d e t : ℕ) (w : Plain) (ends : List End) → AreEnds d e t w ends → IsView e d (suc (suc t)) (branchwise ends)
IsView-branchwise d e t w ends are = IsTree-branchwise d e (suc t) e ends are.count (λ k l. IsBranch-end d e t w (suc k) (get_or ends k no_end) (are.each k l))

-- a view over whose edge lies w is found in w: its other children, cut
end_in : (d e t : ℕ) (w : Plain) (k : ℕ) (here : End) → k < e → IsEnd d e (suc t) w (suc k) here → child_at k w ≡ Some (record (joined here) { branch = cut t (joined here).branch })
end_in d e t w k here l is = go (end_child d e (suc t) w (suc k) here is)
  where
    go : (c : Child (Unit {0})) × (child_at (pred here.port) here.view ≡ Some c) × (c.back ≡ suc k) × IsChild e d (suc t) c → child_at k w ≡ Some (record (joined here) { branch = cut t (joined here).branch })
    go (c, at, back, child) =
        let behind : Child (Unit {0}) = record { back = here.port; payload = tt; branch = cut t (others (pred here.port) here.view) } in
        let w_is : shift (suc t) here.view here.port ≡ w = is.over in
        let turned_is : shift (suc t) here.view here.port ≡ put (pred c.back) behind c.branch = shift-at (suc t) here.view here.port c at in
        let place : pred c.back ≡ k = ap pred back in
        let room : HasRoom (pred c.back) c.branch = HasRoom-tree e d t (pred e) c.branch child.branch (pred c.back) (omega arith) in
        let found : child_at (pred c.back) (put (pred c.back) behind c.branch) ≡ Some behind = child_at-put (pred c.back) behind c.branch room in
        cc

-- the joined view cut to the old radius is the common view
pub cut-branchwise_all : (d e t : ℕ) (w : Plain) (ends : List End) → IsView e d t w → AreEnds d e t w ends → cut t (branchwise ends) ≡ w
cut-branchwise_all d e zero leaf ends is are = refl
cut-branchwise_all d e zero end ends is are = absurd is
cut-branchwise_all d e zero (more back payload branch rest) ends is are = absurd is
cut-branchwise_all d e (suc t) w ends is are = cut-branchwise d e t e ends w is are.count (λ k l. end_in d e t w k (get_or ends k no_end) l (are.each k l))

-- behind the edge to the joined node lie its other children, cut
behind_is : (d e t : ℕ) (w s : Plain) (k : ℕ) (here : End) (c : Child (Unit {0})) → k < e → cut t s ≡ w → IsEnd d e t w (suc k) here → child_at (pred here.port) here.view ≡ Some c → c.back ≡ suc k → IsChild e d t c → c.branch ≡ cut t (others k s)
behind_is d e zero w s k here c l cut_is is at back child = leaf_is c.branch child.branch
  where
    leaf_is : (x : Plain) → IsTree e d zero (pred e) x → x ≡ leaf
    leaf_is leaf h = refl
    leaf_is end h = absurd h
    leaf_is (more b p x r) h = absurd h
behind_is d e (suc t) w s k here c l cut_is is at back child =
    let behind : Child (Unit {0}) = record { back = here.port; payload = tt; branch = cut t (others (pred here.port) here.view) } in
    let w_is : shift (suc t) here.view here.port ≡ w = is.over in
    let turned_is : shift (suc t) here.view here.port ≡ put (pred c.back) behind c.branch = shift-at (suc t) here.view here.port c at in
    let place : pred c.back ≡ k = ap pred back in
    let room : HasRoom (pred c.back) c.branch = HasRoom-tree e d t (pred e) c.branch child.branch (pred c.back) (omega arith) in
    let found : others (pred c.back) (put (pred c.back) behind c.branch) ≡ c.branch = others-put (pred c.back) behind c.branch room in
    let other : others k (cut (suc t) s) ≡ cut (suc t) (others k s) = others-cut t k s in
    cc

-- each of the views is the joined view, seen from the neighbour
pub shift-branchwise : (d e t : ℕ) (w : Plain) (ends : List End) → IsView e d t w → AreEnds d e t w ends → (k : ℕ) → k < e → shift (suc t) (branchwise ends) (suc k) ≡ (get_or ends k no_end).view
shift-branchwise d e t w ends is are k l = go (get_or ends k no_end) refl (are.each k l) (end_child d e t w (suc k) (get_or ends k no_end) (are.each k l))
  where
    go : (here : End) → get_or ends k no_end ≡ here → IsEnd d e t w (suc k) here → (c : Child (Unit {0})) × (child_at (pred here.port) here.view ≡ Some c) × (c.back ≡ suc k) × IsChild e d t c → shift (suc t) (branchwise ends) (suc k) ≡ here.view
    go here here_is one (c, at, back, child) =
        let s : Plain = branchwise ends in
        let found : child_at k s ≡ Some (joined here) = rw (child_at-branchwise ends k (omega (arith, are.count)), here_is) refl in
        let seen : shift (suc t) s (suc k) ≡ turned (suc t) (suc k) (others k s) (Some (joined here)) = shift-at (suc t) s (suc k) (joined here) found in
        let behind : c.branch ≡ cut t (others k s) = behind_is d e t w s k here c l (cut-branchwise_all d e t w ends is are) one at back child in
        let c_is : put (pred here.port) c (others (pred here.port) here.view) ≡ here.view = put-others (pred here.port) c here.view at in
        rw seen (rw (← behind, ← back) c_is)

-- looked back at over its own edge, the node stands at the port of that edge
pub back-shift : {E : Type 0} (d e t : ℕ) (v : Tree E) (i : ℕ) (c : Child E) → child_at (pred i) v ≡ Some c → IsChild e d (suc t) c → get_or (backs (shift (suc t) v i)) (pred c.back) 0 ≡ i
back-shift d e t v i c at child =
    let behind : Child _ = record { back = i; payload = c.payload; branch = cut t (others (pred i) v) } in
    let room : HasRoom (pred c.back) c.branch = HasRoom-tree e d t (pred e) c.branch child.branch (pred c.back) (let l = child.least in let m = child.most in omega arith) in
    rw (shift-at (suc t) v i c at) (backs-child (pred c.back) behind (put (pred c.back) behind c.branch) (child_at-put (pred c.back) behind c.branch room))
