-- The views of the nodes of a graph with input labels fit together.
use Rattle.std.proofs.Common.{◌≡◌, ℕ, zero, suc, pred, ◌+◌, ◌≤◌, ◌<◌, List, [], ◌∷◌, ◌++◌, Some, map, length, get_or, refl, sym, ◌∙◌, ap, subst, arith, append-nil}
use Rattle.std.specs.List.{AllByRecursion}
use Rattle.std.proofs.lemmas.List.{get_or-map}
use Rattle.re_cover.specs.declared.ends.GraphEnd.{GraphEnd}
use Rattle.re_cover.specs.Graphs.{IsEndOf}
use Rattle.re_cover.proofs.Views.{IsWay, behind-is, end_is}
use Rattle.re_cover.specs.GivenGraphs.{in_row, labelled}
use Rattle.re_labels.proofs.Rearranging.{Rearranged-sym}
use Rattle.re_given.proofs.Fitting.{FitsAround-others, Rearranged-front}
use Rattle.re_given.specs.InputViews.{Fits, FitsAround, InputView}
use Rattle.re_labels.proofs.Membership.{get_or-count_from, length-count_from}
use Rattle.re_labels.specs.Lists.{count_from}
use Rattle.re_laws.proofs.Ports.{AllByRecursion-count, length-ports}
use Rattle.re_labels.proofs.Goodness.{Has-Rearranged}
use Rattle.re_labels.specs.Constraints.{Constraint, Has}
use Rattle.re_laws.proofs.JoinedBranches.{backs-child}
use Rattle.re_laws.proofs.ViewLaws.{IsChild, others-cut, put-others, shift-at}
use Rattle.re_laws.specs.Trees.{Child, IsTree, IsView, backs, child_at, cut, leaf, more, others, put, shift, turned}

-- ---- rows of children
no_child : Child ℕ
no_child = record { back = 0; payload = 0; branch = leaf }

child_at-row : (children : List (Child ℕ)) (k : ℕ) (d : Child ℕ) → k < length children → child_at k (in_row children) ≡ Some (get_or children k d)
child_at-row [] k d less = absurd (omega arith)
child_at-row (child ∷ children) zero d less = refl
child_at-row (child ∷ children) (suc k) d less = child_at-row children k d (omega arith)

IsTree-row : (d e t n : ℕ) (children : List (Child ℕ)) → length children ≡ n → AllByRecursion (IsChild d e t) children → IsTree e d (suc t) n (in_row children)
IsTree-row d e t zero [] count each = tt
IsTree-row d e t zero (child ∷ children) count each = absurd (omega arith)
IsTree-row d e t (suc n) [] count each = absurd (omega arith)
IsTree-row d e t (suc n) (child ∷ children) count each = (each.0.least, each.0.most, each.0.branch, IsTree-row d e t n children (omega arith) each.1)

cut-row : (t : ℕ) (f g : ℕ → Child ℕ) (ports : List ℕ) → ((port : ℕ) → record { back = (f port).back; payload = (f port).payload; branch = cut t (f port).branch } ≡ g port) → cut (suc t) (in_row (map f ports)) ≡ in_row (map g ports)
cut-row t f g [] each = refl
cut-row t f g (port ∷ ports) each = λ i. more (each port i).back (each port i).payload (each port i).branch (cut-row t f g ports each i)

fits-row : (own other : Constraint) (seen : List ℕ) (children : List (Child ℕ)) → AllByRecursion (λ child. FitsAround other own (child.payload ∷ []) child.branch) children
    → Has own (map (λ (child : Child ℕ). child.payload) children ++ seen) → FitsAround own other seen (in_row children)
fits-row own other seen [] each has = has
fits-row own other seen (child ∷ children) each has =
    (each.0, fits-row own other (child.payload ∷ seen) children each.1 (Has-Rearranged own (Rearranged-sym (Rearranged-front (map (λ (child : Child ℕ). child.payload) children) child.payload seen)) has))

-- ---- children of nodes
-- behind an end stands the view of the node on the other side, without the port there
abbrev over_child : (GraphEnd → GraphEnd) → (GraphEnd → GraphEnd) → (GraphEnd → ℕ) → (GraphEnd → ℕ) → ℕ → ℕ → ℕ → ℕ → ℕ → Child ℕ
over_child over back own other d e t node port = record {
  back = (over (record { node = node; port = port })).port;
  payload = own (record { node = node; port = port });
  branch = others (pred (over (record { node = node; port = port })).port) (labelled back over other own e d t (over (record { node = node; port = port })).node);
}

child_at-labelled : (over back : GraphEnd → GraphEnd) (own other : GraphEnd → ℕ) (d e t node k : ℕ) → k < d → child_at k (labelled over back own other d e (suc t) node) ≡ Some (over_child over back own other d e t node (suc k))
child_at-labelled over back own other d e t node k less =
    child_at-row (map (over_child over back own other d e t node) (count_from 1 d)) k no_child (omega (arith, less, length-ports (over_child over back own other d e t node) 1 d))
    ∙ ap Some (get_or-map (over_child over back own other d e t node) (count_from 1 d) k 0 no_child (omega (arith, less, length-count_from 1 d))
    ∙ ap (over_child over back own other d e t node) (get_or-count_from 1 d k 0 less ∙ (let z : 1 + k ≡ suc k = omega arith in z)))

pub backs-labelled : (over back : GraphEnd → GraphEnd) (own other : GraphEnd → ℕ) (d e t node k : ℕ) → k < d → get_or (backs (labelled over back own other d e (suc t) node)) k 0 ≡ (over (record { node = node; port = suc k })).port
backs-labelled over back own other d e t node k less =
    backs-child k (over_child over back own other d e t node (suc k)) (labelled over back own other d e (suc t) node) (child_at-labelled over back own other d e t node k less)

-- the others of a view, cut
behind-cut : (t k : ℕ) (x y : InputView) → cut t x ≡ y → cut t (others k x) ≡ others k y
behind-cut zero k x y same = ap (others k) same
behind-cut (suc t) k x y same = sym (others-cut t k x) ∙ ap (others k) same

-- a view cut is that of the smaller radius
cut-labelled : (t radius : ℕ) (over back : GraphEnd → GraphEnd) (own other : GraphEnd → ℕ) (d e node : ℕ) → t ≤ radius → cut t (labelled over back own other d e radius node) ≡ labelled over back own other d e t node
cut-labelled zero radius over back own other d e node le = refl
cut-labelled (suc t) zero over back own other d e node le = absurd (omega arith)
cut-labelled (suc t) (suc radius) over back own other d e node le =
    cut-row t (over_child over back own other d e radius node) (over_child over back own other d e t node) (count_from 1 d)
    (λ port. ap (λ branch. record { back = (over (record { node = node; port = port })).port; payload = own (record { node = node; port = port }); branch = branch })
    (behind-cut t (pred (over (record { node = node; port = port })).port) (labelled back over other own e d radius (over (record { node = node; port = port })).node)
    (labelled back over other own e d t (over (record { node = node; port = port })).node) (cut-labelled t radius back over other own e d (over (record { node = node; port = port })).node (omega arith))))

-- ---- views of the tree
-- the end on the other side has the same label
abbrev pub IsMarked : (GraphEnd → GraphEnd) → (GraphEnd → ℕ) → (GraphEnd → ℕ) → ℕ → ℕ → Type 0
IsMarked over own other d m = (here : GraphEnd) → IsEndOf m d here → other (over here) ≡ own here

pub IsView-labelled : (t : ℕ) (over back : GraphEnd → GraphEnd) (own other : GraphEnd → ℕ) (d m e n : ℕ) → IsWay over back d m e n → IsWay back over e n d m → (node : ℕ) → node < m
    → IsView d e t (labelled over back own other d e t node)
IsView-labelled zero over back own other d m e n way return node less = tt
IsView-labelled (suc t) over back own other d m e n way return node less =
    IsTree-row e d t d (map (over_child over back own other d e t node) (count_from 1 d)) (length-ports (over_child over back own other d e t node) 1 d)
    (AllByRecursion-count (IsChild e d t) (over_child over back own other d e t node) 1 d
    (λ k few. subst (λ port. IsChild e d t (over_child over back own other d e t node port)) (let z : suc k ≡ 1 + k = omega arith in z) (child (λ far less. IsView-labelled t back over other own e n d m return way far less) k few)))
  where
    child : ((far : ℕ) → far < n → IsView e d t (labelled back over other own e d t far)) → (k : ℕ) → k < d → IsChild e d t (over_child over back own other d e t node (suc k))
    child views k few =
        let there : IsEndOf n e (over (record { node = node; port = suc k })) = (way (record { node = node; port = suc k }) (end_is m d node k less few)).0 in
        let low = there.least in
        let high = there.most in
        record {
          least = low;
          most = high;
          branch = behind-is d e t (pred (over (record { node = node; port = suc k })).port) (labelled back over other own e d t (over (record { node = node; port = suc k })).node) (omega (arith, low, high))
              (views (over (record { node = node; port = suc k })).node there.node);
        }

-- the child over which the node lies, seen from the other side
back_child : (t : ℕ) (over back : GraphEnd → GraphEnd) (own other : GraphEnd → ℕ) (d m e n : ℕ) → IsWay over back d m e n → IsMarked over own other d m → (node k : ℕ) → node < m → k < d
    → (far : GraphEnd) → far ≡ over (record { node = node; port = suc k })
    → child_at (pred far.port) (labelled back over other own e d (suc t) far.node) ≡ Some (record { back = suc k; payload = own (record { node = node; port = suc k }); branch = others k (labelled over back own other d e t node) })
back_child t over back own other d m e n way marked node k less few far far_is =
    let here : GraphEnd = record { node = node; port = suc k } in
    let (there, same) = way here (end_is m d node k less few) in
    let is : IsEndOf n e far = subst (IsEndOf n e) (sym far_is) there in
    let low = is.least in
    let high = is.most in
    let port_is : suc (pred far.port) ≡ far.port = omega (arith, low) in
    let whole : record { node = far.node; port = suc (pred far.port) } ≡ far = ap (λ port. record { node = far.node; port = port }) port_is in
    let back_is : back (record { node = far.node; port = suc (pred far.port) }) ≡ here = ap back (whole ∙ far_is) ∙ same in
    let label_is : other (record { node = far.node; port = suc (pred far.port) }) ≡ own here = ap other (whole ∙ far_is) ∙ marked here (end_is m d node k less few) in
    child_at-labelled back over other own e d t far.node (pred far.port) (omega (arith, low, high))
    ∙ (λ i. Some (record { back = (back_is i).port; payload = label_is i; branch = others (pred (back_is i).port) (labelled over back own other d e t (back_is i).node) }))

-- the view of a node shows at each port the view of the node there
pub shift-labelled : (t : ℕ) (over back : GraphEnd → GraphEnd) (own other : GraphEnd → ℕ) (d m e n : ℕ) → IsWay over back d m e n → IsMarked over own other d m → (node k : ℕ) → node < m → k < d
    → shift t (labelled over back own other d e (suc t) node) (suc k) ≡ labelled back over other own e d t (over (record { node = node; port = suc k })).node
shift-labelled zero over back own other d m e n way marked node k less few = refl
shift-labelled (suc t) over back own other d m e n way marked node k less few =
    let here : GraphEnd = record { node = node; port = suc k } in
    let far : GraphEnd = over here in
    let v : InputView = labelled over back own other d e (suc (suc t)) node in
    let x : InputView = labelled back over other own e d (suc t) far.node in
    let c : Child ℕ = over_child over back own other d e (suc t) node (suc k) in
    let behind : Child ℕ = record { back = suc k; payload = own here; branch = others k (labelled over back own other d e t node) } in
    let seen : shift (suc t) v (suc k) ≡ turned (suc t) (suc k) (others k v) (Some c) = shift-at (suc t) v (suc k) c (child_at-labelled over back own other d e (suc t) node k few) in
    let rest : cut t (others k v) ≡ others k (labelled over back own other d e t node) = behind-cut t k v (labelled over back own other d e t node) (cut-labelled t (suc (suc t)) over back own other d e node (omega arith)) in
    seen
    ∙ ap (λ branch. put (pred far.port) (record { back = suc k; payload = own here; branch = branch }) (others (pred far.port) x)) rest
    ∙ put-others (pred far.port) behind x (back_child t over back own other d m e n way marked node k less few far refl)

-- ---- the input labels fit
pub fits-labelled : (t : ℕ) (over back : GraphEnd → GraphEnd) (own other : GraphEnd → ℕ) (d m e n : ℕ) (near away : Constraint) → IsWay over back d m e n → IsWay back over e n d m → IsMarked over own other d m → IsMarked back other own e n
    → ((node : ℕ) → node < m → Has near (map (λ port. own (record { node = node; port = port })) (count_from 1 d)))
    → ((node : ℕ) → node < n → Has away (map (λ port. other (record { node = node; port = port })) (count_from 1 e)))
    → (node : ℕ) → node < m → Fits near away (labelled over back own other d e t node)
fits-labelled zero over back own other d m e n near away way return marked marked' has has' node less = tt
fits-labelled (suc t) over back own other d m e n near away way return marked marked' has has' node less =
    fits-row near away [] (map (over_child over back own other d e t node) (count_from 1 d))
    (AllByRecursion-count (λ child. FitsAround away near (child.payload ∷ []) child.branch) (over_child over back own other d e t node) 1 d
    (λ k few. subst (λ port. FitsAround away near ((over_child over back own other d e t node port).payload ∷ []) (over_child over back own other d e t node port).branch) (let z : suc k ≡ 1 + k = omega arith in z)
    (child t (λ far less. fits-labelled t back over other own e n d m away near return way marked' marked has' has far less) k few)))
    (subst (Has near) (sym (append-nil (map (λ (child : Child ℕ). child.payload) (map (over_child over back own other d e t node) (count_from 1 d))) ∙ map-map (over_child over back own other d e t node) (count_from 1 d))) (has node less))
  where
    map-map : (f : ℕ → Child ℕ) (ports : List ℕ) → map (λ (child : Child ℕ). child.payload) (map f ports) ≡ map (λ port. (f port).payload) ports
    map-map f [] = refl
    map-map f (port ∷ ports) = ap (λ l. (f port).payload ∷ l) (map-map f ports)

    child : (t : ℕ) → ((far : ℕ) → far < n → Fits away near (labelled back over other own e d t far)) → (k : ℕ) → k < d → FitsAround away near (own (record { node = node; port = suc k }) ∷ []) (over_child over back own other d e t node (suc k)).branch
    child zero views k few = tt
    child (suc t) views k few =
        let here : GraphEnd = record { node = node; port = suc k } in
        let there : IsEndOf n e (over here) = (way here (end_is m d node k less few)).0 in
        (FitsAround-others away near [] (pred (over here).port) (record { back = suc k; payload = own here; branch = others k (labelled over back own other d e t node) }) (labelled back over other own e d (suc t) (over here).node)
        (back_child t over back own other d m e n way marked node k less few (over here) refl) (views (over here).node there.node)).1
