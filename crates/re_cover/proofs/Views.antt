-- The views of the nodes of a graph are views of the tree, and neighbours' views fit together.
use Rattle.std.proofs.Common.{◌≡◌, ℕ, zero, suc, pred, ◌+◌, ◌<◌, List, map, length, get_or, refl, sym, ◌∙◌, ap, subst, arith}
use Rattle.std.proofs.lemmas.List.{get_or-map}
use Rattle.re_cover.specs.declared.ends.GraphEnd.{GraphEnd}
use Rattle.re_cover.specs.Graphs.{IsEndOf}
use Rattle.re_cover.specs.Unfolded.{unfolded}
use Rattle.re_labels.proofs.Membership.{get_or-count_from, length-count_from}
use Rattle.re_labels.specs.Lists.{count_from}
use Rattle.re_laws.proofs.Ports.{length-ports}
use Rattle.re_laws.specs.Algorithms.{Plain}
use Rattle.re_laws.proofs.JoinedBranches.{IsTree-branchwise, backs-child, child_at-branchwise, joined, shift-branchwise}
use Rattle.re_laws.proofs.ViewLaws.{IsChild, IsTree-others}
use Rattle.re_laws.specs.Ends.{End, IsEnd, branchwise, no_end}
use Rattle.re_laws.specs.Trees.{leaf, end, more, IsTree, IsView, Tree, backs, others, shift}

-- from the ends of m nodes of degree d one comes to those of n nodes of degree e, and back to where one was
abbrev pub IsWay : (GraphEnd → GraphEnd) → (GraphEnd → GraphEnd) → ℕ → ℕ → ℕ → ℕ → Type 0
IsWay over back d m e n = (here : GraphEnd) → IsEndOf m d here → IsEndOf n e (over here) × (back (over here) ≡ here)

-- what a node of a graph joins to its view
abbrev neighbour : (GraphEnd → GraphEnd) → (GraphEnd → GraphEnd) → ℕ → ℕ → ℕ → ℕ → ℕ → End
neighbour over back d e t node port = record {
  view = unfolded back over e d t (over (record { node = node; port = port })).node;
  port = (over (record { node = node; port = port })).port;
}

abbrev near : (GraphEnd → GraphEnd) → (GraphEnd → GraphEnd) → ℕ → ℕ → ℕ → ℕ → List End
near over back d e t node = map (neighbour over back d e t node) (count_from 1 d)

length-near : (over back : GraphEnd → GraphEnd) (d e t node : ℕ) → length (near over back d e t node) ≡ d
length-near over back d e t node = length-ports (neighbour over back d e t node) 1 d

near-at : (over back : GraphEnd → GraphEnd) (d e t node k : ℕ) → k < d → get_or (near over back d e t node) k no_end ≡ neighbour over back d e t node (suc k)
near-at over back d e t node k less =
    get_or-map (neighbour over back d e t node) (count_from 1 d) k 0 no_end (omega (arith, less, length-count_from 1 d)) ∙ ap (neighbour over back d e t node) (get_or-count_from 1 d k 0 less ∙ (let e : 1 + k ≡ suc k = omega arith in e))

pub end_is : (m d node k : ℕ) → node < m → k < d → IsEndOf m d (record { node = node; port = suc k })
end_is m d node k less few = record { node = less; least = omega arith; most = omega (arith, few) }

-- the back port of the child at a place
pub backs-unfolded : (over back : GraphEnd → GraphEnd) (d e t node k : ℕ) → k < d → get_or (backs (unfolded over back d e (suc t) node)) k 0 ≡ (over (record { node = node; port = suc k })).port
backs-unfolded over back d e t node k less =
    backs-child k (joined (get_or (near over back d e t node) k no_end)) (branchwise (near over back d e t node))
    (child_at-branchwise (near over back d e t node) k (omega (arith, less, length-near over back d e t node)))
    ∙ ap (λ (here : End). here.port) (near-at over back d e t node k less)

pub behind-is : {E : Type 0} (d e t k : ℕ) (v : Tree E) → k < e → IsView e d t v → IsTree e d t (pred e) (others k v)
behind-is {E} d e zero k v less is = go v is
  where
    go : (v : Tree E) → IsView e d zero v → IsTree e d zero (pred e) (others k v)
    go leaf is = tt
    go end is = absurd is
    go (more b p x r) is = absurd is
behind-is d zero (suc t) k v less is = absurd (omega arith)
behind-is d (suc e) (suc t) k v less is = IsTree-others (suc e) d t e k v is less

pub IsView-unfolded : (t : ℕ) (over back : GraphEnd → GraphEnd) (d m e n : ℕ) → IsWay over back d m e n → IsWay back over e n d m → (node : ℕ) → node < m → IsView d e t (unfolded over back d e t node)
IsView-unfolded zero over back d m e n way return node less = tt
IsView-unfolded (suc t) over back d m e n way return node less =
    IsTree-branchwise e d t d (near over back d e t node) (length-near over back d e t node) (λ k few. subst (λ here. IsChild e d t (joined here)) (sym (near-at over back d e t node k few)) (child (λ far less. IsView-unfolded t back over e n d m return way far less) k few))
  where
    child : ((far : ℕ) → far < n → IsView e d t (unfolded back over e d t far)) → (k : ℕ) → k < d → IsChild e d t (joined (neighbour over back d e t node (suc k)))
    child views k few =
        let there : IsEndOf n e (over (record { node = node; port = suc k })) = (way (record { node = node; port = suc k }) (end_is m d node k less few)).0 in
        let low = there.least in
        let high = there.most in
        record {
          least = low;
          most = high;
          branch = behind-is d e t (pred (over (record { node = node; port = suc k })).port) (unfolded back over e d t (over (record { node = node; port = suc k })).node) (omega (arith, low, high))
              (views (over (record { node = node; port = suc k })).node there.node);
        }

-- the view of a node shows at each port the view of the node there
pub shift-unfolded : (t : ℕ) (over back : GraphEnd → GraphEnd) (d m e n : ℕ) → IsWay over back d m e n → IsWay back over e n d m → (node : ℕ) → node < m → (k : ℕ) → k < d
    → shift t (unfolded over back d e (suc t) node) (suc k) ≡ unfolded back over e d t (over (record { node = node; port = suc k })).node
shift-unfolded zero over back d m e n way return node less k few = refl
shift-unfolded (suc t) over back d m e n way return node less k few =
    shift-branchwise e d t (unfolded over back d e t node) (near over back d e (suc t) node) (IsView-unfolded t over back d m e n way return node less)
    (record { count = length-near over back d e (suc t) node; each = λ k few. subst (IsEnd e d t (unfolded over back d e t node) (suc k)) (sym (near-at over back d e (suc t) node k few)) (one (λ far less k few. shift-unfolded t back over e n d m return way far less k few) k few) }) k few
    ∙ ap (λ (here : End). here.view) (near-at over back d e (suc t) node k few)
  where
    one : ((far : ℕ) → far < n → (k : ℕ) → k < e → shift t (unfolded back over e d (suc t) far) (suc k) ≡ unfolded over back d e t (back (record { node = far; port = suc k })).node) → (k : ℕ) → k < d → IsEnd e d t (unfolded over back d e t node) (suc k) (neighbour over back d e (suc t) node (suc k))
    one shifts k few =
        let (there, same) = way (record { node = node; port = suc k }) (end_is m d node k less few) in
        let far : GraphEnd = over (record { node = node; port = suc k }) in
        let low = there.least in
        let high = there.most in
        let port_is : suc (pred far.port) ≡ far.port = omega (arith, low) in
        let far_is : record { node = far.node; port = suc (pred far.port) } ≡ far = ap (λ port. record { node = far.node; port = port }) port_is in
        let back_is : back (record { node = far.node; port = suc (pred far.port) }) ≡ record { node = node; port = suc k } = ap back far_is ∙ same in
        record {
          is_view = IsView-unfolded (suc t) back over e n d m return way far.node there.node;
          least = low;
          most = high;
          back = backs-unfolded back over e d t far.node (pred far.port) (omega (arith, low, high)) ∙ ap (λ (here : GraphEnd). here.port) back_is;
          over = ap (shift t (unfolded back over e d (suc t) far.node)) (sym port_is)
              ∙ shifts far.node there.node (pred far.port) (omega (arith, low, high))
              ∙ ap (λ (here : GraphEnd). unfolded over back d e t here.node) back_is;
        }
