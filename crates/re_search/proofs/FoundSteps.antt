-- How many steps a search finds.
use Rattle.std.proofs.Common.{◌≡◌, ℕ, zero, suc, ◌+◌, ◌<◌, ◌≤◌, Bool, true, false, eqb, List, [], ◌∷◌, ◌++◌, length, length-append, map, take, Option, Some, None, Ok, Err, refl, sym, ap, ◌∙◌, subst, arith, inl, inr}
use Rattle.std.specs.Prelude.{◌&&◌, find, if◌then◌else◌, is_none, nat_lt, not, pred}
use Rattle.re_labels.proofs.Membership.{In, In-Contains, In-flat_map_from, In-map_from, count_from_range}
use Rattle.re_labels.proofs.Tests.{and-true, eqb-true}
use Rattle.re_labels.specs.Lists.{count_from}
use Rattle.re_problem.specs.NamedProblems.{NamedProblem, unnamed}
use Rattle.re_step.specs.Derivations.{step_limit}
use Rattle.re_cert.specs.Bounds.{Bound, BoundStep, is_fixed}
use Rattle.re_cert.specs.declared.certificate.Kind.{Kind}
use Rattle.re_cert.specs.declared.certificate.Kind.TheVariants.{Fixed, Lower, Upper}
use Rattle.re_search.proofs.Paths.{going-left}
use Rattle.re_search.proofs.Successes.{found-in}
use Rattle.re_search.specs.Nodes.{Node, all_nodes, child, children, goes_on, is_zero, preorder, root, roots, steps_from, succeeds, way_back}
use Rattle.re_search.specs.Paths.{bound_of}
use Rattle.re_search.proofs.Findings.{steps-told}
use Rattle.re_search.specs.Searches.{HasSteps, concluded, search_of}
use Rattle.re_search.specs.declared.types.FindFault.TheVariants.{TooManyNodes}
use Rattle.re_search.specs.declared.types.Search.TheVariants.{Found, NotFound}
use Rattle.re_search.specs.declared.walking.TheConstants.{MAX_NODES}

-- ---- nodes
-- a child is behind a step, of a node that goes on
from-child : (kind : Kind) (most : ℕ) (node other : Node) → In other (children kind most node) → (goes_on kind node ≡ true) × ((s : BoundStep) × (other ≡ child node s))
from-child kind most node other i = go (goes_on kind node) (is_none (step_limit (unnamed node.problem))) refl i
  where
    go : (b c : Bool) → goes_on kind node ≡ b → In other (if b && c then map (child node) (steps_from kind most node.problem) else []) → (goes_on kind node ≡ true) × ((s : BoundStep) × (other ≡ child node s))
    go true true e i = let (s, j, f) = In-map_from (child node) other (steps_from kind most node.problem) i in (e, (s, f))
    go true false e i = absurd i
    go false c e i = absurd i

one-more : (a b left whole : ℕ) → 0 < left → a + left ≡ whole → b ≡ a + 1 → b + pred left ≡ whole
one-more a b zero whole some e f = absurd (omega arith)
one-more a b (suc left) whole some e f = omega arith

-- the steps to a node and those left below it are as many as at the root
sum-below : (kind : Kind) (most depth whole : ℕ) (start node : Node) → length start.steps + start.left ≡ whole → In node (preorder kind most depth start) → length node.steps + node.left ≡ whole
sum-below kind most zero whole start node sum (inl e) = subst (λ (n : Node). length n.steps + n.left ≡ whole) (sym e) sum
sum-below kind most zero whole start node sum (inr i) = absurd i
sum-below kind most (suc depth) whole start node sum (inl e) = subst (λ (n : Node). length n.steps + n.left ≡ whole) (sym e) sum
sum-below kind most (suc depth) whole start node sum (inr i) =
    let (other, j, h) = In-flat_map_from (preorder kind most depth) node (children kind most start) i in
    let (going, (s, e)) = from-child kind most start other j in
    let more : length (child start s).steps + (child start s).left ≡ whole = one-more (length start.steps) (length (start.steps ++ s ∷ [])) start.left whole (going-left kind start going) sum (length-append start.steps (s ∷ [])) in
    sum-below kind most depth whole other node (subst (λ (n : Node). length n.steps + n.left ≡ whole) (sym e) more) h

-- the roots are such as the search is
roots-are : (kind : Kind) (depth : ℕ) (first : NamedProblem) (start : Node) → In start (roots kind depth first) → HasSteps kind depth (length start.steps + start.left)
roots-are Lower depth first start (inl e) = subst (λ (n : Node). length n.steps + n.left ≡ depth) (sym e) (omega arith)
roots-are Lower depth first start (inr i) = absurd i
roots-are Fixed depth first start (inl e) = subst (λ (n : Node). length n.steps + n.left ≤ depth) (sym e) (omega arith)
roots-are Fixed depth first start (inr i) = absurd i
roots-are Upper depth first start i =
    let (d, j, e) = In-map_from (root first) start (count_from 0 (suc depth)) i in
    let low = (count_from_range 0 (suc depth) d (In-Contains d (count_from 0 (suc depth)) j)).1 in
    subst (λ (n : Node). length n.steps + n.left ≤ depth) (sym e) (omega arith)

-- ---- successes
-- what is among the first of a list is in it
In-taken : {X : Type 0} (n : ℕ) (xs : List X) (x : X) → In x (take n xs) → In x xs
In-taken zero xs x i = absurd i
In-taken (suc n) [] x i = absurd i
In-taken (suc n) (y ∷ xs) x (inl e) = inl e
In-taken (suc n) (y ∷ xs) x (inr i) = inr (In-taken n xs x i)

-- a success of a lower bound is at the greatest depth
success-steps : (kind : Kind) (depth whole : ℕ) (first : NamedProblem) (node : Node) → HasSteps kind depth whole → length node.steps + node.left ≡ whole → succeeds kind first node ≡ true → HasSteps kind depth (length node.steps)
success-steps Lower depth whole first node has sum ok =
    let none : node.left ≡ 0 = eqb-true node.left 0 (and-true (eqb node.left 0) (not (is_zero node.problem)) ok).0 in
    omega arith
success-steps Upper depth whole first node has sum ok = omega arith
success-steps Fixed depth whole first node has sum ok = omega arith

node-steps : (kind : Kind) (depth most : ℕ) (first : NamedProblem) (node : Node) → In node (all_nodes kind depth most first) → succeeds kind first node ≡ true → HasSteps kind depth (length node.steps)
node-steps kind depth most first node i ok =
    let (start, j, h) = In-flat_map_from (λ (start : Node). preorder kind most start.left start) node (roots kind depth first) i in
    success-steps kind depth (length start.steps + start.left) first node (roots-are kind depth first start j) (sum-below kind most start.left (length start.steps + start.left) start node refl h) ok

pub found_steps : (kind : Kind) (depth most : ℕ) (first : NamedProblem) (bound : Bound) → search_of kind depth most first ≡ Ok (Found bound) → HasSteps kind depth (length bound.steps)
unfolding search_of
found_steps kind depth most first bound is = go (find (succeeds kind first) (take MAX_NODES (all_nodes kind depth most first))) refl is
  where
    none : (b : Bool) (nodes cut : ℕ) → (if b then Err TooManyNodes else Ok (NotFound nodes cut)) ≡ Ok (Found bound) → ⊥
    none true nodes cut e = cc
    none false nodes cut e = cc

    go : (o : Option Node) → find (succeeds kind first) (take MAX_NODES (all_nodes kind depth most first)) ≡ o → concluded kind first (all_nodes kind depth most first) o ≡ Ok (Found bound) → HasSteps kind depth (length bound.steps)
    go (Some node) f e =
        let here = found-in (succeeds kind first) (take MAX_NODES (all_nodes kind depth most first)) node f in
        let same : bound_of kind first node ≡ bound = cc in
        let steps : node.steps ≡ bound.steps = sym (steps-told kind first node (if is_fixed kind then way_back first node else None)) ∙ ap (λ (b : Bound). b.steps) same in
        subst (λ (s : List BoundStep). HasSteps kind depth (length s)) steps (node-steps kind depth most first node (In-taken MAX_NODES (all_nodes kind depth most first) node here.0) here.1)
    go None f e = absurd (none (nat_lt MAX_NODES (length (all_nodes kind depth most first))) _ _ e)
