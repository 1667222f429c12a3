-- The paths of the search tree are bounds whose steps meet their clauses.
use Rattle.re_cert.proofs.FittingStates.{one_more}
use Rattle.re_problem.proofs.TextLines.{last_push}
use Rattle.std.proofs.Common.{◌≡◌, ℕ, zero, suc, ◌+◌, ◌-◌, ◌<◌, ◌≤◌, Bool, true, false, cond, not, eqb, ltb, leb, List, [], ◌∷◌, ◌++◌, length, map, Option, None, Some, refl, sym, ap, ◌∙◌, subst, arith, inl, inr, length-append}
use Rattle.std.specs.Prelude.{Contains, ◌&&◌, ◌||◌, if◌then◌else◌, is_some, is_none, pred, option_map}
use Rattle.std.specs.List.{list_all}
use Rattle.std.proofs.lemmas.Bool.{false≢true}
use Rattle.std.proofs.lemmas.Bool.Decides.{nat_tests}
use Rattle.std.proofs.lemmas.List.{map-append}
use Rattle.re_labels.proofs.Membership.{Contains-In, In, In-flat_map_from, In-map_from}
use Rattle.re_labels.proofs.Tests.{and-true, true-and}
use Rattle.re_labels.specs.Lists.{count_from}
use Rattle.re_problem.specs.NamedProblems.{NamedProblem, unnamed}
use Rattle.re_problem.specs.ProblemTexts.{last_or}
use Rattle.re_problem.specs.Problems.{IsProblem}
use Rattle.re_changes.proofs.LeftLabels.{IsLeft-all}
use Rattle.re_changes.proofs.Merges.{IsMerged-all}
use Rattle.re_changes.proofs.OneChange.{below-counted}
use Rattle.re_changes.specs.Changes.{Changed, all_changed}
use Rattle.re_step.specs.Derivations.{named_derived, step_limit}
use Rattle.re_cert.specs.Bounds.{Bound, BoundStep, is_bound, is_fixed, is_lower, last_problem, next_problems, problem_at, is_by_row, renaming_fits, step_fits, steps_fit}
use Rattle.re_cert.specs.declared.certificate.Kind.{Kind}
use Rattle.re_cert.specs.declared.certificate.Kind.TheVariants.{Lower, Upper, Fixed}
use Rattle.re_check.specs.Clauses.{step_fault}
use Rattle.re_check.proofs.Meaning.{both_met}
use Rattle.re_check.specs.Verdicts.{fault_at, fault_or, steps_fault}
use Rattle.re_search.proofs.LowerSteps.{IsProblem-named_derived, lower-fits, lower-meets}
use Rattle.re_search.proofs.UpperSteps.{upper-fits, upper-meets}
use Rattle.re_search.specs.Nodes.{Node, all_nodes, child, children, goes_on, preorder, root, roots, step_to, steps_from}

-- ---- one step more
last-next : {X : Type 0} (d x : X) (xs : List X) → last_or d (x ∷ xs) ≡ last_or x xs
last-next d x [] = refl
last-next d x (y ∷ []) = refl
last-next d x (y ∷ z ∷ xs) = last-next d y (z ∷ xs) ∙ sym (last-next x y (z ∷ xs))

pub fits-more : (kind : Kind) (before : NamedProblem) (steps : List BoundStep) (s : BoundStep) → steps_fit kind before steps ≡ true → step_fits kind (last_or before (next_problems steps)) s ≡ true → steps_fit kind before (steps ++ s ∷ []) ≡ true
fits-more kind before [] s fits one = true-and (step_fits kind before s) true one refl
fits-more kind before (first ∷ steps) s fits one =
    let two = and-true (step_fits kind before first) (steps_fit kind first.next steps) fits in
    true-and (step_fits kind before first) (steps_fit kind first.next (steps ++ s ∷ [])) two.0
    (fits-more kind first.next steps s two.1 (subst (λ p. step_fits kind p s ≡ true) (last-next before first.next (next_problems steps)) one))

pub valid-more : (number : ℕ) (before : NamedProblem) (steps : List BoundStep) (s : BoundStep) → steps_fault before number steps ≡ None → step_fault (last_or before (next_problems steps)) s ≡ None → steps_fault before number (steps ++ s ∷ []) ≡ None
valid-more number before [] s none one = ap (λ o. fault_or (option_map (fault_at number) o) None) one
valid-more number before (first ∷ steps) s none one =
    let two = both_met number before first steps none in
    ap (λ o. fault_or (option_map (fault_at number) o) (steps_fault first.next (suc number) (steps ++ s ∷ []))) two.0
    ∙ valid-more (suc number) first.next steps s two.1 (subst (λ p. step_fault p s ≡ None) (last-next before first.next (next_problems steps)) one)

-- ---- the steps of the tree
-- a step from a problem within the limits fits, meets its clauses and leads to a problem
pub step-good : (kind : Kind) (most : ℕ) (problem : NamedProblem) (s : BoundStep) → IsProblem (unnamed problem) → step_limit (unnamed problem) ≡ None → In s (steps_from kind most problem)
    → (step_fits kind problem s ≡ true) × (step_fault problem s ≡ None) × IsProblem (unnamed s.next) × (not (is_by_row s.map) ≡ true)
step-good kind most problem s is none i = go (is_lower kind) refl
  where
    P : BoundStep → Type 0
    P s = (step_fits kind problem s ≡ true) × (step_fault problem s ≡ None) × IsProblem (unnamed s.next) × (not (is_by_row s.map) ≡ true)

    go : (b : Bool) → is_lower kind ≡ b → P s
    go true lower =
        let j : In s (map (step_to true problem) (all_changed true most (named_derived (unnamed problem)))) = subst (λ b. In s (map (step_to b problem) (all_changed b most (named_derived (unnamed problem))))) lower i in
        let (made, h, e) = In-map_from (step_to true problem) s (all_changed true most (named_derived (unnamed problem))) j in
        let merged = IsMerged-all (named_derived (unnamed problem)) most made (IsProblem-named_derived problem is) h in
        subst P (sym e) (lower-fits kind problem is made merged lower none, lower-meets problem is made merged, merged.problem, refl)
    go false lower =
        let j : In s (map (step_to false problem) (all_changed false most (named_derived (unnamed problem)))) = subst (λ b. In s (map (step_to b problem) (all_changed b most (named_derived (unnamed problem))))) lower i in
        let (made, h, e) = In-map_from (step_to false problem) s (all_changed false most (named_derived (unnamed problem))) j in
        let left = IsLeft-all (named_derived (unnamed problem)) most made (IsProblem-named_derived problem is) h in
        subst P (sym e) (upper-fits problem made left kind lower, upper-meets problem made left, left.problem, refl)

-- ---- paths
-- the steps lead to the node's problem, fit and meet their clauses, and are few
pub record IsPath (kind : Kind) (first : NamedProblem) (depth : ℕ) (node : Node) : Type 0 where
  pub last : last_or first (next_problems node.steps) ≡ node.problem
  pub problem : IsProblem (unnamed node.problem)
  pub fits : steps_fit kind first node.steps ≡ true
  pub valid : steps_fault first 1 node.steps ≡ None
  pub long : length node.steps + node.left ≤ depth
  pub by_set : list_all (λ (s : BoundStep). not (is_by_row s.map)) node.steps ≡ true

pred-less : (a b l d : ℕ) → 0 < l → a + l ≤ d → b ≡ a + 1 → b + pred l ≤ d
pred-less a b zero d low m e = absurd (omega arith)
pred-less a b (suc l) d low m e = omega arith

IsPath-child : (kind : Kind) (first : NamedProblem) (depth most : ℕ) (node : Node) (s : BoundStep) → IsPath kind first depth node → 0 < node.left → step_limit (unnamed node.problem) ≡ None → In s (steps_from kind most node.problem)
    → IsPath kind first depth (child node s)
IsPath-child kind first depth most node s path l none i =
    let good = step-good kind most node.problem s path.problem none i in
    record {
      last = ap (last_or first) (map-append (λ (s : BoundStep). s.next) node.steps (s ∷ [])) ∙ last_push first (next_problems node.steps) s.next;
      problem = good.2;
      by_set = one_more (λ (s : BoundStep). not (is_by_row s.map)) node.steps s path.by_set good.3;
      fits = fits-more kind first node.steps s path.fits (subst (λ p. step_fits kind p s ≡ true) (sym path.last) good.0);
      valid = valid-more 1 first node.steps s path.valid (subst (λ p. step_fault p s ≡ None) (sym path.last) good.1);
      long = pred-less (length node.steps) (length (node.steps ++ s ∷ [])) node.left depth l path.long (length-append node.steps (s ∷ []));
    }

-- a child is behind a step, of a node that goes on and passes no limit
child-from : (kind : Kind) (most : ℕ) (node other : Node) → In other (children kind most node) → (goes_on kind node ≡ true) × (step_limit (unnamed node.problem) ≡ None) × ((s : BoundStep) × In s (steps_from kind most node.problem) × (other ≡ child node s))
child-from kind most node other i = go (goes_on kind node) (step_limit (unnamed node.problem)) refl refl i
  where
    go : (b : Bool) (o : Option _) → goes_on kind node ≡ b → step_limit (unnamed node.problem) ≡ o → In other (if b && is_none o then map (child node) (steps_from kind most node.problem) else [])
        → (goes_on kind node ≡ true) × (step_limit (unnamed node.problem) ≡ None) × ((s : BoundStep) × In s (steps_from kind most node.problem) × (other ≡ child node s))
    go true None e f i = (e, f, In-map_from (child node) other (steps_from kind most node.problem) i)
    go true (Some limit) e f i = absurd i
    go false o e f i = absurd i

pub going-left : (kind : Kind) (node : Node) → goes_on kind node ≡ true → 0 < node.left
going-left kind node h = let two = and-true (ltb 0 node.left) _ h in let l = two.0 in grind (arith, nat_tests)

pub IsPath-preorder : (kind : Kind) (first : NamedProblem) (depth most d : ℕ) (start node : Node) → IsPath kind first depth start → In node (preorder kind most d start) → IsPath kind first depth node
IsPath-preorder kind first depth most zero start node path (inl e) = subst (IsPath kind first depth) (sym e) path
IsPath-preorder kind first depth most zero start node path (inr i) = absurd i
IsPath-preorder kind first depth most (suc d) start node path (inl e) = subst (IsPath kind first depth) (sym e) path
IsPath-preorder kind first depth most (suc d) start node path (inr i) =
    let (other, j, h) = In-flat_map_from (preorder kind most d) node (children kind most start) i in
    let (going, none, (s, k, e)) = child-from kind most start other j in
    IsPath-preorder kind first depth most d other node
    (subst (IsPath kind first depth) (sym e) (IsPath-child kind first depth most start s path (going-left kind start going) none k)) h

IsPath-root : (kind : Kind) (first : NamedProblem) (depth d : ℕ) → IsProblem (unnamed first) → d ≤ depth → IsPath kind first depth (root first d)
IsPath-root kind first depth d is l = record { last = refl; problem = is; fits = refl; valid = refl; long = omega arith; by_set = refl }

pub IsPath-all : (kind : Kind) (depth most : ℕ) (first : NamedProblem) (node : Node) → IsProblem (unnamed first) → In node (all_nodes kind depth most first) → IsPath kind first depth node
IsPath-all kind depth most first node is i =
    let (start, j, h) = In-flat_map_from (λ (start : Node). preorder kind most start.left start) node (roots kind depth first) i in
    IsPath-preorder kind first depth most start.left start node (at_root kind start j) h
  where
    of_tree : (kind : Kind) (start : Node) → start ≡ root first depth → IsPath kind first depth start
    of_tree kind start e = subst (IsPath kind first depth) (sym e) (IsPath-root kind first depth depth is (omega arith))

    at_root : (kind : Kind) (start : Node) → In start (roots kind depth first) → IsPath kind first depth start
    at_root Lower start (inl e) = of_tree Lower start e
    at_root Lower start (inr i) = absurd i
    at_root Fixed start (inl e) = of_tree Fixed start e
    at_root Fixed start (inr i) = absurd i
    at_root Upper start i =
        let (d, j, e) = In-map_from (root first) start (count_from 0 (suc depth)) i in
        let l = below-counted (suc depth) d j in
        subst (IsPath Upper first depth) (sym e) (IsPath-root Upper first depth d is (omega arith))
