-- What a search comes to, as its walks end.
use Rattle.re_problem.proofs.NewNumbers.{flat_map_map}
use Rattle.std.proofs.Common.{◌≡◌, ℕ, zero, suc, ◌+◌, ◌-◌, ◌<◌, ◌≤◌, Bool, true, false, ltb, List, [], ◌∷◌, ◌++◌, length, flat_map, get_or, Option, None, Some, Result, Ok, Err, refl, sym, ap, ◌∙◌, subst, arith, inl, inr}
use Rattle.std.specs.Prelude.{count_by, if◌then◌else◌}
use Rattle.std.specs.List.{AllByRecursion}
use Rattle.std.proofs.lemmas.Bool.Decides.{nat_tests}
use Rattle.re_labels.proofs.Membership.{In, In-Contains, get_or-count_from}
use Rattle.re_labels.specs.Lists.{count_from}
use Rattle.re_problem.specs.NamedProblems.{IsNamedProblem, NamedProblem, unnamed}
use Rattle.re_problem.specs.ProblemTexts.{last_or}
use Rattle.re_cert.specs.Bounds.{Bound, BoundStep, is_bound, is_fixed, next_problems}
use Rattle.re_cert.specs.declared.certificate.Kind.{Kind}
use Rattle.re_cert.specs.declared.certificate.Kind.TheVariants.{Lower, Upper, Fixed}
use Rattle.re_check.proofs.Meaning.{verdict_means}
use Rattle.re_check.specs.Verdicts.{Means, bound_fault, verdict_of, verdict_with}
use Rattle.re_check.specs.declared.verdict.Verdict.{Verdict}
use Rattle.re_check.specs.declared.verdict.Verdict.TheVariants.{Accepted}
use Rattle.re_search.proofs.Paths.{IsPath-all}
use Rattle.re_search.proofs.Successes.{success_law}
use Rattle.re_search.specs.Nodes.{Node, all_nodes, is_cut, preorder, root, succeeds, way_back}
use Rattle.re_search.specs.Paths.{bound_of, bound_with}
use Rattle.re_search.proofs.Judgements.{found-some, full-none, passed-none}
use Rattle.re_search.specs.Judging.{judged}
use Rattle.re_search.specs.Judging.Judged.{found, full, passed}
use Rattle.re_search.specs.Searches.{Answers, FindsTrue, FindsValid, concluded, search_of}
use Rattle.re_search.specs.Walking.{Walks, judged_on, least_depth, node_at}
use Rattle.re_search.specs.declared.types.FindFault.{FindFault}
use Rattle.re_search.specs.declared.types.FindFault.TheVariants.{NoMemory, TooManyNodes}
use Rattle.re_search.specs.declared.types.Search.TheVariants.{Found as FoundBound, NotFound}
use Rattle.re_search.specs.declared.walking.Count.{Count}
use Rattle.re_search.specs.declared.walking.Walked.{Walked}
use Rattle.re_search.specs.declared.walking.Walked.TheVariants.{Found, Passed}
use Rattle.re_cert.specs.declared.certificate.TheConstants.{MAX_STEPS}

-- ---- the trees of a search
-- the depths of the trees, in order
abbrev pub depths : Kind → ℕ → List ℕ
depths kind depth = count_from (least_depth kind depth) (suc depth - least_depth kind depth)

-- the nodes of the tree of a depth
abbrev pub tree_of : Kind → ℕ → NamedProblem → ℕ → List Node
tree_of kind most first left = preorder kind most left (node_at first [] left)

one-tree : (f : ℕ → List Node) (depth : ℕ) → flat_map f (count_from depth (suc depth - depth)) ≡ f depth ++ []
one-tree f depth = let one : suc depth - depth ≡ 1 = omega arith in ap (λ n. flat_map f (count_from depth n)) one

pub by_depths : (kind : Kind) (depth most : ℕ) (first : NamedProblem) → flat_map (tree_of kind most first) (depths kind depth) ≡ all_nodes kind depth most first
by_depths Lower depth most first = one-tree (tree_of Lower most first) depth
by_depths Fixed depth most first = one-tree (tree_of Fixed most first) depth
by_depths Upper depth most first =
    let same : suc depth - 0 ≡ suc depth = omega arith in
    ap (λ n. flat_map (tree_of Upper most first) (count_from 0 n)) same ∙ sym (flat_map_map (λ (node : Node). preorder Upper most node.left node) (root first) (count_from 0 (suc depth)))

pub depth-at : (i n k : ℕ) → i ≤ k → k < i + n → k ≡ get_or (count_from i n) (k - i) k
depth-at i n k l m = let low : k - i < n = omega arith in let same : i + (k - i) ≡ k = omega arith in sym (get_or-count_from i n (k - i) k low ∙ same)

-- ---- the end of a search
judged-in : {X : Type 0} (p : X → Bool) (room : ℕ) (xs : List X) (y : X) → judged p room xs ≡ found y → In y xs × (p y ≡ true)
judged-in p zero [] y e = cc
judged-in p (suc room) [] y e = cc
judged-in p zero (x ∷ xs) y e = cc
judged-in {X} p (suc room) (x ∷ xs) y e = go (p x) refl e (judged-in p room xs y)
  where
    go : (b : Bool) → p x ≡ b → (if b then found x else judged p room xs) ≡ found y → (judged p room xs ≡ found y → In y xs × (p y ≡ true)) → In y (x ∷ xs) × (p y ≡ true)
    go true f h rest =
        let h' : found x ≡ found y = h in
        let same : x ≡ y = cc in
        (inl (sym same), ap p (sym same) ∙ f)
    go false f h rest = let two = rest h in (inr two.0, two.1)

-- the bound of a node is told by its steps
bound-told : (kind : Kind) (first : NamedProblem) (node : Node) (steps : List BoundStep) → last_or first (next_problems node.steps) ≡ node.problem → node.steps ≡ steps → bound_of kind first node ≡ bound_of kind first (node_at first steps 0)
bound-told kind first node steps e f =
    (λ i. bound_of kind first (record { problem = sym e i; steps = node.steps; left = node.left })) ∙ ap (λ s. bound_of kind first (node_at first s 0)) f

module _ (kind : Kind) (depth most : ℕ) (first : NamedProblem) where
  nodes : List Node
  nodes = all_nodes kind depth most first

  -- the bound of the path to a success
  pub found-bound : (steps : List BoundStep) → IsNamedProblem first → depth ≤ MAX_STEPS → ((node : Node) × (judged_on kind first 0 (all_nodes kind depth most first) ≡ found node) × (node.steps ≡ steps))
      → (is_bound (bound_of kind first (node_at first steps 0)) ≡ true) × (bound_fault (bound_of kind first (node_at first steps 0)) ≡ None) × (search_of kind depth most first ≡ Ok (FoundBound (bound_of kind first (node_at first steps 0))))
  unfolding search_of
  found-bound steps is few (node, e, same) =
      let here = judged-in (succeeds kind first) 20000 (all_nodes kind depth most first) node e in
      let told = bound-told kind first node steps (IsPath-all kind depth most first node is.problem here.0).last same in
      let law = success_law kind depth most first node is few (In-Contains node (all_nodes kind depth most first) here.0) here.1 in (
        subst (λ b. is_bound b ≡ true) told law.0,
        subst (λ b. bound_fault b ≡ None) told law.1,
        ap (concluded kind first (all_nodes kind depth most first)) (found-some (succeeds kind first) 20000 (all_nodes kind depth most first) node e) ∙ ap (λ b. Ok (FoundBound b)) told,
      )

  pub none-found : (count : Count) → judged_on kind first 0 (all_nodes kind depth most first) ≡ passed → count.nodes ≡ 0 + length (all_nodes kind depth most first) → count.cut ≡ 0 + count_by (is_cut kind) (all_nodes kind depth most first)
      → search_of kind depth most first ≡ Ok (NotFound count.nodes count.cut)
  unfolding search_of
  none-found count e n c =
      let two = passed-none (succeeds kind first) 20000 (all_nodes kind depth most first) e in
      let few : ltb 20000 (length (all_nodes kind depth most first)) ≡ false = (let l = two.1 in grind (arith, nat_tests)) in
      let m : length (all_nodes kind depth most first) ≡ count.nodes = omega arith in
      let d : count_by (is_cut kind) (all_nodes kind depth most first) ≡ count.cut = omega arith in
      ap (concluded kind first (all_nodes kind depth most first)) two.0
      ∙ ap (λ b. if b then Err TooManyNodes else Ok (NotFound (length (all_nodes kind depth most first)) (count_by (is_cut kind) (all_nodes kind depth most first)))) few
      ∙ (λ i. Ok (NotFound (m i) (d i)))

  pub too_many : judged_on kind first 0 (all_nodes kind depth most first) ≡ full → search_of kind depth most first ≡ Err TooManyNodes
  unfolding search_of
  too_many e =
      let two = full-none (succeeds kind first) 20000 (all_nodes kind depth most first) e in
      let many : ltb 20000 (length (all_nodes kind depth most first)) ≡ true = (let l = two.1 in grind (arith, nat_tests)) in
      ap (concluded kind first (all_nodes kind depth most first)) two.0
      ∙ ap (λ b. if b then Err TooManyNodes else Ok (NotFound (length (all_nodes kind depth most first)) (count_by (is_cut kind) (all_nodes kind depth most first)))) many

-- a bound without a fault is accepted
pub accepted : (bound : Bound) → bound_fault bound ≡ None → verdict_of bound ≡ Accepted bound.kind (length bound.steps)
accepted bound e = ap (verdict_with bound.kind (length bound.steps)) e

-- ---- the walks of a search
abbrev pub none_yet : Count
none_yet = record { nodes = 0; cut = 0 }

kind-told : (kind : Kind) (first : NamedProblem) (node : Node) (o : Option (ℕ × List ℕ)) → (bound_with kind first node o).kind ≡ kind
kind-told kind first node None = refl
kind-told kind first node (Some way) = refl

pub first-told : (kind : Kind) (first : NamedProblem) (node : Node) (o : Option (ℕ × List ℕ)) → (bound_with kind first node o).first ≡ first
first-told kind first node None = refl
first-told kind first node (Some way) = refl

pub steps-told : (kind : Kind) (first : NamedProblem) (node : Node) (o : Option (ℕ × List ℕ)) → (bound_with kind first node o).steps ≡ node.steps
steps-told kind first node None = refl
steps-told kind first node (Some way) = refl

module _ (kind : Kind) (depth most : ℕ) (first : NamedProblem) where
  -- the walk over one tree
  pub one_tree : (left : ℕ) (mid new : List BoundStep) (now : Count) (r s : Result Walked FindFault) → mid ≡ [] → r ≡ s → Walks kind first now (preorder kind most left (node_at first mid left)) mid new r
      → Walks kind first now (tree_of kind most first left) mid new s
  one_tree left mid new now r s e f w =
      subst (λ r. Walks kind first now (tree_of kind most first left) mid new r) f (subst (λ ns. Walks kind first now ns mid new r) (λ i. preorder kind most left (node_at first (e i) left)) w)

  all-walk : (new : List BoundStep) (r : Result Walked FindFault) → Walks kind first none_yet (flat_map (tree_of kind most first) (depths kind depth)) [] new r → Walks kind first none_yet (all_nodes kind depth most first) [] new r
  all-walk new r w = subst (λ ns. Walks kind first none_yet ns [] new r) (by_depths kind depth most first) w

  pub bound-found : (new : List BoundStep) → IsNamedProblem first → depth ≤ MAX_STEPS → Walks kind first none_yet (flat_map (tree_of kind most first) (depths kind depth)) [] new (Ok Found)
      → is_bound (bound_of kind first (node_at first new 0)) ≡ true
  bound-found new is few w = (found-bound kind depth most first new is few (all-walk new (Ok Found) w)).0

  pub answers-found : (new : List BoundStep) (certificate : Bound) → IsNamedProblem first → depth ≤ MAX_STEPS → Walks kind first none_yet (flat_map (tree_of kind most first) (depths kind depth)) [] new (Ok Found)
      → certificate ≡ bound_of kind first (node_at first new 0) → Answers kind depth most first (Ok (FoundBound certificate))
  answers-found new certificate is few w e = (found-bound kind depth most first new is few (all-walk new (Ok Found) w)).2 ∙ ap (λ b. Ok (FoundBound b)) (sym e)

  pub finds-valid : (new : List BoundStep) (certificate : Bound) → IsNamedProblem first → depth ≤ MAX_STEPS → Walks kind first none_yet (flat_map (tree_of kind most first) (depths kind depth)) [] new (Ok Found)
      → certificate ≡ bound_of kind first (node_at first new 0) → FindsValid kind (Ok (FoundBound certificate))
  finds-valid new certificate is few w e =
      let none : bound_fault certificate ≡ None = subst (λ b. bound_fault b ≡ None) (sym e) (found-bound kind depth most first new is few (all-walk new (Ok Found) w)).1 in
      let same : certificate.kind ≡ kind = ap (λ (b : Bound). b.kind) e ∙ kind-told kind first (node_at first new 0) (if is_fixed kind then way_back first (node_at first new 0) else None) in
      accepted certificate none ∙ ap (λ k. Accepted k (length certificate.steps)) same

  pub finds-true : (new : List BoundStep) (certificate : Bound) → IsNamedProblem first → depth ≤ MAX_STEPS → Walks kind first none_yet (flat_map (tree_of kind most first) (depths kind depth)) [] new (Ok Found)
      → certificate ≡ bound_of kind first (node_at first new 0) → AllByRecursion IsNamedProblem (next_problems new) → FindsTrue kind first (Ok (FoundBound certificate))
  finds-true new certificate is few w e named =
      let way : Option (ℕ × List ℕ) = if is_fixed kind then way_back first (node_at first new 0) else None in
      let fits : is_bound certificate ≡ true = subst (λ b. is_bound b ≡ true) (sym e) (bound-found new is few w) in
      let head : certificate.first ≡ first = ap (λ (b : Bound). b.first) e ∙ first-told kind first (node_at first new 0) way in
      let steps : certificate.steps ≡ new = ap (λ (b : Bound). b.steps) e ∙ steps-told kind first (node_at first new 0) way in
      let valid : verdict_of certificate ≡ Accepted kind (length certificate.steps) = finds-valid new certificate is few w e in
      let means : Means (verdict_of certificate) (unnamed certificate.first) =
      verdict_means certificate fits (subst IsNamedProblem (sym head) is) (subst (λ (s : List BoundStep). AllByRecursion IsNamedProblem (next_problems s)) (sym steps) named) in
      subst (λ (p : NamedProblem). Means (Accepted kind (length certificate.steps)) (unnamed p)) head (subst (λ (v : Verdict). Means v (unnamed certificate.first)) valid means)

  pub answers-refused : (new : List BoundStep) (fault : FindFault) → Walks kind first none_yet (flat_map (tree_of kind most first) (depths kind depth)) [] new (Err fault) → Answers kind depth most first (Err fault)
  answers-refused new TooManyNodes w = too_many kind depth most first (all-walk new (Err TooManyNodes) w)
  answers-refused new NoMemory w = tt

  pub answers-none : (count : Count) (new : List BoundStep) → Walks kind first none_yet (flat_map (tree_of kind most first) (depths kind depth)) [] new (Ok (Passed count)) → Answers kind depth most first (Ok (NotFound count.nodes count.cut))
  answers-none count new w = let (e, n, c, same) = all-walk new (Ok (Passed count)) w in none-found kind depth most first count e n c
