-- Walks one after another, and what is found at a node.
use Rattle.re_problem.proofs.NewNumbers.{flat_map_map}
use Rattle.re_problem.proofs.TextLines.{last_push}
use Rattle.re_search.proofs.Paths.{going-left}
use Rattle.std.proofs.Common.{◌≡◌, ℕ, zero, suc, ◌+◌, ◌-◌, ◌<◌, ◌≤◌, Bool, true, false, cond, List, [], ◌∷◌, ◌++◌, length, map, flat_map, take, drop, get_or, Option, None, Some, Result, Ok, Err, refl, sym, ap, ◌∙◌, subst, arith, length-append, append-nil, inl, inr}
use Rattle.std.specs.Prelude.{◌&&◌, count_by, filter, if◌then◌else◌, is_none, is_some, pred, MatchOption}
use Rattle.std.proofs.lemmas.List.Elements.{filter-append}
use Rattle.std.proofs.lemmas.List.Sums.{count_by-le-length, length-filter}
use Rattle.std.proofs.lemmas.Grind.{flat_map-append}
use Rattle.std.proofs.lemmas.List.{map-append, take-append-drop, take_all, take_more}
use Rattle.re_problem.specs.NamedProblems.{NamedProblem, unnamed}
use Rattle.re_problem.specs.ProblemTexts.{last_or}
use Rattle.re_changes.proofs.LeftLabels.{listed-left_out}
use Rattle.re_changes.proofs.Merges.{listed-merge}
use Rattle.re_changes.specs.Changes.{Changed, IsChange, all_changed, all_changes, changed_by, changed_times, unchanged}
use Rattle.re_changes.specs.declared.change.Change.{Change}
use Rattle.re_labels.proofs.Membership.{In, get_or-count_from, length-count_from, length-map'}
use Rattle.re_labels.specs.Lists.{count_from}
use Rattle.re_step.specs.Derivations.{Derivation, derivation, named_derived, step_limit}
use Rattle.re_problem.specs.Steps.LowerMap.{by_set}
use Rattle.re_search.proofs.LowerSteps.{names-sets}
use Rattle.re_cert.specs.Bounds.{BoundStep, is_lower, next_problems}
use Rattle.re_cert.specs.declared.certificate.Kind.{Kind}
use Rattle.re_search.specs.Nodes.{Node, child, children, entries_of, goes_on, is_cut, preorder, step_to, steps_from, succeeds}
use Rattle.re_search.proofs.Judgements.{flat_map-flat_map, found-on, full-on, passed-none, passed-on}
use Rattle.re_search.specs.Judging.{judged}
use Rattle.re_search.specs.Judging.Judged.{found, full, passed}
use Rattle.re_search.specs.Walking.{IsLevel, Visits, Walks, below_made, judged_on, node_at}
use Rattle.re_search.specs.declared.returning.Way.{Way}
use Rattle.re_search.specs.declared.steps.Level.{Level}
use Rattle.re_search.specs.declared.types.FindFault.{FindFault}
use Rattle.re_search.specs.declared.types.FindFault.TheVariants.{NoMemory, TooManyNodes}
use Rattle.re_search.specs.declared.walking.Count.{Count}
use Rattle.re_search.specs.declared.walking.Visited.{Visited}
use Rattle.re_search.specs.declared.walking.Walked.{Walked}
use Rattle.re_search.specs.declared.walking.Walked.TheVariants.{Found, Passed}

count_by-append : {X : Type 0} (p : X → Bool) (xs ys : List X) → count_by p (xs ++ ys) ≡ count_by p xs + count_by p ys
count_by-append p xs ys =
    sym (length-filter p (xs ++ ys)) ∙ ap length (filter-append p xs ys) ∙ length-append (filter p xs) (filter p ys) ∙ (λ i. length-filter p xs i + length-filter p ys i)

count_by-one : {X : Type 0} (p : X → Bool) (x : X) → count_by p (x ∷ []) ≡ cond (p x) 1 0
count_by-one {X} p x = sym (length-filter p (x ∷ [])) ∙ go (p x)
  where
    go : (b : Bool) → length (cond b (x ∷ []) []) ≡ cond b 1 0
    go true = refl
    go false = refl

not-none : {X : Type 0} (o : Option X) → is_some o ≡ true → is_none o ≡ false
not-none None e = cc
not-none (Some x) e = refl

pred-one : (n : ℕ) → n - 1 ≡ pred n
pred-one zero = omega arith
pred-one (suc n) = omega arith

module _ (kind : Kind) (first : NamedProblem) where
  -- ---- one walk behind another
  onward : (before : ℕ) (xs ys : List Node) (after : ℕ) → judged_on kind first before xs ≡ passed → after ≡ before + length xs → judged_on kind first before (xs ++ ys) ≡ judged_on kind first after ys
  onward before xs ys after e m =
      let room : 20000 - before - length xs ≡ 20000 - after = omega arith in
      passed-on (succeeds kind first) (20000 - before) xs ys e ∙ ap (λ r. judged (succeeds kind first) r ys) room

  pub walks-on : (count next : Count) (xs ys : List Node) (old mid new : List BoundStep) (r : Result Walked FindFault) → Walks kind first count xs old mid (Ok (Passed next)) → Walks kind first next ys mid new r
      → Walks kind first count (xs ++ ys) old new r
  walks-on count next xs ys old mid new (Ok Found) (e, n, c, same) (node, f, steps) = (node, onward count.nodes xs ys next.nodes e n ∙ f, steps)
  walks-on count next xs ys old mid new (Ok (Passed last)) (e, n, c, same) (f, m, d, again) =
      (onward count.nodes xs ys next.nodes e n ∙ f, (let l = length-append xs ys in omega arith), (let l = count_by-append (is_cut kind) xs ys in omega arith), again ∙ same)
  walks-on count next xs ys old mid new (Err TooManyNodes) (e, n, c, same) f = onward count.nodes xs ys next.nodes e n ∙ f
  walks-on count next xs ys old mid new (Err NoMemory) one two = tt

  -- a walk that ends before the last nodes
  pub walks-found : (count : Count) (xs ys : List Node) (old new : List BoundStep) → Walks kind first count xs old new (Ok Found) → Walks kind first count (xs ++ ys) old new (Ok Found)
  walks-found count xs ys old new (node, e, steps) = (node, found-on (succeeds kind first) (20000 - count.nodes) xs ys node e, steps)

  pub walks-refused : (count : Count) (xs ys : List Node) (old new : List BoundStep) (fault : FindFault) → Walks kind first count xs old new (Err fault) → Walks kind first count (xs ++ ys) old new (Err fault)
  walks-refused count xs ys old new TooManyNodes e = full-on (succeeds kind first) (20000 - count.nodes) xs ys e
  walks-refused count xs ys old new NoMemory e = tt

  pub walks-none : (count : Count) (old : List BoundStep) → Walks kind first count [] old old (Ok (Passed count))
  walks-none count old = (refl, omega arith, omega arith, refl)

  -- the counts stay within their bounds
  pub walks-nodes : (count next : Count) (xs : List Node) (old new : List BoundStep) → count.nodes ≤ 20000 → Walks kind first count xs old new (Ok (Passed next)) → next.nodes ≤ 20000
  walks-nodes count next xs old new l (e, n, c, same) = let two = passed-none (succeeds kind first) (20000 - count.nodes) xs e in let m = two.1 in omega arith

  pub walks-cut : (count next : Count) (xs : List Node) (old new : List BoundStep) → count.cut ≤ count.nodes → Walks kind first count xs old new (Ok (Passed next)) → next.cut ≤ next.nodes
  walks-cut count next xs old new l (e, n, c, same) = let m = count_by-le-length (is_cut kind) xs in omega arith

  -- ---- walks over the lists that a list makes
  module _ {X : Type 0} (f : X → List Node) (xs : List X) where
    taken : (i : ℕ) (x : X) → i < length xs → x ≡ get_or xs i x → flat_map f (take (i + 1) xs) ≡ flat_map f (take i xs) ++ f x
    taken i x l at = ap (flat_map f) (take_more xs i x l ∙ ap (λ y. take i xs ++ y ∷ []) (sym at)) ∙ flat_map-append f (take i xs) (x ∷ []) ∙ ap (λ l. flat_map f (take i xs) ++ l) (append-nil (f x))

    split : (i : ℕ) → flat_map f xs ≡ flat_map f (take i xs) ++ flat_map f (drop i xs)
    split i = ap (flat_map f) (sym (take-append-drop i xs)) ∙ flat_map-append f (take i xs) (drop i xs)

    pub loop-passed : (count now next : Count) (old mid new : List BoundStep) (i : ℕ) (x : X) → i < length xs → x ≡ get_or xs i x → Walks kind first count (flat_map f (take i xs)) old mid (Ok (Passed now))
        → Walks kind first now (f x) mid new (Ok (Passed next)) → Walks kind first count (flat_map f (take (i + 1) xs)) old new (Ok (Passed next))
    loop-passed count now next old mid new i x l at one two =
        subst (λ ns. Walks kind first count ns old new (Ok (Passed next))) (sym (taken i x l at)) (walks-on count now (flat_map f (take i xs)) (f x) old mid new (Ok (Passed next)) one two)

    pub loop-found : (count now : Count) (old mid new : List BoundStep) (i : ℕ) (x : X) → i < length xs → x ≡ get_or xs i x → Walks kind first count (flat_map f (take i xs)) old mid (Ok (Passed now))
        → Walks kind first now (f x) mid new (Ok Found) → Walks kind first count (flat_map f xs) old new (Ok Found)
    loop-found count now old mid new i x l at one two =
        subst (λ ns. Walks kind first count ns old new (Ok Found)) (sym (split (i + 1)))
        (walks-found count (flat_map f (take (i + 1) xs)) (flat_map f (drop (i + 1) xs)) old new
        (subst (λ ns. Walks kind first count ns old new (Ok Found)) (sym (taken i x l at)) (walks-on count now (flat_map f (take i xs)) (f x) old mid new (Ok Found) one two)))

    pub loop-refused : (count now : Count) (old mid new : List BoundStep) (i : ℕ) (x : X) (fault : FindFault) → i < length xs → x ≡ get_or xs i x → Walks kind first count (flat_map f (take i xs)) old mid (Ok (Passed now))
        → Walks kind first now (f x) mid new (Err fault) → Walks kind first count (flat_map f xs) old new (Err fault)
    loop-refused count now old mid new i x fault l at one two =
        subst (λ ns. Walks kind first count ns old new (Err fault)) (sym (split (i + 1)))
        (walks-refused count (flat_map f (take (i + 1) xs)) (flat_map f (drop (i + 1) xs)) old new fault
        (subst (λ ns. Walks kind first count ns old new (Err fault)) (sym (taken i x l at)) (walks-on count now (flat_map f (take i xs)) (f x) old mid new (Err fault) one two)))

    pub loop-done : (count now : Count) (old new : List BoundStep) (i : ℕ) → length xs ≤ i → Walks kind first count (flat_map f (take i xs)) old new (Ok (Passed now)) → Walks kind first count (flat_map f xs) old new (Ok (Passed now))
    loop-done count now old new i l one = subst (λ ys. Walks kind first count (flat_map f ys) old new (Ok (Passed now))) (take_all i xs l) one

  -- ---- a node
  module _ (most : ℕ) where
    no_children : (left : ℕ) (node : Node) → goes_on kind node ≡ false → children kind most node ≡ []
    no_children left node h = ap (λ b. if b && is_none (step_limit (unnamed node.problem)) then map (child node) (steps_from kind most node.problem) else []) h

    all-below : (left : ℕ) (steps : List BoundStep) → preorder kind most left (node_at first steps left) ≡ node_at first steps left ∷ flat_map (preorder kind most (pred left)) (children kind most (node_at first steps left))
    all-below zero steps = ap (λ ns. node_at first steps 0 ∷ flat_map (preorder kind most 0) ns) (sym (no_children 0 (node_at first steps 0) refl))
    all-below (suc left) steps = refl

    pub visit-full : (left : ℕ) (steps : List BoundStep) (before : ℕ) → 20000 ≤ before → judged_on kind first before (preorder kind most left (node_at first steps left)) ≡ full
    visit-full left steps before l =
        let none : 20000 - before ≡ 0 = omega arith in
        (λ i. judged (succeeds kind first) (none i) (all-below left steps i))

    pub visit-success : (left : ℕ) (steps : List BoundStep) (count : Count) → count.nodes < 20000 → succeeds kind first (node_at first steps left) ≡ true
        → Walks kind first count (preorder kind most left (node_at first steps left)) steps steps (Ok Found)
    visit-success left steps count l ok =
        let room : 20000 - count.nodes ≡ suc (20000 - suc count.nodes) = omega arith in (
          node_at first steps left,
          (λ i. judged (succeeds kind first) (room i) (all-below left steps i))
              ∙ ap (λ b. cond b (found (node_at first steps left)) (judged (succeeds kind first) (20000 - suc count.nodes) (flat_map (preorder kind most (pred left)) (children kind most (node_at first steps left))))) ok,
          refl,
        )

    one-passed : (left : ℕ) (steps : List BoundStep) (count next : Count) (counts : ℕ) → count.nodes < 20000 → succeeds kind first (node_at first steps left) ≡ false → next.nodes ≡ count.nodes + 1
        → cond (is_cut kind (node_at first steps left)) 1 0 ≡ counts → next.cut ≡ count.cut + counts → Walks kind first count (node_at first steps left ∷ []) steps steps (Ok (Passed next))
    one-passed left steps count next counts l fails nodes same cut =
        let room : 20000 - count.nodes ≡ suc (20000 - suc count.nodes) = omega arith in
        let one = count_by-one (is_cut kind) (node_at first steps left) in (
          ap (λ r. judged (succeeds kind first) r (node_at first steps left ∷ [])) room ∙ ap (λ b. cond b (found (node_at first steps left)) passed) fails,
          nodes,
          omega arith,
          refl,
        )

    pub visit-leaf : (left : ℕ) (steps : List BoundStep) (count next : Count) → count.nodes < 20000 → succeeds kind first (node_at first steps left) ≡ false → goes_on kind (node_at first steps left) ≡ false
        → next.nodes ≡ count.nodes + 1 → next.cut ≡ count.cut → Walks kind first count (preorder kind most left (node_at first steps left)) steps steps (Ok (Passed next))
    visit-leaf left steps count next l fails stop nodes cut =
        subst (λ ns. Walks kind first count ns steps steps (Ok (Passed next))) (sym (all-below left steps ∙ ap (λ ns. node_at first steps left ∷ flat_map (preorder kind most (pred left)) ns) (no_children left (node_at first steps left) stop)))
        (one-passed left steps count next 0 l fails nodes (ap (λ b. cond (b && is_some (step_limit (unnamed (node_at first steps left).problem))) 1 0) stop) (omega arith))

    pub visit-cut : (left : ℕ) (steps : List BoundStep) (count next : Count) → count.nodes < 20000 → succeeds kind first (node_at first steps left) ≡ false → goes_on kind (node_at first steps left) ≡ true
        → is_some (step_limit (unnamed (node_at first steps left).problem)) ≡ true → next.nodes ≡ count.nodes + 1 → next.cut ≡ count.cut + 1
        → Walks kind first count (preorder kind most left (node_at first steps left)) steps steps (Ok (Passed next))
    visit-cut left steps count next l fails on limit nodes cut =
        let none : is_none (step_limit (unnamed (node_at first steps left).problem)) ≡ false = not-none (step_limit (unnamed (node_at first steps left).problem)) limit in
        subst (λ ns. Walks kind first count ns steps steps (Ok (Passed next)))
        (sym (all-below left steps ∙ ap (λ ns. node_at first steps left ∷ flat_map (preorder kind most (pred left)) ns)
        (λ i. if on i && none i then map (child (node_at first steps left)) (steps_from kind most (node_at first steps left).problem) else [])))
        (one-passed left steps count next 1 l fails nodes (λ i. cond (on i && limit i) 1 0) cut)

    pub visit-inner : (left : ℕ) (steps new : List BoundStep) (count next : Count) (r : Result Walked FindFault) → count.nodes < 20000 → succeeds kind first (node_at first steps left) ≡ false → goes_on kind (node_at first steps left) ≡ true
        → step_limit (unnamed (node_at first steps left).problem) ≡ None → next.nodes ≡ count.nodes + 1 → next.cut ≡ count.cut
        → Walks kind first next (flat_map (preorder kind most (left - 1)) (map (child (node_at first steps (suc (left - 1)))) (steps_from kind most (node_at first steps left).problem))) steps new r
        → Walks kind first count (preorder kind most left (node_at first steps left)) steps new r
    visit-inner left steps new count next r l fails on none nodes cut rest =
        let low : 0 < left = going-left kind (node_at first steps left) on in
        let whole : suc (left - 1) ≡ left = omega arith in
        let less : left - 1 ≡ pred left = pred-one left in
        subst (λ ns. Walks kind first count ns steps new r)
        (sym (all-below left steps ∙ ap (λ ns. node_at first steps left ∷ flat_map (preorder kind most (pred left)) ns)
        (λ i. if on i && is_none (none i) then map (child (node_at first steps left)) (steps_from kind most (node_at first steps left).problem) else [])))
        (walks-on count next (node_at first steps left ∷ []) (flat_map (preorder kind most (pred left)) (map (child (node_at first steps left)) (steps_from kind most (node_at first steps left).problem))) steps steps new r
        (one-passed left steps count next 0 l fails nodes (λ i. cond (on i && is_some (none i)) 1 0) (omega arith))
        (subst (λ ns. Walks kind first next ns steps new r) (λ i. flat_map (preorder kind most (less i)) (map (child (node_at first steps (whole i))) (steps_from kind most (node_at first steps left).problem))) rest))

    -- ---- children
    pub by_changes : (left : ℕ) (node : Node) → flat_map (preorder kind most left) (map (child node) (steps_from kind most node.problem))
        ≡ flat_map (λ m. flat_map (below_made kind most left node) (changed_times (is_lower kind) m (unchanged (named_derived (unnamed node.problem))))) (count_from 0 (suc most))
    by_changes left node =
        flat_map_map (preorder kind most left) (child node) (steps_from kind most node.problem)
        ∙ flat_map_map (λ s. preorder kind most left (child node s)) (step_to (is_lower kind) node.problem) (all_changed (is_lower kind) most (named_derived (unnamed node.problem)))
        ∙ flat_map-flat_map (below_made kind most left node) (λ m. changed_times (is_lower kind) m (unchanged (named_derived (unnamed node.problem)))) (count_from 0 (suc most))

    -- the node behind one step more
    child-at : (left : ℕ) (steps : List BoundStep) (s : BoundStep) → child (node_at first steps (suc left)) s ≡ node_at first (steps ++ s ∷ []) left
    child-at left steps s =
        let last : s.next ≡ last_or first (next_problems (steps ++ s ∷ [])) = sym (ap (last_or first) (map-append (λ (s : BoundStep). s.next) steps (s ∷ [])) ∙ last_push first (next_problems steps) s.next) in
        (λ i. record { problem = last i; steps = steps ++ s ∷ []; left = left })

    child-list : (left : ℕ) (steps pushed : List BoundStep) (s : BoundStep) (made : Changed) → pushed ≡ steps ++ s ∷ [] → s ≡ step_to (is_lower kind) (node_at first steps (suc left)).problem made
        → preorder kind most left (node_at first pushed left) ≡ below_made kind most left (node_at first steps (suc left)) made
    child-list left steps pushed s made e f = ap (λ ps. preorder kind most left (node_at first ps left)) e ∙ ap (preorder kind most left) (sym (child-at left steps s)) ∙ ap (λ t. preorder kind most left (child (node_at first steps (suc left)) t)) f

    pub child-passed : (left : ℕ) (steps pushed after cut : List BoundStep) (s : BoundStep) (made : Changed) (count next : Count) → pushed ≡ steps ++ s ∷ [] → s ≡ step_to (is_lower kind) (node_at first steps (suc left)).problem made
        → Walks kind first count (preorder kind most left (node_at first pushed left)) pushed after (Ok (Passed next)) → cut ≡ steps
        → Walks kind first count (below_made kind most left (node_at first steps (suc left)) made) steps cut (Ok (Passed next))
    child-passed left steps pushed after cut s made count next e f w back =
        let (j, n, c, same) = subst (λ ns. Walks kind first count ns pushed after (Ok (Passed next))) (child-list left steps pushed s made e f) w in
        (j, n, c, back)

    pub child-found : (left : ℕ) (steps pushed new : List BoundStep) (s : BoundStep) (made : Changed) (count : Count) → pushed ≡ steps ++ s ∷ [] → s ≡ step_to (is_lower kind) (node_at first steps (suc left)).problem made
        → Walks kind first count (preorder kind most left (node_at first pushed left)) pushed new (Ok Found)
        → Walks kind first count (below_made kind most left (node_at first steps (suc left)) made) steps new (Ok Found)
    child-found left steps pushed new s made count e f w = subst (λ ns. Walks kind first count ns pushed new (Ok Found)) (child-list left steps pushed s made e f) w

    pub child-refused : (left : ℕ) (steps pushed new : List BoundStep) (s : BoundStep) (made : Changed) (count : Count) (fault : FindFault) → pushed ≡ steps ++ s ∷ [] → s ≡ step_to (is_lower kind) (node_at first steps (suc left)).problem made
        → Walks kind first count (preorder kind most left (node_at first pushed left)) pushed new (Err fault)
        → Walks kind first count (below_made kind most left (node_at first steps (suc left)) made) steps new (Err fault)
    child-refused left steps pushed new s made count fault e f w = by fault (subst (λ ns. Walks kind first count ns pushed new (Err fault)) (child-list left steps pushed s made e f) w)
      where
        by : (fault : FindFault) → Walks kind first count (below_made kind most left (node_at first steps (suc left)) made) pushed new (Err fault) → Walks kind first count (below_made kind most left (node_at first steps (suc left)) made) steps new (Err fault)
        by TooManyNodes w = w
        by NoMemory w = tt

    -- ---- children made by changes
    -- the children that the changes after this one make
    abbrev pub of_change : ℕ → List BoundStep → ℕ → Changed → Change → List Node
    of_change left steps k made change = flat_map (below_made kind most left (node_at first steps (suc left))) (changed_times (is_lower kind) k (changed_by change made))

    -- the children that so many changes make
    abbrev pub of_count : ℕ → List BoundStep → Changed → ℕ → List Node
    of_count left steps start m = flat_map (below_made kind most left (node_at first steps (suc left))) (changed_times (is_lower kind) m start)

    pub one_change : (left k : ℕ) (steps mid new : List BoundStep) (made next : Changed) (change : Change) (now : Count) (r s : Result Walked FindFault) → mid ≡ steps → next ≡ changed_by change made → r ≡ s
        → Walks kind first now (flat_map (below_made kind most left (node_at first mid (suc left))) (changed_times (is_lower kind) k next)) mid new r
        → Walks kind first now (of_change left steps k made change) mid new s
    one_change left k steps mid new made next change now r s e f g w =
        subst (λ r. Walks kind first now (of_change left steps k made change) mid new r) g
        (subst (λ ns. Walks kind first now ns mid new r) (λ i. flat_map (below_made kind most left (node_at first (e i) (suc left))) (changed_times (is_lower kind) k (f i))) w)

    pub one_count : (left m : ℕ) (steps mid new : List BoundStep) (held start : Changed) (now : Count) (r s : Result Walked FindFault) → mid ≡ steps → held ≡ start → r ≡ s
        → Walks kind first now (flat_map (below_made kind most left (node_at first mid (suc left))) (changed_times (is_lower kind) m held)) mid new r
        → Walks kind first now (of_count left steps start m) mid new s
    one_count left m steps mid new held start now r s e f g w =
        subst (λ r. Walks kind first now (of_count left steps start m) mid new r) g
        (subst (λ ns. Walks kind first now ns mid new r) (λ i. flat_map (below_made kind most left (node_at first (e i) (suc left))) (changed_times (is_lower kind) m (f i))) w)

    pub all_of_changes : (left changes : ℕ) (steps new : List BoundStep) (made : Changed) (all : List Change) (count : Count) (r : Result Walked FindFault) → (changes ≡ 0 → ⊥) → all ≡ all_changes (is_lower kind) (length made.problem.names)
        → Walks kind first count (flat_map (of_change left steps (changes - 1) made) all) steps new r
        → Walks kind first count (flat_map (below_made kind most left (node_at first steps (suc left))) (changed_times (is_lower kind) changes made)) steps new r
    all_of_changes left zero steps new made all count r some e w = absurd (some refl)
    all_of_changes left (suc k) steps new made all count r some e w =
        let same : suc k - 1 ≡ k = omega arith in
        subst (λ ns. Walks kind first count ns steps new r)
        ((λ i. flat_map (of_change left steps (same i) made) (e i))
        ∙ sym (flat_map-flat_map (below_made kind most left (node_at first steps (suc left))) (λ change. changed_times (is_lower kind) k (changed_by change made)) (all_changes (is_lower kind) (length made.problem.names)))) w

    -- the derived problem of the node behind the steps, without a change
    abbrev pub start_at : ℕ → List BoundStep → Changed
    start_at left steps = unchanged (named_derived (unnamed (node_at first steps (suc left)).problem))

    pub all_of_counts : (left : ℕ) (steps new : List BoundStep) (count : Count) (r : Result Walked FindFault)
        → Walks kind first count (flat_map (of_count left steps (start_at left steps)) (count_from 0 (suc most))) steps new r
        → Walks kind first count (flat_map (preorder kind most left) (map (child (node_at first steps (suc left))) (steps_from kind most (node_at first steps (suc left)).problem))) steps new r
    all_of_counts left steps new count r w = subst (λ ns. Walks kind first count ns steps new r) (sym (by_changes left (node_at first steps (suc left)))) w

  -- what is found at the node behind the steps that are held
  pub visited : (left : ℕ) (items held : List BoundStep) (r s : Result Visited FindFault) → held ≡ items → r ≡ s → Visits kind first (node_at first held left) r → Visits kind first (node_at first items left) s
  visited left items held r s e f v = subst (Visits kind first (node_at first items left)) f (subst (λ h. Visits kind first (node_at first h left) r) e v)

-- ---- the changes of the list
get-in : {X : Type 0} (xs : List X) (k : ℕ) (d : X) → k < length xs → In (get_or xs k d) xs
get-in [] k d l = absurd (omega arith)
get-in (x ∷ xs) zero d l = inl refl
get-in (x ∷ xs) (suc k) d l = inr (get-in xs k d (omega arith))

pub is-change : (merges : Bool) (n : ℕ) (all : List Change) (k : ℕ) (d : Change) → all ≡ all_changes merges n → k < length all → IsChange n (get_or all k d)
is-change merges n all k d e l = go merges e
  where
    go : (merges : Bool) → all ≡ all_changes merges n → IsChange n (get_or all k d)
    go true e =
        let (x, y, f, a, b) = listed-merge n (get_or all k d) (subst (In (get_or all k d)) e (get-in all k d l)) in
        subst (IsChange n) (sym f) (a, b)
    go false e =
        let (x, f, a) = listed-left_out n (get_or all k d) (subst (In (get_or all k d)) e (get-in all k d l)) in
        subst (IsChange n) (sym f) a

pub same-at : {X : Type 0} (xs : List X) (k : ℕ) (d : X) → k < length xs → get_or xs k d ≡ get_or xs k (get_or xs k d)
same-at [] k d l = absurd (omega arith)
same-at (x ∷ xs) zero d l = refl
same-at (x ∷ xs) (suc k) d l = same-at xs k d (omega arith)

pub counted-at : (n k : ℕ) → k < n → k ≡ get_or (count_from 0 n) k k
counted-at n k l = let z : 0 + k ≡ k = omega arith in sym (get_or-count_from 0 n k k l ∙ z)

-- ---- levels
pub level-along : (first : NamedProblem) (level : Level) (steps mid : List BoundStep) (left : ℕ) → mid ≡ steps → IsLevel (node_at first steps left).problem level → IsLevel (node_at first mid left).problem level
level-along first level steps mid left e is = subst (λ s. IsLevel (node_at first s left).problem level) (sym e) is

-- the step that the program holds
pub step-is : (lower : Bool) (problem : NamedProblem) (level : Level) (made : Changed) (s : BoundStep) → IsLevel problem level
    → s ≡ record { lower = lower; next = made.problem; rows = if lower then level.rows.items else []; map = by_set (entries_of level.sets.items made.images) } → s ≡ step_to lower problem made
step-is lower problem level made s is e =
    e ∙ (λ i. record { lower = lower; next = made.problem; rows = if lower then is.rows i else []; map = by_set (entries_of (is.sets i) made.images) })

-- a way back that is found
pub way-found : (r : Option Way) (o : Option (ℕ × List ℕ)) → MatchOption r (o ≡ None) (λ way. o ≡ Some (way.number, way.images.items)) → is_some r ≡ is_some o
way-found None o e = sym (ap is_some e)
way-found (Some way) o e = sym (ap is_some e)

-- the images of the derived problem's labels are as many as its sets
pub start-images : (problem : NamedProblem) (derived : Derivation) (start : Changed) → derived ≡ derivation (unnamed problem) → start ≡ unchanged derived.problem → length start.images ≡ length derived.sets
start-images problem derived start is e =
    ap (λ (c : Changed). length c.images) e ∙ ap (λ (d : Derivation). length (unchanged d.problem).images) is
    ∙ length-map' (λ (label : ℕ). Some label) (count_from 0 (length (named_derived (unnamed problem)).names)) ∙ length-count_from 0 (length (named_derived (unnamed problem)).names)
    ∙ names-sets problem ∙ ap (λ (d : Derivation). length d.sets) (sym is)
