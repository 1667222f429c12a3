use Rattle.re_search.proofs.Paths.{going-left}
use Rattle.std.proofs.Common.{◌≡◌, ℕ, ◌+◌, ◌-◌, ◌<◌, ◌≤◌, ◌++◌, ◌∷◌, [], Ok, Err, suc, flat_map, take, length, get_or, refl, sym, ap, ◌∙◌, subst, arith, rules, length-append}
use Rattle.re_labels.proofs.Membership.{length-count_from, length-map'}
use Rattle.re_labels.specs.Lists.{count_from}
use Rattle.re_problem.specs.NamedProblems.{NamedProblem}
use Rattle.re_cert.specs.Bounds.{is_lower}
use Rattle.re_changes.specs.Changes.{Changed, all_changes, unchanged}
use Rattle.re_changes.specs.declared.change.Change.TheVariants.{Merge}
use Rattle.re_search.proofs.PassedOver.{passed-are}
use Rattle.re_search.proofs.PathSteps.{truncated}
use Rattle.re_search.proofs.Walks.{all_of_changes, all_of_counts, child-found, child-passed, child-refused, counted-at, is-change, level-along, loop-done, loop-found, loop-passed, loop-refused, of_change, of_count, one_change, one_count, same-at, start_at, start-images, step-is, visit-cut, visit-inner, visit-leaf, visit-success, visited, walks-cut, walks-nodes}
use Rattle.re_search.specs.Nodes.{behind, preorder}
use Rattle.re_step.specs.Derivations.{Derivation}
use Rattle.re_search.specs.Walking.{Walks, node_at}
use Rattle.re_search.specs.declared.walking.Visited.TheVariants.{Cut, Inner, Leaf, Success}
use Rattle.re_search.specs.declared.walking.Walked.TheVariants.{Found, Passed}
use Rattle.re_search.proofs.walking.+walk.Goals as goal

pub walk-walk_children-requires : goal.walk-walk_children-requires
walk-walk_children-requires t c =
    let v = visited c.args.tree.now.kind c.args.tree.now.first.now c.args.left c.args.path.now.items c.as_slice.result.now c.visit.result (Ok (Inner c.in-Ok-Inner.derived)) c.as_slice.ensures.value (c.in-Ok-Inner.is ∙ ap (λ f. Ok f) c.in-Ok-Inner.field-0-is) c.visit.ensures in
    let low : 0 < c.args.left = going-left c.args.tree.now.kind (node_at c.args.tree.now.first.now c.args.path.now.items c.args.left) v.1 in
    (search rules, (c.requires.most, (omega arith, (omega arith, (omega arith, v.3)))))

pub walk-returns-in-Ok-Success : goal.walk-returns-in-Ok-Success
walk-returns-in-Ok-Success t c =
    visit-success c.args.tree.now.kind c.args.tree.now.first.now c.args.tree.now.most c.args.left c.args.path.now.items c.args.count (omega arith) (visited c.args.tree.now.kind c.args.tree.now.first.now c.args.left c.args.path.now.items c.as_slice.result.now c.visit.result (Ok Success) c.as_slice.ensures.value (c.in-Ok-Success.is ∙ ap (λ f. Ok f) c.in-Ok-Success.field-0-is) c.visit.ensures)

pub walk-returns-in-Ok-Leaf : goal.walk-returns-in-Ok-Leaf
walk-returns-in-Ok-Leaf t c =
    let v = visited c.args.tree.now.kind c.args.tree.now.first.now c.args.left c.args.path.now.items c.as_slice.result.now c.visit.result (Ok Leaf) c.as_slice.ensures.value (c.in-Ok-Leaf.is ∙ ap (λ f. Ok f) c.in-Ok-Leaf.field-0-is) c.visit.ensures in
    visit-leaf c.args.tree.now.kind c.args.tree.now.first.now c.args.tree.now.most c.args.left c.args.path.now.items c.args.count (record { nodes = c.args.count.nodes + 1; cut = c.args.count.cut }) (omega arith) v.0 v.1 refl refl

pub walk-returns-in-Ok-Cut : goal.walk-returns-in-Ok-Cut
walk-returns-in-Ok-Cut t c =
    let v = visited c.args.tree.now.kind c.args.tree.now.first.now c.args.left c.args.path.now.items c.as_slice.result.now c.visit.result (Ok Cut) c.as_slice.ensures.value (c.in-Ok-Cut.is ∙ ap (λ f. Ok f) c.in-Ok-Cut.field-0-is) c.visit.ensures in
    visit-cut c.args.tree.now.kind c.args.tree.now.first.now c.args.tree.now.most c.args.left c.args.path.now.items c.args.count (record { nodes = c.args.count.nodes + 1; cut = c.args.count.cut + 1 }) (omega arith) v.0 v.1 v.2 refl refl

pub walk-returns-in-Ok-Inner : goal.walk-returns-in-Ok-Inner
walk-returns-in-Ok-Inner t c =
    let v = visited c.args.tree.now.kind c.args.tree.now.first.now c.args.left c.args.path.now.items c.as_slice.result.now c.visit.result (Ok (Inner c.in-Ok-Inner.derived)) c.as_slice.ensures.value (c.in-Ok-Inner.is ∙ ap (λ f. Ok f) c.in-Ok-Inner.field-0-is) c.visit.ensures in
    visit-inner c.args.tree.now.kind c.args.tree.now.first.now c.args.tree.now.most c.args.left c.args.path.now.items c.walk_children.new.path.items c.args.count (record { nodes = c.args.count.nodes + 1; cut = c.args.count.cut }) c.walk_children.result (omega arith) v.0 v.1 v.2 refl refl c.walk_children.ensures

pub walk_changed-changed-requires : goal.walk_changed-changed-requires
walk_changed-changed-requires t c =
    is-change (is_lower c.args.tree.now.kind) (length c.args.made.now.problem.names) c.as_slice-change-items.result.now c.loop-change.change-index (Merge 0 0) (c.as_slice-change-items.ensures.value ∙ c.in-Ok.ensures ∙ (λ i. all_changes (c.has_lower_steps.ensures i) ((c.len-labels.ensures.len ∙ ap length (c.names.ensures.names ∙ ap (λ (p : NamedProblem). p.names) c.problem.ensures)) i))) c.loop-change-test.true

pub walk_changed-walk_changed-requires : goal.walk_changed-walk_changed-requires
walk_changed-walk_changed-requires t c = (
  search rules,
  (
    c.requires.most,
    (
      omega arith,
      (
        (let same = ap length c.loop-change.invariant.3 in omega arith),
        (
          walks-nodes c.args.tree.now.kind c.args.tree.now.first.now c.args.count c.loop-change.count (flat_map (of_change c.args.tree.now.kind c.args.tree.now.first.now c.args.tree.now.most c.args.left c.args.path.now.items (c.args.changes - 1) c.args.made.now) (take c.loop-change.change-index c.as_slice-change-items.result.now)) c.args.path.now.items c.loop-change.path.items c.requires.nodes c.loop-change.invariant,
          (
            walks-cut c.args.tree.now.kind c.args.tree.now.first.now c.args.count c.loop-change.count (flat_map (of_change c.args.tree.now.kind c.args.tree.now.first.now c.args.tree.now.most c.args.left c.args.path.now.items (c.args.changes - 1) c.args.made.now) (take c.loop-change.change-index c.as_slice-change-items.result.now)) c.args.path.now.items c.loop-change.path.items c.requires.cut c.loop-change.invariant,
            (
              level-along c.args.tree.now.first.now c.args.level.now c.args.path.now.items c.loop-change.path.items (suc c.args.left) c.loop-change.invariant.3 c.requires.level,
              ap (λ (made : Changed). length made.images) c.in-Ok-changed.ensures ∙ length-map' _ c.args.made.now.images ∙ c.requires.images,
            ),
          ),
        ),
      ),
    ),
  ),
)

pub walk_changed-returns-then-are_passed : goal.walk_changed-returns-then-are_passed
walk_changed-returns-then-are_passed t c =
    let yes = c.if-are_passed.true in
    let size = c.len-labels.ensures.len ∙ ap length (c.names.ensures.names ∙ ap (λ (p : NamedProblem). p.names) c.problem.ensures) in
    passed-are c.args.tree.now.kind c.args.tree.now.first.now c.args.tree.now.most c.args.left c.args.changes c.args.path.now.items c.args.made.now c.args.count c.passed.result (c.are_passed.ensures.kind yes) (c.are_passed.ensures.left yes)
    (c.passed.ensures c.args.tree.now.first.now c.args.tree.now.most c.args.path.now.items c.args.made.now (sym size)
    (subst (λ steps. (number : ℕ) → number ≤ length steps → length (behind c.args.tree.now.first.now steps number).names + c.args.changes ≡ c.len-labels.result → 8 + c.args.changes < c.len-labels.result) c.as_slice.ensures.value (c.are_passed.ensures.none yes)))

pub walk_changed-returns-in-Ok-Found : goal.walk_changed-returns-in-Ok-Found
walk_changed-returns-in-Ok-Found t c =
    all_of_changes c.args.tree.now.kind c.args.tree.now.first.now c.args.tree.now.most c.args.left c.args.changes c.args.path.now.items c.walk_changed.new.path.items c.args.made.now c.as_slice-change-items.result.now c.args.count (Ok Found) c.if-changes-eq0.false (c.as_slice-change-items.ensures.value ∙ c.in-Ok.ensures ∙ (λ i. all_changes (c.has_lower_steps.ensures i) ((c.len-labels.ensures.len ∙ ap length (c.names.ensures.names ∙ ap (λ (p : NamedProblem). p.names) c.problem.ensures)) i)))
    (loop-found c.args.tree.now.kind c.args.tree.now.first.now (of_change c.args.tree.now.kind c.args.tree.now.first.now c.args.tree.now.most c.args.left c.args.path.now.items (c.args.changes - 1) c.args.made.now) c.as_slice-change-items.result.now c.args.count c.loop-change.count c.args.path.now.items c.loop-change.path.items c.walk_changed.new.path.items c.loop-change.change-index (get_or c.as_slice-change-items.result.now c.loop-change.change-index (Merge 0 0)) c.loop-change-test.true (same-at c.as_slice-change-items.result.now c.loop-change.change-index (Merge 0 0) c.loop-change-test.true)
    c.loop-change.invariant (one_change c.args.tree.now.kind c.args.tree.now.first.now c.args.tree.now.most c.args.left (c.args.changes - 1) c.args.path.now.items c.loop-change.path.items c.walk_changed.new.path.items c.args.made.now c.in-Ok-changed.next (get_or c.as_slice-change-items.result.now c.loop-change.change-index (Merge 0 0)) c.loop-change.count c.walk_changed.result (Ok Found) c.loop-change.invariant.3 c.in-Ok-changed.ensures (c.in-Ok-Found.is ∙ ap (λ f. Ok f) c.in-Ok-Found.field-0-is) c.walk_changed.ensures))

pub walk_changed-returns-in-Err : goal.walk_changed-returns-in-Err
walk_changed-returns-in-Err t c =
    all_of_changes c.args.tree.now.kind c.args.tree.now.first.now c.args.tree.now.most c.args.left c.args.changes c.args.path.now.items c.walk_changed.new.path.items c.args.made.now c.as_slice-change-items.result.now c.args.count (Err c.in-Err.fault) c.if-changes-eq0.false (c.as_slice-change-items.ensures.value ∙ c.in-Ok.ensures ∙ (λ i. all_changes (c.has_lower_steps.ensures i) ((c.len-labels.ensures.len ∙ ap length (c.names.ensures.names ∙ ap (λ (p : NamedProblem). p.names) c.problem.ensures)) i)))
    (loop-refused c.args.tree.now.kind c.args.tree.now.first.now (of_change c.args.tree.now.kind c.args.tree.now.first.now c.args.tree.now.most c.args.left c.args.path.now.items (c.args.changes - 1) c.args.made.now) c.as_slice-change-items.result.now c.args.count c.loop-change.count c.args.path.now.items c.loop-change.path.items c.walk_changed.new.path.items c.loop-change.change-index (get_or c.as_slice-change-items.result.now c.loop-change.change-index (Merge 0 0)) c.in-Err.fault c.loop-change-test.true (same-at c.as_slice-change-items.result.now c.loop-change.change-index (Merge 0 0) c.loop-change-test.true)
    c.loop-change.invariant (one_change c.args.tree.now.kind c.args.tree.now.first.now c.args.tree.now.most c.args.left (c.args.changes - 1) c.args.path.now.items c.loop-change.path.items c.walk_changed.new.path.items c.args.made.now c.in-Ok-changed.next (get_or c.as_slice-change-items.result.now c.loop-change.change-index (Merge 0 0)) c.loop-change.count c.walk_changed.result (Err c.in-Err.fault) c.loop-change.invariant.3 c.in-Ok-changed.ensures (c.in-Err.is) c.walk_changed.ensures))

pub walk_changed-loop-change-preserved : goal.walk_changed-loop-change-preserved
walk_changed-loop-change-preserved t c =
    loop-passed c.args.tree.now.kind c.args.tree.now.first.now (of_change c.args.tree.now.kind c.args.tree.now.first.now c.args.tree.now.most c.args.left c.args.path.now.items (c.args.changes - 1) c.args.made.now) c.as_slice-change-items.result.now c.args.count c.loop-change.count c.in-Ok-Passed.next c.args.path.now.items c.loop-change.path.items c.walk_changed.new.path.items c.loop-change.change-index (get_or c.as_slice-change-items.result.now c.loop-change.change-index (Merge 0 0)) c.loop-change-test.true (same-at c.as_slice-change-items.result.now c.loop-change.change-index (Merge 0 0) c.loop-change-test.true)
    c.loop-change.invariant (one_change c.args.tree.now.kind c.args.tree.now.first.now c.args.tree.now.most c.args.left (c.args.changes - 1) c.args.path.now.items c.loop-change.path.items c.walk_changed.new.path.items c.args.made.now c.in-Ok-changed.next (get_or c.as_slice-change-items.result.now c.loop-change.change-index (Merge 0 0)) c.loop-change.count c.walk_changed.result (Ok (Passed c.in-Ok-Passed.next)) c.loop-change.invariant.3 c.in-Ok-changed.ensures (c.in-Ok-Passed.is ∙ ap (λ f. Ok f) c.in-Ok-Passed.field-0-is) c.walk_changed.ensures)

pub walk_changed-returns : goal.walk_changed-returns
walk_changed-returns t c =
    all_of_changes c.args.tree.now.kind c.args.tree.now.first.now c.args.tree.now.most c.args.left c.args.changes c.args.path.now.items c.loop-change.path.items c.args.made.now c.as_slice-change-items.result.now c.args.count (Ok (Passed c.loop-change.count)) c.if-changes-eq0.false (c.as_slice-change-items.ensures.value ∙ c.in-Ok.ensures ∙ (λ i. all_changes (c.has_lower_steps.ensures i) ((c.len-labels.ensures.len ∙ ap length (c.names.ensures.names ∙ ap (λ (p : NamedProblem). p.names) c.problem.ensures)) i)))
    (loop-done c.args.tree.now.kind c.args.tree.now.first.now (of_change c.args.tree.now.kind c.args.tree.now.first.now c.args.tree.now.most c.args.left c.args.path.now.items (c.args.changes - 1) c.args.made.now) c.as_slice-change-items.result.now c.args.count c.loop-change.count c.args.path.now.items c.loop-change.path.items c.loop-change.change-index c.loop-change-test.false c.loop-change.invariant)

pub walk-visit-requires : goal.walk-visit-requires
walk-visit-requires t c = let same = ap length c.as_slice.ensures.value in let short = c.requires.short in omega arith

pub walk_child-walk-requires : goal.walk_child-walk-requires
walk_child-walk-requires t c =
    let push : c.push.new.path.items ≡ c.args.path.now.items ++ c.in-Ok.step ∷ [] = search rules in
    let size = ap length push in
    let more = length-append c.args.path.now.items (c.in-Ok.step ∷ []) in
    let short = c.requires.short in
    (search rules, (c.requires.most, (omega arith, (c.requires.nodes, c.requires.cut))))

pub walk_child-returns-in-Ok-Passed : goal.walk_child-returns-in-Ok-Passed
walk_child-returns-in-Ok-Passed t c =
    let push : c.push.new.path.items ≡ c.args.path.now.items ++ c.in-Ok.step ∷ [] = search rules in
    let w = subst (λ r. Walks c.args.tree.now.kind c.args.tree.now.first.now c.args.count (preorder c.args.tree.now.kind c.args.tree.now.most c.args.left (node_at c.args.tree.now.first.now c.push.new.path.items c.args.left)) c.push.new.path.items c.walk.new.path.items r) (c.in-Ok-Passed.is ∙ ap (λ f. Ok f) c.in-Ok-Passed.field-0-is) c.walk.ensures in
    child-passed c.args.tree.now.kind c.args.tree.now.first.now c.args.tree.now.most c.args.left c.args.path.now.items c.push.new.path.items c.walk.new.path.items c.truncate.new.self.items c.in-Ok.step c.args.made.now c.args.count c.in-Ok-Passed.next push (step-is (is_lower c.args.tree.now.kind) (node_at c.args.tree.now.first.now c.args.path.now.items (suc c.args.left)).problem c.args.level.now c.args.made.now c.in-Ok.step c.requires.level c.in-Ok.ensures) w
    (truncated c.args.path.now.items c.push.new.path.items c.walk.new.path.items c.truncate.new.self.items c.in-Ok.step (length c.as_slice-depth.result.now) (ap length c.as_slice-depth.ensures.value) push w.3 c.truncate.ensures.items)

pub walk_child-returns-in-Ok-Found : goal.walk_child-returns-in-Ok-Found
walk_child-returns-in-Ok-Found t c =
    let push : c.push.new.path.items ≡ c.args.path.now.items ++ c.in-Ok.step ∷ [] = search rules in
    child-found c.args.tree.now.kind c.args.tree.now.first.now c.args.tree.now.most c.args.left c.args.path.now.items c.push.new.path.items c.walk.new.path.items c.in-Ok.step c.args.made.now c.args.count push (step-is (is_lower c.args.tree.now.kind) (node_at c.args.tree.now.first.now c.args.path.now.items (suc c.args.left)).problem c.args.level.now c.args.made.now c.in-Ok.step c.requires.level c.in-Ok.ensures)
    (subst (λ r. Walks c.args.tree.now.kind c.args.tree.now.first.now c.args.count (preorder c.args.tree.now.kind c.args.tree.now.most c.args.left (node_at c.args.tree.now.first.now c.push.new.path.items c.args.left)) c.push.new.path.items c.walk.new.path.items r) (c.in-Ok-Found.is ∙ ap (λ f. Ok f) c.in-Ok-Found.field-0-is) c.walk.ensures)

pub walk_child-returns-in-Err : goal.walk_child-returns-in-Err
walk_child-returns-in-Err t c =
    let push : c.push.new.path.items ≡ c.args.path.now.items ++ c.in-Ok.step ∷ [] = search rules in
    child-refused c.args.tree.now.kind c.args.tree.now.first.now c.args.tree.now.most c.args.left c.args.path.now.items c.push.new.path.items c.walk.new.path.items c.in-Ok.step c.args.made.now c.args.count c.in-Err.fault push (step-is (is_lower c.args.tree.now.kind) (node_at c.args.tree.now.first.now c.args.path.now.items (suc c.args.left)).problem c.args.level.now c.args.made.now c.in-Ok.step c.requires.level c.in-Ok.ensures)
    (subst (λ r. Walks c.args.tree.now.kind c.args.tree.now.first.now c.args.count (preorder c.args.tree.now.kind c.args.tree.now.most c.args.left (node_at c.args.tree.now.first.now c.push.new.path.items c.args.left)) c.push.new.path.items c.walk.new.path.items r) c.in-Err.is c.walk.ensures)

pub walk_children-walk_changed-requires : goal.walk_children-walk_changed-requires
walk_children-walk_changed-requires t c = (
  search rules,
  (
    c.requires.most,
    (
      omega arith,
      (
        (let same = ap length c.loop-changes.invariant.3 in omega arith),
        (
          walks-nodes c.args.tree.now.kind c.args.tree.now.first.now c.args.count c.loop-changes.count (flat_map (of_count c.args.tree.now.kind c.args.tree.now.first.now c.args.tree.now.most c.args.left c.args.path.now.items (start_at c.args.tree.now.kind c.args.tree.now.first.now c.args.tree.now.most c.args.left c.args.path.now.items)) (take c.loop-changes.changes (count_from 0 (suc c.args.tree.now.most)))) c.args.path.now.items c.loop-changes.path.items c.requires.nodes c.loop-changes.invariant,
          (
            walks-cut c.args.tree.now.kind c.args.tree.now.first.now c.args.count c.loop-changes.count (flat_map (of_count c.args.tree.now.kind c.args.tree.now.first.now c.args.tree.now.most c.args.left c.args.path.now.items (start_at c.args.tree.now.kind c.args.tree.now.first.now c.args.tree.now.most c.args.left c.args.path.now.items)) (take c.loop-changes.changes (count_from 0 (suc c.args.tree.now.most)))) c.args.path.now.items c.loop-changes.path.items c.requires.cut c.loop-changes.invariant,
            (
              level-along c.args.tree.now.first.now (record { rows = c.derived.inside.rows; sets = c.derived.inside.sets }) c.args.path.now.items c.loop-changes.path.items (suc c.args.left) c.loop-changes.invariant.3 (record { rows = ap (λ (d : Derivation). d.rows) (c.derived.view_is ∙ c.requires.derived); sets = ap (λ (d : Derivation). d.sets) (c.derived.view_is ∙ c.requires.derived) }),
              start-images (node_at c.args.tree.now.first.now c.args.path.now.items (suc c.args.left)).problem _ c.unchanged-start.result (c.derived.view_is ∙ c.requires.derived) c.unchanged-start.ensures,
            ),
          ),
        ),
      ),
    ),
  ),
)

pub walk_children-returns-in-Ok-Found : goal.walk_children-returns-in-Ok-Found
walk_children-returns-in-Ok-Found t c =
    let low : c.loop-changes.changes < length (count_from 0 (suc c.args.tree.now.most)) = omega (arith, (length-count_from 0 (suc c.args.tree.now.most))) in
    all_of_counts c.args.tree.now.kind c.args.tree.now.first.now c.args.tree.now.most c.args.left c.args.path.now.items c.walk_changed.new.path.items c.args.count (Ok Found)
    (loop-found c.args.tree.now.kind c.args.tree.now.first.now (of_count c.args.tree.now.kind c.args.tree.now.first.now c.args.tree.now.most c.args.left c.args.path.now.items (start_at c.args.tree.now.kind c.args.tree.now.first.now c.args.tree.now.most c.args.left c.args.path.now.items)) (count_from 0 (suc c.args.tree.now.most)) c.args.count c.loop-changes.count c.args.path.now.items c.loop-changes.path.items c.walk_changed.new.path.items c.loop-changes.changes c.loop-changes.changes low (counted-at (suc c.args.tree.now.most) c.loop-changes.changes (omega arith))
    c.loop-changes.invariant (one_count c.args.tree.now.kind c.args.tree.now.first.now c.args.tree.now.most c.args.left c.loop-changes.changes c.args.path.now.items c.loop-changes.path.items c.walk_changed.new.path.items c.unchanged-start.result (start_at c.args.tree.now.kind c.args.tree.now.first.now c.args.tree.now.most c.args.left c.args.path.now.items) c.loop-changes.count c.walk_changed.result (Ok Found) c.loop-changes.invariant.3 (c.unchanged-start.ensures ∙ ap (λ (d : Derivation). unchanged d.problem) (c.derived.view_is ∙ c.requires.derived)) (c.in-Ok-Found.is ∙ ap (λ f. Ok f) c.in-Ok-Found.field-0-is) c.walk_changed.ensures))

pub walk_children-returns-in-Err : goal.walk_children-returns-in-Err
walk_children-returns-in-Err t c =
    let low : c.loop-changes.changes < length (count_from 0 (suc c.args.tree.now.most)) = omega (arith, (length-count_from 0 (suc c.args.tree.now.most))) in
    all_of_counts c.args.tree.now.kind c.args.tree.now.first.now c.args.tree.now.most c.args.left c.args.path.now.items c.walk_changed.new.path.items c.args.count (Err c.in-Err.fault)
    (loop-refused c.args.tree.now.kind c.args.tree.now.first.now (of_count c.args.tree.now.kind c.args.tree.now.first.now c.args.tree.now.most c.args.left c.args.path.now.items (start_at c.args.tree.now.kind c.args.tree.now.first.now c.args.tree.now.most c.args.left c.args.path.now.items)) (count_from 0 (suc c.args.tree.now.most)) c.args.count c.loop-changes.count c.args.path.now.items c.loop-changes.path.items c.walk_changed.new.path.items c.loop-changes.changes c.loop-changes.changes c.in-Err.fault low (counted-at (suc c.args.tree.now.most) c.loop-changes.changes (omega arith))
    c.loop-changes.invariant (one_count c.args.tree.now.kind c.args.tree.now.first.now c.args.tree.now.most c.args.left c.loop-changes.changes c.args.path.now.items c.loop-changes.path.items c.walk_changed.new.path.items c.unchanged-start.result (start_at c.args.tree.now.kind c.args.tree.now.first.now c.args.tree.now.most c.args.left c.args.path.now.items) c.loop-changes.count c.walk_changed.result (Err c.in-Err.fault) c.loop-changes.invariant.3 (c.unchanged-start.ensures ∙ ap (λ (d : Derivation). unchanged d.problem) (c.derived.view_is ∙ c.requires.derived)) (c.in-Err.is) c.walk_changed.ensures))

pub walk_children-loop-changes-preserved : goal.walk_children-loop-changes-preserved
walk_children-loop-changes-preserved t c =
    let low : c.loop-changes.changes < length (count_from 0 (suc c.args.tree.now.most)) = omega (arith, (length-count_from 0 (suc c.args.tree.now.most))) in
    loop-passed c.args.tree.now.kind c.args.tree.now.first.now (of_count c.args.tree.now.kind c.args.tree.now.first.now c.args.tree.now.most c.args.left c.args.path.now.items (start_at c.args.tree.now.kind c.args.tree.now.first.now c.args.tree.now.most c.args.left c.args.path.now.items)) (count_from 0 (suc c.args.tree.now.most)) c.args.count c.loop-changes.count c.in-Ok-Passed.next c.args.path.now.items c.loop-changes.path.items c.walk_changed.new.path.items c.loop-changes.changes c.loop-changes.changes low (counted-at (suc c.args.tree.now.most) c.loop-changes.changes (omega arith))
    c.loop-changes.invariant (one_count c.args.tree.now.kind c.args.tree.now.first.now c.args.tree.now.most c.args.left c.loop-changes.changes c.args.path.now.items c.loop-changes.path.items c.walk_changed.new.path.items c.unchanged-start.result (start_at c.args.tree.now.kind c.args.tree.now.first.now c.args.tree.now.most c.args.left c.args.path.now.items) c.loop-changes.count c.walk_changed.result (Ok (Passed c.in-Ok-Passed.next)) c.loop-changes.invariant.3 (c.unchanged-start.ensures ∙ ap (λ (d : Derivation). unchanged d.problem) (c.derived.view_is ∙ c.requires.derived)) (c.in-Ok-Passed.is ∙ ap (λ f. Ok f) c.in-Ok-Passed.field-0-is) c.walk_changed.ensures)

pub walk_children-returns : goal.walk_children-returns
walk_children-returns t c =
    let high : length (count_from 0 (suc c.args.tree.now.most)) ≤ c.loop-changes.changes = omega (arith, (length-count_from 0 (suc c.args.tree.now.most))) in
    all_of_counts c.args.tree.now.kind c.args.tree.now.first.now c.args.tree.now.most c.args.left c.args.path.now.items c.loop-changes.path.items c.args.count (Ok (Passed c.loop-changes.count))
    (loop-done c.args.tree.now.kind c.args.tree.now.first.now (of_count c.args.tree.now.kind c.args.tree.now.first.now c.args.tree.now.most c.args.left c.args.path.now.items (start_at c.args.tree.now.kind c.args.tree.now.first.now c.args.tree.now.most c.args.left c.args.path.now.items)) (count_from 0 (suc c.args.tree.now.most)) c.args.count c.loop-changes.count c.args.path.now.items c.loop-changes.path.items c.loop-changes.changes high c.loop-changes.invariant)
