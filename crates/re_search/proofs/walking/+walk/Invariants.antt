use Rattle.std.proofs.Common.{◌+◌, ◌-◌, ◌*◌, Ok, suc, flat_map, take}
use Rattle.re_labels.specs.Lists.{count_from}
use Rattle.re_cert.specs.Bounds.{is_lower}
use Rattle.re_changes.specs.Changes.{changed_by, changed_times, unchanged}
use Rattle.re_problem.specs.NamedProblems.{unnamed}
use Rattle.re_step.specs.Derivations.{named_derived}
use Rattle.re_search.specs.Walking.{Walks, below_made, node_at}
use Rattle.re_search.specs.declared.walking.Walked.TheVariants.{Passed}
use Rattle.re_search.proofs.walking.+walk.Given as goal

abbrev pub decreases-walk : goal.decreases-walk
decreases-walk l = l.left * 32

abbrev pub decreases-walk_children : goal.decreases-walk_children
decreases-walk_children l = l.left * 32 + 20

abbrev pub decreases-walk_changed : goal.decreases-walk_changed
decreases-walk_changed l = l.left * 32 + 2 + l.changes

abbrev pub decreases-walk_child : goal.decreases-walk_child
decreases-walk_child l = l.left * 32 + 1

abbrev pub invariant-walk_children-loop-changes : goal.invariant-walk_children-loop-changes
invariant-walk_children-loop-changes l =
    Walks l.tree.kind l.tree.first.now l.fn.count
    (flat_map (λ m. flat_map (below_made l.tree.kind l.tree.most l.left (node_at l.tree.first.now l.fn.path.items (suc l.left))) (changed_times (is_lower l.tree.kind) m (unchanged (named_derived (unnamed (node_at l.tree.first.now l.fn.path.items (suc l.left)).problem)))))
    (take l.changes (count_from 0 (suc l.tree.most))))
    l.fn.path.items l.path.items (Ok (Passed l.count))

abbrev pub invariant-walk_changed-loop-change : goal.invariant-walk_changed-loop-change
invariant-walk_changed-loop-change l =
    Walks l.tree.kind l.tree.first.now l.fn.count
    (flat_map (λ change. flat_map (below_made l.tree.kind l.tree.most l.left (node_at l.tree.first.now l.fn.path.items (suc l.left))) (changed_times (is_lower l.tree.kind) (l.changes - 1) (changed_by change l.made)))
    (take l.change-index l.change-items))
    l.fn.path.items l.path.items (Ok (Passed l.count))
