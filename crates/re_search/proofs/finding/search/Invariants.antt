use Rattle.std.proofs.Common.{◌-◌, [], Ok, flat_map, take}
use Rattle.re_search.proofs.Findings.{depths, none_yet, tree_of}
use Rattle.re_search.specs.Walking.{Walks, least_depth}
use Rattle.re_search.specs.declared.walking.Walked.TheVariants.{Passed}
use Rattle.re_search.proofs.finding.search.Given as goal

abbrev pub invariant-loop-left : goal.invariant-loop-left
invariant-loop-left l =
    Walks l.tree.kind l.tree.first.now none_yet (flat_map (tree_of l.tree.kind l.tree.most l.tree.first.now) (take (l.left - least_depth l.tree.kind l.depth) (depths l.tree.kind l.depth))) []
    l.path.items (Ok (Passed l.count))
