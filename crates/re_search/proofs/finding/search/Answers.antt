use Rattle.std.proofs.Common.{List, ◌≡◌, ◌+◌, ◌-◌, ◌<◌, ◌≤◌, [], Ok, Err, suc, flat_map, take, length, get_or, ap, ◌∙◌, subst, arith}
use Rattle.re_labels.proofs.Membership.{length-count_from}
use Rattle.std.specs.List.{AllByRecursion}
use Rattle.re_problem.specs.NamedProblems.{IsNamedProblem}
use Rattle.re_cert.specs.Bounds.{BoundStep, next_problems}
use Rattle.re_search.proofs.FoundSteps.{found_steps}
use Rattle.re_search.proofs.Findings.{answers-found, answers-none, answers-refused, bound-found, depth-at, depths, finds-true, finds-valid, none_yet, one_tree, tree_of}
use Rattle.re_search.proofs.Walks.{loop-done, loop-found, loop-passed, loop-refused, walks-cut, walks-nodes}
use Rattle.re_search.specs.Walking.{Walks, least_depth}
use Rattle.re_search.specs.declared.walking.Walked.TheVariants.{Found, Passed}
use Rattle.re_search.proofs.finding.search.Goals as goal

pub walk-requires-clause-nodes : goal.walk-requires-clause-nodes
walk-requires-clause-nodes c = walks-nodes c.args.tree.now.kind c.args.tree.now.first.now none_yet c.loop-left.count (flat_map (tree_of c.args.tree.now.kind c.args.tree.now.most c.args.tree.now.first.now) (take (c.loop-left.left - least_depth c.args.tree.now.kind c.args.depth) (depths c.args.tree.now.kind c.args.depth))) [] c.loop-left.path.items (omega arith) c.loop-left.invariant

pub walk-requires-clause-cut : goal.walk-requires-clause-cut
walk-requires-clause-cut c = walks-cut c.args.tree.now.kind c.args.tree.now.first.now none_yet c.loop-left.count (flat_map (tree_of c.args.tree.now.kind c.args.tree.now.most c.args.tree.now.first.now) (take (c.loop-left.left - least_depth c.args.tree.now.kind c.args.depth) (depths c.args.tree.now.kind c.args.depth))) [] c.loop-left.path.items (omega arith) c.loop-left.invariant

pub loop-left-preserved : goal.loop-left-preserved
loop-left-preserved c =
    let least = c.least_depth-least.ensures.least in
    let low : least_depth c.args.tree.now.kind c.args.depth ≤ c.loop-left.left = omega arith in
    let size = length-count_from (least_depth c.args.tree.now.kind c.args.depth) (suc c.args.depth - least_depth c.args.tree.now.kind c.args.depth) in
    let there : (c.loop-left.left - least_depth c.args.tree.now.kind c.args.depth) < length (depths c.args.tree.now.kind c.args.depth) = omega arith in
    let at : c.loop-left.left ≡ get_or (depths c.args.tree.now.kind c.args.depth) (c.loop-left.left - least_depth c.args.tree.now.kind c.args.depth) c.loop-left.left = depth-at (least_depth c.args.tree.now.kind c.args.depth) (suc c.args.depth - least_depth c.args.tree.now.kind c.args.depth) c.loop-left.left low (omega arith) in
    let more : (c.loop-left.left - least_depth c.args.tree.now.kind c.args.depth) + 1 ≡ c.loop-left.left + 1 - least_depth c.args.tree.now.kind c.args.depth = omega arith in
    subst (λ n. Walks c.args.tree.now.kind c.args.tree.now.first.now none_yet (flat_map (tree_of c.args.tree.now.kind c.args.tree.now.most c.args.tree.now.first.now) (take n (depths c.args.tree.now.kind c.args.depth))) [] c.walk.new.path.items (Ok (Passed c.in-Ok-Passed.next))) more
    (loop-passed c.args.tree.now.kind c.args.tree.now.first.now (tree_of c.args.tree.now.kind c.args.tree.now.most c.args.tree.now.first.now) (depths c.args.tree.now.kind c.args.depth) none_yet c.loop-left.count c.in-Ok-Passed.next [] c.loop-left.path.items c.walk.new.path.items (c.loop-left.left - least_depth c.args.tree.now.kind c.args.depth) c.loop-left.left there at c.loop-left.invariant (one_tree c.args.tree.now.kind c.args.depth c.args.tree.now.most c.args.tree.now.first.now c.loop-left.left c.loop-left.path.items c.walk.new.path.items c.loop-left.count c.walk.result (Ok (Passed c.in-Ok-Passed.next)) c.loop-left.invariant.3 (c.in-Ok-Passed.is ∙ ap (λ f. Ok f) c.in-Ok-Passed.field-0-is) c.walk.ensures))

pub certificate-requires : goal.certificate-requires
certificate-requires c =
    let least = c.least_depth-least.ensures.least in
    let low : least_depth c.args.tree.now.kind c.args.depth ≤ c.loop-left.left = omega arith in
    let size = length-count_from (least_depth c.args.tree.now.kind c.args.depth) (suc c.args.depth - least_depth c.args.tree.now.kind c.args.depth) in
    let there : (c.loop-left.left - least_depth c.args.tree.now.kind c.args.depth) < length (depths c.args.tree.now.kind c.args.depth) = omega arith in
    let at : c.loop-left.left ≡ get_or (depths c.args.tree.now.kind c.args.depth) (c.loop-left.left - least_depth c.args.tree.now.kind c.args.depth) c.loop-left.left = depth-at (least_depth c.args.tree.now.kind c.args.depth) (suc c.args.depth - least_depth c.args.tree.now.kind c.args.depth) c.loop-left.left low (omega arith) in
    bound-found c.args.tree.now.kind c.args.depth c.args.tree.now.most c.args.tree.now.first.now c.walk.new.path.items c.names-names.ensures.problem c.requires.depth (loop-found c.args.tree.now.kind c.args.tree.now.first.now (tree_of c.args.tree.now.kind c.args.tree.now.most c.args.tree.now.first.now) (depths c.args.tree.now.kind c.args.depth) none_yet c.loop-left.count [] c.loop-left.path.items c.walk.new.path.items (c.loop-left.left - least_depth c.args.tree.now.kind c.args.depth) c.loop-left.left there at c.loop-left.invariant (one_tree c.args.tree.now.kind c.args.depth c.args.tree.now.most c.args.tree.now.first.now c.loop-left.left c.loop-left.path.items c.walk.new.path.items c.loop-left.count c.walk.result (Ok Found) c.loop-left.invariant.3 (c.in-Ok-Found.is ∙ ap (λ f. Ok f) c.in-Ok-Found.field-0-is) c.walk.ensures))

pub returns-in-Ok-clause-answer : goal.returns-in-Ok-clause-answer
returns-in-Ok-clause-answer c =
    let least = c.least_depth-least.ensures.least in
    let low : least_depth c.args.tree.now.kind c.args.depth ≤ c.loop-left.left = omega arith in
    let size = length-count_from (least_depth c.args.tree.now.kind c.args.depth) (suc c.args.depth - least_depth c.args.tree.now.kind c.args.depth) in
    let there : (c.loop-left.left - least_depth c.args.tree.now.kind c.args.depth) < length (depths c.args.tree.now.kind c.args.depth) = omega arith in
    let at : c.loop-left.left ≡ get_or (depths c.args.tree.now.kind c.args.depth) (c.loop-left.left - least_depth c.args.tree.now.kind c.args.depth) c.loop-left.left = depth-at (least_depth c.args.tree.now.kind c.args.depth) (suc c.args.depth - least_depth c.args.tree.now.kind c.args.depth) c.loop-left.left low (omega arith) in
    answers-found c.args.tree.now.kind c.args.depth c.args.tree.now.most c.args.tree.now.first.now c.walk.new.path.items c.in-Ok.certificate c.names-names.ensures.problem c.requires.depth (loop-found c.args.tree.now.kind c.args.tree.now.first.now (tree_of c.args.tree.now.kind c.args.tree.now.most c.args.tree.now.first.now) (depths c.args.tree.now.kind c.args.depth) none_yet c.loop-left.count [] c.loop-left.path.items c.walk.new.path.items (c.loop-left.left - least_depth c.args.tree.now.kind c.args.depth) c.loop-left.left there at c.loop-left.invariant (one_tree c.args.tree.now.kind c.args.depth c.args.tree.now.most c.args.tree.now.first.now c.loop-left.left c.loop-left.path.items c.walk.new.path.items c.loop-left.count c.walk.result (Ok Found) c.loop-left.invariant.3 (c.in-Ok-Found.is ∙ ap (λ f. Ok f) c.in-Ok-Found.field-0-is) c.walk.ensures)) c.in-Ok.ensures

pub returns-in-Ok-clause-valid : goal.returns-in-Ok-clause-valid
returns-in-Ok-clause-valid c =
    let least = c.least_depth-least.ensures.least in
    let low : least_depth c.args.tree.now.kind c.args.depth ≤ c.loop-left.left = omega arith in
    let size = length-count_from (least_depth c.args.tree.now.kind c.args.depth) (suc c.args.depth - least_depth c.args.tree.now.kind c.args.depth) in
    let there : (c.loop-left.left - least_depth c.args.tree.now.kind c.args.depth) < length (depths c.args.tree.now.kind c.args.depth) = omega arith in
    let at : c.loop-left.left ≡ get_or (depths c.args.tree.now.kind c.args.depth) (c.loop-left.left - least_depth c.args.tree.now.kind c.args.depth) c.loop-left.left = depth-at (least_depth c.args.tree.now.kind c.args.depth) (suc c.args.depth - least_depth c.args.tree.now.kind c.args.depth) c.loop-left.left low (omega arith) in
    finds-valid c.args.tree.now.kind c.args.depth c.args.tree.now.most c.args.tree.now.first.now c.walk.new.path.items c.in-Ok.certificate c.names-names.ensures.problem c.requires.depth (loop-found c.args.tree.now.kind c.args.tree.now.first.now (tree_of c.args.tree.now.kind c.args.tree.now.most c.args.tree.now.first.now) (depths c.args.tree.now.kind c.args.depth) none_yet c.loop-left.count [] c.loop-left.path.items c.walk.new.path.items (c.loop-left.left - least_depth c.args.tree.now.kind c.args.depth) c.loop-left.left there at c.loop-left.invariant (one_tree c.args.tree.now.kind c.args.depth c.args.tree.now.most c.args.tree.now.first.now c.loop-left.left c.loop-left.path.items c.walk.new.path.items c.loop-left.count c.walk.result (Ok Found) c.loop-left.invariant.3 (c.in-Ok-Found.is ∙ ap (λ f. Ok f) c.in-Ok-Found.field-0-is) c.walk.ensures)) c.in-Ok.ensures

pub returns-in-Ok-clause-means : goal.returns-in-Ok-clause-means
returns-in-Ok-clause-means c =
    let least = c.least_depth-least.ensures.least in
    let low : least_depth c.args.tree.now.kind c.args.depth ≤ c.loop-left.left = omega arith in
    let size = length-count_from (least_depth c.args.tree.now.kind c.args.depth) (suc c.args.depth - least_depth c.args.tree.now.kind c.args.depth) in
    let there : (c.loop-left.left - least_depth c.args.tree.now.kind c.args.depth) < length (depths c.args.tree.now.kind c.args.depth) = omega arith in
    let at : c.loop-left.left ≡ get_or (depths c.args.tree.now.kind c.args.depth) (c.loop-left.left - least_depth c.args.tree.now.kind c.args.depth) c.loop-left.left = depth-at (least_depth c.args.tree.now.kind c.args.depth) (suc c.args.depth - least_depth c.args.tree.now.kind c.args.depth) c.loop-left.left low (omega arith) in
    finds-true c.args.tree.now.kind c.args.depth c.args.tree.now.most c.args.tree.now.first.now c.walk.new.path.items c.in-Ok.certificate c.names-names.ensures.problem c.requires.depth (loop-found c.args.tree.now.kind c.args.tree.now.first.now (tree_of c.args.tree.now.kind c.args.tree.now.most c.args.tree.now.first.now) (depths c.args.tree.now.kind c.args.depth) none_yet c.loop-left.count [] c.loop-left.path.items c.walk.new.path.items (c.loop-left.left - least_depth c.args.tree.now.kind c.args.depth) c.loop-left.left there at c.loop-left.invariant (one_tree c.args.tree.now.kind c.args.depth c.args.tree.now.most c.args.tree.now.first.now c.loop-left.left c.loop-left.path.items c.walk.new.path.items c.loop-left.count c.walk.result (Ok Found) c.loop-left.invariant.3 (c.in-Ok-Found.is ∙ ap (λ f. Ok f) c.in-Ok-Found.field-0-is) c.walk.ensures)) c.in-Ok.ensures
    (subst (λ (s : List BoundStep). AllByRecursion IsNamedProblem (next_problems s)) (c.as_slice.ensures.value) c.problems.ensures)

pub returns-in-Err-clause-answer : goal.returns-in-Err-clause-answer
returns-in-Err-clause-answer c =
    let least = c.least_depth-least.ensures.least in
    let low : least_depth c.args.tree.now.kind c.args.depth ≤ c.loop-left.left = omega arith in
    let size = length-count_from (least_depth c.args.tree.now.kind c.args.depth) (suc c.args.depth - least_depth c.args.tree.now.kind c.args.depth) in
    let there : (c.loop-left.left - least_depth c.args.tree.now.kind c.args.depth) < length (depths c.args.tree.now.kind c.args.depth) = omega arith in
    let at : c.loop-left.left ≡ get_or (depths c.args.tree.now.kind c.args.depth) (c.loop-left.left - least_depth c.args.tree.now.kind c.args.depth) c.loop-left.left = depth-at (least_depth c.args.tree.now.kind c.args.depth) (suc c.args.depth - least_depth c.args.tree.now.kind c.args.depth) c.loop-left.left low (omega arith) in
    answers-refused c.args.tree.now.kind c.args.depth c.args.tree.now.most c.args.tree.now.first.now c.walk.new.path.items c.in-Err.fault (loop-refused c.args.tree.now.kind c.args.tree.now.first.now (tree_of c.args.tree.now.kind c.args.tree.now.most c.args.tree.now.first.now) (depths c.args.tree.now.kind c.args.depth) none_yet c.loop-left.count [] c.loop-left.path.items c.walk.new.path.items (c.loop-left.left - least_depth c.args.tree.now.kind c.args.depth) c.loop-left.left c.in-Err.fault there at c.loop-left.invariant (one_tree c.args.tree.now.kind c.args.depth c.args.tree.now.most c.args.tree.now.first.now c.loop-left.left c.loop-left.path.items c.walk.new.path.items c.loop-left.count c.walk.result (Err c.in-Err.fault) c.loop-left.invariant.3 (c.in-Err.is) c.walk.ensures))

pub returns-clause-answer : goal.returns-clause-answer
returns-clause-answer c =
    let least = c.least_depth-least.ensures.least in
    let size = length-count_from (least_depth c.args.tree.now.kind c.args.depth) (suc c.args.depth - least_depth c.args.tree.now.kind c.args.depth) in
    let all : length (depths c.args.tree.now.kind c.args.depth) ≤ (c.loop-left.left - least_depth c.args.tree.now.kind c.args.depth) = omega arith in
    answers-none c.args.tree.now.kind c.args.depth c.args.tree.now.most c.args.tree.now.first.now c.loop-left.count c.loop-left.path.items (loop-done c.args.tree.now.kind c.args.tree.now.first.now (tree_of c.args.tree.now.kind c.args.tree.now.most c.args.tree.now.first.now) (depths c.args.tree.now.kind c.args.depth) none_yet c.loop-left.count [] c.loop-left.path.items (c.loop-left.left - least_depth c.args.tree.now.kind c.args.depth) all c.loop-left.invariant)

pub walk-requires-clause-short : goal.walk-requires-clause-short
walk-requires-clause-short c = let same = ap length c.loop-left.invariant.3 in let low = c.loop-left-test.true in let few = c.requires.depth in omega arith

pub returns-in-Ok-clause-found_steps : goal.returns-in-Ok-clause-found_steps
returns-in-Ok-clause-found_steps c =
    found_steps c.args.tree.now.kind c.args.depth c.args.tree.now.most c.args.tree.now.first.now c.in-Ok.certificate (returns-in-Ok-clause-answer c)
