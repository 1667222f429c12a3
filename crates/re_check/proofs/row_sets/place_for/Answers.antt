use Rattle.std.proofs.Common.{rules, subst}
use Rattle.std.proofs.lemmas.List.Sorted.{answers_always}
use Rattle.re_check.proofs.RowSets.{IsFound, found-place, searched}
use Rattle.re_problem.specs.Steps.{SetEntry}
use Rattle.re_check.proofs.row_sets.place_for.Goals as goal

pub returns-in-Ok : goal.returns-in-Ok
returns-in-Ok c =
    let facts = c.binary_search_by_key.ensures in
    let by_key = facts.position (λ (e : SetEntry). e.set) (answers_always _ _ _ (λ f a r g called. search rules)) in
    let found = subst (IsFound c.args.entries.now c.args.set) c.in-Ok.is (searched c.args.entries.now c.requires c.args.set c.binary_search_by_key.result facts.bound by_key) in
    found-place c.args.entries.now c.args.set c.entry.inside.set c.in-Ok.place c.index-entries-place.result c.entry.inside.label c.requires found.0 found.1 c.index-entries-place.is c.entry.view_is c.count-count.ensures.set
    c.count-count-in-Ok.ensures.set

pub returns-in-Err : goal.returns-in-Err
returns-in-Err c =
    let facts = c.binary_search_by_key.ensures in
    let by_key = facts.position (λ (e : SetEntry). e.set) (answers_always _ _ _ (λ f a r g called. search rules)) in
    subst (IsFound c.args.entries.now c.args.set) c.in-Err.is (searched c.args.entries.now c.requires c.args.set c.binary_search_by_key.result facts.bound by_key)
