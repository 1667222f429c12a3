use Rattle.std.proofs.Common.{◌≡◌, ◌<◌, ◌∷◌, [], ◌∙◌, ℕ, List, ap, arith, get_or, length, slice_range, sym}
use Rattle.std.proofs.lemmas.List.{get_or_default}
use Rattle.re_clauses.specs.Tables.{pieces}
use Rattle.re_clauses.proofs.Pieces.{length-pieces, piece_at, piece_inside}
use Rattle.re_clauses.proofs.clauses.Clauses.clause.Goals as goal

pub start_of-start-requires : goal.start_of-start-requires
start_of-start-requires c =
    let count = length-pieces c.self.inside.literals.items 0 c.self.inside.ends.items in
    let same = ap length c.self.view_is in
    let asked = c.requires in
    let ends = ap length c.as_slice.ensures.value in
    omega (arith, count, same, asked, ends)

pub index-end-requires : goal.index-end-requires
index-end-requires c =
    let count = length-pieces c.self.inside.literals.items 0 c.self.inside.ends.items in
    let same = ap length c.self.view_is in
    let asked = c.requires in
    let ends = ap length c.as_slice.ensures.value in
    let len = c.as_slice.ensures.len in
    omega (arith, count, same, asked, ends, len)

few : (all ends : List ℕ) (clauses : List (List ℕ)) (place : ℕ) → pieces all 0 ends ≡ clauses → place < length clauses → place < length ends
few all ends clauses place is some = let count = length-pieces all 0 ends in let same = ap length is in omega (arith, count, same, some)

end_is : (ends : List ℕ) (place end : ℕ) → place < length ends → end ≡ get_or ends place end → end ≡ get_or ends place 0
end_is ends place end some is = is ∙ get_or_default ends place end 0 some

pub piece-requires-clause-order : goal.piece-requires-clause-order
piece-requires-clause-order c =
    let some = few c.self.inside.literals.items c.self.inside.ends.items c.args.self.now c.args.place c.self.view_is c.requires in
    let order = (piece_inside 0 c.self.inside.ends.items (length c.self.inside.literals.items) c.args.place some c.self.invariant).0 in
    let start = c.start_of-start.ensures ∙ ap (λ l. get_or (0 ∷ l) c.args.place 0) c.as_slice.ensures.value in
    let end = end_is c.self.inside.ends.items c.args.place c.index-end.result.now some c.index-end.ensures in
    omega (arith, order, start, end)

pub piece-requires-clause-inside : goal.piece-requires-clause-inside
piece-requires-clause-inside c =
    let some = few c.self.inside.literals.items c.self.inside.ends.items c.args.self.now c.args.place c.self.view_is c.requires in
    let inside = (piece_inside 0 c.self.inside.ends.items (length c.self.inside.literals.items) c.args.place some c.self.invariant).1 in
    let all = ap length c.as_slice-2.ensures.value in
    let end = end_is c.self.inside.ends.items c.args.place c.index-end.result.now some c.index-end.ensures in
    omega (arith, inside, all, end)

pub returns : goal.returns
returns c =
    let some = few c.self.inside.literals.items c.self.inside.ends.items c.args.self.now c.args.place c.self.view_is c.requires in
    let start = c.start_of-start.ensures ∙ ap (λ l. get_or (0 ∷ l) c.args.place 0) c.as_slice.ensures.value in
    let end = end_is c.self.inside.ends.items c.args.place c.index-end.result.now some c.index-end.ensures in
    c.piece.ensures
    ∙ (ap (λ l. slice_range l c.start_of-start.result c.index-end.result.now) c.as_slice-2.ensures.value
    ∙ (ap (λ n. slice_range c.self.inside.literals.items n c.index-end.result.now) start
    ∙ (ap (slice_range c.self.inside.literals.items (get_or (0 ∷ c.self.inside.ends.items) c.args.place 0)) end
    ∙ (sym (piece_at c.self.inside.literals.items 0 c.self.inside.ends.items c.args.place some)
    ∙ ap (λ l. get_or l c.args.place []) c.self.view_is))))
