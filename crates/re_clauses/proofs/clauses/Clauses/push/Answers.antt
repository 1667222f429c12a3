use Rattle.std.proofs.Common.{◌≡◌, ◌≤◌, ◌++◌, ◌∷◌, [], ◌∙◌, ℕ, List, ap, arith, length}
use Rattle.std.proofs.lemmas.List.{length-append}
use Rattle.re_clauses.specs.Tables.{AreEnds, pieces}
use Rattle.re_clauses.proofs.Pieces.{more_ends, more_pieces}
use Rattle.re_clauses.proofs.clauses.Clauses.push.Goals as goal

ends_are : (all clause both ends more : List ℕ) (end : ℕ) → AreEnds 0 ends (length all) → both ≡ all ++ clause → end ≡ length both → more ≡ ends ++ end ∷ [] → AreEnds 0 more (length both)
ends_are all clause both ends more end are is last put =
    let longer : length all ≤ length both = let count = ap length is in let sum = length-append all clause in omega (arith, count, sum) in
    rw (put, last) (more_ends 0 ends (length all) (length both) longer are)

pieces_are : (all clause both ends more : List ℕ) (end : ℕ) (clauses : List (List ℕ)) → AreEnds 0 ends (length all) → pieces all 0 ends ≡ clauses → both ≡ all ++ clause → end ≡ length both → more ≡ ends ++ end ∷ []
    → pieces both 0 more ≡ clauses ++ clause ∷ []
pieces_are all clause both ends more end clauses are old is last put =
    rw (put, last, is) (more_pieces all clause 0 ends are ∙ ap (λ l. l ++ clause ∷ []) old)

pub invariant_of-self-in-Ok : goal.invariant_of-self-in-Ok
invariant_of-self-in-Ok c =
    ends_are c.self.inside.literals.items c.args.clause.now c.extend_from_slice.new.self.items c.self.inside.ends.items c.push.new.self.items _ c.self.invariant c.in_ok-extend_from_slice.ensures.items (ap length c.as_slice-end.ensures.value) c.in-Ok.ensures.items

pub returns-in-Ok-clause-pushed : goal.returns-in-Ok-clause-pushed
returns-in-Ok-clause-pushed c =
    pieces_are c.self.inside.literals.items c.args.clause.now c.extend_from_slice.new.self.items c.self.inside.ends.items c.push.new.self.items _ c.args.self.now c.self.invariant c.self.view_is c.in_ok-extend_from_slice.ensures.items (ap length c.as_slice-end.ensures.value) c.in-Ok.ensures.items
