-- Lists one behind the other, by where each of them ends.
use Rattle.std.proofs.Common.{◌≡◌, ◌<◌, ◌≤◌, ◌-◌, ℕ, zero, suc, List, [], ◌∷◌, ◌++◌, drop, get_or, length, take, refl, ap, ◌∙◌, arith}
use Rattle.std.proofs.Math.Seq.{drop-append_seam, take-length}
use Rattle.std.proofs.lemmas.List.{drop-append-le, length-append, length-drop, take-append-le}
use Rattle.std.specs.Prelude.{slice_range}
use Rattle.re_clauses.specs.Tables.{AreEnds, pieces}

pub no_pieces : (all : List ℕ) (start : ℕ) → pieces all start [] ≡ []
unfolding pieces
no_pieces all start = refl

pub no_ends : AreEnds 0 [] 0
unfolding AreEnds
no_ends = refl

pub length-pieces : (all : List ℕ) (start : ℕ) (ends : List ℕ) → length (pieces all start ends) ≡ length ends
unfolding pieces
length-pieces all start [] = refl
length-pieces all start (end ∷ ends) = ap suc (length-pieces all end ends)

-- ---- one more behind them
pub within : (start : ℕ) (ends : List ℕ) (last : ℕ) → AreEnds start ends last → start ≤ last
unfolding AreEnds
within start [] last are = omega (arith, are)
within start (end ∷ ends) last are = let less = within end ends last are.1 in let first = are.0 in omega (arith, first, less)

pub more_ends : (start : ℕ) (ends : List ℕ) (last more : ℕ) → last ≤ more → AreEnds start ends last → AreEnds start (ends ++ more ∷ []) more
unfolding AreEnds
more_ends start [] last more less are = (omega (arith, are, less), refl)
more_ends start (end ∷ ends) last more less are = (are.0, more_ends end ends last more less are.1)

-- what stands behind doesn't count
range_kept : (all more : List ℕ) (start end : ℕ) → start ≤ end → end ≤ length all → slice_range (all ++ more) start end ≡ slice_range all start end
range_kept all more start end less few =
    let inside : start ≤ length all = omega (arith, less, few) in
    let enough : end - start ≤ length (drop start all) = let is = length-drop start all in omega (arith, is, few, less) in
    ap (take (end - start)) (drop-append-le start all more inside) ∙ take-append-le (end - start) (drop start all) more enough

range_last : (all more : List ℕ) (start : ℕ) → start ≡ length all → slice_range (all ++ more) start (length (all ++ more)) ≡ more
range_last all more start is =
    ap (λ n. take (length (all ++ more) - n) (drop n (all ++ more))) is
    ∙ (ap (take (length (all ++ more) - length all)) (drop-append_seam all more)
    ∙ (ap (λ n. take n more) (let both = length-append all more in omega (arith, both)) ∙ take-length more))

pub more_pieces : (all more : List ℕ) (start : ℕ) (ends : List ℕ) → AreEnds start ends (length all) → pieces (all ++ more) start (ends ++ length (all ++ more) ∷ []) ≡ pieces all start ends ++ more ∷ []
unfolding AreEnds pieces
more_pieces all more start [] are = ap (λ l. l ∷ []) (range_last all more start are)
more_pieces all more start (end ∷ ends) are =
    ap (λ l. l ∷ pieces (all ++ more) end (ends ++ length (all ++ more) ∷ [])) (range_kept all more start end are.0 (within end ends (length all) are.1))
    ∙ ap (λ l. slice_range all start end ∷ l) (more_pieces all more end ends are.1)

-- ---- one of them
pub piece_at : (all : List ℕ) (start : ℕ) (ends : List ℕ) (place : ℕ) → place < length ends → get_or (pieces all start ends) place [] ≡ slice_range all (get_or (start ∷ ends) place 0) (get_or ends place 0)
unfolding pieces
piece_at all start [] place some = absurd (omega (arith, some))
piece_at all start (end ∷ ends) zero some = refl
piece_at all start (end ∷ ends) (suc place) some = piece_at all end ends place (omega (arith, some))

pub piece_inside : (start : ℕ) (ends : List ℕ) (last place : ℕ) → place < length ends → AreEnds start ends last → (get_or (start ∷ ends) place 0 ≤ get_or ends place 0) × (get_or ends place 0 ≤ last)
unfolding AreEnds
piece_inside start [] last place some are = absurd (omega (arith, some))
piece_inside start (end ∷ ends) last zero some are = (are.0, within end ends last are.1)
piece_inside start (end ∷ ends) last (suc place) some are = piece_inside end ends last place (omega (arith, some)) are.1
