-- The steps of the search for the place of an end.
use Rattle.std.proofs.Common.{◌≡◌, ℕ, suc, ◌+◌, Bool, true, false, cond, List, ◌∷◌, sym, ap, ◌∙◌, arith}
use Rattle.std.specs.List.{list_any}
use Rattle.re_cover.specs.declared.ends.GraphEnd.{GraphEnd}
use Rattle.re_cover.specs.Graphs.{place_among, same_end, standing_from}

-- one step of the search
step : (number : ℕ) (first : List GraphEnd) (others : List (List GraphEnd)) (here : GraphEnd) (b : Bool) → b ≡ list_any (λ other. same_end other here) first
    → standing_from number (first ∷ others) here ≡ cond b (record { node = number; port = suc (place_among first here) }) (standing_from (suc number) others here)
step number first others here b e = ap (λ b. cond b (record { node = number; port = suc (place_among first here) }) (standing_from (suc number) others here)) (sym e)

pub found-here : (number : ℕ) (all others : List (List GraphEnd)) (first ends ends' : List GraphEnd) (here : GraphEnd) (b : Bool) (p : ℕ) → first ∷ others ≡ all → ends ≡ first → ends' ≡ first
    → b ≡ list_any (λ other. same_end other here) ends → b ≡ true → p ≡ place_among ends' here → record { node = number; port = p + 1 } ≡ standing_from number all here
found-here number all others first ends ends' here b p whole same same' test yes_b place =
    let port : p + 1 ≡ suc (place_among first here) = (let z : p + 1 ≡ suc p = omega arith in z) ∙ ap suc (place ∙ ap (λ e. place_among e here) same') in
    ap (λ q. record { node = number; port = q }) port
    ∙ sym (step number first others here true (sym yes_b ∙ test ∙ ap (list_any (λ other. same_end other here)) same))
    ∙ ap (λ l. standing_from number l here) whole

pub found-later : (number : ℕ) (all others : List (List GraphEnd)) (first ends : List GraphEnd) (here : GraphEnd) (b : Bool) (r : GraphEnd) {rest : List (List GraphEnd)} → first ∷ others ≡ all → ends ≡ first
    → b ≡ list_any (λ other. same_end other here) ends → b ≡ false → r ≡ standing_from (number + 1) rest here → rest ≡ others → r ≡ standing_from number all here
found-later number all others first ends here b r whole same test no_b found rest_is =
    found ∙ (λ i. standing_from ((let z : number + 1 ≡ suc number = omega arith in z) i) (rest_is i) here)
    ∙ sym (step number first others here false (sym no_b ∙ test ∙ ap (list_any (λ other. same_end other here)) same))
    ∙ ap (λ l. standing_from number l here) whole
