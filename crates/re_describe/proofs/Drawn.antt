-- What stands behind an end of a graph, and its passive nodes in a picture, one after another.
use Rattle.std.proofs.Common.{◌≡◌, ℕ, ◌+◌, Bool, true, false, cond, List, ◌∷◌, ◌++◌, sym, ap, ◌∙◌}
use Rattle.std.specs.List.{list_any}
use Rattle.re_cover.specs.Graphs.{same_end}
use Rattle.re_cover.specs.declared.ends.GraphEnd.{GraphEnd}
use Rattle.re_describe.proofs.Growing.{more}
use Rattle.re_describe.specs.GraphLines.{behind, other_ends}
use Rattle.re_describe.specs.Pictures.{ends_drawing, passive_drawing, passive_drawings}

-- one passive node more
behind_step : (first : List GraphEnd) (others : List (List GraphEnd)) (here : GraphEnd) (b : Bool) → b ≡ list_any (λ other. same_end other here) first
    → behind (first ∷ others) here ≡ cond b (other_ends first here) (behind others here)
behind_step first others here b e = ap (λ b. cond b (other_ends first here) (behind others here)) (sym e)

pub behind_here : (all others : List (List GraphEnd)) (first ends ends' : List GraphEnd) (here : GraphEnd) (b : Bool) (old new : List ℕ) → first ∷ others ≡ all → ends ≡ first → ends' ≡ first
    → b ≡ list_any (λ other. same_end other here) ends → b ≡ true → new ≡ old ++ other_ends ends' here → new ≡ old ++ behind all here
behind_here all others first ends ends' here b old new whole same same' test yes_b grown =
    grown ∙ ap (λ e. old ++ other_ends e here) same'
    ∙ ap (λ t. old ++ t) (sym (behind_step first others here true (sym yes_b ∙ test ∙ ap (list_any (λ other. same_end other here)) same)))
    ∙ ap (λ l. old ++ behind l here) whole

pub behind_later : (all others : List (List GraphEnd)) (first ends : List GraphEnd) (here : GraphEnd) (b : Bool) (old new : List ℕ) {rest : List (List GraphEnd)} → first ∷ others ≡ all → ends ≡ first
    → b ≡ list_any (λ other. same_end other here) ends → b ≡ false → new ≡ old ++ behind rest here → rest ≡ others → new ≡ old ++ behind all here
behind_later all others first ends here b old new whole same test no_b grown rest_is =
    grown ∙ ap (λ l. old ++ behind l here) rest_is
    ∙ ap (λ t. old ++ t) (sym (behind_step first others here false (sym no_b ∙ test ∙ ap (list_any (λ other. same_end other here)) same)))
    ∙ ap (λ l. old ++ behind l here) whole

-- the drawing of one passive node more
pub drawn_all : (places place : ℕ) (all others : List (List GraphEnd)) (first : List GraphEnd) (old mid new : List ℕ) {rest : List (List GraphEnd)} → first ∷ others ≡ all
    → mid ≡ old ++ (passive_drawing places place first ++ ends_drawing place 0 first) → new ≡ mid ++ passive_drawings places (place + 1) rest → rest ≡ others
    → new ≡ old ++ passive_drawings places place all
drawn_all places place all others first old mid new whole drawn grown rest_is =
    more old mid new (passive_drawing places place first ++ ends_drawing place 0 first) (passive_drawings places (place + 1) others) drawn (grown ∙ ap (λ l. mid ++ passive_drawings places (place + 1) l) rest_is)
    ∙ ap (λ l. old ++ passive_drawings places place l) whole
