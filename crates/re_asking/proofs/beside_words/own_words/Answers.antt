use Rattle.std.proofs.Common.{length, take, ap, ◌∙◌, arith}
use Rattle.std.specs.Prelude.{string_bytes}
use Rattle.re_asking.proofs.CutWords.{own_taken}
use Rattle.re_asking.proofs.beside_words.own_words.Goals as goal

pub returns : goal.returns
returns c =
    own_taken string_bytes c.args.words.now c.split_at.result.1.now c.split_at-2.result.0.now c.given_place-place.result c.split_at.ensures.back c.split_at-2.ensures.front
    (λ none. let one = c.split_at.ensures.front_len in let front = ap length (c.split_at.ensures.front ∙ ap (take 1) none) in absurd (omega (arith, one, front))) c.given_place-place.ensures.place
