use Rattle.re_settle.proofs.lines.push_class_lines.Goals as goal
use Rattle.re_evidence.specs.Lines.{class_text}
use Rattle.re_settle.specs.Lines.{shows_lines}
use Rattle.std.proofs.Common.{◌++◌, ◌∙◌, ap, append_assoc}
use Rattle.std.proofs.lemmas.Result.{on_ok_weaker}
use Rattle.std.specs.Prelude.{codes}

pub returns : goal.returns
returns c =
    let old = c.args.text.now.items in
    let with = codes "with identifiers: " in
    let name = class_text c.class_of.result in
    let end = codes "\n" in
    let shows = shows_lines c.args.names.now c.args.classified.settled c.args.classified.further c.args.classified.above c.args.classified.length in
    on_ok_weaker c.push_shows.result
    (λ e. e ∙ ap (λ t. t ++ shows) (c.in_ok-push_words-2.ensures ∙ ap (λ t. t ++ end) (c.in_ok-push_class.ensures ∙ ap (λ t. t ++ name) c.in_ok-push_words.ensures))
    ∙ append_assoc ((old ++ with) ++ name) end shows ∙ append_assoc (old ++ with) name (end ++ shows) ∙ append_assoc old with (name ++ (end ++ shows))
    ∙ ap (λ k. old ++ (with ++ (class_text k ++ (end ++ shows)))) c.class_of.ensures)
    c.push_shows.ensures
