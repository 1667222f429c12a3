use Rattle.std.proofs.Common.{◌++◌, ◌∙◌, ap, append_assoc, sym}
use Rattle.std.proofs.lemmas.Result.{on_ok_weaker}
use Rattle.std.specs.Prelude.{codes}
use Rattle.re_evidence.specs.Lines.{class_text}
use Rattle.re_judging.specs.Judging.{class_line}
use Rattle.re_judging.proofs.judging.push_class_line.Goals as goal

pub returns-in_ok-push_class-in-Some : goal.returns-in_ok-push_class-in-Some
returns-in_ok-push_class-in-Some c =
    let old = c.args.text.now.items in
    let with = codes "holds: with identifiers: " in
    let name = class_text c.in-Some.class in
    let end = codes "\n" in
    on_ok_weaker c.push_words-in-Some.result
    (λ e. e ∙ ap (λ t. t ++ end) (c.in_ok-push_class-in-Some.ensures ∙ ap (λ t. t ++ name) c.in_ok-push_words-in-Some.ensures)
    ∙ append_assoc (old ++ with) name end ∙ append_assoc old with (name ++ end) ∙ ap (λ class. old ++ class_line class) (sym c.in-Some.is))
    c.push_words-in-Some.ensures
