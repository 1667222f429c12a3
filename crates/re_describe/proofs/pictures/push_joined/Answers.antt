use Rattle.std.proofs.Common.{◌++◌, ap, ◌∙◌}
use Rattle.std.proofs.lemmas.Result.{on_ok_weaker}
use Rattle.re_describe.proofs.Growing.{more}
use Rattle.re_describe.specs.Pictures.{ends_drawing, passive_drawing}
use Rattle.re_describe.proofs.pictures.push_joined.Goals as goal

pub returns : goal.returns
returns c = on_ok_weaker c.push_lines.result
    (λ grown. more c.args.text.now.items c.push_passive.new.text.items c.push_lines.new.text.items (passive_drawing c.args.places c.args.place c.args.ends.now) (ends_drawing c.args.place 0 c.args.ends.now)
    (c.in_ok-push_passive.ensures ∙ ap (λ e. c.args.text.now.items ++ passive_drawing c.args.places c.args.place e) c.ends.ensures.ends)
    (grown ∙ ap (λ e. c.push_passive.new.text.items ++ ends_drawing c.args.place 0 e) c.ends-2.ensures.ends))
    c.push_lines.ensures
