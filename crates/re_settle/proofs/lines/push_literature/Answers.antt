use Rattle.re_settle.proofs.lines.push_literature.Goals as goal
use Rattle.re_settle.specs.Lines.{way_line}
use Rattle.re_settle.specs.declared.types.Way.TheVariants.{Flexible}
use Rattle.std.proofs.Common.{◌++◌, ◌∙◌, ap, append_assoc}
use Rattle.std.proofs.lemmas.Result.{on_ok_weaker}
use Rattle.std.specs.Fmt.{decimal}
use Rattle.std.specs.Prelude.{codes}

pub returns : goal.returns
returns c =
    let order = codes "literature: order N^(1/" ++ decimal c.args.count in
    let end = codes ")\n" in
    let line = way_line c.args.names.now Flexible in
    on_ok_weaker c.push_way.result
    (λ e. e ∙ ap (λ t. t ++ line) (c.in_ok-push_words.ensures ∙ ap (λ t. t ++ end) c.in_ok-push_counted.ensures)
    ∙ append_assoc (c.args.text.now.items ++ order) end line ∙ append_assoc c.args.text.now.items order (end ++ line))
    c.push_way.ensures
