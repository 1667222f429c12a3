use Rattle.std.proofs.Common.{◌++◌, ap, ◌∙◌, codes}
use Rattle.std.specs.Fmt.{decimal}
use Rattle.re_describe.proofs.Growing.{new3}
use Rattle.re_describe.proofs.endings.step_text.Goals as goal

pub returns : goal.returns
returns c =
    new3 c.new-text.result.items c.push_count.new.text.items c.push_count-2.new.text.items c.push_between.new.text.items _ _ _ c.new-text.ensures.items c.in_ok-push_count.ensures
    (c.in_ok-push_count-2.ensures ∙ ap (λ n. c.push_count.new.text.items ++ (codes ", from problem " ++ decimal n)) c.saturating_sub.ensures) c.in_ok-push_between.ensures
