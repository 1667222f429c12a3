use Rattle.std.proofs.Common.{codes}
use Rattle.std.proofs.lemmas.Result.{on_ok_weaker}
use Rattle.std.specs.Fmt.{decimal}
use Rattle.re_describe.proofs.Growing.{side_made}
use Rattle.re_describe.proofs.problems.push_side.Goals as goal

pub returns : goal.returns
returns c = on_ok_weaker c.push_number.result
    (λ f. side_made c.args.text.now.items c.push_between.new.text.items c.push_number.new.text.items c.args.words.now (decimal c.args.degree) (codes ", configurations: ") (decimal c.args.configs)
    c.in_ok-push_between.ensures f)
    c.push_number.ensures
