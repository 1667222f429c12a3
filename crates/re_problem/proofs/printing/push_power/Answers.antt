use Rattle.std.proofs.Common.{◌≡◌, ◌∙◌, ◌+◌, ◌++◌, ◌∷◌, [], ap, cond, codes, sym, subst}
use Rattle.std.specs.Prelude.{OnOk}
use Rattle.std.specs.Fmt.{decimal}
use Rattle.re_labels.proofs.Tests.{eqb-apart}
use Rattle.std.proofs.lemmas.Fmt.{decimal_digit}
use Rattle.re_problem.specs.CanonicalTexts.{power_text}
use Rattle.re_problem.proofs.printing.push_power.Goals as goal

pub returns-then-count-lt10-clause-text : goal.returns-then-count-lt10-clause-text
returns-then-count-lt10-clause-text c =
    let digit : 94 ∷ (48 + c.args.count) ∷ [] ≡ power_text c.args.count =
    ap (λ l. 94 ∷ l) (sym (decimal_digit c.args.count c.if-count-lt10.true)) ∙ ap (λ b. cond b [] (codes "^" ++ decimal c.args.count)) (sym (eqb-apart c.args.count 1 c.if-count-eq1.false)) in
    subst (λ l. OnOk c.push_all.result (c.push_all.new.text.items ≡ c.args.text.now.items ++ l)) digit c.push_all.ensures.text
