use Rattle.std.proofs.Common.{◌≡◌, ◌∙◌, ◌+◌, ◌++◌, ◌∷◌, [], ap, append_assoc, cond, codes, sym, arith, ℕ, ◌<◌}
use Rattle.std.specs.Fmt.{decimal}
use Rattle.re_labels.proofs.Tests.{eqb-apart}
use Rattle.std.proofs.lemmas.Fmt.{decimal_digit}
use Rattle.re_problem.specs.CanonicalTexts.{power_text}
use Rattle.re_problem.proofs.printing.add_power.Goals as goal

digit_power : (count : ℕ) → 1 < count → count < 10 → 94 ∷ (48 + count) ∷ [] ≡ power_text count
digit_power count some few =
    ap (λ l. 94 ∷ l) (sym (decimal_digit count few)) ∙ ap (λ b. cond b [] (codes "^" ++ decimal count)) (sym (eqb-apart count 1 (λ e. absurd (omega arith))))

pub returns-clause-power : goal.returns-clause-power
returns-clause-power c front ended =
    c.push-3.ensures.items ∙ ap (λ l. l ++ 32 ∷ []) (c.push-2.ensures.items ∙ ap (λ l. l ++ (48 + c.args.count) ∷ []) (c.push.ensures.items ∙ ap (λ l. l ++ 94 ∷ []) (c.pop.ensures.items front 32 ended)))
    ∙ ap (λ l. l ++ codes " ") (append_assoc front (94 ∷ []) ((48 + c.args.count) ∷ []) ∙ ap (λ l. front ++ l) (digit_power c.args.count c.requires.some c.requires.few))
