use Rattle.std.proofs.Common.{ap, refl, ◌∙◌}
use Rattle.re_table_texts.proofs.ReadBack.{text_back}
use Rattle.re_table_texts.specs.TableTexts.{table_input}
use Rattle.re_table_texts.specs.declared.table_texts.TableForm.TheVariants.{Faster, Plain}
use Rattle.re_table_texts.proofs.printing.print_table.Goals as goal

pub returns-clause-read : goal.returns-clause-read
returns-clause-read c =
    ap (table_input Plain) c.in_ok-text.ensures ∙ text_back Plain c.args.problem.now c.args.table.now c.limits.ensures.named c.limits.ensures.within c.radius-radius.ensures.table c.requires (λ same. absurd (cc)) refl

pub returns-clause-faster : goal.returns-clause-faster
returns-clause-faster c = λ stands.
    ap (table_input Faster) c.in_ok-text.ensures ∙ text_back Faster c.args.problem.now c.args.table.now c.limits.ensures.named c.limits.ensures.within c.radius-radius.ensures.table c.requires (λ same. absurd (cc)) stands
