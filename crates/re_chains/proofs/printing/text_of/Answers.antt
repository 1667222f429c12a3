use Rattle.std.proofs.Common.{◌≡◌, ◌++◌, ◌∙◌, None, ap, codes, subst, sym}
use Rattle.re_cert.specs.CertificateTexts.{certificate_fault, certificate_of, text_lines}
use Rattle.re_texts.specs.PrintedCertificates.{certificate_text}
use Rattle.re_problem.specs.CanonicalTexts.{canonical}
use Rattle.re_chains.proofs.GivenReading.{given_text_law}
use Rattle.re_chains.specs.GivenTexts.{IsReadAs, given_text}
use Rattle.re_chains.proofs.printing.text_of.Goals as goal

pub returns-clause-read : goal.returns-clause-read
returns-clause-read c =
    let printed = c.in_ok-text.ensures in
    let is : c.extend_from_slice.new.self.items ≡ given_text c.args.bound.now c.args.input.now =
    c.in_ok-extend_from_slice.ensures.items ∙ ap (λ more. c.push_words.new.text.items ++ more) (c.as_slice.ensures.value ∙ c.in_ok-more.ensures)
    ∙ ap (λ text. text ++ canonical c.args.input.now) (c.in_ok-push_words.ensures ∙ ap (λ text. text ++ codes "== given\n") printed.text) in
    let right : certificate_fault (text_lines (certificate_text c.args.bound.now)) ≡ None = subst (λ text. certificate_fault (text_lines text) ≡ None) printed.text printed.right in
    let read : certificate_of (text_lines (certificate_text c.args.bound.now)) ≡ c.args.bound.now = subst (λ text. certificate_of (text_lines text) ≡ c.args.bound.now) printed.text printed.read in
    subst (IsReadAs c.args.bound.now c.args.input.now) (sym is) (given_text_law c.args.bound.now c.args.input.now right read c.limits.ensures.named c.limits.ensures.within)
