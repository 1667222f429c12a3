use Rattle.std.proofs.Common.{◌≡◌, List, ℕ, ap, sym, ◌∙◌}
use Rattle.std.proofs.lemmas.Bool.{false≢true}
use Rattle.re_cert.specs.Bounds.{last_problem}
use Rattle.re_labels.specs.Lists.{place_of}
use Rattle.re_chain_words.proofs.Places.{place_of-past}
use Rattle.re_chain_words.proofs.shaping.label_in.Goals as goal

pub returns-in-None : goal.returns-in-None
returns-in-None c =
    let names : c.names-names.result.now ≡ (last_problem c.args.certificate.now).names = c.names-names.ensures.names ∙ ap (λ problem. problem.names) c.last.ensures in
    c.len.ensures.len ∙ sym (place_of-past c.names-names.result.now c.args.label.now.name (λ held. false≢true (c.in-None.ensures.held.1 held)))
    ∙ ap (λ (lists : List (List ℕ)). place_of lists c.args.label.now.name) names
