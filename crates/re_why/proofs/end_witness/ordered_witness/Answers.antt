use Rattle.std.proofs.Common.{◌≡◌, ◌∙◌, ap, length, map, not, subst, sym, ℕ, None}
use Rattle.re_labels.proofs.Membership.{length-count_from, length-map'}
use Rattle.re_problem.specs.Verdicts.{first_label}
use Rattle.re_why.proofs.Ends.{in_order}
use Rattle.re_why.proofs.Holding.{first_below}
use Rattle.re_why.specs.Finding.{firsts, names_first}
use Rattle.re_why.proofs.end_witness.ordered_witness.Goals as goal

pub renaming_witness-requires-clause-count : goal.renaming_witness-requires-clause-count
renaming_witness-requires-clause-count c =
    let last = c.args.last.now in
    let pairs = c.args.pairs.now in
    let n : c.len-names.result ≡ length last.names = c.len-names.ensures.len ∙ ap length c.names.ensures.names in
    let whole = subst (λ (k : ℕ). None ≡ first_label (λ label. not (names_first pairs label)) k) n c.in-None.ensures in
    let order = in_order last c.args.target.now pairs (first_below last c.args.target.now pairs c.requires.fits) c.requires.order (sym whole) in
    sym (length-map' (λ (pair : ℕ × ℕ). pair.0) pairs) ∙ ap length order ∙ length-count_from 0 (length last.names)
