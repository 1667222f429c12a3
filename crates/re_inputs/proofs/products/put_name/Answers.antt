use Rattle.std.proofs.Common.{◌≡◌, ◌∙◌, Some, ap, sym}
use Rattle.re_inputs.proofs.ProductNames.{a_name, names_more, new_own}
use Rattle.re_inputs.specs.NamedProducts.{pair_name, pair_names}
use Rattle.re_labels.proofs.ListSets.{list_set_push}
use Rattle.re_labels.specs.ListSets.{list_set, with_list}
use Rattle.re_labels.specs.Names.{is_name, name_of}
use Rattle.re_inputs.proofs.products.put_name.Goals as goal

pub returns-in-Ok-clause-own : goal.returns-in-Ok-clause-own
returns-in-Ok-clause-own c =
    let text = c.as_slice.ensures.value ∙ c.in_ok-text.ensures in
    let named : name_of c.as_slice.result.now ≡ Some c.in-Some.name = sym c.new.ensures ∙ c.in-Some.is in
    let (is, same) = a_name c.as_slice.result.now c.in-Some.name named in
    new_own c.args.problem.now c.args.input.now c.args.pair c.args.names.now c.in-Some.name c.in-Ok.is_new c.requires.names (same ∙ text) (ap is_name (sym text) ∙ is) c.in-Ok.ensures.ok.1

pub returns-in-Ok-clause-names : goal.returns-in-Ok-clause-names
returns-in-Ok-clause-names c = λ _.
    let text = c.as_slice.ensures.value ∙ c.in_ok-text.ensures in
    let named : name_of c.as_slice.result.now ≡ Some c.in-Some.name = sym c.new.ensures ∙ c.in-Some.is in
    let (is, same) = a_name c.as_slice.result.now c.in-Some.name named in
    c.in-Ok.ensures.ok.0 ∙ (λ i. with_list (c.requires.names i) ((same ∙ text) i))
    ∙ sym (list_set_push (pair_names c.args.problem.now c.args.input.now c.args.pair) (pair_name c.args.problem.now c.args.input.now c.args.pair))
    ∙ ap list_set (sym (names_more c.args.problem.now c.args.input.now c.args.pair))
