use Rattle.std.proofs.Common.{◌≡◌, ◌≤◌, length, sym, ◌∙◌, subst, insert, arith}
use Rattle.re_labels.proofs.NameTexts.{IsNames-with}
use Rattle.re_labels.specs.ListSets.{with_list}
use Rattle.re_labels.proofs.name_list.Names.insert.Goals as goal
use Rattle.re_labels.specs.declared.TheConstants.{MAX_LABELS}

pub invariant_of-self-in-Err : goal.invariant_of-self-in-Err
invariant_of-self-in-Err c =
    let put : with_list c.self.inside.held.items c.args.name ≡ insert c.self.inside.held.items c.in-Err.place c.args.name =
    subst (λ name. with_list c.self.inside.held.items name ≡ insert c.self.inside.held.items c.in-Err.place name) c.text.ensures.text
    (subst (λ items. with_list items c.text.result.now ≡ insert items c.in-Err.place c.text.result.now) c.as_slice.ensures.value c.in-Err.ensures.2) in
    let few : length c.insert.new.self.items ≤ MAX_LABELS = omega (arith, c.in_default.ensures.len, c.len.ensures, c.self.invariant.few, c.if-len.false) in
    IsNames-with c.self.inside.held.items c.insert.new.self.items c.args.name c.self.invariant c.text.ensures.name (c.in_default.ensures.items ∙ sym put) few
