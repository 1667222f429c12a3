use Rattle.std.proofs.Common.{◌∙◌, subst, sym}
use Rattle.re_cert.specs.Bounds.{Bound}
use Rattle.re_cert.specs.declared.certificate.Kind.{Kind}
use Rattle.re_given_words.proofs.GoingOn.{goes_on_itself, with_nothing}
use Rattle.re_given_words.specs.Extensions.{GoesOnIn}
use Rattle.re_given_words.proofs.going_on.repeated_in.Goals as goal

pub unreachable-requires : goal.unreachable-requires
unreachable-requires c =
    let setting = c.args.setting.now in
    let bound = c.args.bound.now in
    let on = goes_on_itself setting bound c.args.most c.args.labels c.input-input.ensures.named c.kind.ensures.bound c.over_problems.ensures c.requires in
    c.in_ok-certificate.ensures.none c.in-None.is
    (subst (λ (b : Bound). GoesOnIn setting c.kind.result c.args.most c.args.labels bound b)
    (sym (with_nothing bound (record { kind = c.kind.result; back = c.back.result; steps = c.new.result; renaming = c.in_ok-from_slice.field-0 }) c.kind.ensures.kind c.back.ensures.back c.new.ensures.items
    (c.in_ok-from_slice.ensures.items ∙ c.renaming.ensures.renaming)))
    (subst (λ (k : Kind). GoesOnIn setting k c.args.most c.args.labels bound bound) (sym c.kind.ensures.kind) on))
