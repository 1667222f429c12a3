use Rattle.std.proofs.Common.{◌≡◌, ◌++◌, ◌∷◌, [], ap, false, inl, inr, refl, rules, sym, ◌∙◌}
use Rattle.re_labels.specs.GoodRows.{is_dominated}
use Rattle.re_describe.proofs.Covering.{has_one, not_dominated}
use Rattle.re_describe.proofs.condensing.take_in.Goals as goal

pub returns-then-has_top : goal.returns-then-has_top
returns-then-has_top c =
    inl (has_one c.args.few.now.items c.args.row.now (ap (λ rows. is_dominated rows c.args.row.now) (sym c.as_slice.ensures.value) ∙ sym c.has_top.ensures ∙ c.if-has_top.true), refl)

pub returns : goal.returns
returns c =
    let none : is_dominated c.args.few.now.items c.args.row.now ≡ false = ap (λ rows. is_dominated rows c.args.row.now) (sym c.as_slice.ensures.value) ∙ sym c.has_top.ensures ∙ c.if-has_top.false in
    let more : c.push.new.self.items ≡ c.args.few.now.items ++ c.top_of.result.now ∷ [] = search rules in
    inr (not_dominated c.args.few.now.items c.args.row.now none, (c.top_of.result.now, c.top_of.ensures.listed, c.top_of.ensures.dominated, more))
