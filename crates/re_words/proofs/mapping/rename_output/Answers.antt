use Rattle.re_words.proofs.MappingLemmas.{rename_is, renaming_named}
use Rattle.re_words.specs.Mapping.{IsNamedVerdict}
use Rattle.std.proofs.Common.{ap, length, subst, sym, ◌∙◌}
use Rattle.std.proofs.lemmas.Result.{IfOk-weaker}
use Rattle.re_words.proofs.mapping.rename_output.Goals as goal

pub verdict_output-requires : goal.verdict_output-requires
verdict_output-requires c = subst (IsNamedVerdict (length c.names.result.now)) (sym c.renames-verdict.ensures)
    (renaming_named c.in-Ok.input.from c.in-Ok.input.to c.in-Ok.input.map _ (ap length c.names.ensures.names) c.in-Ok.ensures.images c.names.ensures.problem)

pub returns-in-Ok : goal.returns-in-Ok
returns-in-Ok c = IfOk-weaker c.verdict_output.result _ _
    (λ output e. e ∙ rename_is c.args.text.now c.in-Ok.input.from c.in-Ok.input.to c.in-Ok.input.map c.names.result.now c.renames-verdict.result c.in-Ok.ensures.gives c.renames-verdict.ensures c.names.ensures.names)
    c.verdict_output.ensures
