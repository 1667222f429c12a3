use Rattle.re_words.proofs.MappingLemmas.{restriction_named}
use Rattle.re_words.specs.Mapping.{IsNamedVerdict}
use Rattle.std.proofs.Common.{ap, length, subst, sym}
use Rattle.re_words.proofs.mapping.restrict_output.Goals as goal

pub verdict_output-requires : goal.verdict_output-requires
verdict_output-requires c = subst (IsNamedVerdict (length c.names.result.now)) (sym c.restricts-verdict.ensures)
    (restriction_named c.in-Ok.input.from c.in-Ok.input.to c.in-Ok.input.map _ (ap length c.names.ensures.names) c.in-Ok.ensures.images c.names.ensures.problem)
