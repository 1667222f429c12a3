use Rattle.std.proofs.Common.{subst, sym}
use Rattle.re_problem.specs.NamedProblems.{unnamed}
use Rattle.re_flexible.proofs.Chains.{next_is}
use Rattle.re_flexible.proofs.Parts.{apart_kept, apart_parts}
use Rattle.re_flexible.proofs.levels.next_of.Goals as goal
use Rattle.re_flexible.specs.Families.{AreKept, AreParts}

pub turning-turning-requires-clause-parts : goal.turning-turning-requires-clause-parts
turning-turning-requires-clause-parts c = subst (AreParts (unnamed c.args.problem.now) c.args.sets.now) (sym c.as_slice.ensures.value) c.parts_of-parts.ensures.parts

pub trimmed_parts-requires-clause-apart : goal.trimmed_parts-requires-clause-apart
trimmed_parts-requires-clause-apart c =
    let kept = subst (λ s. AreKept s c.turning-turning.result c.kept_of.result.items) c.as_slice-2.ensures.value c.kept_of.ensures.kept in
    apart_kept c.parts_of-parts.result.items c.kept_of.result.items c.turning-turning.result (apart_parts (unnamed c.args.problem.now) c.args.sets.now c.requires.apart c.parts_of-parts.result.items c.parts_of-parts.ensures.parts) kept

pub returns-clause-next : goal.returns-clause-next
returns-clause-next c =
    let kept = subst (λ s. AreKept s c.turning-turning.result c.kept_of.result.items) c.as_slice-2.ensures.value c.kept_of.ensures.kept in
    next_is (unnamed c.args.problem.now) c.args.sets.now c.parts_of-parts.result.items c.kept_of.result.items c.trimmed_parts.result.items c.turning-turning.result c.requires.apart c.parts_of-parts.ensures.parts
    c.turning-turning.ensures kept c.trimmed_parts.ensures.trimmed
