use Rattle.std.proofs.Common.{◌∙◌, List, ℕ, None, refl, subst, sym}
use Rattle.std.specs.Prelude.{IsTrue, ◌↔◌}
use Rattle.re_problem.specs.NamedProblems.{unnamed}
use Rattle.re_flexible.proofs.Chains.{first_in, flexible_told, within_told}
use Rattle.re_flexible.proofs.Trims.{one_apart}
use Rattle.re_flexible.proofs.levels.is_flexible.Goals as goal
use Rattle.re_flexible.specs.Families.{AreApart, AreNext}
use Rattle.re_flexible.specs.Lengths.{IsFlexibleSet}
use Rattle.re_flexible.specs.Relations.{HasNew, IsWithin}

pub next_of-next-requires-clause-apart : goal.next_of-next-requires-clause-apart
next_of-next-requires-clause-apart c = subst AreApart (sym c.as_slice.ensures.value) (one_apart c.args.set c.one_set-sets.result.items c.one_set-sets.ensures.one)

pub returns : goal.returns
returns c =
    let problem = unnamed c.args.problem.now in
    let sets = c.one_set-sets.result.items in
    let next = c.next_of-next.result.items in
    let are : AreNext problem sets next = subst (λ s. AreNext problem s next) c.as_slice.ensures.value c.next_of-next.ensures.next in
    let told : IsTrue c.is_within.result ↔ IsWithin sets next = subst (λ s. IsTrue c.is_within.result ↔ IsWithin s next) c.as_slice-2.ensures.value
    (subst (λ s. IsTrue c.is_within.result ↔ IsWithin c.as_slice-2.result.now s) c.as_slice-3.ensures.value (within_told c.is_within.result c.as_slice-2.result.now c.as_slice-3.result.now c.is_within.ensures)) in
    let same = flexible_told problem sets next c.args.set c.in-Some._label c.one_set-sets.ensures.one are (first_in c.args.set c.in-Some._label (sym c.first.ensures ∙ c.in-Some.is)) in
    (λ t. same.0 (told.0 t), λ flexible. told.1 (same.1 flexible))
