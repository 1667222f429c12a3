use Rattle.std.proofs.Common.{◌≡◌, Err, length, map, refl, rules, sym, ap, ◌∙◌, subst}
use Rattle.re_closure_laws.proofs.Generated.{closure_families_law}
use Rattle.re_closure_laws.specs.Lines.{AreApart, IsFamily, others}
use Rattle.re_problem.specs.NamedProblems.{unnamed}
use Rattle.re_closure.specs.ProblemFamilies.{active_family, passive_family}
use Rattle.re_closure.specs.Closed.{IsSide, SidePasses}
use Rattle.re_closure.specs.Sides.{family_of}
use Rattle.re_closure.proofs.Computed.{active_passes, between_named, closed_named, computed, err_is, passive_passes}
use Rattle.re_closure.proofs.closure.closure_with.Goals as goal

pub side_of-requires-clause-family : goal.side_of-requires-clause-family
side_of-requires-clause-family c =
    let problem = c.args.problem.now in
    let families = c.args.families in
    let same : family_of c.degrees-degrees.result.passive c.as_slice.result.now c.as_slice-sets.result.now ≡ passive_family problem families
    = (λ i. family_of (c.degrees-degrees.ensures.degrees i).passive (c.as_slice.ensures.value i) (c.as_slice-sets.ensures.value i)) in
    subst IsFamily (sym same) (closure_families_law (unnamed problem) (active_family problem families) (passive_family problem families) c.names.ensures.problem.problem c.requires.closure).1

pub returns-in_err-passive-clause-limit : goal.returns-in_err-passive-clause-limit
returns-in_err-passive-clause-limit c = λ passed e.
    let problem = c.args.problem.now in
    let families = c.args.families in
    let same : family_of c.degrees-degrees.result.passive c.as_slice.result.now c.as_slice-sets.result.now ≡ passive_family problem families
    = (λ i. family_of (c.degrees-degrees.ensures.degrees i).passive (c.as_slice.ensures.value i) (c.as_slice-sets.ensures.value i)) in
    passive_passes (unnamed problem) (active_family problem families) (passive_family problem families) c.requires.closure c.requires.few passed
    (subst (λ f. SidePasses f passed) same (c.in_err-passive.ensures.limit passed (ap Err (err_is c.from_residual-in_err-passive.result c.in_err-passive.field-0.0 passed c.from_residual-in_err-passive.ensures.1 e))))

pub side_of-requires-2-clause-family : goal.side_of-requires-2-clause-family
side_of-requires-2-clause-family c =
    let problem = c.args.problem.now in
    let families = c.args.families in
    let count : c.len.result ≡ length problem.names = c.len.ensures.len ∙ ap length c.names.ensures.names in
    let left = c.as_slice-3.ensures.value ∙ c.in_ok-left.ensures ∙ (λ i. map (others (count i)) (c.as_slice-sets.ensures.value i)) in
    let same : family_of c.degrees-degrees.result.active c.as_slice-2.result.now c.as_slice-3.result.now ≡ active_family problem families
    = (λ i. family_of (c.degrees-degrees.ensures.degrees i).active (c.as_slice-2.ensures.value i) (left i)) in
    subst IsFamily (sym same) (closure_families_law (unnamed problem) (active_family problem families) (passive_family problem families) c.names.ensures.problem.problem c.requires.closure).0

pub side_of-requires-2-clause-apart : goal.side_of-requires-2-clause-apart
side_of-requires-2-clause-apart c = subst AreApart (sym c.as_slice-2.ensures.value) c.requires.closure.active_lines.apart

pub returns-in_err-active-clause-limit : goal.returns-in_err-active-clause-limit
returns-in_err-active-clause-limit c = λ passed e.
    let problem = c.args.problem.now in
    let families = c.args.families in
    let count : c.len.result ≡ length problem.names = c.len.ensures.len ∙ ap length c.names.ensures.names in
    let left = c.as_slice-3.ensures.value ∙ c.in_ok-left.ensures ∙ (λ i. map (others (count i)) (c.as_slice-sets.ensures.value i)) in
    let same : family_of c.degrees-degrees.result.active c.as_slice-2.result.now c.as_slice-3.result.now ≡ active_family problem families
    = (λ i. family_of (c.degrees-degrees.ensures.degrees i).active (c.as_slice-2.ensures.value i) (left i)) in
    active_passes (unnamed problem) (active_family problem families) (passive_family problem families) c.requires.closure c.requires.few passed
    (subst (λ f. SidePasses f passed) same (c.in_err-active.ensures.limit passed (ap Err (err_is c.from_residual-in_err-active.result c.in_err-active.field-0.0 passed c.from_residual-in_err-active.ensures.1 e))))

pub named-requires-clause-named : goal.named-requires-clause-named
named-requires-clause-named c =
    let problem = c.args.problem.now in
    let families = c.args.families in
    let names : c.len.result ≡ length problem.names = c.len.ensures.len ∙ ap length c.names.ensures.names in
    let left = c.as_slice-3.ensures.value ∙ c.in_ok-left.ensures ∙ (λ i. map (others (names i)) (c.as_slice-sets.ensures.value i)) in
    let p = subst (λ f. IsSide f c.in_ok-passive.passive) (λ i. family_of (c.degrees-degrees.ensures.degrees i).passive (c.as_slice.ensures.value i) (c.as_slice-sets.ensures.value i)) c.in_ok-passive.ensures.side in
    let a = subst (λ f. IsSide f c.in_ok-active.active) (λ i. family_of (c.degrees-degrees.ensures.degrees i).active (c.as_slice-2.ensures.value i) (left i)) c.in_ok-active.ensures.side in
    let count : c.len-labels.result ≡ length families.sets.items = search rules in
    closed_named (unnamed problem) (active_family problem families) (passive_family problem families) c.names.ensures.problem.problem c.requires.closure c.requires.few c.in_ok-passive.passive c.in_ok-active.active p a
    c.len-labels.result count

pub named-requires-2-clause-named : goal.named-requires-2-clause-named
named-requires-2-clause-named c =
    let problem = c.args.problem.now in
    let families = c.args.families in
    let names : c.len.result ≡ length problem.names = c.len.ensures.len ∙ ap length c.names.ensures.names in
    let left = c.as_slice-3.ensures.value ∙ c.in_ok-left.ensures ∙ (λ i. map (others (names i)) (c.as_slice-sets.ensures.value i)) in
    let p = subst (λ f. IsSide f c.in_ok-passive.passive) (λ i. family_of (c.degrees-degrees.ensures.degrees i).passive (c.as_slice.ensures.value i) (c.as_slice-sets.ensures.value i)) c.in_ok-passive.ensures.side in
    let a = subst (λ f. IsSide f c.in_ok-active.active) (λ i. family_of (c.degrees-degrees.ensures.degrees i).active (c.as_slice-2.ensures.value i) (left i)) c.in_ok-active.ensures.side in
    let count : c.len-labels.result ≡ length families.sets.items = search rules in
    between_named (unnamed problem) (active_family problem families) (passive_family problem families) c.names.ensures.problem.problem c.requires.closure c.requires.few c.in_ok-passive.passive c.in_ok-active.active p a
    c.len-labels.result count

pub returns-clause-closure : goal.returns-clause-closure
returns-clause-closure c =
    let problem = c.args.problem.now in
    let families = c.args.families in
    let names : c.len.result ≡ length problem.names = c.len.ensures.len ∙ ap length c.names.ensures.names in
    let left = c.as_slice-3.ensures.value ∙ c.in_ok-left.ensures ∙ (λ i. map (others (names i)) (c.as_slice-sets.ensures.value i)) in
    let p = subst (λ f. IsSide f c.in_ok-passive.passive) (λ i. family_of (c.degrees-degrees.ensures.degrees i).passive (c.as_slice.ensures.value i) (c.as_slice-sets.ensures.value i)) c.in_ok-passive.ensures.side in
    let a = subst (λ f. IsSide f c.in_ok-active.active) (λ i. family_of (c.degrees-degrees.ensures.degrees i).active (c.as_slice-2.ensures.value i) (left i)) c.in_ok-active.ensures.side in
    let count : c.len-labels.result ≡ length families.sets.items = search rules in
    computed (unnamed problem) (active_family problem families) (passive_family problem families) c.names.ensures.problem.problem c.requires.closure c.requires.few c.in_ok-passive.passive c.in_ok-active.active p a
    c.len-labels.result count c.requires.few_passive c.requires.few_active _ refl c.in_ok-closed.ensures c.in_ok-between.ensures a.map_is p.map_is
