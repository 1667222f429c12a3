use Rattle.std.proofs.Common.{◌≡◌, ℕ, Err, List, length, map, ap, refl, ◌∙◌, subst}
use Rattle.std.specs.Prelude.{Contains, ◌↔◌}
use Rattle.re_labels.specs.Rows.{placed}
use Rattle.re_labels.specs.Lists.{count_from}
use Rattle.re_closure_laws.specs.Lines.{others}
use Rattle.re_labels.specs.Strength.{up_set}
use Rattle.re_closure.proofs.NeededSets.{closure_is, full_active, full_passive, many_active, many_passive}
use Rattle.re_closure.proofs.Keeping.{err_is}
use Rattle.re_closure.specs.ProblemFamilies.{IsNeeded}
use Rattle.re_closure.specs.declared.topmost.LinesFault.TheVariants.{TooManyCombinations, TooManyLines}
use Rattle.re_closure.proofs.families.closure_families.Goals as goal

pub returns-clause-closure : goal.returns-clause-closure
returns-clause-closure c =
    let problem = c.args.problem.now in
    let sets = c.in_ok-sets.sets.items in
    let count : c.len-labels.result ≡ length problem.names = c.len-labels.ensures.len ∙ ap length c.names.ensures.names in
    let ups = c.up_sets-ups.ensures ∙ (λ i. map (λ label. up_set (c.passive.ensures.passive i) label (count i)) (count_from 0 (count i))) in
    let left = c.in_ok-left.ensures ∙ (λ i. map (others (count i)) (c.as_slice.ensures.value i)) in
    let starts = c.in_ok-starts.ensures ∙ (λ i. map (placed (c.as_slice-2.ensures.value i)) (c.passive-2.ensures.passive i).configs) in
    let downs = c.in_ok-starts-2.ensures ∙ (λ i. map (placed (c.as_slice-3.ensures.value i)) (c.active.ensures.active i).configs) in
    let need = subst (λ m. (set : List ℕ) → Contains sets set ↔ IsNeeded m c.in_ok-passive.passive.items c.in_ok-active.active.items set) count
    (subst (λ l. (set : List ℕ) → Contains sets set ↔ IsNeeded c.len-labels.result l c.in_ok-active.active.items set) c.as_slice-4.ensures.value
    (subst (λ l. (set : List ℕ) → Contains sets set ↔ IsNeeded c.len-labels.result c.as_slice-4.result.now l set) c.as_slice-5.ensures.value c.in_ok-sets.ensures.needed)) in
    closure_is problem c.up_sets-ups.result.items c.in_ok-left.left.items c.in_ok-starts.starts.items c.in_ok-starts-2.starts.items c.names.ensures.problem.problem ups left starts downs
    c.in_ok-passive.passive.items c.in_ok-active.active.items sets c.in_ok-passive.ensures.topmost c.in_ok-active.ensures.topmost c.in_ok-sets.ensures.rises need

pub returns-in_err-passive-clause-many : goal.returns-in_err-passive-clause-many
returns-in_err-passive-clause-many c = λ e.
    let problem = c.args.problem.now in
    let count : c.len-labels.result ≡ length problem.names = c.len-labels.ensures.len ∙ ap length c.names.ensures.names in
    let ups = c.up_sets-ups.ensures ∙ (λ i. map (λ label. up_set (c.passive.ensures.passive i) label (count i)) (count_from 0 (count i))) in
    let left = c.in_ok-left.ensures ∙ (λ i. map (others (count i)) (c.as_slice.ensures.value i)) in
    let starts = c.in_ok-starts.ensures ∙ (λ i. map (placed (c.as_slice-2.ensures.value i)) (c.passive-2.ensures.passive i).configs) in
    many_passive problem c.up_sets-ups.result.items c.in_ok-left.left.items c.in_ok-starts.starts.items _ c.names.ensures.problem.problem ups left starts refl
    (c.in_err-passive.ensures.many (ap Err (err_is c.from_residual-in_err-passive.result c.in_err-passive.field-0.0 TooManyLines c.from_residual-in_err-passive.ensures.1 e)))

pub returns-in_err-active-clause-many : goal.returns-in_err-active-clause-many
returns-in_err-active-clause-many c = λ e.
    let problem = c.args.problem.now in
    let count : c.len-labels.result ≡ length problem.names = c.len-labels.ensures.len ∙ ap length c.names.ensures.names in
    let ups = c.up_sets-ups.ensures ∙ (λ i. map (λ label. up_set (c.passive.ensures.passive i) label (count i)) (count_from 0 (count i))) in
    let left = c.in_ok-left.ensures ∙ (λ i. map (others (count i)) (c.as_slice.ensures.value i)) in
    let starts = c.in_ok-starts.ensures ∙ (λ i. map (placed (c.as_slice-2.ensures.value i)) (c.passive-2.ensures.passive i).configs) in
    let downs = c.in_ok-starts-2.ensures ∙ (λ i. map (placed (c.as_slice-3.ensures.value i)) (c.active.ensures.active i).configs) in
    many_active problem c.up_sets-ups.result.items c.in_ok-left.left.items c.in_ok-starts.starts.items c.in_ok-starts-2.starts.items c.names.ensures.problem.problem ups left starts downs
    (c.in_err-active.ensures.many (ap Err (err_is c.from_residual-in_err-active.result c.in_err-active.field-0.0 TooManyLines c.from_residual-in_err-active.ensures.1 e)))

pub returns-in_err-passive-clause-full : goal.returns-in_err-passive-clause-full
returns-in_err-passive-clause-full c = λ e.
    let problem = c.args.problem.now in
    let count : c.len-labels.result ≡ length problem.names = c.len-labels.ensures.len ∙ ap length c.names.ensures.names in
    let ups = c.up_sets-ups.ensures ∙ (λ i. map (λ label. up_set (c.passive.ensures.passive i) label (count i)) (count_from 0 (count i))) in
    let left = c.in_ok-left.ensures ∙ (λ i. map (others (count i)) (c.as_slice.ensures.value i)) in
    let starts = c.in_ok-starts.ensures ∙ (λ i. map (placed (c.as_slice-2.ensures.value i)) (c.passive-2.ensures.passive i).configs) in
    full_passive problem c.up_sets-ups.result.items c.in_ok-left.left.items c.in_ok-starts.starts.items _ c.names.ensures.problem.problem ups left starts refl
    (c.in_err-passive.ensures.full (ap Err (err_is c.from_residual-in_err-passive.result c.in_err-passive.field-0.0 TooManyCombinations c.from_residual-in_err-passive.ensures.1 e)))

pub returns-in_err-active-clause-full : goal.returns-in_err-active-clause-full
returns-in_err-active-clause-full c = λ e.
    let problem = c.args.problem.now in
    let count : c.len-labels.result ≡ length problem.names = c.len-labels.ensures.len ∙ ap length c.names.ensures.names in
    let ups = c.up_sets-ups.ensures ∙ (λ i. map (λ label. up_set (c.passive.ensures.passive i) label (count i)) (count_from 0 (count i))) in
    let left = c.in_ok-left.ensures ∙ (λ i. map (others (count i)) (c.as_slice.ensures.value i)) in
    let starts = c.in_ok-starts.ensures ∙ (λ i. map (placed (c.as_slice-2.ensures.value i)) (c.passive-2.ensures.passive i).configs) in
    let downs = c.in_ok-starts-2.ensures ∙ (λ i. map (placed (c.as_slice-3.ensures.value i)) (c.active.ensures.active i).configs) in
    full_active problem c.up_sets-ups.result.items c.in_ok-left.left.items c.in_ok-starts.starts.items c.in_ok-starts-2.starts.items c.names.ensures.problem.problem ups left starts downs
    (c.in_err-active.ensures.full (ap Err (err_is c.from_residual-in_err-active.result c.in_err-active.field-0.0 TooManyCombinations c.from_residual-in_err-active.ensures.1 e)))
