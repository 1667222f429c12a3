use Rattle.std.proofs.Common.{◌≡◌, ◌∙◌, ap, subst, sym}
use Rattle.re_greedy.proofs.HardestRows.{answered_of, hardest_is, known_places, places_known, stuck_of, tried_is}
use Rattle.re_greedy.proofs.answering.reply_to.Goals as goal
use Rattle.re_greedy.specs.Partials.{IsStuck}
use Rattle.re_greedy.specs.declared.answering.Tried.TheVariants.{Answered, Stuck}
use Rattle.re_labels.specs.Rows.{placed}
use Rattle.re_problem.specs.NamedProblems.{unnamed}

pub around_of-requires : goal.around_of-requires
around_of-requires c =
    let h = c.in_ok-hardest.hardest in
    let tried = tried_is (unnamed c.args.problem.now) h.joining.items c.as_slice.result.now c.active.result.now c.args.tries.now c.first_stuck.result (Stuck c.in-Stuck.picks) c.active.ensures.active c.as_slice.ensures.value c.in-Stuck.is c.first_stuck.ensures in
    let are = hardest_is (unnamed c.args.problem.now) c.args.members.now h.chosen.items h.joining.items c.degree.result c.passive.result.now c.degree.ensures.degree c.passive.ensures.passive c.in_ok-hardest.ensures in
    let config = known_places (unnamed c.args.problem.now) c.args.members.now h.chosen.items h.joining.items are c.in-Stuck.picks tried.0 in
    places_known c.numbers.result.now c.in-Stuck.picks h.chosen.items h.joining.items c.as_slice-in-Stuck.result.now config.below are.alike c.as_slice-in-Stuck.ensures.value c.numbers.ensures

pub returns-in-Stuck : goal.returns-in-Stuck
returns-in-Stuck c =
    let h = c.in_ok-hardest.hardest in
    let tried = tried_is (unnamed c.args.problem.now) h.joining.items c.as_slice.result.now c.active.result.now c.args.tries.now c.first_stuck.result (Stuck c.in-Stuck.picks) c.active.ensures.active c.as_slice.ensures.value c.in-Stuck.is c.first_stuck.ensures in
    let are = hardest_is (unnamed c.args.problem.now) c.args.members.now h.chosen.items h.joining.items c.degree.result c.passive.result.now c.degree.ensures.degree c.passive.ensures.passive c.in_ok-hardest.ensures in
    let is : c.in_ok-around_of-in-Stuck.field-0.items ≡ placed h.chosen.items c.in-Stuck.picks =
    c.in_ok-around_of-in-Stuck.ensures ∙ ap (λ xs. placed xs c.numbers.result.now) c.as_slice-in-Stuck.ensures.value ∙ ap (placed h.chosen.items) c.numbers.ensures in
    subst (IsStuck (unnamed c.args.problem.now) c.args.members.now) (sym is)
    (stuck_of (unnamed c.args.problem.now) c.args.members.now h.chosen.items h.joining.items are c.in-Stuck.picks tried.0 tried.1)

pub returns-in-Answered : goal.returns-in-Answered
returns-in-Answered c =
    let h = c.in_ok-hardest.hardest in
    let tried = tried_is (unnamed c.args.problem.now) h.joining.items c.as_slice.result.now c.active.result.now c.args.tries.now c.first_stuck.result Answered c.active.ensures.active c.as_slice.ensures.value c.in-Answered.is c.first_stuck.ensures in
    let are = hardest_is (unnamed c.args.problem.now) c.args.members.now h.chosen.items h.joining.items c.degree.result c.passive.result.now c.degree.ensures.degree c.passive.ensures.passive c.in_ok-hardest.ensures in
    answered_of (unnamed c.args.problem.now) c.args.members.now h.chosen.items h.joining.items are tried
