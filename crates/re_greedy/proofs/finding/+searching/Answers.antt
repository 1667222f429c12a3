use Rattle.std.proofs.Common.{◌≡◌, ◌-◌, ◌∙◌, ◌++◌, ◌∷◌, [], List, ℕ, arith, drop, length, subst, sym, take, true}
use Rattle.std.specs.Prelude.{Contains, IfOk, ◌↔◌}
use Rattle.std.proofs.lemmas.Result.{IfOk-weaker}
use Rattle.re_labels.proofs.Lists.{split_first}
use Rattle.re_greedy.proofs.Extras.{split_count}
use Rattle.re_greedy.proofs.Searches.{kept_of, more_of, part_rest, searched_of, whole_greedy, whole_with, whole_without}
use Rattle.re_greedy.proofs.finding.+searching.Goals as goal
use Rattle.re_greedy.specs.Findings.{IsNoneBetween, IsRefused, IsReply, IsSearched, IsWhole}
use Rattle.re_greedy.specs.Greedy.{IsGreedy}
use Rattle.re_greedy.specs.Partials.{IsAnswered, IsPart, IsStuck}
use Rattle.re_problem.specs.NamedProblems.{unnamed}

pub search-returns-in-Stuck : goal.search-returns-in-Stuck
search-returns-in-Stuck t c =
    let stuck : IsStuck (unnamed c.args.problem.now) c.args.members.now c.in-Stuck.around.items = subst (IsReply (unnamed c.args.problem.now) c.args.members.now _) c.in-Stuck.is (c.in_ok-around.ensures) in
    IfOk-weaker c.search_without.result _ _
    (λ answer is. searched_of (unnamed c.args.problem.now) c.args.members.now c.args.kept.now c.as_slice.result.now answer
    (subst (IsStuck (unnamed c.args.problem.now) c.args.members.now) (sym c.as_slice.ensures.value) stuck) is) c.search_without.ensures

pub search-returns-in_ok-copied-in-Answered : goal.search-returns-in_ok-copied-in-Answered
search-returns-in_ok-copied-in-Answered t c =
    let answered : IsAnswered (unnamed c.args.problem.now) c.args.members.now = subst (IsReply (unnamed c.args.problem.now) c.args.members.now _) c.in-Answered.is (c.in_ok-around.ensures) in
    subst (IsGreedy (unnamed c.args.problem.now)) (sym c.in_ok-copied-in-Answered.ensures) (whole_greedy (unnamed c.args.problem.now) c.args.members.now c.args.kept.now c.requires answered)

pub search_without-returns-then-has_member : goal.search_without-returns-then-has_member
search_without-returns-then-has_member t c =
    let split = split_first c.args.around.now c.first-item.result c.in-len1-up.len_at_least c.first-item.is in
    let at : Contains c.args.kept.now c.first-item.result = subst (Contains c.args.kept.now) c.labels.ensures.labels (c.has_member.ensures.0 c.if-has_member.true) in
    subst (λ a. IfOk c.search_without.result (IsRefused (unnamed c.args.problem.now) c.args.members.now c.args.kept.now a)) (sym split)
    (IfOk-weaker c.search_without.result _ _
    (λ answer is. kept_of (unnamed c.args.problem.now) c.args.members.now c.args.kept.now c.first-item.result (take (length c.args.around.now - 1) (drop 1 c.args.around.now)) answer at is) c.search_without.ensures)

pub search_without-search-requires : goal.search_without-search-requires
search_without-search-requires t c =
    let are = subst (λ xs. (labels : List ℕ) → Contains xs labels ↔ (Contains c.args.members.now labels × (labels ≡ c.first-item.result → ⊥))) (sym c.as_slice.ensures.value) c.in_ok-left.ensures in (
      omega (arith, c.decreases, c.requires.depth),
      whole_without (unnamed c.args.problem.now) c.args.members.now c.args.kept.now c.as_slice.result.now c.first-item.result c.requires.whole are
          (λ at. (let held : c.has_member.result ≡ true = c.has_member.ensures.1 (subst (Contains c.args.kept.now) (sym c.labels.ensures.labels) at) in absurd (cc))),
    )

pub search_without-search_without-requires-2 : goal.search_without-search_without-requires-2
search_without-search_without-requires-2 t c =
    let split = split_first c.args.around.now c.first-item.result c.in-len1-up.len_at_least c.first-item.is in
    let count = split_count c.args.around.now c.in-len1-up.len_at_least in
    let part : IsPart (c.first-item.result ∷ take (length c.args.around.now - 1) (drop 1 c.args.around.now)) c.args.members.now = subst (λ a. IsPart a c.args.members.now) split c.requires.around in
    let there : Contains c.args.members.now c.first-item.result = c.requires.around c.first-item.result (0, c.in-len1-up.len_at_least, sym c.first-item.is) in (
      omega (arith, c.decreases, count),
      (
        subst (IsWhole (unnamed c.args.problem.now) c.args.members.now) (sym (c.as_slice-2.ensures.value ∙ c.in_ok-more.ensures))
            (whole_with (unnamed c.args.problem.now) c.args.members.now c.args.kept.now c.first-item.result c.requires.whole there),
        (part_rest c.first-item.result (take (length c.args.around.now - 1) (drop 1 c.args.around.now)) c.args.members.now part, (c.requires.depth, omega (arith, count, c.requires.few))),
      ),
    )

pub search_without-returns : goal.search_without-returns
search_without-returns t c =
    let split = split_first c.args.around.now c.first-item.result c.in-len1-up.len_at_least c.first-item.is in
    let are = subst (λ xs. (labels : List ℕ) → Contains xs labels ↔ (Contains c.args.members.now labels × (labels ≡ c.first-item.result → ⊥))) (sym c.as_slice.ensures.value) c.in_ok-left.ensures in
    let none : IsNoneBetween (unnamed c.args.problem.now) c.as_slice.result.now c.args.kept.now = subst (IsSearched (unnamed c.args.problem.now) c.as_slice.result.now c.args.kept.now) c.in-NotGreedy.is (c.in_ok-answer.ensures) in
    let kept_is : c.as_slice-2.result.now ≡ c.args.kept.now ++ c.first-item.result ∷ [] = c.as_slice-2.ensures.value ∙ c.in_ok-more.ensures in
    subst (λ a. IfOk c.search_without-2.result (IsRefused (unnamed c.args.problem.now) c.args.members.now c.args.kept.now a)) (sym split)
    (IfOk-weaker c.search_without-2.result _ _
    (λ answer is. more_of (unnamed c.args.problem.now) c.args.members.now c.args.kept.now c.as_slice.result.now c.first-item.result (take (length c.args.around.now - 1) (drop 1 c.args.around.now)) answer are none
    (subst (λ k. IsRefused (unnamed c.args.problem.now) c.args.members.now k (take (length c.args.around.now - 1) (drop 1 c.args.around.now)) answer) kept_is is)) c.search_without-2.ensures)
