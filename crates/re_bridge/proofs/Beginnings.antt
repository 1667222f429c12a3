-- What passes with all its labels does with the first ones.
use Rattle.std.proofs.Common.{◌≡◌, ℕ, suc, Bool, true, false, cond, List, [], ◌∷◌, ◌++◌, length, take, drop, inl, inr, refl, sym, ◌∙◌, subst, true≢false}
use Rattle.std.specs.Prelude.{Contains}
use Rattle.std.proofs.lemmas.List.{map-append}
use Rattle.re_labels.proofs.Before.{same_list-refl}
use Rattle.re_labels.proofs.Membership.{Contains-cases, Contains-In, Contains-none, In-Contains, In-append_left, map-alike}
use Rattle.re_labels.proofs.Tests.{and-true, true-and}
use Rattle.re_labels.specs.Lists.{place_of, same_list}
use Rattle.re_labels.specs.Constraints.{Constraint, Has}
use Rattle.re_problem.specs.NamedProblems.{IsNamedProblem, NamedProblem}
use Rattle.re_problem.specs.Steps.{SetEntry, entry_sets, label_at, label_of}
use Rattle.re_check.specs.RowEntries.{row_entries}
use Rattle.re_check.specs.StepClauses.{KeepsAllowed}
use Rattle.re_check.specs.Clauses.{keep_allowed}
use Rattle.re_bridge.proofs.Meeting.{KeepsSoFar, kept-so_far, so_far-kept}
use Rattle.re_bridge.specs.Bridges.{entries_for, keep_rows_so_far, passes_by_set, rows_of, sets_of}
use Rattle.re_walks.proofs.FirstEntries.{allowed-front, allowed-kept, entries-parted, kept-allowed}
use Rattle.re_walks.specs.Walking.{BeginningsPass}

-- a set that has an entry keeps its label
label_of-front : (front more : List SetEntry) (set : List ℕ) → Contains (entry_sets front) set → label_of (front ++ more) set ≡ label_of front set
label_of-front [] more set held = absurd (Contains-none set held)
label_of-front (e ∷ front) more set held = go (same_list e.set set) refl (λ other. label_of-front front more set other)
  where
    go : (b : Bool) → b ≡ same_list e.set set → (Contains (entry_sets front) set → label_of (front ++ more) set ≡ label_of front set)
        → label_at (e ∷ front ++ more) (cond b 0 (suc (place_of (entry_sets (front ++ more)) set))) ≡ label_at (e ∷ front) (cond b 0 (suc (place_of (entry_sets front) set)))
    go true same others = refl
    go false same others =
        elim (Contains-cases set e.set (entry_sets front) held) [
          | inl is ↦ absurd (true≢false (sym (same_list-refl set) ∙ (λ i. same_list (is i) set) ∙ sym same))
          | inr later ↦ others later
        ]

sets-front : (front more : List SetEntry) (set : List ℕ) → Contains (entry_sets front) set → Contains (entry_sets (front ++ more)) set
sets-front front more set held =
    subst (λ (l : List (List ℕ)). Contains l set) (sym (map-append (λ (e : SetEntry). e.set) front more))
    (In-Contains set (entry_sets front ++ entry_sets more) (In-append_left set (entry_sets front) (entry_sets more) (Contains-In set (entry_sets front) held)))

so_far-front : (active : Constraint) (rows : List (List (List ℕ))) (front more : List SetEntry) → KeepsSoFar active rows (front ++ more) → KeepsSoFar active rows front
so_far-front active rows front more kept row held sets =
    subst (Has active) (map-alike (label_of (front ++ more)) (label_of front) row (λ set at. label_of-front front more set (sets set at)))
    (kept row held (λ set at. sets-front front more set (sets set at)))

pub set_beginnings : (before next : NamedProblem) (n places : ℕ) → IsNamedProblem before → BeginningsPass (passes_by_set before next) n places
set_beginnings before next n places is labels assignment test k =
    let front = entries_for before (take k labels) in
    let more = row_entries (drop k (sets_of before)) (drop k labels) in
    let both = and-true (keep_rows_so_far next.active (rows_of before) (entries_for before labels)) (keep_allowed before.active next.passive (entries_for before labels)) test in
    let parted : entries_for before labels ≡ front ++ more = entries-parted (sets_of before) labels k in
    true-and (keep_rows_so_far next.active (rows_of before) front) (keep_allowed before.active next.passive front)
    (kept-so_far next.active (rows_of before) front (so_far-front next.active (rows_of before) front more
    (subst (KeepsSoFar next.active (rows_of before)) parted (so_far-kept next.active (rows_of before) (entries_for before labels) both.0))))
    (kept-allowed before.active next.passive front (allowed-front (length before.names) before.active next.passive front more is.problem.active
    (subst (λ (es : List SetEntry). KeepsAllowed es before.active next.passive) parted (allowed-kept before.active next.passive (entries_for before labels) both.1))))
