-- The greatest trimmed parts of sets without a common label, found in rounds.
use Rattle.std.proofs.Common.{◌≡◌, ◌-◌, ◌*◌, ℕ, zero, suc, ◌<◌, ◌≤◌, Bool, true, false, List, sym, subst, arith}
use Rattle.std.specs.Prelude.{Contains, ◌↔◌}
use Rattle.re_forests.proofs.Trimming.{trimmed_part, trimmed_set_trimmed}
use Rattle.re_forests.specs.Flexible.{Joins, side}
use Rattle.re_forests.specs.Trimmed.{IsTrimmed}
use Rattle.re_forests.specs.TrimmedSets.{left_after, stays, trimmed_set}
use Rattle.re_labels.proofs.Membership.{Contains-filter_cases, Contains-In, In-Contains, count_from_range}
use Rattle.re_labels.proofs.Numbers.{IsLabelSet-count_from, IsLabelSet-filter}
use Rattle.re_labels.proofs.Rising.{same_members}
use Rattle.re_labels.proofs.Sets.{IsIn-meet, IsIn-meet_cases}
use Rattle.re_labels.specs.Sets.{IsIn, IsLabelSet, IsWithin, meet}
use Rattle.re_problem.specs.Problems.{IsProblem, Problem}
use Rattle.re_flexible.proofs.Ahead.{lacks_less, missing, missing_most}
use Rattle.re_flexible.proofs.Parts.{apart_kept, own, same_set}
use Rattle.re_flexible.proofs.Walks.{joins_within}
use Rattle.re_flexible.specs.Families.{AreApart, AreKept, AreOfOne, AreStanding, AreTrimmed, set_with}
use Rattle.re_flexible.specs.Relations.{HasNew, Relates}
use Rattle.re_flexible.specs.Relations as Relations

-- the parts that are left after some rounds
pub record AreLeft (problem : Problem) (sets left : List (List ℕ)) : Type 0 where
  pub apart : AreApart left
  pub part : (x y : ℕ) → Relates left x y → Relates sets x y
  pub greatest : (set : List ℕ) → IsTrimmed problem set → AreOfOne sets set → AreOfOne left set

pub left_none : (problem : Problem) (sets : List (List ℕ)) → AreApart sets → AreLeft problem sets sets
left_none problem sets apart = record { apart = apart; part = λ x y held. held; greatest = λ set trimmed of_one. of_one }

module _ (problem : Problem) (sets left : List (List ℕ)) (so_far : AreLeft problem sets left) (active passive kept : List ℕ) (fewer : List (List ℕ))
    (on_active : AreStanding problem.active left active) (on_passive : AreStanding problem.passive left passive) (both : kept ≡ meet active passive) (are : AreKept left kept fewer) where
  -- the labels of a trimmed set are kept
  stays_kept : (set : List ℕ) → IsTrimmed problem set → AreOfOne left set → (x : ℕ) → Contains set x → IsIn x kept
  stays_kept set trimmed of_one x held =
      let inside : IsWithin set (set_with left x) = λ y on. of_one x y held on in
      let (y, there, join) = trimmed true x held in
      let (z, on, link) = trimmed false x held in
      subst (IsIn x) (sym both) (IsIn-meet active passive x
      ((on_active x).1 (y, of_one x y held there, joins_within problem.active set (set_with left x) inside x y join))
      ((on_passive x).1 (z, of_one x z held on, joins_within problem.passive set (set_with left x) inside x z link)))

  pub left_more : AreLeft problem sets fewer
  left_more = record {
    apart = apart_kept left fewer kept so_far.apart are;
    part = λ x y held. so_far.part x y ((are x y).0 held).0;
    greatest = λ set trimmed of_one x y first second.
        let before = so_far.greatest set trimmed of_one in
        (are x y).1 (before x y first second, stays_kept set trimmed before x first, stays_kept set trimmed before y second);
  }

  -- where all are kept, the parts are trimmed
  kept_joins : (x z : ℕ) → Relates left x z → IsIn z kept → (active_side : Bool) → (y : ℕ) × Relates left x y × Joins (side problem active_side) (set_with left x) z y
  kept_joins x z held on true =
      let (y, rel, join) = (on_active z).0 (IsIn-meet_cases active passive z (subst (IsIn z) both on)).0 in
      (y, so_far.apart.on x z y held rel, joins_within problem.active (set_with left z) (set_with left x) (same_set left so_far.apart x z held) z y join)
  kept_joins x z held on false =
      let (y, rel, join) = (on_passive z).0 (IsIn-meet_cases active passive z (subst (IsIn z) both on)).1 in
      (y, so_far.apart.on x z y held rel, joins_within problem.passive (set_with left z) (set_with left x) (same_set left so_far.apart x z held) z y join)

  pub left_all : Relations.IsWithin left fewer → AreTrimmed problem sets left
  left_all whole = record {
    apart = so_far.apart;
    part = so_far.part;
    trimmed = λ x held active_side z there. kept_joins x z there ((are x z).0 (whole x z there)).2 active_side;
    greatest = so_far.greatest;
  }

-- each round takes labels away
pub left_smaller : (N : ℕ) (left fewer : List (List ℕ)) (kept : List ℕ) → AreKept left kept fewer → (x y : ℕ) → x < N → y < N → Relates left x y → (Relates fewer x y → ⊥)
    → N * N - missing N fewer N < N * N - missing N left N
left_smaller N left fewer kept are x y low under held gone =
    let less : missing N left N < missing N fewer N = lacks_less N fewer left N x y (λ a b there. ((are a b).0 there).0) low under gone held in
    let most : missing N fewer N ≤ N * N = missing_most N fewer N in
    omega (arith, less, most)

-- ---- all labels
low_trimmed : (problem : Problem) (r x : ℕ) → Contains (left_after problem r) x → x < problem.labels
low_trimmed problem zero x held = let (least, most) = count_from_range 0 problem.labels x held in omega (arith, most)
low_trimmed problem (suc r) x held = low_trimmed problem r x (Contains-filter_cases (stays problem (left_after problem r)) (left_after problem r) x held).0

pub trimmed_low : (problem : Problem) (x : ℕ) → IsIn x (trimmed_set problem) → x < problem.labels
trimmed_low problem x held = low_trimmed problem (suc problem.labels) x held

set_left : (problem : Problem) (N r : ℕ) → problem.labels ≤ N → IsLabelSet N (left_after problem r)
set_left problem N zero most = IsLabelSet-count_from 0 problem.labels N (omega (arith, most))
set_left problem N (suc r) most = IsLabelSet-filter (stays problem (left_after problem r)) N (left_after problem r) (set_left problem N r most)

pub one_apart : (labels : List ℕ) (one : List (List ℕ)) → ((x y : ℕ) → Relates one x y ↔ (IsIn x labels × IsIn y labels)) → AreApart one
one_apart labels one rows = record {
  back = λ x y held. let two = (rows x y).0 held in (rows y x).1 (two.1, two.0);
  on = λ x y z held there. (rows x z).1 (((rows x y).0 held).0, ((rows y z).0 there).1);
}

pub whole_is : (problem : Problem) → IsProblem problem → (labels : List ℕ) (one left : List (List ℕ)) → ((x : ℕ) → IsIn x labels ↔ (x < problem.labels)) → ((x y : ℕ) → Relates one x y ↔ (IsIn x labels × IsIn y labels))
    → AreTrimmed problem one left → (x y : ℕ) → Relates left x y ↔ (IsIn x (trimmed_set problem) × IsIn y (trimmed_set problem))
whole_is problem is labels one left below rows are x y = (
  λ held.
      let self = own left are.apart x y held in
      let within : IsWithin (set_with left x) (trimmed_set problem) = trimmed_part problem is (set_with left x) (are.trimmed x self) (suc problem.labels) in
      (within x self, within y held),
  λ both. are.greatest (trimmed_set problem) (trimmed_set_trimmed problem is)
      (λ z w first second. (rows z w).1 ((below z).1 (trimmed_low problem z first), (below w).1 (trimmed_low problem w second))) x y both.0 both.1,
)

-- label sets with the same labels
pub same_labels : (N : ℕ) (s t : List ℕ) → IsLabelSet N s → IsLabelSet N t → ((x : ℕ) → IsIn x s ↔ IsIn x t) → s ≡ t
same_labels N s t first second same =
    same_members (λ x y. x < y) (λ x y z h k. omega (arith, h, k)) (λ x h. absurd (omega (arith, h))) s t first.0 second.0
    (λ x on. Contains-In x t ((same x).0 (In-Contains x s on))) (λ x on. Contains-In x s ((same x).1 (In-Contains x t on)))

pub trimmed_is : (problem : Problem) (N : ℕ) (labels set : List ℕ) (left : List (List ℕ)) → problem.labels ≤ N → ((x : ℕ) → IsIn x labels ↔ (x < problem.labels))
    → ((x y : ℕ) → Relates left x y ↔ (IsIn x (trimmed_set problem) × IsIn y (trimmed_set problem))) → ((y : ℕ) → IsIn y set ↔ ((z : ℕ) × IsIn z labels × Relates left z y)) → IsLabelSet N set → set ≡ trimmed_set problem
trimmed_is problem N labels set left most below rows image is =
    same_labels N set (trimmed_set problem) is (set_left problem N (suc problem.labels) most) (λ y. (
      λ held. let (z, on, rel) = (image y).0 held in ((rows z y).0 rel).1,
      λ held. (image y).1 (y, (below y).1 (trimmed_low problem y held), (rows y y).1 (held, held)),
    ))
