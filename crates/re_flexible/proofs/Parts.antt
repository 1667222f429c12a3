-- The labels that walks of labels of one set join, and those that turn.
use Rattle.std.proofs.Common.{◌≡◌, ◌+◌, ◌-◌, ◌*◌, ℕ, suc, ◌<◌, ◌≤◌, Bool, true, false, List, [], length, sym, subst, arith, inl, inr, ◌⊎◌}
use Rattle.std.specs.Prelude.{Contains, not, ◌↔◌}
use Rattle.re_forests.proofs.Leads.{bounded_both, joined_even, joined_odd, lead_as_long}
use Rattle.re_forests.specs.Flexible.{AreJoined, Leads, Turns, side}
use Rattle.re_forests.specs.Trimmed.{IsFlexibleWithin, IsTrimmed}
use Rattle.re_labels.proofs.Membership.{Contains-none}
use Rattle.re_labels.proofs.Sets.{IsIn-meet, IsIn-meet_cases, IsIn-union, IsIn-union_cases}
use Rattle.re_labels.proofs.Tests.{below-cases}
use Rattle.re_labels.specs.Sets.{IsIn, IsWithin, meet, union}
use Rattle.re_problem.specs.Problems.{Problem}
use Rattle.re_flexible.proofs.Building.{related_low}
use Rattle.re_flexible.proofs.Walks.{AreJoinsOf, around, even_is, even_leads, joined_back, joined_by, joined_on, joined_within, joins_back, joins_of, joins_within, kinds, leads_even, odd_is, rounds_turn, turn_rounds, turns_within}
use Rattle.re_flexible.specs.Families.{AreApart, AreJoins, AreKept, AreParts, AreTurning, AreWalks, set_with}
use Rattle.re_flexible.specs.Relations.{Composes, Reaches, Relates, Rounds}

-- ---- meets of rows
pub meet_row : (P Q : ℕ → Type 0) (one other both : List ℕ) → both ≡ meet one other → ((y : ℕ) → IsIn y one ↔ P y) → ((y : ℕ) → IsIn y other ↔ Q y) → (y : ℕ) → IsIn y both ↔ (P y × Q y)
meet_row P Q one other both e first second y = (
  λ held. let two = IsIn-meet_cases one other y (subst (IsIn y) e held) in ((first y).0 two.0, (second y).0 two.1),
  λ two. subst (IsIn y) (sym e) (IsIn-meet one other y ((first y).1 two.0) ((second y).1 two.1)),
)

-- ---- tables that are passed on
pub composed_is : (one one_now two two_now table : List (List ℕ)) → one_now ≡ one → two_now ≡ two → ((x y : ℕ) → Relates table x y ↔ Composes one_now two_now x y) → (x y : ℕ) → Relates table x y ↔ Composes one two x y
composed_is one one_now two two_now table e f steps x y = subst (λ t. Relates table x y ↔ Composes t two x y) e (subst (λ t. Relates table x y ↔ Composes one_now t x y) f (steps x y))

pub closed_is : (N : ℕ) (table table_now all : List (List ℕ)) → table_now ≡ table → ((x y : ℕ) → x < N → Relates all x y ↔ Reaches table_now x y) → (x y : ℕ) → x < N → Relates all x y ↔ Reaches table x y
closed_is N table table_now all e closed x y low = subst (λ t. Relates all x y ↔ Reaches t x y) e (closed x y low)

-- ---- sets without a common label
pub own : (sets : List (List ℕ)) → AreApart sets → (x y : ℕ) → Relates sets x y → Relates sets x x
own sets apart x y held = apart.on x y x held (apart.back x y held)

-- the set of a label of the set of x is a part of that of x
pub same_set : (sets : List (List ℕ)) → AreApart sets → (x y : ℕ) → Relates sets x y → IsWithin (set_with sets y) (set_with sets x)
same_set sets apart x y held z there = apart.on x y z held there

pub apart_kept : (sets left : List (List ℕ)) (kept : List ℕ) → AreApart sets → AreKept sets kept left → AreApart left
apart_kept sets left kept apart are = record {
  back = λ x y held. let (rel, one, two) = (are x y).0 held in (are y x).1 (apart.back x y rel, two, one);
  on = λ x y z held there.
      let (rel, one, two) = (are x y).0 held in
      let (next, two', three) = (are y z).0 there in
      (are x z).1 (apart.on x y z rel next, one, three);
}

module _ (problem : Problem) (sets : List (List ℕ)) (apart : AreApart sets) where
  pub apart_parts : (parts : List (List ℕ)) → AreParts problem sets parts → AreApart parts
  apart_parts parts are = record {
    back = λ x y held.
        let both = (are x y).0 held in
        (are y x).1 (joined_within problem (set_with sets x) (set_with sets y) (same_set sets apart y x (apart.back x y both.second)) y x (joined_back problem (set_with sets x) x y both));
    on = λ x y z held there.
        let one = (are x y).0 held in
        let two = joined_within problem (set_with sets y) (set_with sets x) (same_set sets apart x y one.second) y z ((are y z).0 there) in
        (are x z).1 (joined_on problem (set_with sets x) x y z one two);
  }

  -- ---- where walks lead
  related_back : (active : Bool) (table : List (List ℕ)) → AreJoins (side problem active) sets table → (x y : ℕ) → Relates table x y → Relates table y x
  related_back active table joins x y held =
      let (rel, join) = (joins x y).0 held in
      (joins y x).1 (apart.back x y rel, joins_within (side problem active) (set_with sets x) (set_with sets y) (same_set sets apart y x (apart.back x y rel)) y x (joins_back (side problem active) (set_with sets x) x y join))

  module _ (active passive two back : List (List ℕ)) (one : AreJoins problem.active sets active) (other : AreJoins problem.passive sets passive)
      (steps : (x y : ℕ) → Relates two x y ↔ Composes active passive x y) (steps_back : (x y : ℕ) → Relates back x y ↔ Composes passive active x y) where
    -- the two relations of steps of two nodes are converse
    converse_is : (x y : ℕ) → Relates back x y ↔ Relates two y x
    converse_is x y = (
      λ held. let (z, out, on) = (steps_back x y).0 held in (steps y x).1 (z, related_back true active one z y on, related_back false passive other x z out),
      λ held. let (z, out, on) = (steps y x).0 held in (steps_back x y).1 (z, related_back false passive other z x on, related_back true active one y z out),
    )

    turns_are : (x : ℕ) → AreJoined problem (set_with sets x) x x → Rounds two x ↔ ((l : ℕ) × Turns problem (set_with sets x) x l)
    turns_are x both =
        let set : List ℕ = set_with sets x in
        let first : AreJoinsOf problem.active set active = joins_of problem.active sets active apart one x in
        let second : AreJoinsOf problem.passive set passive = joins_of problem.passive sets passive apart other x in
        let held : IsIn x set = both.first in (
          λ rounds. let (m, short, long) = rounds in
              rounds_turn problem set x held m (even_leads problem set true active passive two first second steps m x x held short) (even_leads problem set true active passive two first second steps (suc m) x x held long) both,
          λ turning. let (short, long) = turn_rounds problem set x held turning.0 turning.1 in
              (suc (2 * turning.0), leads_even problem set true active passive two first second steps (suc (2 * turning.0)) x x held short, leads_even problem set true active passive two first second steps (suc (suc (2 * turning.0))) x x held long),
        )

    pub walks_are : (N : ℕ) (forth behind from_active from_passive : List (List ℕ)) → length sets ≡ N
        → ((x y : ℕ) → x < N → Relates forth x y ↔ Reaches two x y) → ((x y : ℕ) → x < N → Relates behind x y ↔ Reaches back x y)
        → ((x y : ℕ) → Relates from_active x y ↔ Composes active behind x y) → ((x y : ℕ) → Relates from_passive x y ↔ Composes passive forth x y)
        → AreWalks problem sets two back forth behind from_active from_passive
    walks_are N forth behind from_active from_passive count closed closed_back odd odd_back =
        let low : (x y : ℕ) → IsIn y (set_with sets x) → y < N = λ x y held. (let under : y < length sets = related_low sets y x (apart.back x y held) in omega (arith, under, count)) in
        let first : (x : ℕ) → AreJoinsOf problem.active (set_with sets x) active = joins_of problem.active sets active apart one in
        let second : (x : ℕ) → AreJoinsOf problem.passive (set_with sets x) passive = joins_of problem.passive sets passive apart other in
        let even : (x y z : ℕ) → IsIn y (set_with sets x) → Relates forth y z ↔ ((l : ℕ) × Leads problem (set_with sets x) true (2 * l) y z) =
        λ x. even_is problem (set_with sets x) true active passive two (first x) (second x) steps N forth (low x) closed in
        let even_back : (x y z : ℕ) → IsIn y (set_with sets x) → Relates behind y z ↔ ((l : ℕ) × Leads problem (set_with sets x) false (2 * l) y z) =
        λ x. even_is problem (set_with sets x) false passive active back (second x) (first x) steps_back N behind (low x) closed_back in
        record {
          forth_is = λ x y held. even x x y held;
          behind_is = λ x y held. even_back x x y held;
          from_active_is = λ x y held. odd_is problem (set_with sets x) true active behind from_active (first x) (even_back x) odd x y held;
          from_passive_is = λ x y held. odd_is problem (set_with sets x) false passive forth from_passive (second x) (even x) odd_back x y held;
          turns_are = turns_are;
          converse = converse_is;
        }

  -- ---- the labels that are joined
  each_kind : (P : Bool → Type 0) → P true → P false → (active : Bool) → P active
  each_kind P first second true = first
  each_kind P first second false = second

  pub part_is : (two back forth behind from_active from_passive : List (List ℕ)) (x : ℕ) (set part : List ℕ) → AreWalks problem sets two back forth behind from_active from_passive → set ≡ set_with sets x
      → ((y : ℕ) → IsIn y part ↔ (IsIn y set × Relates forth x y × Relates behind x y × Relates from_active x y × Relates from_passive x y))
      → (y : ℕ) → IsIn y part ↔ AreJoined problem (set_with sets x) x y
  part_is two back forth behind from_active from_passive x set part walks at rows y = (
    λ held.
        let (there, a, b, c, d) = (rows y).0 held in
        let rel : Relates sets x y = subst (IsIn y) at there in
        let self : Relates sets x x = own sets apart x y rel in
        joined_by problem (set_with sets x) x y self rel
        (each_kind (λ active. (l : ℕ) × Leads problem (set_with sets x) active (suc (2 * l)) x y) ((walks.from_active_is x y self).0 c) ((walks.from_passive_is x y self).0 d))
        (each_kind (λ active. (l : ℕ) × Leads problem (set_with sets x) active (2 * l) x y) ((walks.forth_is x y self).0 a) ((walks.behind_is x y self).0 b)),
    λ both.
        let self : Relates sets x x = both.first in
        (rows y).1 (
          subst (IsIn y) (sym at) both.second,
          (walks.forth_is x y self).1 (both.even true).0,
          (walks.behind_is x y self).1 (both.even false).0,
          (walks.from_active_is x y self).1 (both.odd true).0,
          (walks.from_passive_is x y self).1 (both.odd false).0,
        ),
  )

-- ---- labels that turn
module _ (problem : Problem) (set : List ℕ) where
  -- where a label turns, those that are joined with it do
  pub turns_on : (x y : ℕ) → AreJoined problem set x y → ((l : ℕ) × Turns problem set x l) → (l : ℕ) × Turns problem set y l
  turns_on x y both turning =
      let (short, long) = turn_rounds problem set x both.first turning.0 turning.1 in
      let m : ℕ = suc (2 * turning.0) in
      let (p, to) = (both.even true).1 in
      let (q, from) = (both.even true).0 in
      let round : (k : ℕ) → Leads problem set true (2 * k) x x → Leads problem set true (2 * (p + k + q)) y y =
      λ k walk. lead_as_long problem set true (2 * p + (2 * k + 2 * q)) (2 * (p + k + q)) y y (let e : 2 * p + (2 * k + 2 * q) ≡ 2 * (p + k + q) = omega arith in e)
      (joined_even problem set true p (2 * k + 2 * q) y x y to (joined_even problem set true k (2 * q) x x y walk from)) in
      rounds_turn problem set y both.second (p + m + q) (round m short)
      (lead_as_long problem set true (2 * (p + suc m + q)) (2 * suc (p + m + q)) y y (let e : 2 * (p + suc m + q) ≡ 2 * suc (p + m + q) = omega arith in e) (round (suc m) long))
      (joined_on problem set y x y (joined_back problem set x y both) both)

  -- labels that are joined with one that turns are flexible within the set
  pub flexible_part : (part : List ℕ) (x : ℕ) → ((l : ℕ) × Turns problem set x l) → ((y : ℕ) → Contains part y → AreJoined problem set x y) → ((y : ℕ) × Contains part y)
      → (k : ℕ) × IsFlexibleWithin problem part set k
  flexible_part part x turning linked some =
      let held : Contains set x = (linked some.0 some.1).first in
      let (short, long) = turn_rounds problem set x held turning.0 turning.1 in
      let m : ℕ = suc (2 * turning.0) in
      let (A, to) = bounded_both (λ active y n. Leads problem set active (2 * n) y x) part (λ active y on. ((linked y on).even active).1) in
      let (B, from) = bounded_both (λ active y n. Leads problem set active (suc (2 * n)) x y) part (λ active y on. ((linked y on).odd active).0) in
      let k : ℕ = A + B in (
        k + m * k,
        record {
          some = some;
          part = λ y on. (linked y on).second;
          leads = λ active y z first second.
              (let (a, low, enter) = to active y first in
              let (b, less, leave) = from active z second in
              let i : ℕ = (A - a) + (B - b) in
              let round : Leads problem set active (2 * (m * k + i)) x x =
              around problem set x held m (kinds problem set x held m short) (kinds problem set x held (suc m) long) active k i (omega (arith, low, less)) in
              lead_as_long problem set active (2 * a + (2 * (m * k + i) + suc (2 * b))) (suc (2 * (k + m * k))) y z (whole a b (m * k) A B low less)
              (joined_even problem set active a (2 * (m * k + i) + suc (2 * b)) y x z enter (joined_even problem set active (m * k + i) (suc (2 * b)) x x z round leave)));
        },
      )
    where
      whole : (a b w A B : ℕ) → a ≤ A → b ≤ B → 2 * a + (2 * (w + ((A - a) + (B - b))) + suc (2 * b)) ≡ suc (2 * (A + B + w))
      whole a b w A B low less = omega (arith, low, less)

  -- ---- trimmed sets that are flexible within the set
  module _ (part : List ℕ) (l : ℕ) (flexible : IsFlexibleWithin problem part set l) where
    evenly : (active : Bool) (x y : ℕ) → Contains part x → Contains part y → Leads problem set active (2 * suc (2 * l)) x y
    evenly active x y first second =
        lead_as_long problem set active (suc (2 * l) + suc (2 * l)) (2 * suc (2 * l)) x y (let e : suc (2 * l) + suc (2 * l) ≡ 2 * suc (2 * l) = omega arith in e)
        (joined_odd problem set active l (suc (2 * l)) x x y (flexible.leads active x x first first) (flexible.leads (not active) x y first second))

    pub flexible_joined : (x y : ℕ) → Contains part x → Contains part y → AreJoined problem set x y
    flexible_joined x y first second = record {
      first = flexible.part x first;
      second = flexible.part y second;
      odd = λ active. ((l, flexible.leads active x y first second), (l, flexible.leads active y x second first));
      even = λ active. ((suc (2 * l), evenly active x y first second), (suc (2 * l), evenly active y x second first));
    }

    pub flexible_turns : IsTrimmed problem part → (x : ℕ) → Contains part x → Turns problem set x l
    flexible_turns trimmed x held = record {
      shorter = λ active. flexible.leads active x x held held;
      longer = λ active.
          let (z, there, join) = trimmed active x held in
          let (w, on, link) = trimmed (not active) z there in
          lead_as_long problem set active (suc (suc (suc (2 * l)))) (suc (2 * suc l)) x x (let e : suc (suc (suc (2 * l))) ≡ suc (2 * suc l) = omega arith in e) (
            z,
            flexible.part z there,
            joins_within (side problem active) part set flexible.part x z join,
            (w, flexible.part w on, joins_within (side problem (not active)) part set flexible.part z w link, flexible.leads (not (not active)) w x on held),
          );
    }

-- ---- one label of each part is tested
module _ (problem : Problem) (sets parts : List (List ℕ)) where
  abbrev pub TurnsIn : ℕ → Type 0
  TurnsIn x = (l : ℕ) × Turns problem (set_with sets x) x l

  pub record AreTested (seen turning : List ℕ) (n : ℕ) : Type 0 where
    pub all : (x : ℕ) → x < n → Relates parts x x → IsIn x seen
    pub joined : (x : ℕ) → IsIn x seen → Relates parts x x
    pub within : (x : ℕ) → IsIn x turning → IsIn x seen
    pub told : (x : ℕ) → IsIn x seen → IsIn x turning ↔ TurnsIn x

  pub tested_none : (seen turning : List ℕ) → seen ≡ [] → turning ≡ [] → AreTested seen turning 0
  tested_none seen turning e f = record {
    all = λ x low held. absurd (omega (arith, low));
    joined = λ x held. absurd (Contains-none x (subst (IsIn x) e held));
    within = λ x held. absurd (Contains-none x (subst (IsIn x) f held));
    told = λ x held. absurd (Contains-none x (subst (IsIn x) e held));
  }

  pub tested_past : (seen turning : List ℕ) (n : ℕ) → AreTested seen turning n → (Relates parts n n → IsIn n seen) → AreTested seen turning (n + 1)
  tested_past seen turning n so_far here = record {
    all = λ x low held. elim (below-cases x n low) [
      | inl less ↦ so_far.all x less held
      | inr same ↦ subst (λ i. IsIn i seen) (sym same) (here (subst (λ i. Relates parts i i) same held))
    ];
    joined = so_far.joined;
    within = so_far.within;
    told = so_far.told;
  }

module _ (problem : Problem) (sets parts : List (List ℕ)) (apart : AreApart sets) (are : AreParts problem sets parts) where
  -- turning is the same all over a part
  turns_along : (x y : ℕ) → Relates parts x y → TurnsIn problem sets parts x → TurnsIn problem sets parts y
  turns_along x y held turning =
      let both = (are x y).0 held in
      let (l, turns) = turns_on problem (set_with sets x) x y both turning in
      (l, turns_within problem (set_with sets x) (set_with sets y) (same_set sets apart y x (apart.back x y both.second)) y l turns)

  pub tested_more : (seen turning part new now : List ℕ) (n : ℕ) → AreTested problem sets parts seen turning n → part ≡ set_with parts n → IsIn n part → new ≡ union seen part
      → (TurnsIn problem sets parts n × (now ≡ union turning part)) ⊎ ((TurnsIn problem sets parts n → ⊥) × (now ≡ turning)) → AreTested problem sets parts new now (n + 1)
  tested_more seen turning part new now n so_far at held e either =
      let parts_apart : AreApart parts = apart_parts problem sets apart parts are in
      let related : (x : ℕ) → IsIn x part → Relates parts n x = λ x there. subst (IsIn x) at there in
      let back : (x : ℕ) → IsIn x part → Relates parts x n = λ x there. parts_apart.back n x (related x there) in
      let old : (x : ℕ) → IsIn x seen → IsIn x new = λ x there. subst (IsIn x) (sym e) (IsIn-union seen part x (inl there)) in
      let added : (x : ℕ) → IsIn x part → IsIn x new = λ x there. subst (IsIn x) (sym e) (IsIn-union seen part x (inr there)) in
      let cases : (x : ℕ) → IsIn x new → IsIn x seen ⊎ IsIn x part = λ x there. IsIn-union_cases seen part x (subst (IsIn x) e there) in
      record {
        all = λ x low own_part. elim (below-cases x n low) [
          | inl less ↦ old x (so_far.all x less own_part)
          | inr same ↦ subst (λ i. IsIn i new) (sym same) (added n held)
        ];
        joined = λ x there. elim (cases x there) [
          | inl before ↦ so_far.joined x before
          | inr here ↦ own parts parts_apart x n (back x here)
        ];
        within = λ x there. elim either [
          | inl turns ↦ elim (IsIn-union_cases turning part x (subst (IsIn x) turns.1 there)) [ inl before ↦ old x (so_far.within x before) | inr here ↦ added x here ]
          | inr none ↦ old x (so_far.within x (subst (IsIn x) none.1 there))
        ];
        told = λ x there. (
          λ on. elim either [
            | inl turns ↦ elim (IsIn-union_cases turning part x (subst (IsIn x) turns.1 on)) [
              | inl before ↦ (so_far.told x (so_far.within x before)).0 before
              | inr here ↦ turns_along n x (related x here) turns.0
            ]
            | inr none ↦ (let before = subst (IsIn x) none.1 on in (so_far.told x (so_far.within x before)).0 before)
          ],
          λ turning_x. elim either [
            | inl turns ↦ subst (IsIn x) (sym turns.1) (IsIn-union turning part x (elim (cases x there) [
              | inl before ↦ inl ((so_far.told x before).1 turning_x)
              | inr here ↦ inr here
            ]))
            | inr none ↦ subst (IsIn x) (sym none.1) (elim (cases x there) [
              | inl before ↦ (so_far.told x before).1 turning_x
              | inr here ↦ absurd (none.0 (turns_along x n (back x here) turning_x))
            ])
          ],
        );
      }

  pub tested_all : (seen turning : List ℕ) (n : ℕ) → AreTested problem sets parts seen turning n → length parts ≤ n → AreTurning problem sets turning
  tested_all seen turning n tested end x = (
    λ on. let there = tested.within x on in ((are x x).0 (tested.joined x there), (tested.told x there).0 on),
    λ both.
        let self : Relates parts x x = (are x x).1 both.0 in
        let low : x < length parts = related_low parts x x self in
        (tested.told x (tested.all x (omega (arith, low, end)) self)).1 both.1,
  )
