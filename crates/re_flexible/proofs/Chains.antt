-- Levels of labels, each flexible within the one below it.
use Rattle.std.proofs.Common.{Some, ◌≡◌, ◌∷◌, ◌∙◌, ◌*◌, ℕ, zero, suc, ◌<◌, ◌≤◌, Bool, true, false, cond, eqb, List, [], length, refl, sym, ap, subst, arith, inl, inr, ◌⊎◌}
use Rattle.std.specs.Prelude.{Contains, IsTrue, MatchBool, ◌↔◌}
use Rattle.std.proofs.lemmas.Bool.{false≢true}
use Rattle.re_forests.proofs.Trimming.{trimmed_part, trimmed_set_trimmed}
use Rattle.re_forests.specs.Flexible.{AreJoined, IsFlexible, side}
use Rattle.re_forests.specs.Trimmed.{HasTwoLevels, IsFlexibleWithin, IsTrimmed}
use Rattle.re_forests.specs.TrimmedSets.{trimmed_set}
use Rattle.re_labels.proofs.Membership.{Contains-here, In-Contains, count_from_range, not_all}
use Rattle.re_labels.proofs.Sets.{IsIn-has, has-IsIn, within-IsWithin}
use Rattle.re_labels.proofs.Tests.{eqb-apart, eqb-same, same_or_not}
use Rattle.re_labels.specs.Sets.{IsIn, IsWithin, first_of, has, within}
use Rattle.re_problem.specs.Problems.{IsProblem, Problem}
use Rattle.re_flexible.proofs.Ahead.{less_from, missing_from, missing_from_most}
use Rattle.re_flexible.proofs.Building.{related_low}
use Rattle.re_flexible.proofs.Parts.{flexible_joined, flexible_part, flexible_turns, own, same_set}
use Rattle.re_flexible.proofs.Trims.{one_apart}
use Rattle.re_flexible.proofs.Walks.{joined_within, joins_within, leads_within, turns_within}
use Rattle.re_flexible.specs.Families.{AreApart, AreKept, AreNext, AreOfOne, AreParts, AreTrimmed, AreTurning, set_with}
use Rattle.re_flexible.specs.Lengths.{AreLevels, EndlessLaw, FewLevelsLaw, HasLevels, IsFirstFlexible, IsFlexibleSet, IsLength, OneFirstLaw}
use Rattle.re_flexible.specs.Relations.{Relates}
use Rattle.re_flexible.specs.Relations as Relations

-- ---- the sets of the next level
flexible_more : (problem : Problem) (set whole other : List ℕ) (l : ℕ) → IsFlexibleWithin problem set whole l → IsWithin whole other → IsFlexibleWithin problem set other l
flexible_more problem set whole other l flexible inside = record {
  some = flexible.some;
  part = λ x held. inside x (flexible.part x held);
  leads = λ active x y first second. leads_within problem whole other inside active (suc (2 * l)) x y (flexible.leads active x y first second);
}

module _ (problem : Problem) (sets parts kept next : List (List ℕ)) (turning : List ℕ) (apart : AreApart sets) (are : AreParts problem sets parts) (turn : AreTurning problem sets turning)
    (keep : AreKept parts turning kept) (left : AreTrimmed problem kept next) where
  next_joined : (x y : ℕ) → Relates next x y → AreJoined problem (set_with sets x) x y
  next_joined x y held = (are x y).0 ((keep x y).0 (left.part x y held)).0

  -- the labels of a trimmed set that is flexible within one of the sets are kept
  all_kept : (set : List ℕ) (x l : ℕ) → IsTrimmed problem set → IsFlexibleWithin problem set (set_with sets x) l → AreOfOne kept set
  all_kept set x l trimmed flexible y z first second = (keep y z).1 ((are y z).1 (both y z first second), turns y first, turns z second)
    where
      inside : (w : ℕ) → Contains set w → IsWithin (set_with sets x) (set_with sets w)
      inside w held = same_set sets apart w x (apart.back x w (flexible.part w held))

      both : (v w : ℕ) → Contains set v → Contains set w → AreJoined problem (set_with sets v) v w
      both v w one two = joined_within problem (set_with sets x) (set_with sets v) (inside v one) v w (flexible_joined problem (set_with sets x) set l flexible v w one two)

      turns : (w : ℕ) → Contains set w → IsIn w turning
      turns w held = (turn w).1 (both w w held held, (l, turns_within problem (set_with sets x) (set_with sets w) (inside w held) w l (flexible_turns problem (set_with sets x) set l flexible trimmed w held)))

  pub next_is : AreNext problem sets next
  next_is = record {
    apart = left.apart;
    part = λ x y held. (next_joined x y held).second;
    trimmed = left.trimmed;
    flexible = λ x self.
        flexible_part problem (set_with sets x) (set_with next x) x ((turn x).0 ((keep x x).0 (left.part x x self)).1).1 (λ y held. next_joined x y held) (x, self);
    greatest = λ set x l trimmed flexible. left.greatest set trimmed (all_kept set x l trimmed flexible);
  }

-- ---- levels, one behind another
-- the set is trimmed and not empty, and on top of so many levels
abbrev pub IsLevel : Problem → ℕ → List ℕ → Type 0
IsLevel problem zero set = IsTrimmed problem set × ((x : ℕ) × Contains set x)
IsLevel problem (suc k) set = IsTrimmed problem set × ((below : List ℕ) × IsLevel problem k below × ((l : ℕ) × IsFlexibleWithin problem set below l))

shorter : (problem : Problem) (k : ℕ) (level : ℕ → List ℕ) → AreLevels problem (suc k) level → AreLevels problem k level
shorter problem k level are = record {
  some = λ i low. are.some i (omega (arith, low));
  trimmed = λ i low. are.trimmed i (omega (arith, low));
  flexible = λ i low. are.flexible i (omega (arith, low));
}

pub is_level : (problem : Problem) (k : ℕ) (level : ℕ → List ℕ) → AreLevels problem (suc k) level → IsLevel problem k (level k)
is_level problem zero level are = (are.trimmed 0 (omega arith), are.some 0 (omega arith))
is_level problem (suc k) level are = (are.trimmed (suc k) (omega arith), (level k, is_level problem k level (shorter problem (suc k) level are), are.flexible k (omega arith)))

level_some : (problem : Problem) (k : ℕ) (set : List ℕ) → IsLevel problem k set → (x : ℕ) × Contains set x
level_some problem zero set is = is.1
level_some problem (suc k) set is = is.1.2.1.some

-- the levels below k, and a set as the k-th
abbrev with_top : ℕ → List ℕ → (ℕ → List ℕ) → ℕ → List ℕ
with_top k set level i = cond (eqb i k) set (level i)

at_top : (k : ℕ) (set : List ℕ) (level : ℕ → List ℕ) → with_top k set level k ≡ set
at_top k set level = ap (λ b. cond b set (level k)) (eqb-same k)

below_top : (k : ℕ) (set : List ℕ) (level : ℕ → List ℕ) (i : ℕ) → i < k → with_top k set level i ≡ level i
below_top k set level i low = ap (λ b. cond b set (level i)) (eqb-apart i k (λ same. absurd (omega (arith, low, same))))

pub levels_of : (problem : Problem) (k : ℕ) (set : List ℕ) → IsLevel problem k set → (level : ℕ → List ℕ) × AreLevels problem (suc k) level × (level k ≡ set)
levels_of problem zero set is = (
  λ i. set,
  record { some = λ i low. is.1; trimmed = λ i low. is.0; flexible = λ i low. absurd (omega (arith, low)) },
  refl,
)
levels_of problem (suc k) set is =
    let (below, is_below, (l, flexible)) = is.1 in
    let (level, are, last) = levels_of problem k below is_below in
    let all : ℕ → List ℕ = with_top (suc k) set level in (
      all,
      record {
        some = λ i low. elim (either i low) [
          | inl less ↦ subst (λ s. (x : ℕ) × Contains s x) (sym (below_top (suc k) set level i less)) (are.some i less)
          | inr same ↦ subst (λ j. (x : ℕ) × Contains (all j) x) (sym same) (subst (λ s. (x : ℕ) × Contains s x) (sym (at_top (suc k) set level)) (level_some problem (suc k) set is))
        ];
        trimmed = λ i low. elim (either i low) [
          | inl less ↦ subst (IsTrimmed problem) (sym (below_top (suc k) set level i less)) (are.trimmed i less)
          | inr same ↦ subst (λ j. IsTrimmed problem (all j)) (sym same) (subst (IsTrimmed problem) (sym (at_top (suc k) set level)) is.0)
        ];
        flexible = λ i low. elim (either (suc i) low) [
          | inl less ↦ subst (λ s. (l : ℕ) × IsFlexibleWithin problem s (all i) l) (sym (below_top (suc k) set level (suc i) less))
              (subst (λ s. (l : ℕ) × IsFlexibleWithin problem (level (suc i)) s l) (sym (below_top (suc k) set level i (omega (arith, less)))) (are.flexible i less))
          | inr same ↦
              let at : i ≡ k = omega (arith, same) in
              subst (λ j. (l : ℕ) × IsFlexibleWithin problem (all (suc j)) (all j) l) (sym at)
              (subst (λ s. (l : ℕ) × IsFlexibleWithin problem s (all k) l) (sym (at_top (suc k) set level))
              (subst (λ s. (l : ℕ) × IsFlexibleWithin problem set s l) (sym (below_top (suc k) set level k (omega arith) ∙ last)) (l, flexible)))
        ];
      },
      at_top (suc k) set level,
    )
  where
    either : (i : ℕ) → i < suc (suc k) → (i < suc k) ⊎ (i ≡ suc k)
    either i low = elim (same_or_not i (suc k)) [ inl same ↦ inr same | inr apart ↦ inl (omega (arith, low, apart)) ]

-- ---- all sets of a level
pub record AreTop (problem : Problem) (sets : List (List ℕ)) (k : ℕ) : Type 0 where
  pub apart : AreApart sets
  pub each : (x : ℕ) → Relates sets x x → IsLevel problem k (set_with sets x)
  pub greatest : (set : List ℕ) → IsLevel problem k set → AreOfOne sets set

pub top_none : (problem : Problem) → IsProblem problem → (sets : List (List ℕ)) → ((x y : ℕ) → Relates sets x y ↔ (IsIn x (trimmed_set problem) × IsIn y (trimmed_set problem))) → AreTop problem sets 0
top_none problem is sets whole = record {
  apart = one_apart (trimmed_set problem) sets whole;
  each = λ x self. (
    λ active z held.
        let (y, on, join) = trimmed_set_trimmed problem is active z ((whole x z).0 held).1 in
        let own_x = ((whole x x).0 self).0 in
        (y, (whole x y).1 (own_x, on), joins_within (side problem active) (trimmed_set problem) (set_with sets x) (λ w there. (whole x w).1 (own_x, there)) z y join),
    (x, self),
  );
  greatest = λ set level x y first second. (whole x y).1 (trimmed_part problem is set level.0 (suc problem.labels) x first, trimmed_part problem is set level.0 (suc problem.labels) y second);
}

pub top_more : (problem : Problem) (sets next : List (List ℕ)) (k : ℕ) → AreTop problem sets k → AreNext problem sets next → AreTop problem next (suc k)
top_more problem sets next k top are = record {
  apart = are.apart;
  each = λ x self. (are.trimmed x self, (set_with sets x, top.each x (are.part x x self), are.flexible x self));
  greatest = λ set level.
      let (below, is_below, (l, flexible)) = level.1 in
      let (y, on) = flexible.some in
      let inside : IsWithin below (set_with sets y) = λ z held. top.greatest below is_below y z (flexible.part y on) held in
      are.greatest set y l level.0 (flexible_more problem set below (set_with sets y) l flexible inside);
}

-- ---- how many levels
pub top_levels : (problem : Problem) (sets : List (List ℕ)) (k x : ℕ) → AreTop problem sets k → Relates sets x x → HasLevels problem (suc k)
top_levels problem sets k x top self = let (level, are, last) = levels_of problem k (set_with sets x) (top.each x self) in (level, are)

pub top_length : (problem : Problem) (sets next : List (List ℕ)) (k x : ℕ) → AreTop problem sets k → Relates sets x x → AreNext problem sets next → ((x y : ℕ) → Relates next x y → ⊥) → IsLength problem (suc k)
top_length problem sets next k x top self are none = record {
  levels = top_levels problem sets k x top self;
  greatest = λ more.
      let is = is_level problem (suc k) more.0 more.1 in
      let (y, on) = level_some problem (suc k) (more.0 (suc k)) is in
      none y y ((top_more problem sets next k top are).greatest (more.0 (suc k)) is y y on on);
}

pub flexible_trimmed : (problem : Problem) (set : List ℕ) (l : ℕ) → IsFlexible problem set l → IsTrimmed problem set
flexible_trimmed problem set l flexible active x held = let (z, there, join, rest) = flexible.leads active x x held held in (z, there, join)

constant_level : (problem : Problem) (set : List ℕ) → IsFlexibleSet problem set → (k : ℕ) → IsLevel problem k set
constant_level problem set flexible zero = (flexible_trimmed problem set flexible.0 flexible.1, flexible.1.some)
constant_level problem set flexible (suc k) = (
  flexible_trimmed problem set flexible.0 flexible.1,
  (set, constant_level problem set flexible k, (flexible.0, record { some = flexible.1.some; part = λ x held. held; leads = flexible.1.leads })),
)

pub flexible_levels : (problem : Problem) (set : List ℕ) → IsFlexibleSet problem set → (k : ℕ) → HasLevels problem k
flexible_levels problem set flexible k = (
  λ i. set,
  record {
    some = λ i low. flexible.1.some;
    trimmed = λ i low. flexible_trimmed problem set flexible.0 flexible.1;
    flexible = λ i low. (flexible.0, record { some = flexible.1.some; part = λ x held. held; leads = flexible.1.leads });
  },
)

pub none_flexible : (problem : Problem) (k : ℕ) → IsLength problem k → (set : List ℕ) → IsFlexibleSet problem set → ⊥
none_flexible problem k is set flexible = is.greatest (flexible_levels problem set flexible (suc k))

-- a set that is flexible within a part of it
pub flexible_whole : (problem : Problem) (set part whole : List ℕ) (l : ℕ) → IsFlexibleWithin problem part whole l → IsWithin set part → IsWithin whole set → ((x : ℕ) × Contains set x) → IsFlexibleSet problem set
flexible_whole problem set part whole l flexible inside around some = (
  l,
  record {
    some = some;
    leads = λ active x y first second. leads_within problem whole set around active (suc (2 * l)) x y (flexible.leads active x y (inside x first) (inside y second));
  },
)

-- ---- each next level lacks more labels
absent : (b : Bool) → (b ≡ true → ⊥) → b ≡ false
absent true h = absurd (h refl)
absent false h = refl

pub lacks_more : (N : ℕ) (set other : List ℕ) (y : ℕ) → IsWithin set other → y < N → IsIn y other → (IsIn y set → ⊥) → missing_from other N < missing_from set N
lacks_more N set other y inside low held gone =
    less_from set other N y (λ z there. IsIn-has other z (inside z (has-IsIn set z there))) low (absent (has set y) (λ e. gone (has-IsIn set y e))) (IsIn-has other y held)

pub lacks_few : (N : ℕ) (set : List ℕ) (y : ℕ) → y < N → IsIn y set → missing_from set N < N
lacks_few N set y low held =
    let less : missing_from set N < missing_from [] N = less_from [] set N y (λ z e. absurd (false≢true e)) low refl (IsIn-has set y held) in
    let most = missing_from_most [] N in
    omega (arith, less, most)

-- a flexible set stays
pub stays_whole : (problem : Problem) (sets next : List (List ℕ)) (x : ℕ) → AreNext problem sets next → IsFlexibleSet problem (set_with sets x) → AreOfOne next (set_with sets x)
stays_whole problem sets next x are whole =
    let (l, flexible) = whole in
    are.greatest (set_with sets x) x l (flexible_trimmed problem (set_with sets x) l flexible) (record { some = flexible.some; part = λ y held. held; leads = flexible.leads })

-- what holds of all sets of the level behind k others, of which there are some
pub record IsReached (problem : Problem) (N : ℕ) (sets : List (List ℕ)) (k : ℕ) : Type 0 where
  pub rows : length sets ≡ N
  pub top : AreTop problem sets k
  pub some : (x : ℕ) × Relates sets x x
  pub few : (x : ℕ) → Relates sets x x → IsFlexibleSet problem (set_with sets x) ⊎ (k ≤ missing_from (set_with sets x) N)

pub reached_none : (problem : Problem) (N : ℕ) (sets : List (List ℕ)) (x : ℕ) → length sets ≡ N → AreTop problem sets 0 → Relates sets x x → IsReached problem N sets 0
reached_none problem N sets x rows top self = record { rows = rows; top = top; some = (x, self); few = λ z held. inr (omega arith) }

module _ (problem : Problem) (N : ℕ) (sets next : List (List ℕ)) (k : ℕ) (so_far : IsReached problem N sets k) (are : AreNext problem sets next) where
  label_under : (x y : ℕ) → Relates sets x y → y < N
  label_under x y held =
      let low : y < length sets = related_low sets y x (so_far.top.apart.back x y held) in
      let rows = so_far.rows in
      omega (arith, low, rows)

  -- a set of the next level is flexible, or lacks more labels
  next_few : (x : ℕ) → Relates next x x → IsFlexibleSet problem (set_with next x) ⊎ (suc k ≤ missing_from (set_with next x) N)
  next_few x self = elim (so_far.few x before) [
    | inl whole ↦ inl (same_whole whole)
    | inr few ↦ at (within (set_with sets x) (set_with next x)) refl few
  ]
    where
      before : Relates sets x x
      before = are.part x x self

      same_whole : IsFlexibleSet problem (set_with sets x) → IsFlexibleSet problem (set_with next x)
      same_whole whole =
          let (l, flexible) = whole in
          let stays = stays_whole problem sets next x are whole in
          flexible_whole problem (set_with next x) (set_with sets x) (set_with sets x) l (record { some = flexible.some; part = λ y held. held; leads = flexible.leads })
          (λ y held. are.part x y held) (λ y held. stays x y before held) (x, self)

      at : (b : Bool) → within (set_with sets x) (set_with next x) ≡ b → k ≤ missing_from (set_with sets x) N → IsFlexibleSet problem (set_with next x) ⊎ (suc k ≤ missing_from (set_with next x) N)
      at true e few =
          let (l, flexible) = are.flexible x self in
          inl (flexible_whole problem (set_with next x) (set_with next x) (set_with sets x) l flexible (λ y held. held) (within-IsWithin (set_with sets x) (set_with next x) e) (x, self))
      at false e few =
          let (y, own_y, gone) = not_all (has (set_with next x)) (set_with sets x) e in
          let held : Relates sets x y = In-Contains y (set_with sets x) own_y in
          let more : missing_from (set_with sets x) N < missing_from (set_with next x) N =
          lacks_more N (set_with next x) (set_with sets x) y (λ z there. are.part x z there) (label_under x y held) held (λ there. false≢true (sym gone ∙ IsIn-has (set_with next x) y there)) in
          inr (omega (arith, few, more))

  pub reached_more : (x : ℕ) → length next ≡ N → Relates next x x → IsReached problem N next (suc k)
  reached_more x rows self = record {
    rows = rows;
    top = top_more problem sets next k so_far.top are;
    some = (x, self);
    few = next_few;
  }

  -- a set that isn't one of the next ones lacks k labels
  pub reached_low : (x y : ℕ) → Relates sets x y → (Relates next x y → ⊥) → k < N
  reached_low x y held gone =
      let self = own sets so_far.top.apart x y held in
      elim (so_far.few x self) [
        | inl whole ↦ (let stays = stays_whole problem sets next x are whole in absurd (gone (stays x y self held)))
        | inr few ↦ (let less : missing_from (set_with sets x) N < N = lacks_few N (set_with sets x) x (label_under x x self) self in omega (arith, few, less))
      ]

  -- where all sets are next ones
  pub first_flexible : (set : List ℕ) (x : ℕ) → Relations.IsWithin sets next → Relates next x x → set ≡ set_with next x → ((y : ℕ) → Relates next y y → x ≤ y) → IsFirstFlexible problem set
  first_flexible set x whole self at least = subst (IsFirstFlexible problem) (sym at) (record {
    flexible =
        (let (l, flexible) = are.flexible x self in
        flexible_whole problem (set_with next x) (set_with next x) (set_with sets x) l flexible (λ y held. held) (λ y held. whole x y held) (x, self));
    first = (x, self, λ other y flexible held. least y (all other flexible y y held held));
    greatest = λ other y z flexible one two three. are.apart.on x y z two (all other flexible y z one three);
  })
    where
      all : (other : List ℕ) → IsFlexibleSet problem other → AreOfOne next other
      all other flexible y z one two =
          (top_more problem sets next k so_far.top are).greatest other (constant_level problem other flexible (suc k)) y z one two

pub first_in : (labels : List ℕ) (x : ℕ) → first_of labels ≡ Some x → IsIn x labels
first_in [] x e = absurd (cc)
first_in (z ∷ labels) x e = let same : z ≡ x = cc in subst (λ y. IsIn y (z ∷ labels)) same (Contains-here z labels)

pub within_told : (b : Bool) (first second : List (List ℕ)) → MatchBool b (Relations.IsWithin first second) (Relations.HasNew first second) → IsTrue b ↔ Relations.IsWithin first second
within_told true first second inside = (λ t. inside, λ whole. refl)
within_told false first second new = (λ t. absurd (false≢true t), λ whole. let (x, y, low, under, held, gone) = new in absurd (gone (whole x y held)))

-- one set is flexible exactly where it is one of the next ones
pub flexible_told : (problem : Problem) (sets next : List (List ℕ)) (set : List ℕ) (x : ℕ) → ((x y : ℕ) → Relates sets x y ↔ (IsIn x set × IsIn y set)) → AreNext problem sets next → IsIn x set
    → Relations.IsWithin sets next ↔ IsFlexibleSet problem set
flexible_told problem sets next set x rows are held = (
  λ whole.
      let self : Relates sets x x = (rows x x).1 (held, held) in
      let (l, flexible) = are.flexible x (whole x x self) in
      flexible_whole problem set (set_with next x) (set_with sets x) l flexible (λ y there. whole x y ((rows x y).1 (held, there))) (λ y there. ((rows x y).0 there).1) (x, held),
  λ whole y z rel.
      let (l, flexible) = whole in
      let two = (rows y z).0 rel in
      let within_x : IsFlexibleWithin problem set (set_with sets x) l =
      flexible_more problem set set (set_with sets x) l (record { some = flexible.some; part = λ w there. there; leads = flexible.leads }) (λ w there. (rows x w).1 (held, there)) in
      are.greatest set x l (flexible_trimmed problem set l flexible) within_x y z two.0 two.1,
)

-- ---- labels of flexible sets, and the one set that is found
pub trimmed_low : (problem : Problem) → IsProblem problem → (set : List ℕ) → IsTrimmed problem set → (x : ℕ) → IsIn x set → x < problem.labels
trimmed_low problem is set trimmed x held = let (least, most) = count_from_range 0 problem.labels x (trimmed_part problem is set trimmed 0 x held) in omega (arith, most)

pub one_first : OneFirstLaw
one_first problem set other one two = (within set other one two, within other set two one)
  where
    within : (set other : List ℕ) → IsFirstFlexible problem set → IsFirstFlexible problem other → (z : ℕ) → Contains set z → Contains other z
    within set other one two z held =
        let (x, on, least) = one.first in
        let (y, there, first) = two.first in
        let low : x ≤ y = least other y two.flexible there in
        let high : y ≤ x = first set x one.flexible on in
        let same : x ≡ y = omega (arith, low, high) in
        two.greatest set x z one.flexible on (subst (Contains other) (sym same) there) held

-- ---- no more levels than labels, or a flexible set
module _ (problem : Problem) (is : IsProblem problem) (level : ℕ → List ℕ) (are : AreLevels problem (suc problem.labels) level) where
  abbrev N : ℕ
  N = problem.labels

  label_low : (i x : ℕ) → i < suc N → IsIn x (level i) → x < N
  label_low i x low held = trimmed_low problem is (level i) (are.trimmed i low) x held

  falls : (i : ℕ) → i < suc N → ((set : List ℕ) × IsFlexibleSet problem set) ⊎ (i ≤ missing_from (level i) N)
  falls zero low = inr (omega arith)
  falls (suc i) low = next (within (level i) (level (suc i))) refl (falls i (omega (arith, low)))
    where
      next : (b : Bool) → within (level i) (level (suc i)) ≡ b → ((set : List ℕ) × IsFlexibleSet problem set) ⊎ (i ≤ missing_from (level i) N)
          → ((set : List ℕ) × IsFlexibleSet problem set) ⊎ (suc i ≤ missing_from (level (suc i)) N)
      next b e (inl found) = inl found
      next true e (inr few) =
          let (l, flexible) = are.flexible i low in
          let inside : IsWithin (level i) (level (suc i)) = within-IsWithin (level i) (level (suc i)) e in
          inl (level (suc i), flexible_whole problem (level (suc i)) (level (suc i)) (level i) l flexible (λ x held. held) inside flexible.some)
      next false e (inr few) =
          let (l, flexible) = are.flexible i low in
          let (y, own_y, gone) = not_all (has (level (suc i))) (level i) e in
          let held : IsIn y (level i) = In-Contains y (level i) own_y in
          let more : missing_from (level i) N < missing_from (level (suc i)) N =
          lacks_more N (level (suc i)) (level i) y flexible.part (label_low i y (omega (arith, low)) held) held (λ there. false≢true (sym gone ∙ IsIn-has (level (suc i)) y there)) in
          inr (omega (arith, few, more))

  pub too_many : (set : List ℕ) × IsFlexibleSet problem set
  too_many = elim (falls N (omega arith)) [
    | inl found ↦ found
    | inr all ↦
        let (x, held) = are.some N (omega arith) in
        let less : missing_from (level N) N < N = lacks_few N (level N) x (label_low N x (omega arith) held) held in
        absurd (omega (arith, all, less))
  ]

-- ---- few levels
-- sets on which nothing stands
pub one_level : (problem : Problem) (set : List ℕ) (x : ℕ) → IsTrimmed problem set → Contains set x → HasLevels problem 1
one_level problem set x trimmed held = let (level, are, last) = levels_of problem 0 set (trimmed, (x, held)) in (level, are)

pub first_level : (problem : Problem) → HasLevels problem 1 → (set : List ℕ) × (x : ℕ) × IsTrimmed problem set × Contains set x
first_level problem (level, are) = let (x, held) = are.some 0 (omega arith) in (level 0, x, are.trimmed 0 (omega arith), held)

pub two_levels : (problem : Problem) → HasLevels problem 2 ↔ HasTwoLevels problem
two_levels problem = (
  λ has. let (level, are) = has in let (l, flexible) = are.flexible 0 (omega arith) in record {
    lower = level 0;
    upper = level 1;
    l = l;
    lower_trimmed = are.trimmed 0 (omega arith);
    upper_trimmed = are.trimmed 1 (omega arith);
    flexible = flexible;
  },
  λ two.
      let (y, on) = two.flexible.some in
      let (level, are, last) = levels_of problem 1 two.upper (two.upper_trimmed, (two.lower, (two.lower_trimmed, (y, two.flexible.part y on)), (two.l, two.flexible))) in
      (level, are),
)

pub few_levels : FewLevelsLaw
few_levels problem = (
  (
    λ zero_levels set x trimmed held. zero_levels.greatest (one_level problem set x trimmed held),
    λ none. record {
      levels = (λ i. [], record { some = λ i low. absurd (omega (arith, low)); trimmed = λ i low. absurd (omega (arith, low)); flexible = λ i low. absurd (omega (arith, low)) });
      greatest = λ has. let (set, x, trimmed, held) = first_level problem has in none set x trimmed held;
    },
  ),
  two_levels problem,
  (
    λ one. (first_level problem one.levels, λ two. one.greatest ((two_levels problem).1 two)),
    λ both. record {
      levels = one_level problem both.0.0 both.0.1 both.0.2 both.0.3;
      greatest = λ has. both.1 ((two_levels problem).0 has);
    },
  ),
)

pub endless : EndlessLaw
endless problem is = (λ found. flexible_levels problem found.0 found.1, λ has. too_many problem is has.0 has.1)
