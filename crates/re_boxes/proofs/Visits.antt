-- The visit of the rests with a beginning, label by label.
use Rattle.std.proofs.Common.{◌≡◌, ◌∷◌, ◌++◌, ◌∙◌, ◌+◌, ℕ, suc, ◌<◌, ◌≤◌, max, List, [], length, get_or, refl, sym, ap, subst, arith, inl, inr, ◌⊎◌, append_assoc, length-append, map}
use Rattle.std.specs.Prelude.{Contains, ◌↔◌}
use Rattle.std.specs.List.{AllByRecursion}
use Rattle.std.proofs.lemmas.List.{get_or_past}
use Rattle.re_labels.proofs.Rearranging.{Rearranged-refl, Rearranged-sym}
use Rattle.re_labels.proofs.Sorting.{AllByRecursion-Rearranged, Rearranged-sorted, length-sorted, sorted-Rearranged, sorted_again, sorted_rises, inserted_low, inserted_high}
use Rattle.re_labels.specs.Configs.{IsConfig, inserted, sorted}
use Rattle.re_labels.specs.Rearranging.{Rearranged, chained, kept, swapped}
use Rattle.re_labels.proofs.OrdersAt.{get_or-map}
use Rattle.re_labels.proofs.Membership.{AllByRecursion-contains, Contains-none, Contains-count_from, count_from_range, get_or-count_from, length-count_from, length-map'}
use Rattle.re_labels.proofs.Numbers.{IsLabelSet-count_from, IsLabelSet-filter, same_labels}
use Rattle.re_labels.proofs.Sets.{IsWithin-Sub}
use Rattle.re_labels.specs.Lists.{count_from}
use Rattle.re_labels.specs.Sets.{IsIn, IsLabelSet}
use Rattle.re_boxes.proofs.Rests.{rest_law}
use Rattle.re_labels.proofs.Goodness.{Has-Rearranged}
use Rattle.re_labels.specs.Strength.{is_at_least_as_strong, up_set}
use Rattle.re_labels.specs.Constraints.{IsConstraint}
use Rattle.re_boxes.proofs.Fitting.{Fits-cases, Fits-new, Fits-old}
use Rattle.re_boxes.specs.Rests.{Completes}
use Rattle.re_boxes.specs.Spans.{Tree, constraint_of, AreFilled, AreSpans, Ascends, Fits, IsBound, IsEnding, IsNarrowed, IsNext, IsOpened, IsSpan, IsVisit, IsWaiting}
use Rattle.re_labels.specs.declared.branches.Branches.{Branches}
use Rattle.re_boxes.specs.declared.visiting.Candidate.{Candidate}
use Rattle.re_labels.specs.declared.TheConstants.{MAX_LABELS}

-- ---- ascending lists
-- a label goes behind lesser ones
pub inserted-behind : (x : ℕ) (front back : List ℕ) → AllByRecursion (λ y. y < x) front → inserted x (front ++ back) ≡ front ++ inserted x back
inserted-behind x [] back h = refl
inserted-behind x (y ∷ front) back h = inserted_high x y (front ++ back) h.0 ∙ ap (λ l. y ∷ l) (inserted-behind x front back h.1)

pub all-below : (bound x : ℕ) (front : List ℕ) → AllByRecursion (λ y. y < bound) front → bound ≤ x → AllByRecursion (λ y. y < x) front
all-below bound x [] h le = tt
all-below bound x (y ∷ front) h le = (omega (arith, h.0, le), all-below bound x front h.1 le)

Ascends-tail : (x : ℕ) (xs : List ℕ) → Ascends (x ∷ xs) → Ascends xs
Ascends-tail x [] h = tt
Ascends-tail x (y ∷ xs) h = h.1

-- without a label in the middle
pub Ascends-without : (front : List ℕ) (x : ℕ) (back : List ℕ) → Ascends (front ++ x ∷ back) → Ascends (front ++ back)
Ascends-without [] x back h = Ascends-tail x back h
Ascends-without (y ∷ []) x [] h = tt
Ascends-without (y ∷ []) x (z ∷ back) h = (omega (arith, h.0, h.1.0), h.1.1)
Ascends-without (y ∷ w ∷ front) x back h = (h.0, Ascends-without (w ∷ front) x back h.1)

-- what comes behind is no less
pub Ascends-next : (front : List ℕ) (x y : ℕ) (back : List ℕ) → Ascends (front ++ x ∷ y ∷ back) → x ≤ y
Ascends-next [] x y back h = h.0
Ascends-next (z ∷ []) x y back h = h.1.0
Ascends-next (z ∷ w ∷ front) x y back h = Ascends-next (w ∷ front) x y back h.1

pub Ascends-front : (front : List ℕ) (x : ℕ) (back : List ℕ) → Ascends (front ++ x ∷ back) → Ascends (front ++ x ∷ [])
Ascends-front [] x back h = tt
Ascends-front (z ∷ []) x back h = (h.0, tt)
Ascends-front (z ∷ w ∷ front) x back h = (h.0, Ascends-front (w ∷ front) x back h.1)

all-up : (front : List ℕ) (x : ℕ) → Ascends (front ++ x ∷ []) → AllByRecursion (λ y. y < x + 1) (front ++ x ∷ [])
all-up [] x h = (omega arith, tt)
all-up (z ∷ []) x h = (omega (arith, h.0), (omega arith, tt))
all-up (z ∷ w ∷ front) x h = let rest = all-up (w ∷ front) x h.1 in (omega (arith, h.0, rest.0), rest)

-- ---- completions of rests with a beginning
module _ (constraint : Tree) (is : IsConstraint MAX_LABELS (constraint_of constraint)) (beginning : List ℕ) (bound : ℕ) (bounded : IsBound beginning bound) where
  pub config-ascends : (config : List ℕ) → Contains constraint.configs config → Ascends config
  config-ascends config held = (AllByRecursion-contains (IsConfig constraint.degree MAX_LABELS) constraint.configs config is.configs held).ascends

  -- a label that isn't below the bound goes behind the beginning
  sorted-behind : (x : ℕ) (ending : List ℕ) → bound ≤ x → Ascends (beginning ++ ending) → sorted (x ∷ beginning ++ ending) ≡ beginning ++ inserted x ending
  sorted-behind x ending le h = ap (inserted x) (sorted_again (beginning ++ ending) h) ∙ inserted-behind x beginning ending (all-below bound x beginning bounded.above le)

  pub completes-low : (x label : ℕ) (ending : List ℕ) → bound ≤ x → x ≤ label → Ascends (beginning ++ label ∷ ending)
      → Completes (constraint_of constraint) (beginning ++ label ∷ ending) x → Contains constraint.configs (beginning ++ x ∷ label ∷ ending)
  completes-low x label ending le low h done =
      subst (Contains constraint.configs) (sorted-behind x (label ∷ ending) le h ∙ ap (λ l. beginning ++ l) (inserted_low x label ending low)) done

  pub completes-high : (x label : ℕ) (ending : List ℕ) → bound ≤ x → label < x → Ascends (beginning ++ label ∷ ending)
      → Completes (constraint_of constraint) (beginning ++ label ∷ ending) x → Contains constraint.configs (beginning ++ label ∷ inserted x ending)
  completes-high x label ending le high h done =
      subst (Contains constraint.configs) (sorted-behind x (label ∷ ending) le h ∙ ap (λ l. beginning ++ l) (inserted_high x label ending high)) done

  pub completes-back : (x label : ℕ) (ending : List ℕ) → bound ≤ x → Contains constraint.configs (beginning ++ x ∷ label ∷ ending)
      → (x ≤ label) × Ascends (beginning ++ label ∷ ending) × Completes (constraint_of constraint) (beginning ++ label ∷ ending) x
  completes-back x label ending le held =
      let up = config-ascends (beginning ++ x ∷ label ∷ ending) held in
      let low = Ascends-next beginning x label ending up in
      let h = Ascends-without beginning x (label ∷ ending) up in
      (low, h, subst (Contains constraint.configs) (sym (sorted-behind x (label ∷ ending) le h ∙ ap (λ l. beginning ++ l) (inserted_low x label ending low))) held)

  pub completes-last : (x : ℕ) → bound ≤ x → Ascends beginning → sorted (x ∷ beginning) ≡ beginning ++ x ∷ []
  completes-last x le h = ap (inserted x) (sorted_again beginning h) ∙ whole
    where
      ends : (front : List ℕ) → front ≡ front ++ []
      ends [] = refl
      ends (y ∷ front) = ap (λ l. y ∷ l) (ends front)

      whole : inserted x beginning ≡ beginning ++ x ∷ []
      whole = ap (inserted x) (ends beginning) ∙ inserted-behind x beginning [] (all-below bound x beginning bounded.above le)

  -- ---- while labels below a number have been visited
  module _ (least : ℕ) (rest : Branches) (waiting : List Candidate) (state : IsWaiting constraint beginning bound least rest waiting) where
    -- nothing comes next with a label that neither the span nor a candidate has next
    pub nothing-next : (label a : ℕ) (ending : List ℕ) → least ≤ label
        → ((other : ℕ) (more : List ℕ) → other ≤ label → IsEnding constraint (length beginning) rest (other ∷ more) → ⊥)
        → ((x : ℕ) (more : List ℕ) → Fits constraint (length beginning + 1) waiting x (label ∷ more) → ⊥)
        → Ascends (beginning ++ label ∷ ending) → Completes (constraint_of constraint) (beginning ++ label ∷ ending) a → ⊥
    nothing-next label a ending from no_ending no_fit h done = elim (sides a) [
      | inl old ↦ no_fit a ending ((state.complete a label ending).1 (from, old, h, done))
      | inr new ↦ elim (order a label) [
        | inl low ↦ no_ending a (label ∷ ending) low ((state.behind a (label ∷ ending)).1 (omega (arith, new.1), completes-low a label ending new.0 low h done))
        | inr high ↦ no_ending label (inserted a ending) (omega arith) ((state.behind label (inserted a ending)).1 (from, completes-high a label ending new.0 high h done))
      ]
    ]
      where
        sides : (a : ℕ) → (a < max bound least) ⊎ ((bound ≤ a) × (least ≤ a))
        sides a = grind arith

        order : (a label : ℕ) → (a ≤ label) ⊎ (label < a)
        order a label = grind arith

    module _ (next : ℕ) (is_next : IsNext constraint (length beginning) rest waiting next) where
      -- the least label is among those to come, and goes on in ascending order
      pub next-goes : (least ≤ next) × Ascends (beginning ++ next ∷ [])
      next-goes = elim is_next.some [
        | inl e ↦ let two = (state.behind next e.0).0 e.1 in (two.0, Ascends-front beginning next e.0 (config-ascends (beginning ++ next ∷ e.0) two.1))
        | inr f ↦ let four = (state.complete f.0 next f.1).0 f.2 in (four.0, Ascends-front beginning next f.1 four.2)
      ]

      pub next-bound : bound ≤ next + 1
      next-bound = bounded.least next [] next-goes.1

      opened-old : (x label : ℕ) (ending : List ℕ) → Fits constraint (length beginning + 1) waiting x (label ∷ ending)
          → (next ≤ label) × (x < max bound (next + 1)) × Ascends (beginning ++ label ∷ ending) × Completes (constraint_of constraint) (beginning ++ label ∷ ending) x
      opened-old x label ending f =
          let four = (state.complete x label ending).0 f in
          let goes = next-goes.0 in
          (is_next.among x label ending f, wider x four.1 goes, four.2, four.3)
        where
          wider : (x : ℕ) → x < max bound least → least ≤ next → x < max bound (next + 1)
          wider x h le = omega arith

      -- the label that is next, where it isn't below the bound
      open-cases : (x label : ℕ) (ending : List ℕ) → next ≤ label → x < max bound (next + 1) → Ascends (beginning ++ label ∷ ending) → Completes (constraint_of constraint) (beginning ++ label ∷ ending) x
          → Fits constraint (length beginning + 1) waiting x (label ∷ ending) ⊎ ((bound ≤ next) × (x ≡ next) × IsEnding constraint (length beginning) rest (next ∷ label ∷ ending))
      open-cases x label ending from below h done = elim (sides x below) [
        | inl old ↦ inl ((state.complete x label ending).1 (omega (arith, next-goes.0, from), old, h, done))
        | inr new ↦
            let low : x ≤ label = omega (arith, new.2, from) in
            let there : IsEnding constraint (length beginning) rest (x ∷ label ∷ ending) = (state.behind x (label ∷ ending)).1 (new.1, completes-low x label ending new.0 low h done) in
            let least_one = is_next.beside x (label ∷ ending) there in
            let same : x ≡ next = omega (arith, least_one, new.2) in
            inr (omega (arith, new.0, new.2), same, subst (λ y. IsEnding constraint (length beginning) rest (y ∷ label ∷ ending)) same there)
      ]
        where
          sides : (x : ℕ) → x < max bound (next + 1) → (x < max bound least) ⊎ ((bound ≤ x) × (least ≤ x) × (x ≤ next))
          sides x h = grind arith

      pub opened-same : ((ending : List ℕ) → bound ≤ next → IsEnding constraint (length beginning) rest (next ∷ ending) → ⊥) → IsOpened constraint beginning bound next waiting
      opened-same none x label ending = (
        opened-old x label ending,
        (λ four. elim (open-cases x label ending four.0 four.1 four.2 four.3) [ inl f ↦ f | inr new ↦ absurd (none (label ∷ ending) new.0 new.2) ]),
      )

      pub opened-more : (inner : Branches) → bound ≤ next → ((ending : List ℕ) → IsEnding constraint (length beginning + 1) inner ending ↔ IsEnding constraint (length beginning) rest (next ∷ ending))
          → IsOpened constraint beginning bound next (waiting ++ record { label = next; span = inner } ∷ [])
      opened-more inner le ends x label ending = (
        (λ f. elim (Fits-cases constraint (length beginning + 1) waiting (record { label = next; span = inner }) x (label ∷ ending) f) [
          | inl g ↦ opened-old x label ending g
          | inr g ↦
              let there = (ends (label ∷ ending)).0 g.1 in
              let two = (state.behind next (label ∷ ending)).0 there in
              let back = completes-back next label ending le two.1 in
              subst (λ y. (next ≤ label) × (y < max bound (next + 1)) × Ascends (beginning ++ label ∷ ending) × Completes (constraint_of constraint) (beginning ++ label ∷ ending) y) g.0
              (back.0, within next, back.1, back.2)
        ]),
        (λ four. elim (open-cases x label ending four.0 four.1 four.2 four.3) [
          | inl f ↦ Fits-old constraint (length beginning + 1) waiting (record { label = next; span = inner }) x (label ∷ ending) f
          | inr new ↦ Fits-new constraint (length beginning + 1) waiting (record { label = next; span = inner }) x (label ∷ ending) (sym new.1) ((ends (label ∷ ending)).1 new.2)
        ]),
      )
        where
          within : (y : ℕ) → y < max bound (y + 1)
          within y = omega arith

      -- what comes behind the least label
      module _ (opened : List Candidate) (is_opened : IsOpened constraint beginning bound next opened) (inner : Branches) (inner_is : (ending : List ℕ) → IsEnding constraint (length beginning + 1) inner ending ↔ Contains constraint.configs (beginning ++ next ∷ ending))
          (inner_span : IsSpan constraint (length beginning + 1) inner) where
        longer : length (beginning ++ next ∷ []) ≡ length beginning + 1
        longer = length-append beginning (next ∷ [])

        regrouped : (ending : List ℕ) → (beginning ++ next ∷ []) ++ ending ≡ beginning ++ next ∷ ending
        regrouped ending = append_assoc beginning (next ∷ []) ending

        pub deeper : (below : List Candidate) → length below ≤ next + 1 → AreSpans constraint (length beginning + 1 + 1) below → AreFilled constraint (length beginning + 1 + 1) below
            → ((x : ℕ) (ending : List ℕ) → Fits constraint (length beginning + 1 + 1) below x ending ↔ Fits constraint (length beginning + 1) opened x (next ∷ ending))
            → IsVisit constraint (beginning ++ next ∷ []) (next + 1) inner below
        deeper below few spans filled fits = record {
          ascends = next-goes.1;
          bounded = record {
            above = all-up beginning next next-goes.1;
            least = λ label ending h. (let low = Ascends-next beginning next label ending (subst Ascends (regrouped (label ∷ ending)) h) in omega (arith, low));
          };
          few = few;
          span = subst (λ d. IsSpan constraint d inner) (sym longer) inner_span;
          behind = λ ending. subst (λ d. IsEnding constraint d inner ending ↔ Contains constraint.configs ((beginning ++ next ∷ []) ++ ending)) (sym longer)
              (subst (λ c. IsEnding constraint (length beginning + 1) inner ending ↔ Contains constraint.configs c) (sym (regrouped ending)) (inner_is ending));
          spans = subst (λ d. AreSpans constraint (d + 1) below) (sym longer) spans;
          filled = subst (λ d. AreFilled constraint (d + 1) below) (sym longer) filled;
          complete = λ x ending. subst (λ d. Fits constraint (d + 1) below x ending ↔ ((x < next + 1) × Ascends ((beginning ++ next ∷ []) ++ ending) × Completes (constraint_of constraint) ((beginning ++ next ∷ []) ++ ending) x)) (sym longer)
              (subst (λ c. Fits constraint (length beginning + 1 + 1) below x ending ↔ ((x < next + 1) × Ascends c × Completes (constraint_of constraint) c x)) (sym (regrouped ending)) (
                (λ f. let four = (is_opened x next ending).0 ((fits x ending).0 f) in (narrower x four.1 next-bound, four.2, four.3)),
                (λ three. (fits x ending).1 ((is_opened x next ending).1 (omega arith, wider x three.0, three.1, three.2))),
              ));
        }
          where
            narrower : (x : ℕ) → x < max bound (next + 1) → bound ≤ next + 1 → x < next + 1
            narrower x h le = omega arith

            wider : (x : ℕ) → x < next + 1 → x < max bound (next + 1)
            wider x h = omega arith

-- ---- from label to label
-- b is among the labels where it was, and completes each rest that a completes and that goes on with a label below the number
abbrev pub IsNarrowedBelow : Tree → List ℕ → ℕ → List (List ℕ) → List (List ℕ) → Type 0
IsNarrowedBelow constraint beginning least old new = (a b : ℕ) → a < length old →
    Contains (get_or new a []) b
    ↔ (Contains (get_or old a []) b
    × ((label : ℕ) (ending : List ℕ) → label < least → Ascends (beginning ++ label ∷ ending) → Completes (constraint_of constraint) (beginning ++ label ∷ ending) a → Completes (constraint_of constraint) (beginning ++ label ∷ ending) b))

-- all branches of the tree, behind the empty beginning
pub visit-start : (constraint : Tree) (main : Branches) → IsSpan constraint 0 main → ((ending : List ℕ) → IsEnding constraint 0 main ending ↔ Contains constraint.configs ending) → IsVisit constraint [] 0 main []
visit-start constraint main span behind = record {
  ascends = tt;
  bounded = record { above = tt; least = λ label ending h. omega arith };
  few = omega arith;
  span = span;
  behind = behind;
  spans = λ one held. absurd (Contains-none one held);
  filled = λ one held. absurd (Contains-none one held);
  complete = λ label ending. (λ f. absurd (Contains-none f.0 f.1), λ three. absurd (omega (arith, three.0)));
}

pub waiting-start : (constraint : Tree) (beginning : List ℕ) (bound : ℕ) (main : Branches) (candidates : List Candidate) → IsVisit constraint beginning bound main candidates
    → IsWaiting constraint beginning bound 0 main candidates
waiting-start constraint beginning bound main candidates visit = record {
  few = let few = visit.few in omega (arith, few);
  span = visit.span;
  behind = λ label ending. (λ e. (omega arith, (visit.behind (label ∷ ending)).0 e), λ two. (visit.behind (label ∷ ending)).1 two.1);
  spans = visit.spans;
  complete = λ x label ending. (
    (λ f. let three = (visit.complete x (label ∷ ending)).0 f in (omega arith, wider x three.0, three.1, three.2)),
    (λ four. (visit.complete x (label ∷ ending)).1 (narrower x four.1, four.2, four.3)),
  );
}
  where
    wider : (x : ℕ) → x < bound → x < max bound 0
    wider x h = omega arith

    narrower : (x : ℕ) → x < max bound 0 → x < bound
    narrower x h = omega arith

pub waiting-next : (constraint : Tree) (beginning : List ℕ) (bound label : ℕ) (rest : Branches) (opened after : List Candidate) → length opened ≤ max bound (label + 1) → length after ≤ length opened
    → IsSpan constraint (length beginning) rest
    → ((other : ℕ) (ending : List ℕ) → IsEnding constraint (length beginning) rest (other ∷ ending) ↔ ((label + 1 ≤ other) × Contains constraint.configs (beginning ++ other ∷ ending)))
    → AreSpans constraint (length beginning + 1) after → IsOpened constraint beginning bound label opened
    → ((x other : ℕ) (ending : List ℕ) → Fits constraint (length beginning + 1) after x (other ∷ ending) ↔ ((label < other) × Fits constraint (length beginning + 1) opened x (other ∷ ending)))
    → IsWaiting constraint beginning bound (label + 1) rest after
waiting-next constraint beginning bound label rest opened after few fewer span later spans is_opened fits = record {
  few = omega (arith, few, fewer);
  span = span;
  behind = later;
  spans = spans;
  complete = λ x other ending. (
    (λ f. let two = (fits x other ending).0 f in let four = (is_opened x other ending).0 two.1 in (omega (arith, two.0), four.1, four.2, four.3)),
    (λ four. (fits x other ending).1 (omega (arith, four.0), (is_opened x other ending).1 (omega (arith, four.0), four.1, four.2, four.3))),
  );
}

pub narrowed-start : (constraint : Tree) (beginning : List ℕ) (sets : List (List ℕ)) → IsNarrowedBelow constraint beginning 0 sets sets
narrowed-start constraint beginning sets a b below = (λ i. (i, λ label ending low h done. absurd (omega (arith, low))), λ two. two.0)

pub narrowed-next : (constraint : Tree) (beginning : List ℕ) (least next : ℕ) (old now new : List (List ℕ)) → IsNarrowedBelow constraint beginning least old now → length now ≡ length old → least ≤ next
    → IsNarrowed (constraint_of constraint) (beginning ++ next ∷ []) now new
    → ((label a : ℕ) (ending : List ℕ) → least ≤ label → label < next → Ascends (beginning ++ label ∷ ending) → Completes (constraint_of constraint) (beginning ++ label ∷ ending) a → ⊥)
    → IsNarrowedBelow constraint beginning (next + 1) old new
narrowed-next constraint beginning least next old now new so_far len goes more none a b below = (
  (λ i.
      let two = (more a b there).0 i in
      let one = (so_far a b below).0 two.0 in (
        one.0,
        λ label ending low h done. elim (sides label low) [
          | inl early ↦ one.1 label ending early h done
          | inr (inl between) ↦ absurd (none label a ending between.0 between.1 h done)
          | inr (inr same) ↦
              let up : Ascends ((beginning ++ next ∷ []) ++ ending) = subst Ascends (sym (regrouped ending)) (subst (λ l. Ascends (beginning ++ l ∷ ending)) same h) in
              let with_a : Completes (constraint_of constraint) ((beginning ++ next ∷ []) ++ ending) a = subst (λ r. Completes (constraint_of constraint) r a) (sym (regrouped ending)) (subst (λ l. Completes (constraint_of constraint) (beginning ++ l ∷ ending) a) same done) in
              subst (λ l. Completes (constraint_of constraint) (beginning ++ l ∷ ending) b) (sym same) (subst (λ r. Completes (constraint_of constraint) r b) (regrouped ending) (two.1 ending up with_a))
        ],
      )),
  (λ two. (more a b there).1 (
    (so_far a b below).1 (two.0, λ label ending low h done. two.1 label ending (omega (arith, low, goes)) h done),
    λ ending h done. subst (λ r. Completes (constraint_of constraint) r b) (sym (regrouped ending)) (two.1 next ending (omega arith) (subst Ascends (regrouped ending) h) (subst (λ r. Completes (constraint_of constraint) r a) (regrouped ending) done)),
  )),
)
  where
    there : a < length now
    there = omega (arith, below, len)

    regrouped : (ending : List ℕ) → (beginning ++ next ∷ []) ++ ending ≡ beginning ++ next ∷ ending
    regrouped ending = append_assoc beginning (next ∷ []) ending

    sides : (label : ℕ) → label < next + 1 → (label < least) ⊎ ((least ≤ label) × (label < next)) ⊎ (label ≡ next)
    sides label low = grind arith

-- a rest with a completion has so many labels
pub rest-length : (constraint : Tree) → IsConstraint MAX_LABELS (constraint_of constraint) → (rest : List ℕ) (a : ℕ) → Completes (constraint_of constraint) rest a → length rest + 1 ≡ constraint.degree
rest-length constraint is rest a done =
    let count : length (sorted (a ∷ rest)) ≡ constraint.degree = (AllByRecursion-contains (IsConfig constraint.degree MAX_LABELS) constraint.configs (sorted (a ∷ rest)) is.configs done).count in
    let same = length-sorted (a ∷ rest) in
    omega (arith, count, same)

-- the labels of a rest with a completion are below 128
pub rest-below : (constraint : Tree) → IsConstraint MAX_LABELS (constraint_of constraint) → (beginning : List ℕ) (label : ℕ) (ending : List ℕ) (a : ℕ) → Completes (constraint_of constraint) (beginning ++ label ∷ ending) a → label < MAX_LABELS
rest-below constraint is beginning label ending a done =
    at beginning (AllByRecursion-Rearranged (λ x. x < MAX_LABELS) (Rearranged-sym (Rearranged-sorted (a ∷ beginning ++ label ∷ ending)))
    (AllByRecursion-contains (IsConfig constraint.degree MAX_LABELS) constraint.configs (sorted (a ∷ beginning ++ label ∷ ending)) is.configs done).below).1
  where
    at : (front : List ℕ) → AllByRecursion (λ x. x < MAX_LABELS) (front ++ label ∷ ending) → label < MAX_LABELS
    at [] h = h.0
    at (x ∷ front) h = at front h.1

pub narrowed-all : (constraint : Tree) → IsConstraint MAX_LABELS (constraint_of constraint) → (beginning : List ℕ) (least : ℕ) (old new : List (List ℕ)) → length beginning + 1 < constraint.degree → IsNarrowedBelow constraint beginning least old new
    → ((label a : ℕ) (ending : List ℕ) → least ≤ label → Ascends (beginning ++ label ∷ ending) → Completes (constraint_of constraint) (beginning ++ label ∷ ending) a → ⊥)
    → IsNarrowed (constraint_of constraint) beginning old new
narrowed-all constraint is beginning least old new deep so_far none a b below = (
  (λ i. let one = (so_far a b below).0 i in (one.0, λ ending h done. by_first ending one.1 h done)),
  (λ two. (so_far a b below).1 (two.0, λ label ending low h done. two.1 (label ∷ ending) h done)),
)
  where
    or_past : (label : ℕ) → (label < least) ⊎ (least ≤ label)
    or_past label = grind arith

    by_first : (ending : List ℕ) → ((label : ℕ) (ending : List ℕ) → label < least → Ascends (beginning ++ label ∷ ending) → Completes (constraint_of constraint) (beginning ++ label ∷ ending) a → Completes (constraint_of constraint) (beginning ++ label ∷ ending) b)
        → Ascends (beginning ++ ending) → Completes (constraint_of constraint) (beginning ++ ending) a → Completes (constraint_of constraint) (beginning ++ ending) b
    by_first [] each h done = absurd (let l = rest-length constraint is (beginning ++ []) a done in let m = length-append beginning [] in omega (arith, l, m, deep))
    by_first (label ∷ ending) each h done = elim (or_past label) [
      | inl low ↦ each label ending low h done
      | inr past ↦ absurd (none label a ending past h done)
    ]

-- a whole rest, by the set of its completions
pub narrowed-rest : (constraint : Tree) → IsConstraint MAX_LABELS (constraint_of constraint) → (rest : List ℕ) (completions : List ℕ) (old new : List (List ℕ)) → length rest + 1 ≡ constraint.degree
    → Ascends rest → ((x : ℕ) → Contains completions x ↔ Completes (constraint_of constraint) rest x)
    → ((a b : ℕ) → a < length old → Contains (get_or new a []) b ↔ (Contains (get_or old a []) b × (Contains completions a → Contains completions b)))
    → IsNarrowed (constraint_of constraint) rest old new
narrowed-rest constraint is rest completions old new whole up complete narrow a b below = (
  (λ i. let two = (narrow a b below).0 i in (two.0, λ ending h done. by_first ending (λ with_a. (complete b).0 (two.1 ((complete a).1 with_a))) done)),
  (λ two. (narrow a b below).1 (two.0, λ i. (complete b).1 (subst (λ r. Completes (constraint_of constraint) r b) (ends rest) (two.1 [] (subst Ascends (sym (ends rest)) up) (subst (λ r. Completes (constraint_of constraint) r a) (sym (ends rest)) ((complete a).0 i)))))),
)
  where
    ends : (front : List ℕ) → front ++ [] ≡ front
    ends [] = refl
    ends (y ∷ front) = ap (λ l. y ∷ l) (ends front)

    by_first : (ending : List ℕ) → (Completes (constraint_of constraint) rest a → Completes (constraint_of constraint) rest b) → Completes (constraint_of constraint) (rest ++ ending) a → Completes (constraint_of constraint) (rest ++ ending) b
    by_first [] each done = subst (λ r. Completes (constraint_of constraint) r b) (sym (ends rest)) (each (subst (λ r. Completes (constraint_of constraint) r a) (ends rest) done))
    by_first (label ∷ ending) each done = absurd (let l = rest-length constraint is (rest ++ label ∷ ending) a done in let m = length-append rest (label ∷ ending) in omega (arith, l, m, whole))

-- ---- the completions of a rest
module _ (constraint : Tree) (is : IsConstraint MAX_LABELS (constraint_of constraint)) (rest : List ℕ) (bound : ℕ) (main : Branches) (candidates : List Candidate) (visit : IsVisit constraint rest bound main candidates)
    (whole : length rest + 1 ≡ constraint.degree) where
  -- a candidate completes the rest
  pub candidate-completes : (candidate : Candidate) → Contains candidates candidate → (candidate.label < bound) × Completes (constraint_of constraint) rest candidate.label
  candidate-completes candidate held =
      let some = visit.filled candidate held in
      let three = (visit.complete candidate.label some.0).0 (candidate, held, refl, some.1) in
      (three.0, no_more some.0 three.2)
    where
      ends : (front : List ℕ) → front ++ [] ≡ front
      ends [] = refl
      ends (y ∷ front) = ap (λ l. y ∷ l) (ends front)

      no_more : (ending : List ℕ) → Completes (constraint_of constraint) (rest ++ ending) candidate.label → Completes (constraint_of constraint) rest candidate.label
      no_more [] done = subst (λ r. Completes (constraint_of constraint) r candidate.label) (ends rest) done
      no_more (y ∷ ending) done = absurd (let l = rest-length constraint is (rest ++ y ∷ ending) candidate.label done in let m = length-append rest (y ∷ ending) in omega (arith, l, m, whole))

  pub completes-cases : (x : ℕ) → Completes (constraint_of constraint) rest x → ((candidate : Candidate) × Contains candidates candidate × (candidate.label ≡ x)) ⊎ ((ending : List ℕ) × IsEnding constraint (length rest) main (x ∷ ending))
  completes-cases x done = elim (sides x) [
    | inl low ↦
        let f = (visit.complete x []).1 (low, subst Ascends (sym (ends rest)) visit.ascends, subst (λ r. Completes (constraint_of constraint) r x) (sym (ends rest)) done) in
        inl (f.0, f.1, f.2)
    | inr past ↦ inr ([], (visit.behind (x ∷ [])).1 (subst (Contains constraint.configs) (completes-last constraint is rest bound visit.bounded x past visit.ascends) done))
  ]
    where
      sides : (x : ℕ) → (x < bound) ⊎ (bound ≤ x)
      sides x = grind arith

      ends : (front : List ℕ) → front ++ [] ≡ front
      ends [] = refl
      ends (y ∷ front) = ap (λ l. y ∷ l) (ends front)

  pub next-completes : (x : ℕ) (ending : List ℕ) → IsEnding constraint (length rest) main (x ∷ ending) → Completes (constraint_of constraint) rest x
  next-completes x ending h = no_more ending ((visit.behind (x ∷ ending)).0 h)
    where
      moved : (front : List ℕ) → Rearranged (front ++ x ∷ []) (x ∷ front)
      moved [] = Rearranged-refl (x ∷ [])
      moved (y ∷ front) = chained (kept (moved front)) swapped

      no_more : (ending : List ℕ) → Contains constraint.configs (rest ++ x ∷ ending) → Completes (constraint_of constraint) rest x
      no_more [] held = subst (Contains constraint.configs) (sym (sorted_again (rest ++ x ∷ []) (config-ascends constraint is rest bound visit.bounded (rest ++ x ∷ []) held)) ∙ sorted-Rearranged (moved rest)) held
      no_more (y ∷ ending) held =
          absurd (let count : length (rest ++ x ∷ y ∷ ending) ≡ constraint.degree = (AllByRecursion-contains (IsConfig constraint.degree MAX_LABELS) constraint.configs (rest ++ x ∷ y ∷ ending) is.configs held).count in
          let m = length-append rest (x ∷ y ∷ ending) in omega (arith, count, m, whole))

-- ---- one round: a label is opened, the candidates are parted behind it, and the rests behind it are visited
pub record IsOpenedAt (constraint : Tree) (beginning : List ℕ) (bound label : ℕ) (low high : Branches) (opened : List Candidate) : Type 0 where
  pub below : IsSpan constraint (length beginning + 1) low
  pub after : IsSpan constraint (length beginning) high
  pub behind : (ending : List ℕ) → IsEnding constraint (length beginning + 1) low ending ↔ Contains constraint.configs (beginning ++ label ∷ ending)
  pub later : (other : ℕ) (ending : List ℕ) → IsEnding constraint (length beginning) high (other ∷ ending) ↔ ((label + 1 ≤ other) × Contains constraint.configs (beginning ++ other ∷ ending))
  pub few : length opened ≤ max bound (label + 1)
  pub spans : AreSpans constraint (length beginning + 1) opened
  pub is_opened : IsOpened constraint beginning bound label opened

pub record IsPartedAt (constraint : Tree) (depth label : ℕ) (all below after : List Candidate) : Type 0 where
  pub few_below : length below ≤ length all
  pub few_after : length after ≤ length all
  pub spans_below : AreSpans constraint (depth + 1) below
  pub filled_below : AreFilled constraint (depth + 1) below
  pub spans_after : AreSpans constraint depth after
  pub fits_below : (x : ℕ) (ending : List ℕ) → Fits constraint (depth + 1) below x ending ↔ Fits constraint depth all x (label ∷ ending)
  pub fits_after : (x other : ℕ) (ending : List ℕ) → Fits constraint depth after x (other ∷ ending) ↔ ((label < other) × Fits constraint depth all x (other ∷ ending))

module _ (constraint : Tree) (is : IsConstraint MAX_LABELS (constraint_of constraint)) (beginning : List ℕ) (bound : ℕ) (bounded : IsBound beginning bound) (least : ℕ) (rest : Branches) (waiting : List Candidate)
    (state : IsWaiting constraint beginning bound least rest waiting) (label : ℕ) (next : IsNext constraint (length beginning) rest waiting label) (low high : Branches) (opened below after : List Candidate)
    (open_facts : IsOpenedAt constraint beginning bound label low high opened) (part_facts : IsPartedAt constraint (length beginning + 1) label opened below after) where
  pub round-visit : IsVisit constraint (beginning ++ label ∷ []) (label + 1) low below
  round-visit =
      deeper constraint is beginning bound bounded least rest waiting state label next opened open_facts.is_opened low open_facts.behind open_facts.below below
      (few (length below) (length opened) part_facts.few_below open_facts.few (next-bound constraint is beginning bound bounded least rest waiting state label next))
      part_facts.spans_below part_facts.filled_below part_facts.fits_below
    where
      few : (b o : ℕ) → b ≤ o → o ≤ max bound (label + 1) → bound ≤ label + 1 → b ≤ label + 1
      few b o h k le = omega arith

  pub round-waiting : IsWaiting constraint beginning bound (label + 1) high after
  round-waiting = waiting-next constraint beginning bound label high opened after open_facts.few part_facts.few_after open_facts.after open_facts.later part_facts.spans_after open_facts.is_opened part_facts.fits_after

  pub round-narrowed : (old now new : List (List ℕ)) → IsNarrowedBelow constraint beginning least old now → length now ≡ length old → IsNarrowed (constraint_of constraint) (beginning ++ label ∷ []) now new
      → IsNarrowedBelow constraint beginning (label + 1) old new
  round-narrowed old now new so_far len more =
      narrowed-next constraint beginning least label old now new so_far len (next-goes constraint is beginning bound bounded least rest waiting state label next).0 more
      (λ between a ending from early h done. nothing-next constraint is beginning bound bounded least rest waiting state between a ending from
      (λ other others le e. (let least_one = next.beside other others e in omega (arith, least_one, le, early)))
      (λ x others f. (let least_one = next.among x between others f in omega (arith, least_one, early)))
      h done)

-- where nothing comes next, no rest that goes on from here has a completion
pub nothing-more : (constraint : Tree) (is : IsConstraint MAX_LABELS (constraint_of constraint)) (beginning : List ℕ) (bound : ℕ) (bounded : IsBound beginning bound) (least : ℕ) (rest : Branches) (waiting : List Candidate)
    → IsWaiting constraint beginning bound least rest waiting
    → ((ending : List ℕ) → IsEnding constraint (length beginning) rest ending → ⊥) → ((x : ℕ) (ending : List ℕ) → Fits constraint (length beginning + 1) waiting x ending → ⊥)
    → (label a : ℕ) (ending : List ℕ) → least ≤ label → Ascends (beginning ++ label ∷ ending) → Completes (constraint_of constraint) (beginning ++ label ∷ ending) a → ⊥
nothing-more constraint is beginning bound bounded least rest waiting state no_ending no_fit label a ending from h done =
    nothing-next constraint is beginning bound bounded least rest waiting state label a ending from (λ other others le e. no_ending (other ∷ others) e) (λ x others f. no_fit x (label ∷ others) f) h done

-- ---- all rests
same_lists : (xs ys : List (List ℕ)) → length xs ≡ length ys → ((k : ℕ) → k < length xs → get_or xs k [] ≡ get_or ys k []) → xs ≡ ys
same_lists [] [] l h = refl
same_lists [] (y ∷ ys) l h = absurd (omega (arith, l))
same_lists (x ∷ xs) [] l h = absurd (omega (arith, l))
same_lists (x ∷ xs) (y ∷ ys) l h =
    let one : x ≡ y = h 0 (omega arith) in
    let others : xs ≡ ys = same_lists xs ys (omega (arith, l)) (λ k below. h (suc k) (omega (arith, below))) in
    (λ i. one i ∷ others i)

-- the narrowed sets are the up-sets
pub narrowed-up_sets : (constraint : Tree) → IsConstraint MAX_LABELS (constraint_of constraint) → (n : ℕ) (old new : List (List ℕ)) → n ≤ MAX_LABELS → old ≡ map (λ x. count_from 0 n) (count_from 0 n) → length new ≡ length old
    → ((k : ℕ) → ((a : ℕ) → IsLabelSet k (get_or old a [])) → (a : ℕ) → IsLabelSet k (get_or new a []))
    → IsNarrowed (constraint_of constraint) [] old new → new ≡ map (λ label. up_set (constraint_of constraint) label n) (count_from 0 n)
narrowed-up_sets constraint is n old new few e len sets narrowed = same_lists new (map (λ label. up_set (constraint_of constraint) label n) (count_from 0 n)) (len ∙ old_count ∙ sym (length-map' (λ label. up_set (constraint_of constraint) label n) (count_from 0 n) ∙ length-count_from 0 n)) same
  where
    old_count : length old ≡ n
    old_count = ap length e ∙ length-map' (λ x. count_from 0 n) (count_from 0 n) ∙ length-count_from 0 n

    at_map : (f : ℕ → List ℕ) (k : ℕ) → k < n → get_or (map f (count_from 0 n)) k [] ≡ f k
    at_map f k below =
        get_or-map f (count_from 0 n) k 0 [] (let l = length-count_from 0 n in omega (arith, l, below)) ∙ ap f (get_or-count_from 0 n k 0 below ∙ omega arith)

    old_at : (k : ℕ) → k < n → get_or old k [] ≡ count_from 0 n
    old_at k below = ap (λ l. get_or l k []) e ∙ at_map (λ x. count_from 0 n) k below

    or_past : (k : ℕ) → (k < n) ⊎ (n ≤ k)
    or_past k = grind arith

    old_sets : (a : ℕ) → IsLabelSet n (get_or old a [])
    old_sets a = elim (or_past a) [
      | inl below ↦ subst (IsLabelSet n) (sym (old_at a below)) (IsLabelSet-count_from 0 n n (omega arith))
      | inr past ↦ subst (IsLabelSet n) (sym (get_or_past old a [] (let c = old_count in omega (arith, c, past)))) (tt, tt)
    ]

    same : (k : ℕ) → k < length new → get_or new k [] ≡ get_or (map (λ label. up_set (constraint_of constraint) label n) (count_from 0 n)) k []
    same k below = one_set ∙ sym (at_map (λ label. up_set (constraint_of constraint) label n) k low)
      where
        low : k < n
        low = let c = old_count in omega (arith, below, len, c)

        there : k < length old
        there = omega (arith, below, len)

        to : (b : ℕ) → IsIn b (get_or new k []) → IsIn b (up_set (constraint_of constraint) k n)
        to b i =
            let two = (narrowed k b there).0 i in
            let range = count_from_range 0 n b (subst (λ l. Contains l b) (old_at k low) two.0) in
            (rest_law (constraint_of constraint) MAX_LABELS n k b is).1 (omega (arith, range.1), λ rest done. unsorted rest b (two.1 (sorted rest) (sorted_rises rest) (resorted rest k done)))
          where
            resorted : (rest : List ℕ) (x : ℕ) → Completes (constraint_of constraint) rest x → Completes (constraint_of constraint) (sorted rest) x
            resorted rest x done = Has-Rearranged (constraint_of constraint) (kept (Rearranged-sorted rest)) done

            unsorted : (rest : List ℕ) (x : ℕ) → Completes (constraint_of constraint) (sorted rest) x → Completes (constraint_of constraint) rest x
            unsorted rest x done = Has-Rearranged (constraint_of constraint) (Rearranged-sym (kept (Rearranged-sorted rest))) done

        from : (b : ℕ) → IsIn b (up_set (constraint_of constraint) k n) → IsIn b (get_or new k [])
        from b i =
            let two = (rest_law (constraint_of constraint) MAX_LABELS n k b is).0 i in
            (narrowed k b there).1 (subst (λ l. Contains l b) (sym (old_at k low)) (Contains-count_from 0 n b (omega arith) (let h = two.0 in omega (arith, h))), λ ending h done. two.1 ending done)

        new_set : IsLabelSet n (get_or new k [])
        new_set = sets n old_sets k

        up_set_set : IsLabelSet n (up_set (constraint_of constraint) k n)
        up_set_set = IsLabelSet-filter (λ b. is_at_least_as_strong (constraint_of constraint) b k) n (count_from 0 n) (IsLabelSet-count_from 0 n n (omega arith))

        one_set : get_or new k [] ≡ up_set (constraint_of constraint) k n
        one_set = same_labels (get_or new k []) (up_set (constraint_of constraint) k n) new_set.0 up_set_set.0 (IsWithin-Sub (get_or new k []) (up_set (constraint_of constraint) k n) to) (IsWithin-Sub (up_set (constraint_of constraint) k n) (get_or new k []) from)

-- where no set has another label than its own, no rest narrows them
pub narrowed-alone : (constraint : Tree) (beginning : List ℕ) (sets : List (List ℕ)) → ((a b : ℕ) → a < length sets → IsIn b (get_or sets a []) → b ≡ a) → IsNarrowed (constraint_of constraint) beginning sets sets
narrowed-alone constraint beginning sets alone a b below = (
  (λ i. (i, λ ending h done. subst (Completes (constraint_of constraint) (beginning ++ ending)) (sym (alone a b below i)) done)),
  (λ two. two.0),
)
