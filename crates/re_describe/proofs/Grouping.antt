-- The groups of a constraint: none stands twice or dominates another one.
use Rattle.std.proofs.Common.{◌≡◌, ℕ, ◌<◌, ◌+◌, arith, Bool, true, false, ◌||◌, List, [], ◌∷◌, ◌++◌, length, get_or, refl, sym, ap, ◌∙◌, subst, inl, inr}
use Rattle.std.specs.Prelude.{Contains}
use Rattle.std.specs.List.{AllByRecursion, IsDistinct}
use Rattle.std.specs.List.Sorted.{IsPermutation}
use Rattle.std.proofs.lemmas.List.Sorted.{Contains-permutation, IsPermutation-sym}
use Rattle.std.proofs.lemmas.Map.Keys.{IsDistinct-IsPermutation}
use Rattle.re_labels.proofs.ChoicesOfRows.{IsChoice-Rearranged, IsChoice-under}
use Rattle.re_labels.proofs.Placing.{dominates-Dominates}
use Rattle.re_labels.proofs.Rearranging.{Rearranged-sym}
use Rattle.re_labels.proofs.Sorting.{sorted-Rearranged, sorted_again}
use Rattle.re_labels.specs.Configs.{IsConfig, sorted}
use Rattle.re_labels.specs.Rows.{Dominates, dominates, singles}
use Rattle.re_labels.specs.declared.TheConstants.{MAX_ROWS}
use Rattle.re_labels.proofs.Membership.{AllByRecursion-contains, Contains-In, Contains-cases, Contains-here, Contains-later, Contains-none}
use Rattle.re_labels.proofs.Closure.{Choice-singles}
use Rattle.re_labels.proofs.ClosureLaw.{closure_law}
use Rattle.re_labels.proofs.MaxRows.{max_rows-IsMaximal}
use Rattle.re_labels.specs.Constraints.{Constraint, IsConstraint}
use Rattle.re_labels.specs.GoodRows.{IsDominated, max_rows}
use Rattle.re_step.proofs.Keeping.{contains_either}
use Rattle.re_given.proofs.Itself.{only_choice}
use Rattle.re_describe.proofs.Covering.{Rows, SpellsFirst, all_first, max_spells, spells_moved, taken_in}
use Rattle.re_describe.specs.Spelling.{AreAlone, AreApart, AreGroups, AreSources, AreTaken, AreTops, Spells, TakesIn, comparable}

-- ---- the rows among which groups are
pub max_sources : (constraint : Constraint) (n : ℕ) → IsConstraint n constraint → AreSources constraint n (max_rows constraint n)
max_sources constraint n is = record {
  spells = max_spells constraint n is;
  tops = inl (λ row held. max_rows-IsMaximal constraint n row (Contains-In row (max_rows constraint n) held));
  apart = ((closure_law constraint n (max_rows constraint n) is).1 refl).apart;
}

-- a configuration alone dominates itself only
alone_once : (n : ℕ) (constraint : Constraint) (config other : List ℕ) → IsConstraint n constraint → Contains constraint.configs config → Contains constraint.configs other
    → Dominates (singles config) (singles other) → config ≡ other
alone_once n constraint config other is held there (moved, order, under) =
    let chosen = IsChoice-Rearranged other (Rearranged-sym order) (IsChoice-under other (singles other) moved under (Choice-singles other)) in
    let same : chosen.0 ≡ config = only_choice config chosen.0 chosen.2 in
    let c : IsConfig constraint.degree n config = AllByRecursion-contains (IsConfig constraint.degree n) constraint.configs config is.configs held in
    let o : IsConfig constraint.degree n other = AllByRecursion-contains (IsConfig constraint.degree n) constraint.configs other is.configs there in
    sym (sorted_again config c.ascends) ∙ ap sorted (sym same) ∙ sym (sorted-Rearranged chosen.1) ∙ sorted_again other o.ascends

alone_apart : (n : ℕ) (constraint : Constraint) (rows : Rows) → IsConstraint n constraint → AreAlone constraint rows → AreApart rows
alone_apart n constraint rows is alone row other held there over =
    let (config, at, same) = alone row held in
    let (second, beside, equal) = alone other there in
    let over' : Dominates (singles config) (singles second) = subst (λ z. Dominates z (singles second)) same (subst (Dominates row) equal over) in
    same ∙ ap singles (alone_once n constraint config second is at beside over') ∙ sym equal

pub alone_sources : (constraint : Constraint) (n : ℕ) (rows : Rows) → IsConstraint n constraint → MAX_ROWS < length (max_rows constraint n) → Spells constraint rows → AreAlone constraint rows
    → AreSources constraint n rows
alone_sources constraint n rows is many spells alone = record { spells = spells; tops = inr (many, alone); apart = alone_apart n constraint rows is alone }

tops_among : (constraint : Constraint) (n : ℕ) (rows few : Rows) → ((row : List (List ℕ)) → Contains few row → Contains rows row) → AreTops constraint n rows → AreTops constraint n few
tops_among constraint n rows few among (inl maximal) = inl (λ row held. maximal row (among row held))
tops_among constraint n rows few among (inr (many, alone)) = inr (many, (λ row held. alone row (among row held)))

moved_among : (rows moved : Rows) → IsPermutation rows moved → (row : List (List ℕ)) → Contains moved row → Contains rows row
moved_among rows moved order row held = Contains-permutation moved rows row (IsPermutation-sym rows moved order) held

pub sources_moved : (constraint : Constraint) (n : ℕ) (rows moved : Rows) → IsPermutation rows moved → AreSources constraint n rows → AreSources constraint n moved
sources_moved constraint n rows moved order sources = record {
  spells = spells_moved constraint rows moved order sources.spells;
  tops = tops_among constraint n rows moved (moved_among rows moved order) sources.tops;
  apart = λ row other held there over. sources.apart row other (moved_among rows moved order row held) (moved_among rows moved order other there) over;
}

-- ---- configurations alone, one after another
pub alone_more : (constraint : Constraint) (rows all : Rows) (row : List (List ℕ)) (config : List ℕ) → AreAlone constraint rows → Contains constraint.configs config → row ≡ singles config → all ≡ rows ++ row ∷ []
    → AreAlone constraint all
alone_more constraint rows all row config alone held is more z at = elim (contains_either rows row z (subst (λ l. Contains l z) more at)) [
  | inl before ↦ alone z before
  | inr e ↦ (config, held, e ∙ is)
]

-- ---- the groups so far
pub record TakenFirst (constraint : Constraint) (count : ℕ) (others rows : Rows) : Type 0 where
  pub first : SpellsFirst constraint count rows
  pub distinct : IsDistinct comparable rows
  pub among : (row : List (List ℕ)) → Contains rows row → Contains others row

pub none_taken : (constraint : Constraint) (others : Rows) → TakenFirst constraint 0 others []
unfolding IsDistinct
none_taken constraint others = record {
  first = record { good = λ row held. absurd (Contains-none row held); first = λ k low. absurd (omega (arith, low)) };
  distinct = tt;
  among = λ row held. absurd (Contains-none row held);
}

all_last : (p : List (List ℕ) → Type 0) (xs : Rows) (y : List (List ℕ)) → AllByRecursion p xs → p y → AllByRecursion p (xs ++ y ∷ [])
all_last p [] y h last = (last, tt)
all_last p (x ∷ xs) y h last = (h.0, all_last p xs y h.1 last)

distinct_last : (xs : Rows) (y : List (List ℕ)) → IsDistinct comparable xs → ((x : List (List ℕ)) → Contains xs x → comparable x y ≡ false) → IsDistinct comparable (xs ++ y ∷ [])
unfolding IsDistinct
distinct_last [] y d apart = (tt, tt)
distinct_last (x ∷ xs) y d apart =
    (all_last (λ z. comparable x z ≡ false) xs y d.0 (apart x (Contains-here x xs)), distinct_last xs y d.1 (λ z held. apart z (Contains-later z x xs held)))

neither : (one other : Bool) → (one ≡ true → ⊥) → (other ≡ true → ⊥) → (one || other) ≡ false
neither true other a b = absurd (a refl)
neither false true a b = absurd (b refl)
neither false false a b = refl

-- a row that dominates what none of the list does is comparable with none of them
fresh : (others old : Rows) (row top : List (List ℕ)) → AreApart others → ((z : List (List ℕ)) → Contains old z → Contains others z) → (IsDominated old row → ⊥) → Contains others top → Dominates top row
    → (z : List (List ℕ)) → Contains old z → comparable z top ≡ false
fresh others old row top apart among none held over z at =
    let other : z ≡ top → ⊥ = λ same. none (z, at, subst (λ t. Dominates t row) (sym same) over) in
    neither (dominates z top) (dominates top z) (λ e. other (apart z top (among z at) held (dominates-Dominates z top e)))
    (λ e. other (sym (apart top z held (among z at) (dominates-Dominates top z e))))

pub taken_further : (constraint : Constraint) (place : ℕ) (others old new : Rows) (row : List (List ℕ)) → Spells constraint others → AreApart others → TakenFirst constraint place others old
    → row ≡ singles (get_or constraint.configs place []) → TakesIn others old new row → TakenFirst constraint (place + 1) others new
taken_further constraint place others old new row spells apart before is takes = go takes (taken_in constraint place others old new row spells before.first is takes)
  where
    go : TakesIn others old new row → SpellsFirst constraint (place + 1) new → TakenFirst constraint (place + 1) others new
    go (inl (has, same)) first = record { first = first; distinct = subst (IsDistinct comparable) (sym same) before.distinct; among = λ z at. before.among z (subst (λ l. Contains l z) same at) }
    go (inr (none, (top, held, has, more))) first = record {
      first = first;
      distinct = subst (IsDistinct comparable) (sym more) (distinct_last old top before.distinct (fresh others old row top apart before.among none held
          (elim (Contains-cases has.0 top [] has.1) [ inl e ↦ subst (λ t. Dominates t row) e has.2 | inr nothing ↦ absurd (Contains-none has.0 nothing) ])));
      among = λ z at. elim (contains_either old top z (subst (λ l. Contains l z) more at)) [ inl earlier ↦ before.among z earlier | inr e ↦ subst (Contains others) (sym e) held ];
    }

pub all_taken : (constraint : Constraint) (count : ℕ) (others rows : Rows) → TakenFirst constraint count others rows → length constraint.configs ≡ count → AreTaken constraint others rows
all_taken constraint count others rows taken whole = record { spells = all_first constraint count rows taken.first whole; distinct = taken.distinct; among = taken.among }

-- ---- the groups
comparable-flips : (x y : List (List ℕ)) → comparable x y ≡ comparable y x
comparable-flips x y = go (dominates x y) (dominates y x)
  where
    go : (a b : Bool) → (a || b) ≡ (b || a)
    go true true = refl
    go true false = refl
    go false true = refl
    go false false = refl

pub groups_told : (constraint : Constraint) (n : ℕ) (others few moved : Rows) → AreSources constraint n others → AreTaken constraint others few → IsPermutation few moved → AreGroups constraint n moved
groups_told constraint n others few moved sources taken order = record {
  spells = spells_moved constraint few moved order taken.spells;
  distinct = IsDistinct-IsPermutation comparable comparable-flips few moved order taken.distinct;
  tops = tops_among constraint n others moved (λ row held. taken.among row (moved_among few moved order row held)) sources.tops;
}
