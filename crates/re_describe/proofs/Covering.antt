-- Rows that spell a constraint.
use Rattle.std.proofs.Common.{◌≡◌, ℕ, zero, suc, ◌<◌, ◌+◌, List, [], ◌∷◌, ◌++◌, length, get_or, refl, sym, ap, ◌∙◌, subst, inl, inr, arith, true, false, take, ◌≤◌}
use Rattle.std.specs.Prelude.{Contains}
use Rattle.std.specs.List.{AllByRecursion}
use Rattle.std.specs.List.Sorted.{IsPermutation}
use Rattle.std.proofs.lemmas.List.Sorted.{Contains-permutation, IsPermutation-sym}
use Rattle.std.proofs.lemmas.List.{take_all}
use Rattle.std.proofs.lemmas.List.Elements.{Contains-get_or}
use Rattle.re_labels.proofs.Placing.{Dominates-dominates, Dominates-refl, dominates-Dominates}
use Rattle.re_labels.proofs.Sorting.{sorted_again}
use Rattle.re_labels.specs.Configs.{IsConfig, sorted}
use Rattle.re_labels.specs.Rows.{Dominates, dominates, singles}
use Rattle.re_labels.proofs.Membership.{AllByRecursion-contains, any_found, any_true, Contains-In, Contains-cases, Contains-here, Contains-none, In-Contains, In-append_left}
use Rattle.re_labels.proofs.ClosureLaw.{closure_law}
use Rattle.re_labels.specs.Constraints.{Constraint, IsConstraint}
use Rattle.re_labels.specs.GoodRows.{IsDominated, IsGood, is_dominated, max_rows}
use Rattle.re_step.proofs.Keeping.{up_to, contains_last, contains_either}
use Rattle.re_given.proofs.Itself.{only_choice}
use Rattle.re_describe.specs.Spelling.{Spells, TakesIn}

abbrev pub Rows : Type 0
Rows = List (List (List ℕ))

-- ---- maximal rows spell
pub max_spells : (constraint : Constraint) (n : ℕ) → IsConstraint n constraint → Spells constraint (max_rows constraint n)
max_spells constraint n is =
    let closed = (closure_law constraint n (max_rows constraint n) is).1 refl in
    record { good = λ row held. (closed.good row held).1; whole = closed.configs }

-- ---- each configuration alone
filled_alone : (config : List ℕ) → AllByRecursion (λ s. 0 < length s) (singles config)
filled_alone [] = tt
filled_alone (x ∷ config) = (omega arith, filled_alone config)

length_alone : (config : List ℕ) → length (singles config) ≡ length config
length_alone [] = refl
length_alone (x ∷ config) = ap suc (length_alone config)

pub alone_good : (constraint : Constraint) (n : ℕ) (config : List ℕ) → IsConfig constraint.degree n config → Contains constraint.configs config → IsGood constraint (singles config)
alone_good constraint n config is held = record {
  count = length_alone config ∙ is.count;
  filled = filled_alone config;
  choice = λ labels chosen. let same : sorted labels ≡ config = ap sorted (only_choice config labels chosen) ∙ sorted_again config is.ascends in subst (Contains constraint.configs) (sym same) held;
}

-- ---- one row more
contains_before : (rows : Rows) (row z : List (List ℕ)) → Contains rows z → Contains (rows ++ row ∷ []) z
contains_before rows row z held = In-Contains z (rows ++ row ∷ []) (In-append_left z rows (row ∷ []) (Contains-In z rows held))

-- ---- the rows so far: good ones, that have the first configurations
pub record SpellsFirst (constraint : Constraint) (count : ℕ) (rows : Rows) : Type 0 where
  pub good : (row : List (List ℕ)) → Contains rows row → IsGood constraint row
  pub first : (k : ℕ) → k < count → IsDominated rows (singles (get_or constraint.configs k []))

pub one_kept : (constraint : Constraint) (place : ℕ) (rows : Rows) → SpellsFirst constraint place rows → IsDominated rows (singles (get_or constraint.configs place [])) → SpellsFirst constraint (place + 1) rows
one_kept constraint place rows before here = record {
  good = before.good;
  first = up_to place (λ k. IsDominated rows (singles (get_or constraint.configs k []))) before.first here;
}

pub one_more : (constraint : Constraint) (place : ℕ) (rows all : Rows) (row : List (List ℕ)) → SpellsFirst constraint place rows → IsGood constraint row → IsDominated (row ∷ []) (singles (get_or constraint.configs place []))
    → all ≡ rows ++ row ∷ [] → SpellsFirst constraint (place + 1) all
one_more constraint place rows all row before good has is = subst (SpellsFirst constraint (place + 1)) (sym is) (record {
  good = λ z held. elim (contains_either rows row z held) [ inl i ↦ before.good z i | inr e ↦ subst (IsGood constraint) (sym e) good ];
  first = up_to place (λ k. IsDominated (rows ++ row ∷ []) (singles (get_or constraint.configs k [])))
      (λ k low. let top = before.first k low in (top.0, contains_before rows row top.0 top.1, top.2))
      (elim (Contains-cases has.0 row [] has.1) [ inl e ↦ (row, contains_last rows row, subst (λ z. Dominates z (singles (get_or constraint.configs place []))) e has.2) | inr none ↦ absurd (Contains-none has.0 none) ]);
})

at_place : (configs : List (List ℕ)) (config : List ℕ) → Contains configs config → (k : ℕ) × (k < length configs) × (get_or configs k [] ≡ config)
at_place [] config held = absurd (Contains-none config held)
at_place (c ∷ configs) config held = elim (Contains-cases config c configs held) [
  | inl e ↦ (zero, omega arith, sym e)
  | inr rest ↦ let at = at_place configs config rest in let low = at.1 in (suc at.0, omega (arith, low), at.2)
]

pub all_first : (constraint : Constraint) (count : ℕ) (rows : Rows) → SpellsFirst constraint count rows → length constraint.configs ≡ count → Spells constraint rows
all_first constraint count rows first whole = record {
  good = first.good;
  whole = λ config held. let at = at_place constraint.configs config held in let low = at.1 in subst (λ c. IsDominated rows (singles c)) at.2 (first.first at.0 (omega (arith, low, whole)));
}

pub alone_dominated : (config : List ℕ) → IsDominated (singles config ∷ []) (singles config)
alone_dominated config = (singles config, Contains-here (singles config) [], Dominates-refl (singles config))

pub taken_in : (constraint : Constraint) (place : ℕ) (others old new : Rows) (row : List (List ℕ)) → Spells constraint others → SpellsFirst constraint place old → row ≡ singles (get_or constraint.configs place [])
    → TakesIn others old new row → SpellsFirst constraint (place + 1) new
taken_in constraint place others old new row spells before is (inl (has, same)) = subst (SpellsFirst constraint (place + 1)) (sym same) (one_kept constraint place old before (subst (IsDominated old) is has))
taken_in constraint place others old new row spells before is (inr (none, (top, held, has, more))) = one_more constraint place old new top before (spells.good top held) (subst (IsDominated (top ∷ [])) is has) more

-- ---- the configuration at a place
pub there : (constraint : Constraint) (place : ℕ) → place < length constraint.configs → Contains constraint.configs (get_or constraint.configs place [])
there constraint place low = Contains-get_or constraint.configs place [] low

pub is_config : (constraint : Constraint) (n place : ℕ) → IsConstraint n constraint → place < length constraint.configs → IsConfig constraint.degree n (get_or constraint.configs place [])
is_config constraint n place is low = AllByRecursion-contains (IsConfig constraint.degree n) constraint.configs (get_or constraint.configs place []) is.configs (there constraint place low)

pub as_long : (constraint : Constraint) (n place : ℕ) (rows : Rows) (row : List (List ℕ)) → IsConstraint n constraint → place < length constraint.configs → row ≡ singles (get_or constraint.configs place [])
    → ((top : List (List ℕ)) → Contains rows top → IsGood constraint top) → (top : List (List ℕ)) → Contains rows top → length top ≡ length row
as_long constraint n place rows row is low same good top held =
    (good top held).count ∙ sym (ap length same ∙ length_alone (get_or constraint.configs place []) ∙ (is_config constraint n place is low).count)

pub spelled_there : (constraint : Constraint) (place : ℕ) (rows : Rows) (row : List (List ℕ)) → Spells constraint rows → place < length constraint.configs → row ≡ singles (get_or constraint.configs place []) → IsDominated rows row
spelled_there constraint place rows row spells low same = subst (IsDominated rows) (sym same) (spells.whole (get_or constraint.configs place []) (there constraint place low))

pub alone_there : (constraint : Constraint) (n place : ℕ) (rows all : Rows) (row : List (List ℕ)) → IsConstraint n constraint → place < length constraint.configs → row ≡ singles (get_or constraint.configs place [])
    → SpellsFirst constraint place rows → all ≡ rows ++ row ∷ [] → SpellsFirst constraint (place + 1) all
alone_there constraint n place rows all row is low same before more =
    let config = get_or constraint.configs place [] in
    one_more constraint place rows all row before (subst (IsGood constraint) (sym same) (alone_good constraint n config (is_config constraint n place is low) (there constraint place low)))
    (subst (λ r. IsDominated (r ∷ []) (singles config)) (sym same) (alone_dominated config)) more

-- ---- a row that dominates another one
pub tops : (top row : List (List ℕ)) → dominates top row ≡ true → IsDominated (top ∷ []) row
tops top row told = (top, Contains-here top [], dominates-Dominates top row told)

pub none_tops : (rows : Rows) (row : List (List ℕ)) (n : ℕ) → is_dominated (take n rows) row ≡ false → length rows ≤ n → IsDominated rows row → ⊥
none_tops rows row n none all (top, held, has) =
    let whole : take n rows ≡ rows = take_all n rows all in
    let told : is_dominated rows row ≡ true = any_true (λ top. dominates top row) rows top held (Dominates-dominates top row has) in
    let bad : false ≡ true = sym none ∙ ap (λ r. is_dominated r row) whole ∙ told in cc

pub not_dominated : (rows : Rows) (row : List (List ℕ)) → is_dominated rows row ≡ false → IsDominated rows row → ⊥
not_dominated rows row none (top, held, has) =
    let told : is_dominated rows row ≡ true = any_true (λ top. dominates top row) rows top held (Dominates-dominates top row has) in
    let bad : false ≡ true = sym none ∙ told in cc

pub has_one : (rows : Rows) (row : List (List ℕ)) → is_dominated rows row ≡ true → IsDominated rows row
has_one rows row told = let one = any_found (λ top. dominates top row) rows told in (one.0, one.1, dominates-Dominates one.0 row one.2)

-- ---- in another order
pub spells_moved : (constraint : Constraint) (rows moved : Rows) → IsPermutation rows moved → Spells constraint rows → Spells constraint moved
spells_moved constraint rows moved order spells = record {
  good = λ row held. spells.good row (Contains-permutation moved rows row (IsPermutation-sym rows moved order) held);
  whole = λ config held. let top = spells.whole config held in (top.0, Contains-permutation rows moved top.0 order top.1, top.2);
}
