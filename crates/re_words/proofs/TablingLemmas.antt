-- Tables that are printed, and problems that are compared.
use Rattle.std.proofs.Common.{◌≡◌, ℕ, ◌<◌, Bool, true, false, not, ◌&&◌, eqb, List, [], ◌∷◌, length, get_or, refl, sym, ap, ◌∙◌, subst, true≢false}
use Rattle.std.specs.List.{AllByRecursion}
use Rattle.std.proofs.lemmas.Slice.Eq.{bytes_eq-Decides}
use Rattle.std.specs.Str.{bytes_eq}
use Rattle.re_algo.proofs.FasterCode.{no_fault}
use Rattle.re_algo.proofs.JudgeCode.{labels_within}
use Rattle.re_algo.specs.Tables.{AnswerTable, IsTable, entries}
use Rattle.re_labels.proofs.Before.{same_list-refl, same_list-same}
use Rattle.re_labels.proofs.Membership.{AllByRecursion-from_contains}
use Rattle.re_labels.proofs.Tests.{and-true, eqb-same, eqb-true, true-and}
use Rattle.re_labels.specs.Lists.{same_list}
use Rattle.re_laws.specs.Algorithms.{Solves}
use Rattle.re_problem.proofs.FedLines.{unnot}
use Rattle.re_problem.proofs.ZeroPlaces.{none-fails}
use Rattle.re_problem.specs.NamedProblems.{NamedProblem, unnamed}
use Rattle.re_problem.specs.Problems.{IsProblem}
use Rattle.re_labels.proofs.Goodness.{has_config-Has}
use Rattle.re_labels.specs.Constraints.{Constraint, has_config}
use Rattle.re_table_texts.specs.PrintedTables.{IsTableFor}
use Rattle.re_words.specs.Tabling.{same_constraints, same_lists, same_problems}

-- ---- the same lists, constraints and problems
pub same_lists-refl : (xs : List (List ℕ)) → same_lists xs xs ≡ true
same_lists-refl [] = refl
same_lists-refl (x ∷ xs) = true-and (same_list x x) (same_lists xs xs) (same_list-refl x) (same_lists-refl xs)

pub same_lists-same : (xs ys : List (List ℕ)) → same_lists xs ys ≡ true → xs ≡ ys
same_lists-same [] [] h = refl
same_lists-same [] (y ∷ ys) h = absurd (cc)
same_lists-same (x ∷ xs) [] h = absurd (cc)
same_lists-same (x ∷ xs) (y ∷ ys) h =
    let both = and-true (same_list x y) (same_lists xs ys) h in
    λ i. same_list-same x y both.0 i ∷ same_lists-same xs ys both.1 i

-- a test that is false where the lists differ
false_unless : (t : Bool) → (t ≡ true → ⊥) → false ≡ t
false_unless true h = absurd (h refl)
false_unless false h = refl

-- two texts that a test tells apart
pub unlike_bytes : (a b : List ℕ) → true ≡ not (bytes_eq a b) → a ≡ b → ⊥
unlike_bytes a b differs same =
    let alike : bytes_eq a b ≡ true = (bytes_eq-Decides a b).1 same in
    true≢false (differs ∙ ap not alike)

pub lists_differ : (xs ys : List (List ℕ)) → (xs ≡ ys → ⊥) → false ≡ same_lists xs ys
lists_differ xs ys h = false_unless (same_lists xs ys) (λ same. h (same_lists-same xs ys same))

pub lists_same : (xs ys : List (List ℕ)) → xs ≡ ys → true ≡ same_lists xs ys
lists_same xs ys e = subst (λ l. true ≡ same_lists xs l) e (sym (same_lists-refl xs))

pub constraints_differ : (a b : Constraint) → (a ≡ b → ⊥) → false ≡ same_constraints a b
constraints_differ a b h = false_unless (same_constraints a b) (λ same.
    let both = and-true (eqb a.degree b.degree) (same_lists a.configs b.configs) same in
    h (λ i. record { degree = eqb-true a.degree b.degree both.0 i; configs = same_lists-same a.configs b.configs both.1 i }))

pub constraints_same : (a b : Constraint) → a.degree ≡ b.degree → a.configs ≡ b.configs → true ≡ same_constraints a b
constraints_same a b degree configs =
    sym (true-and (eqb a.degree b.degree) (same_lists a.configs b.configs) (subst (λ d. eqb a.degree d ≡ true) degree (eqb-same a.degree)) (sym (lists_same a.configs b.configs configs)))

pub problems_same : (a b : NamedProblem) → same_problems a b ≡ true → a ≡ b
problems_same a b h =
    let outer = and-true (same_lists a.names b.names && same_constraints a.active b.active) (same_constraints a.passive b.passive) h in
    let inner = and-true (same_lists a.names b.names) (same_constraints a.active b.active) outer.0 in
    let active = and-true (eqb a.active.degree b.active.degree) (same_lists a.active.configs b.active.configs) inner.1 in
    let passive = and-true (eqb a.passive.degree b.passive.degree) (same_lists a.passive.configs b.passive.configs) outer.1 in
    λ i. record {
      names = same_lists-same a.names b.names inner.0 i;
      active = record { degree = eqb-true a.active.degree b.active.degree active.0 i; configs = same_lists-same a.active.configs b.active.configs active.1 i };
      passive = record { degree = eqb-true a.passive.degree b.passive.degree passive.0 i; configs = same_lists-same a.passive.configs b.passive.configs passive.1 i };
    }

-- ---- a table that solves a problem has labels of it alone
pub solved_for : (named : NamedProblem) (table : AnswerTable) → IsProblem (unnamed named) → IsTable table → table.degrees.active ≡ named.active.degree → table.degrees.passive ≡ named.passive.degree
    → Solves (unnamed named) table.radius (entries table) → IsTableFor named table
solved_for named table is table_is active passive solves = record {
  active = active;
  passive = passive;
  labels = AllByRecursion-from_contains (AllByRecursion (λ label. label < length named.names)) table.answers (λ labels (k, l, e).
      let none = no_fault (unnamed named) table table_is active passive solves in
      let fails : not (has_config named.active (get_or table.answers k labels)) ≡ false = none-fails (λ labels. not (has_config named.active labels)) table.answers none k labels l in
      labels_within (length named.names) named.active labels is.active (has_config-Has named.active labels (unnot (has_config named.active labels) (subst (λ l. not (has_config named.active l) ≡ false) e fails))));
}
