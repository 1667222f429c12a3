-- The set of the labels of a text, one label after another.
use Rattle.std.proofs.Common.{◌≡◌, ℕ, ◌<◌, ◌+◌, Bool, true, false, cond, ◌&&◌, List, [], ◌∷◌, ◌++◌, length, map, refl, sym, ap, ◌∙◌, subst, Option, Some, None, append_assoc, arith, inl, inr, is_some}
use Rattle.std.specs.Prelude.{Contains}
use Rattle.std.specs.List.{list_all, list_any}
use Rattle.std.specs.Option.{option_and_then}
use Rattle.std.proofs.lemmas.Bool.{false≢true}
use Rattle.std.proofs.lemmas.List.{map-append, append-nil}
use Rattle.re_labels.proofs.Replacing.{support_of-push}
use Rattle.re_labels.specs.Configs.{support_of}
use Rattle.re_problem.proofs.Scanning.{in_front}
use Rattle.re_problem.specs.Items.{labels_of, with_name}
use Rattle.re_problem.specs.Labels.{are_held, labels_held, names_or_none}
use Rattle.re_labels.proofs.Before.{same_list-refl, same_list-same}
use Rattle.re_labels.proofs.ListSets.{In-list_set, cases_of, list_set-In, list_set-longer, list_set_push, one_set, rising-list_set}
use Rattle.re_labels.specs.ListSets.{list_set, with_list}
use Rattle.re_labels.proofs.Membership.{Contains-In, In-Contains, any-In, any-In_from}
use Rattle.re_labels.proofs.Tests.{and-true, true-and}
use Rattle.re_labels.specs.Lists.{IsBefore, IsRising, place_of, same_list}
use Rattle.re_labels.specs.Names.{is_name, name_of}
use Rattle.re_labels.specs.Sets.{with_label}
use Rattle.re_labels.specs.declared.TheConstants.{MAX_LABELS}

pub is_held : (names : List (List ℕ)) (name : List ℕ) → Contains names name → list_any (same_list name) names ≡ true
is_held names name held = any-In (same_list name) name names (Contains-In name names held) (same_list-refl name)

pub not_held : (names : List (List ℕ)) (name : List ℕ) → (Contains names name → ⊥) → list_any (same_list name) names ≡ false
not_held names name apart = go (list_any (same_list name) names) refl
  where
    go : (t : Bool) → list_any (same_list name) names ≡ t → t ≡ false
    go false test = refl
    go true test =
        let found = any-In_from (same_list name) names test in
        absurd (apart (subst (Contains names) (sym (same_list-same name found.0 found.2)) (In-Contains found.0 names found.1)))

pub same_name : (text name : List ℕ) → Some name ≡ name_of text → is_name text ≡ true → name ≡ text
same_name text name found is = let some : name_of text ≡ Some text = ap (λ t. cond t (Some text) None) is in cc

all_more : (test : List ℕ → Bool) (front : List (List ℕ)) (name : List ℕ) → list_all test front ≡ true → test name ≡ true → list_all test (front ++ name ∷ []) ≡ true
all_more test [] name all one = true-and (test name) true one refl
all_more test (x ∷ front) name all one = let both = and-true (test x) (list_all test front) all in true-and (test x) (list_all test (front ++ name ∷ [])) both.0 (all_more test front name both.1 one)

one_lacks : (test : List ℕ → Bool) (front behind : List (List ℕ)) (name : List ℕ) → test name ≡ false → list_all test (front ++ name ∷ behind) ≡ false
one_lacks test [] behind name lacks = ap (λ t. t && list_all test behind) lacks
one_lacks test (x ∷ front) behind name lacks = both_false (test x) (list_all test (front ++ name ∷ behind)) (one_lacks test front behind name lacks)
  where
    both_false : (a b : Bool) → b ≡ false → (a && b) ≡ false
    both_false true b h = h
    both_false false b h = refl

pub nothing_in_front : (names : Option (List (List ℕ))) → names ≡ in_front [] names
nothing_in_front None = refl
nothing_in_front (Some names) = refl

in_front_more : (front : List (List ℕ)) (name : List ℕ) (rest : Option (List (List ℕ))) → in_front front (with_name name rest) ≡ in_front (front ++ name ∷ []) rest
in_front_more front name None = refl
in_front_more front name (Some names) = ap Some (sym (append_assoc front (name ∷ []) names))

-- the labels that were read
pub record ReadLabels (names : List (List ℕ)) (text : List ℕ) (front : List (List ℕ)) (rest : Option (List (List ℕ))) (labels : List ℕ) : Type 0 where
  pub whole : labels_of text ≡ in_front front rest
  pub held : are_held names front ≡ true
  pub set : labels ≡ support_of (map (place_of names) front)

module _ (names : List (List ℕ)) (text : List ℕ) (front : List (List ℕ)) (labels : List ℕ) where
  pub label_read : (name : List ℕ) (label : ℕ) (rest before : Option (List (List ℕ))) (new : List ℕ) → before ≡ with_name name rest → Contains names name → label ≡ place_of names name
      → new ≡ with_label labels label → ReadLabels names text front before labels → ReadLabels names text (front ++ name ∷ []) rest new
  label_read name label rest before new next held place more read = record {
    whole = read.whole ∙ ap (in_front front) next ∙ in_front_more front name rest;
    held = all_more (λ n. list_any (same_list n) names) front name read.held (is_held names name held);
    set = more ∙ (λ i. with_label (read.set i) (place i))
        ∙ sym (support_of-push (map (place_of names) front) (place_of names name))
        ∙ ap support_of (sym (map-append (place_of names) front (name ∷ [])));
  }

  pub all_labels_read : (rest : Option (List (List ℕ))) → rest ≡ Some [] → ReadLabels names text front rest labels → Some labels ≡ option_and_then (labels_held names) (labels_of text)
  all_labels_read rest end read =
      let whole : labels_of text ≡ Some front = read.whole ∙ ap (in_front front) end ∙ ap Some (append-nil front) in
      ap Some read.set ∙ sym (ap (option_and_then (labels_held names)) whole ∙ ap (λ t. cond t (Some (support_of (map (place_of names) front))) None) read.held)

  pub bad_labels : (rest : Option (List (List ℕ))) → rest ≡ None → ReadLabels names text front rest labels → None ≡ option_and_then (labels_held names) (labels_of text)
  bad_labels rest end read = sym (ap (option_and_then (labels_held names)) (read.whole ∙ ap (in_front front) end))

  pub label_lacks : (name : List ℕ) (rest before : Option (List (List ℕ))) → before ≡ with_name name rest → (Contains names name → ⊥) → ReadLabels names text front before labels
      → None ≡ option_and_then (labels_held names) (labels_of text)
  label_lacks name rest before next apart read =
      sym (ap (option_and_then (labels_held names)) (read.whole ∙ ap (in_front front) next) ∙ go rest)
    where
      go : (rest : Option (List (List ℕ))) → option_and_then (labels_held names) (in_front front (with_name name rest)) ≡ None
      go None = refl
      go (Some behind) = ap (λ t. cond t (Some (support_of (map (place_of names) (front ++ name ∷ behind)))) None)
          (one_lacks (λ n. list_any (same_list n) names) front behind name (not_held names name apart))

-- ---- the names of a text, added one after another
pub names_alone : (names : List (List ℕ)) → IsRising IsBefore names → names ≡ list_set (names ++ [])
names_alone names rises = sym (ap list_set (append-nil names) ∙ one_set (list_set names) names (rising-list_set names) rises (In-list_set names) (list_set-In names))

pub record AddedNames (old : List (List ℕ)) (text : List ℕ) (front : List (List ℕ)) (rest : Option (List (List ℕ))) (names : List (List ℕ)) : Type 0 where
  pub whole : labels_of text ≡ in_front front rest
  pub added : names ≡ list_set (old ++ front)

pub longer_new : (names : List (List ℕ)) (name : List ℕ) → (Contains names name → ⊥) → length (with_list names name) ≡ length names + 1
longer_new [] name apart = refl
longer_new (n ∷ names) name apart = elim (cases_of n names name) [
  | inl b ↦ ap length b.1 ∙ omega arith
  | inr (inl b) ↦ absurd (apart (In-Contains name (n ∷ names) (inl b.0)))
  | inr (inr b) ↦ ap length b.1 ∙ omega (arith, longer_new names name (λ held. apart (In-Contains name (n ∷ names) (inr (Contains-In name names held)))))
]

module _ (old : List (List ℕ)) (text : List ℕ) (front : List (List ℕ)) (names : List (List ℕ)) where
  with_one : (name : List ℕ) → names ≡ list_set (old ++ front) → with_list names name ≡ list_set (old ++ (front ++ name ∷ []))
  with_one name added = ap (λ n. with_list n name) added ∙ sym (list_set_push (old ++ front) name) ∙ ap list_set (append_assoc old front (name ∷ []))

  pub name_added : (name : List ℕ) (rest before : Option (List (List ℕ))) (new : List (List ℕ)) → before ≡ with_name name rest → new ≡ with_list names name
      → AddedNames old text front before names → AddedNames old text (front ++ name ∷ []) rest new
  name_added name rest before new next more read = record {
    whole = read.whole ∙ ap (in_front front) next ∙ in_front_more front name rest;
    added = more ∙ with_one name read.added;
  }

  pub names_added : (rest : Option (List (List ℕ))) → rest ≡ Some [] → AddedNames old text front rest names → names ≡ list_set (old ++ names_or_none (labels_of text))
  names_added rest end read =
      let whole : labels_of text ≡ Some front = read.whole ∙ ap (in_front front) end ∙ ap Some (append-nil front) in
      read.added ∙ ap (λ all. list_set (old ++ names_or_none all)) (sym whole)

  pub too_many : (name : List ℕ) (rest before : Option (List (List ℕ))) → before ≡ with_name name rest → length names ≡ MAX_LABELS → (Contains names name → ⊥) → is_some (labels_of text) ≡ true
      → AddedNames old text front before names → MAX_LABELS < length (list_set (old ++ names_or_none (labels_of text)))
  too_many name rest before next full apart some read = go rest (read.whole ∙ ap (in_front front) next)
    where
      go : (rest : Option (List (List ℕ))) → labels_of text ≡ in_front front (with_name name rest) → MAX_LABELS < length (list_set (old ++ names_or_none (labels_of text)))
      go None whole = absurd (false≢true (sym (ap is_some whole) ∙ some))
      go (Some behind) whole =
          let one : length (list_set (old ++ (front ++ name ∷ []))) ≡ 129 = ap length (sym (with_one name read.added)) ∙ longer_new names name apart ∙ omega arith in
          let all : (old ++ (front ++ name ∷ [])) ++ behind ≡ old ++ (front ++ name ∷ behind) = append_assoc old (front ++ name ∷ []) behind ∙ ap (λ l. old ++ l) (append_assoc front (name ∷ []) behind) in
          let more = list_set-longer (old ++ (front ++ name ∷ [])) behind in
          let same : length (list_set ((old ++ (front ++ name ∷ [])) ++ behind)) ≡ length (list_set (old ++ names_or_none (labels_of text))) =
          ap (λ l. length (list_set l)) all ∙ ap (λ l. length (list_set (old ++ names_or_none l))) (sym whole) in
          omega arith

  pub still_bad : (rest : Option (List (List ℕ))) → rest ≡ None → is_some (labels_of text) ≡ true → AddedNames old text front rest names → ⊥
  still_bad rest end some read = false≢true (sym (ap is_some (read.whole ∙ ap (in_front front) end)) ∙ some)
