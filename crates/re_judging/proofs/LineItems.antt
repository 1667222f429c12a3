-- What lines of labels write: their sets and their multisets.
use Rattle.std.proofs.Common.{◌≡◌, ℕ, ◌+◌, ◌-◌, ◌<◌, ◌≤◌, Bool, true, false, cond, eqb, List, [], ◌∷◌, ◌++◌, length, refl, sym, ap, ◌∙◌, subst, append_assoc, eq-eqb, Option, None, Some, Result, Ok, Err}
use Rattle.std.specs.List.{AllByRecursion}
use Rattle.std.specs.Option.{option_and_then, option_map}
use Rattle.re_cert.proofs.ReadLabels.{held_parts}
use Rattle.re_cert.specs.Entries.{image_labels, labels_in, of_length}
use Rattle.re_judging.specs.LabelLines.{and_then, labels_or, multiset_in, multisets_on, set_in, with_first}
use Rattle.re_labels.proofs.Tests.{eqb-true}
use Rattle.re_labels.specs.Configs.{support_of}
use Rattle.re_problem.proofs.KnownLabels.{label_known}
use Rattle.re_problem.specs.Items.{ItemText}
use Rattle.re_problem.specs.Pairs.{label_held}
use Rattle.re_problem.specs.declared.fault.InputFault.{InputFault}
use Rattle.re_walks.proofs.WalkLemmas.{low-labels}

-- the labels of the items of a line, if it is a line of known labels
abbrev pub known : List (List ℕ) → Option (List ItemText) → Option (List ℕ)
known names items = option_and_then (labels_in names) items

images-known : (names : List (List ℕ)) (d : ℕ) (items : Option (List ItemText)) → option_and_then (image_labels names d) items ≡ option_and_then (of_length d) (known names items)
images-known names d None = refl
images-known names d (Some items) = refl

sets-known : (names : List (List ℕ)) (items : Option (List ItemText)) → option_and_then (set_in names) items ≡ option_map support_of (known names items)
sets-known names None = refl
sets-known names (Some items) = refl

-- labels of this number
image_is : (o : Option (List ℕ)) (d : ℕ) (labels : List ℕ) → Some labels ≡ option_and_then (of_length d) o → (o ≡ Some labels) × (length labels ≡ d)
image_is None d labels e = absurd (cc)
image_is (Some others) d labels e = go (eqb (length others) d) refl e
  where
    go : (b : Bool) → eqb (length others) d ≡ b → Some labels ≡ cond b (Some others) None → (Some others ≡ Some labels) × (length labels ≡ d)
    go true test e =
        let same : others ≡ labels = cc in
        (sym e, sym (ap length same) ∙ eqb-true (length others) d test)
    go false test e = absurd (cc)

-- labels of each number are of their own
image_of_all : (o : Option (List ℕ)) → ((d : ℕ) → None ≡ option_and_then (of_length d) o) → o ≡ None
image_of_all None none = refl
image_of_all (Some labels) none =
    absurd (let own : option_and_then (of_length (length labels)) (Some labels) ≡ Some labels = ap (λ b. cond b (Some labels) None) (eq-eqb (length labels) (length labels) refl) in
    let no : None ≡ Some labels = none (length labels) ∙ own in cc)

-- ---- sets
pub set_none : (names : List (List ℕ)) (items : Option (List ItemText)) → ((d : ℕ) → None ≡ option_and_then (image_labels names d) items) → None ≡ option_and_then (set_in names) items
set_none names items none =
    sym (sets-known names items ∙ ap (option_map support_of) (image_of_all (known names items) (λ d. none d ∙ images-known names d items)))

pub set_some : (names : List (List ℕ)) (items : Option (List ItemText)) (d : ℕ) (set labels : List ℕ) → set ≡ support_of labels → Some labels ≡ option_and_then (image_labels names d) items
    → Some set ≡ option_and_then (set_in names) items
set_some names items d set labels is some =
    ap Some is ∙ sym (sets-known names items ∙ ap (option_map support_of) (image_is (known names items) d labels (some ∙ images-known names d items)).0)

-- ---- known labels
-- known labels are below the number of names
labels-below : (names : List (List ℕ)) (items : List ItemText) (labels : List ℕ) → labels_in names items ≡ Some labels → AllByRecursion (λ x. x < length names) labels
labels-below names [] labels e = let none : [] ≡ labels = cc in subst (AllByRecursion (λ x. x < length names)) none tt
labels-below names (item ∷ items) labels e =
    let (x, xs, first, rest, same) = held_parts (label_held names item) (labels_in names items) labels e in
    subst (AllByRecursion (λ x. x < length names)) same (label_known names item x first, labels-below names items xs rest)

pub labels_low : (names : List (List ℕ)) (items : Option (List ItemText)) (d m : ℕ) (labels : List ℕ) → length names ≤ m → Some labels ≡ option_and_then (image_labels names d) items
    → AllByRecursion (λ x. x < m) labels
labels_low names items d m labels few some = go items (image_is (known names items) d labels (some ∙ images-known names d items)).0
  where
    go : (items : Option (List ItemText)) → known names items ≡ Some labels → AllByRecursion (λ x. x < m) labels
    go None e = absurd (cc)
    go (Some items) e = low-labels (length names) m labels few (labels-below names items labels e)

-- ---- lines one after another
-- these multisets in front of others
abbrev pub in_front : List (List ℕ) → Result (List (List ℕ)) InputFault → Result (List (List ℕ)) InputFault
in_front before others = and_then others (λ others. Ok (before ++ others))

front_first : (before : List (List ℕ)) (labels : List ℕ) (others : Result (List (List ℕ)) InputFault) → in_front before (with_first labels others) ≡ in_front (before ++ labels ∷ []) others
front_first before labels (Ok others) = ap Ok (sym (append_assoc before (labels ∷ []) others))
front_first before labels (Err fault) = refl

module _ (names : List (List ℕ)) (degree number : ℕ) (line : List ℕ) (lines before : List (List ℕ)) where
  pub line_read : (labels : List ℕ) → Ok labels ≡ labels_or (multiset_in names degree) number line
      → in_front before (multisets_on names degree number (line ∷ lines)) ≡ in_front (before ++ labels ∷ []) (multisets_on names degree (number + 1) lines)
  line_read labels is =
      ap (λ r. in_front before (and_then r (λ labels. with_first labels (multisets_on names degree (number + 1) lines)))) (sym is)
      ∙ front_first before labels (multisets_on names degree (number + 1) lines)

  pub line_wrong : (fault : InputFault) → Err fault ≡ labels_or (multiset_in names degree) number line → in_front before (multisets_on names degree number (line ∷ lines)) ≡ Err fault
  line_wrong fault is = ap (λ r. in_front before (and_then r (λ labels. with_first labels (multisets_on names degree (number + 1) lines)))) (sym is)
