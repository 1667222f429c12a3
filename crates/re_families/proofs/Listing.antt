-- A walk over all multisets that keeps those which pass a test.
use Rattle.std.proofs.Common.{◌≡◌, ℕ, ◌≤◌, ◌<◌, Bool, true, false, cond, List, [], ◌∷◌, ◌++◌, length, filter, refl, sym, ap, ◌∙◌, subst, inl, arith, append_assoc, length-append}
use Rattle.std.specs.Prelude.{Contains}
use Rattle.std.proofs.lemmas.List.{append-nil}
use Rattle.std.proofs.lemmas.List.Elements.{filter-append}
use Rattle.std.proofs.lemmas.List.Sums.{count_by-le-length, length-filter}
use Rattle.re_labels.proofs.LawsOfRows.{multisets_law}
use Rattle.re_labels.proofs.Sorting.{sorted_again}
use Rattle.re_labels.specs.Configs.{IsConfig, sorted}
use Rattle.re_labels.specs.Orders.{multisets}
use Rattle.re_labels.proofs.Before.{IsBefore-trans}
use Rattle.re_labels.proofs.ListSets.{In-list_set, list_set-In, list_set_push, one_set, rising-list_set}
use Rattle.re_labels.proofs.Membership.{In-Contains, In-append_right}
use Rattle.re_labels.proofs.Rising.{rising-filter}
use Rattle.re_labels.specs.ListSets.{list_set, with_list}
use Rattle.re_labels.specs.Lists.{IsBefore}
use Rattle.re_problem.proofs.ListSizes.{length-list_set}
use Rattle.re_families.proofs.Sizes.{few_multisets}
use Rattle.re_labels.specs.declared.constraint_table.TheConstants.{MAX_CONFIGURATIONS}

-- one list more is passed
pub passed : (all done rest behind : List (List ℕ)) (x : List ℕ) → done ++ rest ≡ all → rest ≡ x ∷ behind → (done ++ x ∷ []) ++ behind ≡ all
passed all done rest behind x e r = append_assoc done (x ∷ []) behind ∙ ap (λ l. done ++ l) (sym r) ∙ e

-- what is passed is a multiset
pub is_config : (d n : ℕ) (done rest behind : List (List ℕ)) (x : List ℕ) → done ++ rest ≡ multisets d 0 n → rest ≡ x ∷ behind → IsConfig d n x
is_config d n done rest behind x e r =
    ((multisets_law d n).1 x).0 (subst (λ l. Contains l x) (ap (λ l. done ++ l) (sym r) ∙ e) (In-Contains x (done ++ x ∷ behind) (In-append_right x done (x ∷ behind) (inl refl))))

-- and the configuration of its labels
pub config_is : (d n : ℕ) (x labels config : List ℕ) → IsConfig d n x → labels ≡ x → config ≡ sorted labels → config ≡ x
config_is d n x labels config is e c = c ∙ ap sorted e ∙ sorted_again x is.ascends

module _ (p : List ℕ → Bool) (done configs : List (List ℕ)) (x : List ℕ) (e : configs ≡ list_set (filter p done)) where
  more : (b : Bool) → p x ≡ b → list_set (filter p (done ++ x ∷ [])) ≡ list_set (filter p done ++ cond b (x ∷ []) [])
  more b t = ap list_set (filter-append p done (x ∷ [])) ∙ ap (λ b. list_set (filter p done ++ cond b (x ∷ []) [])) t

  pub kept : (new : List (List ℕ)) (config : List ℕ) → p x ≡ true → config ≡ x → new ≡ with_list configs config → new ≡ list_set (filter p (done ++ x ∷ []))
  kept new config t c n = n ∙ (λ i. with_list (e i) (c i)) ∙ sym (list_set_push (filter p done) x) ∙ sym (more true t)

  pub left : p x ≡ false → configs ≡ list_set (filter p (done ++ x ∷ []))
  left t = e ∙ ap list_set (sym (append-nil (filter p done))) ∙ sym (more false t)

-- the lists that were kept are fewer than a constraint has room for
pub room : (p : List ℕ → Bool) (d n : ℕ) (done rest configs : List (List ℕ)) → d ≤ 6 → n ≤ 16 → done ++ rest ≡ multisets d 0 n → configs ≡ list_set (filter p done) → length configs < MAX_CONFIGURATIONS
room p d n done rest configs six few e k =
    let at : length configs ≡ length (list_set (filter p done)) = ap length k in
    let whole : length (done ++ rest) ≡ length (multisets d 0 n) = ap length e in
    omega (arith, at, whole, length-append done rest, length-list_set (filter p done), length-filter p done, count_by-le-length p done, few_multisets d n six few)

-- at the end all are passed
pub all_kept : (p : List ℕ → Bool) (d n : ℕ) (done rest configs : List (List ℕ)) → done ++ rest ≡ multisets d 0 n → rest ≡ [] → configs ≡ list_set (filter p done) → configs ≡ filter p (multisets d 0 n)
all_kept p d n done rest configs e none k =
    k ∙ ap (λ l. list_set (filter p l)) (sym (append-nil done) ∙ ap (λ l. done ++ l) (sym none) ∙ e)
    ∙ one_set (list_set (filter p (multisets d 0 n))) (filter p (multisets d 0 n)) (rising-list_set (filter p (multisets d 0 n))) (rising-filter IsBefore IsBefore-trans p (multisets d 0 n) (multisets_law d n).0) (In-list_set (filter p (multisets d 0 n))) (list_set-In (filter p (multisets d 0 n)))
