-- The step to the problem without a label, as a program makes it.
use Rattle.std.proofs.Common.{◌≡◌, ℕ, ◌+◌, ◌<◌, false, List, [], ◌∷◌, length, get_or, Option, None, refl, sym, ap, ◌∙◌, subst, arith, inl, inr}
use Rattle.std.proofs.lemmas.List.{get_or-map}
use Rattle.std.specs.List.{AllByRecursion, cons_option}
use Rattle.std.specs.Prelude.{option_map}
use Rattle.re_labels.proofs.Membership.{AllByRecursion-In, AllByRecursion-from_In, In, get_or-count_from, length-count_from, length-map'}
use Rattle.re_labels.specs.Lists.{count_from}
use Rattle.re_problem.specs.NamedProblems.{NamedProblem}
use Rattle.re_problem.specs.Steps.LowerMap.{by_set}
use Rattle.re_problem.specs.Steps.{SetEntry}
use Rattle.re_changes.specs.Changes.{after, becomes, changed_by, unchanged}
use Rattle.re_changes.specs.declared.change.Change.TheVariants.{LeaveOut}
use Rattle.re_cert.specs.Bounds.{BoundStep, entries_in}
use Rattle.re_shaping.proofs.DroppedSteps.{images-made}
use Rattle.re_shaping.specs.Chains.{HasLabelsBelow}
use Rattle.re_shaping.specs.Dropping.{dropped_step, entries_left}

entries-alike : (f g : ℕ → Option ℕ) (entries : List SetEntry) → ((entry : SetEntry) → In entry entries → f entry.label ≡ g entry.label) → entries_left f entries ≡ entries_left g entries
entries-alike f g [] h = refl
entries-alike f g (entry ∷ entries) h =
    (λ i. cons_option (option_map (λ (label : ℕ). record { set = entry.set; label = label }) (h entry (inl refl) i)) (entries-alike f g entries (λ other j. h other (inr j)) i))

module _ (x : ℕ) (s : BoundStep) (before : NamedProblem) (entries given : List SetEntry) (images : List (Option ℕ)) (below : HasLabelsBelow (length s.next.names) s.map)
    (shape : s ≡ record { lower = false; next = before; rows = []; map = by_set entries }) (g : given ≡ entries) (m : images ≡ (changed_by (LeaveOut x) (unchanged s.next)).images) where
  count : length images ≡ length s.next.names
  count = ap length (m ∙ images-made x s.next) ∙ length-map' (becomes (LeaveOut x) s.next) (count_from 0 (length s.next.names)) ∙ length-count_from 0 (length s.next.names)

  low : AllByRecursion (λ (entry : SetEntry). entry.label < length s.next.names) given
  low = subst (λ (k : List SetEntry). AllByRecursion (λ (entry : SetEntry). entry.label < length s.next.names) k) (sym g)
      (subst (λ (t : BoundStep). HasLabelsBelow (length s.next.names) t.map) shape below)

  pub labels-known : AllByRecursion (λ (entry : SetEntry). entry.label < length images) given
  labels-known = AllByRecursion-from_In (λ (entry : SetEntry). entry.label < length images) given (λ entry i.
      let l = AllByRecursion-In (λ (entry : SetEntry). entry.label < length s.next.names) given entry low i in let c = count in omega arith)

  image-is : (label : ℕ) → label < length s.next.names → get_or images label None ≡ becomes (LeaveOut x) s.next label
  image-is label l =
      let n : label < length (count_from 0 (length s.next.names)) = (let e = length-count_from 0 (length s.next.names) in omega arith) in
      let z : 0 + label ≡ label = omega arith in
      ap (λ (k : List (Option ℕ)). get_or k label None) (m ∙ images-made x s.next)
      ∙ get_or-map (becomes (LeaveOut x) s.next) (count_from 0 (length s.next.names)) label 0 None n
      ∙ ap (becomes (LeaveOut x) s.next) (get_or-count_from 0 (length s.next.names) label 0 l ∙ z)

  pub dropped-is : (next : NamedProblem) (new : List SetEntry) → next ≡ after (LeaveOut x) s.next → new ≡ entries_left (λ label. get_or images label None) given
      → record { lower = false; next = next; rows = []; map = by_set new } ≡ dropped_step x s
  dropped-is next new n e =
      let same : new ≡ entries_left (becomes (LeaveOut x) s.next) (entries_in s.map) =
      e ∙ entries-alike (λ label. get_or images label None) (becomes (LeaveOut x) s.next) given (λ entry i. image-is entry.label (AllByRecursion-In (λ (entry : SetEntry). entry.label < length s.next.names) given entry low i))
      ∙ ap (entries_left (becomes (LeaveOut x) s.next)) (g ∙ ap (λ (t : BoundStep). entries_in t.map) (sym shape)) in
      (λ i. record { lower = (sym shape i).lower; next = n i; rows = (sym shape i).rows; map = by_set (same i) })
