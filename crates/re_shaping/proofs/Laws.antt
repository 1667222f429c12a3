-- Shaping the last problem of a sound chain leaves it sound.
use Rattle.std.proofs.Common.{◌≡◌, ℕ, ◌<◌, Bool, true, false, not, eqb, List, [], ◌∷◌, length, None, Some, refl, sym, ap, ◌∙◌, subst, arith}
use Rattle.std.specs.Prelude.{if◌then◌else◌}
use Rattle.std.specs.List.{AllByRecursion}
use Rattle.re_problem.specs.ItemSteps.{is_nil}
use Rattle.re_labels.proofs.Tests.{below-true, eqb-same}
use Rattle.re_problem.specs.NamedProblems.{IsNamedProblem, NamedProblem}
use Rattle.re_cert.specs.Bounds.{Bound, BoundStep, is_bound, is_label, is_lower, last_problem, next_problems}
use Rattle.re_cert.specs.declared.certificate.Kind.{Kind}
use Rattle.re_shaping.proofs.LastSteps.{Keeps, LastIs, chain_with-bound, last-next, with_last-bound, with_last-sound}
use Rattle.re_changes.proofs.Merges.{merge-relaxed}
use Rattle.re_labels.specs.Configs.{image_at}
use Rattle.re_problem.proofs.TextLines.{nil_of}
use Rattle.re_problem.specs.ProblemTexts.{last_or}
use Rattle.re_shaping.proofs.DroppedSteps.{drop-keeps}
use Rattle.re_shaping.proofs.FirstSteps.{first-bound, first-sound}
use Rattle.re_shaping.proofs.MergedSteps.{count-names, merge-keeps, merged-named, number-below}
use Rattle.re_shaping.proofs.NamedSteps.{name-keeps, named-named}
use Rattle.re_chains.proofs.ChainBounds.{lower-chain}
use Rattle.re_chains.specs.Chains.{chain_kind, chain_with}
use Rattle.re_shaping.specs.Chains.{with_last}
use Rattle.re_labels.specs.Names.{IsName}
use Rattle.re_shaping.specs.Dropping.{drop_refusal, dropped, dropped_step}
use Rattle.re_chains.specs.Chains.{IsSoundChain}
use Rattle.re_shaping.specs.Laws.{DropLaw, MergeLaw, NameLaw}
use Rattle.re_shaping.specs.Naming.{is_taken, name_refusal, named, named_problem, named_step}
use Rattle.re_shaping.specs.Merging.{first_merged, merge_limit, merge_numbers, merge_refusal, merged, merged_problem, merged_step}
use Rattle.re_shaping.specs.Relaxing.{relaxed_limit}
use Rattle.re_shaping.specs.declared.refusal.Refusal.TheVariants.{NotALabel, NotLower, NotUpper, NoStep, Same, Taken}

-- ---- merges
-- what is known where a merge isn't refused
pub record MayMerge (x y : ℕ) (bound : Bound) : Type 0 where
  pub lower : is_lower bound.kind ≡ true
  pub from : x < length (last_problem bound).names
  pub to : y < length (last_problem bound).names
  pub apart : x ≡ y → ⊥

pub may-merge : (x y : ℕ) (bound : Bound) → merge_refusal x y bound ≡ None → MayMerge x y bound
may-merge x y bound none = go (is_lower bound.kind) (is_label (last_problem bound) x) (is_label (last_problem bound) y) (eqb x y) refl refl refl refl none
  where
    go : (l a b e : Bool) → is_lower bound.kind ≡ l → is_label (last_problem bound) x ≡ a → is_label (last_problem bound) y ≡ b → eqb x y ≡ e
        → (if not l then Some NotLower else if not a then Some (NotALabel x) else if not b then Some (NotALabel y) else if e then Some Same else None) ≡ None
        → MayMerge x y bound
    go false a b e hl ha hb he h = cc
    go true false b e hl ha hb he h = cc
    go true true false e hl ha hb he h = cc
    go true true true true hl ha hb he h = cc
    go true true true false hl ha hb he h = record {
      lower = hl;
      from = below-true x (length (last_problem bound).names) ha;
      to = below-true y (length (last_problem bound).names) hb;
      apart = λ s. let wrong : false ≡ true = sym he ∙ ap (eqb x) (sym s) ∙ eqb-same x in cc;
    }

-- with a step, the last step is another one
module _ (bound : Bound) (x y : ℕ) (may : merge_refusal x y bound ≡ None) (some : is_nil bound.steps ≡ false) where
  last : LastIs (λ (s : BoundStep). y < length s.next.names) bound.steps
  last = let m = may-merge x y bound may in last-next (λ (p : NamedProblem). y < length p.names) bound.first bound.steps some m.to

  keeps : (before : NamedProblem) (s : BoundStep) → y < length s.next.names → IsNamedProblem s.next → Keeps (chain_kind bound.kind) before s (merged_step x y s)
  keeps before s l is = let m = may-merge x y bound may in merge-keeps (chain_kind bound.kind) x y before s (lower-chain bound.kind ∙ m.lower) l m.apart is

  pub merged-bound : is_bound bound ≡ true → AllByRecursion IsNamedProblem (next_problems bound.steps) → is_bound (with_last (merged_step x y) bound) ≡ true
  merged-bound = with_last-bound bound (merged_step x y) (λ (s : BoundStep). y < length s.next.names) last keeps

  merged-sound : IsSoundChain bound → IsSoundChain (with_last (merged_step x y) bound)
  merged-sound = with_last-sound bound (merged_step x y) (λ (s : BoundStep). y < length s.next.names) last keeps

-- without one, the step leads from the first problem to the derived problem of the merged one
module _ (x y : ℕ) (problem : NamedProblem) (m : y < length problem.names) (apart : x ≡ y → ⊥) where
  pub number-fits : (label : ℕ) → label < length problem.names → image_at (merge_numbers x y problem) label < length (merged_problem x y problem).names
  number-fits label l = let k = number-below x y problem m apart label l in let c = count-names x problem in omega arith

  module _ (is : IsNamedProblem problem) (limit : relaxed_limit problem (merged_problem x y problem) ≡ None) (kind : Kind) (lower : is_lower kind ≡ true) where
    pub first_merged-bound : is_bound (chain_with kind problem (first_merged x y problem ∷ [])) ≡ true
    first_merged-bound =
        first-bound problem (merged_problem x y problem) (image_at (merge_numbers x y problem)) number-fits (merge-relaxed y x problem) (merged-named x y problem m apart is) limit kind lower

    pub first_merged-sound : IsSoundChain (chain_with kind problem (first_merged x y problem ∷ []))
    first_merged-sound =
        first-sound problem (merged_problem x y problem) (image_at (merge_numbers x y problem)) number-fits (merge-relaxed y x problem) (merged-named x y problem m apart is) limit kind lower is

module _ (kind : Kind) (back : ℕ) (first : NamedProblem) (renaming : List (ℕ × ℕ)) (x y : ℕ) where
  abbrev of_steps : List BoundStep → Bound
  of_steps steps = record { kind = kind; back = back; first = first; steps = steps; renaming = renaming }

  merge_sound_of : (steps : List BoundStep) → IsSoundChain (of_steps steps) → merge_refusal x y (of_steps steps) ≡ None → merge_limit x y (of_steps steps) ≡ None → IsSoundChain (merged x y (of_steps steps))
  merge_sound_of [] is may limit =
      let m = may-merge x y (of_steps []) may in
      first_merged-sound x y first m.to m.apart is.problems.first limit kind m.lower
  merge_sound_of (s ∷ steps) is may limit = merged-sound (of_steps (s ∷ steps)) x y may refl is

pub merge_law : MergeLaw
merge_law bound x y is may limit = merge_sound_of bound.kind bound.back bound.first bound.renaming x y bound.steps is may limit

-- its kind is that of a chain
either_kind : (b : Bool) (one other : Bound) (kind : Kind) → one.kind ≡ kind → other.kind ≡ kind → (if b then one else other).kind ≡ kind
either_kind true one other kind is is_other = is
either_kind false one other kind is is_other = is_other

pub merged-kind : (x y : ℕ) (bound : Bound) → (merged x y bound).kind ≡ chain_kind bound.kind
merged-kind x y bound = either_kind (is_nil bound.steps) _ _ (chain_kind bound.kind) refl refl

-- what the chain becomes, with a step and without one
pub whole-merged : (x y : ℕ) (bound : Bound) → is_nil bound.steps ≡ false → with_last (merged_step x y) bound ≡ merged x y bound
whole-merged x y bound some = ap (λ b. if b then chain_with bound.kind bound.first (first_merged x y bound.first ∷ []) else with_last (merged_step x y) bound) (sym some)

pub begun-merged : (x y : ℕ) (bound : Bound) → is_nil bound.steps ≡ true → chain_with bound.kind bound.first (first_merged x y bound.first ∷ []) ≡ merged x y bound
begun-merged x y bound none = ap (λ b. if b then chain_with bound.kind bound.first (first_merged x y bound.first ∷ []) else with_last (merged_step x y) bound) (sym none)

pub begun-limit : (x y : ℕ) (bound : Bound) → is_nil bound.steps ≡ true → relaxed_limit bound.first (merged_problem x y bound.first) ≡ merge_limit x y bound
begun-limit x y bound none = ap (λ b. if b then relaxed_limit bound.first (merged_problem x y bound.first) else None) (sym none)

-- the last problem of a chain without steps is the first one
pub begun-last : (P : NamedProblem → Type 0) (bound : Bound) → is_nil bound.steps ≡ true → P (last_problem bound) → P bound.first
begun-last P bound none held = subst (λ steps. P (last_or bound.first (next_problems steps))) (nil_of bound.steps none) held

-- ---- labels that go
-- what is known where dropping isn't refused
pub record MayDrop (x : ℕ) (bound : Bound) : Type 0 where
  pub upper : is_lower bound.kind ≡ false
  pub some : is_nil bound.steps ≡ false
  pub label : x < length (last_problem bound).names

pub may-drop : (x : ℕ) (bound : Bound) → drop_refusal x bound ≡ None → MayDrop x bound
may-drop x bound none = go (is_lower bound.kind) (is_nil bound.steps) (is_label (last_problem bound) x) refl refl refl none
  where
    go : (l n a : Bool) → is_lower bound.kind ≡ l → is_nil bound.steps ≡ n → is_label (last_problem bound) x ≡ a
        → (if l then Some NotUpper else if n then Some NoStep else if not a then Some (NotALabel x) else None) ≡ None → MayDrop x bound
    go true n a hl hn ha h = cc
    go false true a hl hn ha h = cc
    go false false false hl hn ha h = cc
    go false false true hl hn ha h = record { upper = hl; some = hn; label = below-true x (length (last_problem bound).names) ha }

module _ (bound : Bound) (x : ℕ) (may : drop_refusal x bound ≡ None) where
  drop-last : LastIs (λ (s : BoundStep). x < length s.next.names) bound.steps
  drop-last = let m = may-drop x bound may in last-next (λ (p : NamedProblem). x < length p.names) bound.first bound.steps m.some m.label

  dropping-keeps : (before : NamedProblem) (s : BoundStep) → x < length s.next.names → IsNamedProblem s.next → Keeps (chain_kind bound.kind) before s (dropped_step x s)
  dropping-keeps before s l is = let m = may-drop x bound may in drop-keeps (chain_kind bound.kind) x before s (lower-chain bound.kind ∙ m.upper) l is

  pub dropped-bound : is_bound bound ≡ true → AllByRecursion IsNamedProblem (next_problems bound.steps) → is_bound (dropped x bound) ≡ true
  dropped-bound = with_last-bound bound (dropped_step x) (λ (s : BoundStep). x < length s.next.names) drop-last dropping-keeps

  pub dropped-sound : IsSoundChain bound → IsSoundChain (dropped x bound)
  dropped-sound = with_last-sound bound (dropped_step x) (λ (s : BoundStep). x < length s.next.names) drop-last dropping-keeps

pub drop_law : DropLaw
drop_law bound x is may = dropped-sound bound x may is

-- ---- names
-- what is known where a name isn't refused
pub record MayName (x : ℕ) (name : List ℕ) (bound : Bound) : Type 0 where
  pub label : x < length (last_problem bound).names
  pub free : is_taken x name (last_problem bound) ≡ false

pub may-name : (x : ℕ) (name : List ℕ) (bound : Bound) → name_refusal x name bound ≡ None → MayName x name bound
may-name x name bound none = go (is_label (last_problem bound) x) (is_taken x name (last_problem bound)) refl refl none
  where
    go : (a t : Bool) → is_label (last_problem bound) x ≡ a → is_taken x name (last_problem bound) ≡ t → (if not a then Some (NotALabel x) else if t then Some Taken else None) ≡ None → MayName x name bound
    go false t ha ht h = cc
    go true true ha ht h = cc
    go true false ha ht h = record { label = below-true x (length (last_problem bound).names) ha; free = ht }

-- the label is one of the problem, and the name isn't another one's
pub record IsFree (x : ℕ) (name : List ℕ) (problem : NamedProblem) : Type 0 where
  pub label : x < length problem.names
  pub free : is_taken x name problem ≡ false

module _ (kind : Kind) (back : ℕ) (first : NamedProblem) (renaming : List (ℕ × ℕ)) (x : ℕ) (name : List ℕ) (is_name : IsName name) where
  whole : List BoundStep → Bound
  whole steps = record { kind = kind; back = back; first = first; steps = steps; renaming = renaming }

  naming-keeps : (before : NamedProblem) (s : BoundStep) → IsFree x name s.next → IsNamedProblem s.next → Keeps (chain_kind kind) before s (named_step x name s)
  naming-keeps before s fine is = name-keeps (chain_kind kind) x name before s is_name fine.label fine.free is

  name-last : (steps : List BoundStep) → is_nil steps ≡ false → MayName x name (record { kind = kind; back = back; first = first; steps = steps; renaming = renaming }) → LastIs (λ (s : BoundStep). IsFree x name s.next) steps
  name-last steps some m = last-next (IsFree x name) first steps some (record { label = m.label; free = m.free })

  named-first : is_bound (chain_with kind (named_problem x name first) []) ≡ true
  named-first = chain_with-bound kind (named_problem x name first) [] refl refl refl

  named-bound_of : (steps : List BoundStep) → MayName x name (record { kind = kind; back = back; first = first; steps = steps; renaming = renaming }) → is_bound (record { kind = kind; back = back; first = first; steps = steps; renaming = renaming }) ≡ true
      → AllByRecursion IsNamedProblem (next_problems steps) → is_bound (named x name (record { kind = kind; back = back; first = first; steps = steps; renaming = renaming })) ≡ true
  named-bound_of [] m is over = named-first
  named-bound_of (s ∷ steps) m is over =
      with_last-bound (record { kind = kind; back = back; first = first; steps = s ∷ steps; renaming = renaming }) (named_step x name) (λ (s : BoundStep). IsFree x name s.next) (name-last (s ∷ steps) refl m) naming-keeps is over

  named-sound_of : (steps : List BoundStep) → MayName x name (record { kind = kind; back = back; first = first; steps = steps; renaming = renaming }) → IsSoundChain (record { kind = kind; back = back; first = first; steps = steps; renaming = renaming })
      → IsSoundChain (named x name (record { kind = kind; back = back; first = first; steps = steps; renaming = renaming }))
  named-sound_of [] m is = record { bound = named-first; problems = record { first = named-named x name first is.problems.first m.label is_name; next = tt }; sound = refl }
  named-sound_of (s ∷ steps) m is =
      with_last-sound (record { kind = kind; back = back; first = first; steps = s ∷ steps; renaming = renaming }) (named_step x name) (λ (s : BoundStep). IsFree x name s.next) (name-last (s ∷ steps) refl m) naming-keeps is

pub named-bound : (bound : Bound) (x : ℕ) (name : List ℕ) → IsName name → name_refusal x name bound ≡ None → is_bound bound ≡ true → AllByRecursion IsNamedProblem (next_problems bound.steps) → is_bound (named x name bound) ≡ true
named-bound bound x name is_name may is over = named-bound_of bound.kind bound.back bound.first bound.renaming x name is_name bound.steps (may-name x name bound may) is over

pub name_law : NameLaw
name_law bound x name is is_name may = named-sound_of bound.kind bound.back bound.first bound.renaming x name is_name bound.steps (may-name x name bound may) is

-- with a step the last step has the name
pub whole-named : (x : ℕ) (name : List ℕ) (bound : Bound) → is_nil bound.steps ≡ false → with_last (named_step x name) bound ≡ named x name bound
whole-named x name bound some = ap (λ b. if b then chain_with bound.kind (named_problem x name bound.first) [] else with_last (named_step x name) bound) (sym some)
