-- The lines of a whole certificate hand out its parts, each once and in order.
use Rattle.std.proofs.Common.{◌≡◌, ℕ, zero, suc, true, false, cond, List, [], ◌∷◌, ◌++◌, map, Option, Some, None, Result, Ok, Err, refl, sym, ap, ◌∙◌, append-nil, append_assoc}
use Rattle.std.proofs.lemmas.Bool.{false≢true}
use Rattle.std.proofs.lemmas.List.{map-append}
use Rattle.re_io.specs.LineReading.{LineText}
use Rattle.re_problem.specs.declared.fault.InputFault.{InputFault}
use Rattle.re_cert.proofs.Feeding.{one_behind}
use Rattle.re_cert.proofs.FittingStates.{back_fixed, none_yet}
use Rattle.re_cert.proofs.Placing.{Leads, line_leads, reach}
use Rattle.re_cert.specs.Bounds.{Bound, is_fixed}
use Rattle.re_cert.specs.CertificateReading.{has_first}
use Rattle.re_cert.specs.CertificateTexts.{Brought, Part, State, and_behind, behind, behind_from, bound_behind, certificate_of, has_ended, is_whole, judged, part_at, start}
use Rattle.re_cert.specs.CertificateTexts.Part.{First, Head, Next, Renaming}
use Rattle.re_cert.specs.Pieces.{PiecesLaw, if_any, parts_before_renaming, parts_behind, parts_of}
use Rattle.re_cert.specs.declared.cert_reader.Phase.{Phase}
use Rattle.re_cert.specs.declared.cert_reader.Phase.TheVariants as phase

-- the parts that were handed out before a section, by its reach
abbrev handed_at : ℕ → Bound → List Part
handed_at zero bound = []
handed_at (suc zero) bound = Head bound.kind bound.back ∷ []
handed_at (suc (suc zero)) bound = parts_before_renaming bound
handed_at (suc (suc (suc n))) bound = parts_of bound

abbrev handed : State → List Part
handed s = handed_at (reach s.phase) s.bound

loose_parts : (bound : Bound) → is_fixed bound.kind ≡ false → parts_of bound ≡ parts_before_renaming bound
loose_parts bound loose = ap (λ t. parts_before_renaming bound ++ cond t (Renaming bound.renaming ∷ []) []) loose ∙ append-nil (parts_before_renaming bound)

-- behind the first problem, unless a fixed point has come to its end
begun_on : (p : Phase) (bound : Bound) → has_first p ≡ true → (has_ended p ≡ true → is_fixed bound.kind ≡ false) → handed_at (reach p) bound ≡ parts_before_renaming bound
begun_on phase.Header bound has loose = absurd (false≢true has)
begun_on phase.First bound has loose = absurd (false≢true has)
begun_on phase.Next bound has loose = refl
begun_on phase.Rows bound has loose = refl
begun_on phase.Map bound has loose = refl
begun_on phase.Back bound has loose = refl
begun_on phase.Ended bound has loose = loose_parts bound (loose refl)

-- at the end
all_on : (p : Phase) (bound : Bound) → has_ended p ≡ true → handed_at (reach p) bound ≡ parts_of bound
all_on phase.Header bound ended = absurd (false≢true ended)
all_on phase.First bound ended = absurd (false≢true ended)
all_on phase.Next bound ended = absurd (false≢true ended)
all_on phase.Rows bound ended = absurd (false≢true ended)
all_on phase.Map bound ended = absurd (false≢true ended)
all_on phase.Back bound ended = absurd (false≢true ended)
all_on phase.Ended bound ended = refl

-- ---- one line more
module _ (before : List LineText) (line : LineText) (s t : State) (was : behind before ≡ Ok s) where
  one_more : (p : Option Part) → Leads s line t p → handed t ≡ handed s ++ if_any p
  one_more None leads = ap (λ n. handed_at n t.bound) leads.placed ∙ ap (handed_at (reach s.phase)) leads.bound ∙ sym (append-nil (handed s))
  one_more (Some (Head kind back)) leads =
      ap (λ q. handed_at (reach q) t.bound) leads.placed.1
      ∙ ap (λ (u : Bound). Head u.kind u.back ∷ []) leads.bound
      ∙ sym (ap (λ q. handed_at (reach q) s.bound ++ Head kind back ∷ []) leads.placed.0)
  one_more (Some (First problem)) leads =
      begun_on t.phase t.bound leads.placed.2 leads.placed.1
      ∙ ap parts_before_renaming leads.bound
      ∙ ap (λ steps. Head s.bound.kind s.bound.back ∷ First problem ∷ map Next steps) (none_yet before s was leads.placed.0)
      ∙ sym (ap (λ q. handed_at (reach q) s.bound ++ First problem ∷ []) leads.placed.0)
  one_more (Some (Next n)) leads =
      begun_on t.phase t.bound leads.placed.2 leads.placed.1
      ∙ ap parts_before_renaming leads.bound
      ∙ ap (λ steps. Head s.bound.kind s.bound.back ∷ First s.bound.first ∷ steps) (map-append Next s.bound.steps (n ∷ []))
      ∙ sym (ap (λ q. handed_at (reach q) s.bound ++ Next n ∷ []) leads.placed.0)
  one_more (Some (Renaming pairs)) leads =
      all_on t.phase t.bound leads.placed.1
      ∙ ap parts_of leads.bound
      ∙ ap (λ fixed. parts_before_renaming s.bound ++ cond fixed (Renaming pairs ∷ []) []) (back_fixed before s was leads.placed.0)
      ∙ sym (ap (λ q. handed_at (reach q) s.bound ++ Renaming pairs ∷ []) leads.placed.0)

-- ---- all lines
all_handed : (before lines : List LineText) (s t : State) → behind before ≡ Ok s → behind_from s lines ≡ Ok t → handed t ≡ handed s ++ parts_behind before lines
all_handed before [] s t was is = let same : s ≡ t = cc in ap handed (sym same) ∙ sym (append-nil (handed s))
all_handed before (line ∷ lines) s t was is = go (judged s line) refl is (λ u. all_handed (before ++ line ∷ []) lines u t)
  where
    go : (r : Result Brought InputFault) → judged s line ≡ r → and_behind r (λ u. behind_from u lines) ≡ Ok t
        → ((u : State) → behind (before ++ line ∷ []) ≡ Ok u → behind_from u lines ≡ Ok t → handed t ≡ handed u ++ parts_behind (before ++ line ∷ []) lines)
        → handed t ≡ handed s ++ (if_any (part_at before line) ++ parts_behind (before ++ line ∷ []) lines)
    go (Ok brought) here is rest =
        let there : behind (before ++ line ∷ []) ≡ Ok brought.state = one_behind start s before line was ∙ ap (λ r. and_behind r (λ u. Ok u)) here in
        rest brought.state there is
        ∙ ap (λ parts. parts ++ parts_behind (before ++ line ∷ []) lines) (one_more before line s brought.state was (part_at before line) (line_leads before line s brought.state (part_at before line) was there refl))
        ∙ append_assoc (handed s) (if_any (part_at before line)) (parts_behind (before ++ line ∷ []) lines)
    go (Err fault) here is rest = absurd (cc)

pub pieces : PiecesLaw
pieces lines whole = go (behind lines) refl whole
  where
    go : (r : Result State InputFault) → behind lines ≡ r → is_whole r ≡ true → parts_behind [] lines ≡ parts_of (certificate_of lines)
    go (Ok s) here ended = sym (all_handed [] lines start s refl here) ∙ all_on s.phase s.bound ended ∙ ap (λ r. parts_of (bound_behind r)) (sym here)
    go (Err fault) here ended = absurd (false≢true ended)
