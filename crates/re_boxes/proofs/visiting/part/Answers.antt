use Rattle.std.proofs.Common.{◌≡◌, ◌++◌, ◌∙◌, ◌∷◌, ◌<◌, ◌≤◌, ◌+◌, ℕ, List, [], ap, arith, get_or, get_or-set_other, length, set, subst, sym, refl, take}
use Rattle.std.specs.Prelude.{Contains}
use Rattle.std.proofs.lemmas.List.{take_all, take_more, take_more_set}
use Rattle.std.proofs.lemmas.List.Elements.{Contains-get_or}
use Rattle.re_boxes.proofs.Fitting.{ArePartedBy, no_candidate, parted-none, parted-passed, parted-same, parted-taken}
use Rattle.re_boxes.specs.Spans.{tree_of}
use Rattle.re_boxes.specs.declared.visiting.Candidate.{Candidate}
use Rattle.re_boxes.proofs.visiting.part.Goals as goal
use Rattle.re_boxes.proofs.visiting.part.Goals.{else-is_next, then-is_next}

-- a candidate that is still as it was
one-held : (now old : List Candidate) (k : ℕ) → get_or now k no_candidate ≡ get_or old k no_candidate → k < length old → Contains old (get_or now k no_candidate)
one-held now old k same far = subst (Contains old) (sym same) (Contains-get_or old k no_candidate far)

one-more : (now old : List Candidate) (k : ℕ) → get_or now k no_candidate ≡ get_or old k no_candidate → k < length old → take (k + 1) old ≡ take k old ++ get_or now k no_candidate ∷ []
one-more now old k same far = take_more old k no_candidate far ∙ ap (λ one. take k old ++ one ∷ []) (sym same)

pub loop-place-init : goal.loop-place-init
loop-place-init c = record {
  parted = subst (λ below. ArePartedBy (tree_of c.args.constraint.now c.args.nodes.now) c.args.depth c.args.label below [] [] 0) (sym c.requires.below) (parted-none (tree_of c.args.constraint.now c.args.nodes.now) c.args.depth c.args.label);
  others = λ k le. refl;
}

pub is_next-requires-clause-span : goal.is_next-requires-clause-span
is_next-requires-clause-span c = c.requires.candidates (get_or c.loop-place.candidates c.loop-place.place no_candidate)
    (one-held c.loop-place.candidates c.args.candidates.now c.loop-place.place (c.loop-place.invariant.others c.loop-place.place (omega arith)) c.loop-place-test.true)

pub is_next-requires-clause-least : goal.is_next-requires-clause-least
is_next-requires-clause-least c = λ other ending e.
    c.requires.least (get_or c.loop-place.candidates c.loop-place.place no_candidate).label other ending (
      get_or c.loop-place.candidates c.loop-place.place no_candidate,
      one-held c.loop-place.candidates c.args.candidates.now c.loop-place.place (c.loop-place.invariant.others c.loop-place.place (omega arith)) c.loop-place-test.true,
      refl,
      e,
    )

pub parted-parts-requires-clause-span : goal.parted-parts-requires-clause-span
parted-parts-requires-clause-span c = c.requires.candidates (get_or c.loop-place.candidates c.loop-place.place no_candidate)
    (one-held c.loop-place.candidates c.args.candidates.now c.loop-place.place (c.loop-place.invariant.others c.loop-place.place (omega arith)) c.loop-place-test.true)

pub loop-place-preserved : goal.loop-place-preserved
loop-place-preserved c =
    let now = c.loop-place.candidates in
    let old = c.args.candidates.now in
    let place = c.loop-place.place in
    let one = get_or now place no_candidate in
    let same : one ≡ get_or old place no_candidate = c.loop-place.invariant.others place (omega arith) in
    let far : place < length now = (let below = c.loop-place-test.true in let long = c.loop-place.auto.candidates in omega (arith, below, long)) in
    elim c.if-is_next.branch [
      | then-is_next w ↦
          let high : Candidate = record { label = one.label; span = w.parted-parts.result.after } in
          let new : c.if-is_next.candidates ≡ set now place high = w.candidates-is in
          record {
            parted = subst (λ all. ArePartedBy (tree_of c.args.constraint.now c.args.nodes.now) c.args.depth c.args.label c.if-is_next.below.items (take (place + 1) c.if-is_next.candidates) all (place + 1))
                (sym (one-more now old place same c.loop-place-test.true))
                (parted-same (tree_of c.args.constraint.now c.args.nodes.now) c.args.depth c.args.label
                (c.loop-place.below.items ++ record { label = one.label; span = w.parted-parts.result.below } ∷ []) c.if-is_next.below.items
                (take place now ++ high ∷ []) (take (place + 1) c.if-is_next.candidates)
                (take place old ++ one ∷ []) (place + 1) ((λ i. (w.below-is i).items) ∙ w.push.ensures.items) (ap (take (place + 1)) new ∙ take_more_set now place high far)
                (parted-taken (tree_of c.args.constraint.now c.args.nodes.now) c.args.depth c.args.label c.loop-place.below.items (take place now) (take place old) place c.loop-place.invariant.parted
                one w.parted-parts.result.below w.parted-parts.result.after w.if-is_next.ensures w.parted-parts.ensures.below w.parted-parts.ensures.after
                w.parted-parts.ensures.endings_below w.parted-parts.ensures.endings_after));
            others = λ k past. ap (λ l. get_or l k no_candidate) new ∙ get_or-set_other now place k high no_candidate (λ e. absurd (omega (arith, past, e)))
                ∙ c.loop-place.invariant.others k (omega (arith, past));
          }
      | else-is_next w ↦ record {
        parted = subst (λ all. ArePartedBy (tree_of c.args.constraint.now c.args.nodes.now) c.args.depth c.args.label c.if-is_next.below.items (take (place + 1) c.if-is_next.candidates) all (place + 1))
            (sym (one-more now old place same c.loop-place-test.true))
            (parted-same (tree_of c.args.constraint.now c.args.nodes.now) c.args.depth c.args.label c.loop-place.below.items c.if-is_next.below.items
            (take place now ++ one ∷ []) (take (place + 1) c.if-is_next.candidates)
            (take place old ++ one ∷ []) (place + 1) (λ i. (w.below-is i).items) (ap (take (place + 1)) w.candidates-is ∙ take_more now place no_candidate far)
            (parted-passed (tree_of c.args.constraint.now c.args.nodes.now) c.args.depth c.args.label c.loop-place.below.items (take place now) (take place old) place c.loop-place.invariant.parted
            one (c.requires.candidates one (one-held now old place same c.loop-place-test.true)) w.if-is_next.ensures));
        others = λ k past. ap (λ l. get_or l k no_candidate) w.candidates-is ∙ c.loop-place.invariant.others k (omega (arith, past));
      }
    ]

pub returns : goal.returns
returns c =
    let past = c.loop-place-test.false in
    let long = c.loop-place.auto.candidates in
    let end : c.loop-place.place ≤ length c.args.candidates.now = (let e = c.loop-place.auto.place-end in omega (arith, e)) in
    let state = subst (λ all. ArePartedBy (tree_of c.args.constraint.now c.args.nodes.now) c.args.depth c.args.label c.loop-place.below.items c.loop-place.candidates all c.loop-place.place)
    (take_all c.loop-place.place c.args.candidates.now past)
    (subst (λ after. ArePartedBy (tree_of c.args.constraint.now c.args.nodes.now) c.args.depth c.args.label c.loop-place.below.items after (take c.loop-place.place c.args.candidates.now) c.loop-place.place)
    (take_all c.loop-place.place c.loop-place.candidates (omega (arith, past, long))) c.loop-place.invariant.parted) in
    record {
      few_below = let few = state.few_below in omega (arith, few, end);
      few_after = let few = state.few_after in omega (arith, few, end);
      spans_below = state.spans_below;
      filled_below = state.filled_below;
      spans_after = state.spans_after;
      below = state.is_below;
      after = state.is_after;
    }
