use Rattle.std.proofs.Common.{inl, subst, sym}
use Rattle.re_frame.specs.Outcomes.{outcome_of}
use Rattle.re_settle.specs.Pieces.{told}
use Rattle.re_explore.proofs.Pieces.{claims_ahead, follows_expected, kept_or_stops, told_says}
use Rattle.re_explore.specs.Expected.{Says}
use Rattle.re_explore.specs.Telling.{MayTellOf, SaysTelling}
use Rattle.re_explore.proofs.telling.put_telling.Goals as goal

pub returns-in-Whole-clause-answer : goal.returns-in-Whole-clause-answer
returns-in-Whole-clause-answer g c answers words bytes may =
    (outcome_of c.in-Whole.output, subst (MayTellOf words bytes) c.in-Whole.is may, c.put_output.ensures.answer answers)

pub returns-in-Whole-clause-says : goal.returns-in-Whole-clause-says
returns-in-Whole-clause-says g c answers command says =
    subst (λ status. Says status command) (sym (c.put_output.ensures.answer answers).status) (subst (λ telling. SaysTelling telling command) c.in-Whole.is says)

pub returns-in-Whole-clause-partly : goal.returns-in-Whole-clause-partly
returns-in-Whole-clause-partly g c failed words bytes may =
    (outcome_of c.in-Whole.output, subst (MayTellOf words bytes) c.in-Whole.is may, c.put_output.ensures.partly failed)

pub returns-in-Whole-clause-no_memory : goal.returns-in-Whole-clause-no_memory
returns-in-Whole-clause-no_memory g c ended words bytes may = inl (c.put_output.ensures.no_memory ended)

pub returns-in-Claims-clause-answer : goal.returns-in-Claims-clause-answer
returns-in-Claims-clause-answer g c answers words bytes may =
    let claimed = c.in-Claims.claimed in
    let (rest, follows, answered) = c.put_claims.ensures.answer answers in
    (told claimed rest, follows_expected claimed rest words bytes (subst (MayTellOf words bytes) c.in-Claims.is may) follows, answered)

pub returns-in-Claims-clause-says : goal.returns-in-Claims-clause-says
returns-in-Claims-clause-says g c answers command says =
    let (rest, follows, answered) = c.put_claims.ensures.answer answers in
    told_says c.in-Claims.claimed rest c.put_claims.result command (subst (λ telling. SaysTelling telling command) c.in-Claims.is says) answered.status

pub returns-in-Claims-clause-partly : goal.returns-in-Claims-clause-partly
returns-in-Claims-clause-partly g c failed words bytes may =
    let claimed = c.in-Claims.claimed in
    let (rest, follows, within) = c.put_claims.ensures.partly failed in
    (told claimed rest, follows_expected claimed rest words bytes (subst (MayTellOf words bytes) c.in-Claims.is may) follows, within)

pub returns-in-Claims-clause-no_memory : goal.returns-in-Claims-clause-no_memory
returns-in-Claims-clause-no_memory g c ended words bytes may =
    kept_or_stops c.in-Claims.claimed words bytes _ _ (subst (MayTellOf words bytes) c.in-Claims.is may) (c.put_claims.ensures.no_memory ended)

pub returns-in-Claims-clause-nothing : goal.returns-in-Claims-clause-nothing
returns-in-Claims-clause-nothing g c ended command says whole = claims_ahead command (subst (λ telling. SaysTelling telling command) c.in-Claims.is says) whole
