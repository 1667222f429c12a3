use Rattle.std.proofs.Common.{◌≡◌, ℕ, subst}
use Rattle.std.proofs.lemmas.Result.{IfOk-weaker}
use Rattle.re_chains.proofs.WordsGiven.{both_ok}
use Rattle.re_frame.specs.Outcomes.{outcome_of, refused}
use Rattle.re_frame.specs.SearchLines.{solvable_line}
use Rattle.re_problem.specs.NamedProblems.{NamedProblem}
use Rattle.re_relaxed.specs.Answers.{Answers}
use Rattle.re_search_words.proofs.Behind.{counted, found, full, solvable}
use Rattle.re_search_words.specs.RelaxedWords.{looked_at}
use Rattle.re_settings.specs.declared.setting.Setting.TheVariants.{Alone}
use Rattle.re_cert.specs.declared.certificate.TheConstants.{MAX_STEPS}
use Rattle.re_search_words.specs.MayGive.{MayFindBy}
use Rattle.re_search_words.specs.declared.words.SearchWord.TheVariants.{Cycle}
use Rattle.re_search_words.proofs.relaxed_answering.relaxed_output.Goals as goal

pub returns-in-Found : goal.returns-in-Found
returns-in-Found c =
    let answer = subst (Answers c.args.chain.now.certificate) c.in-Found.is c.in_ok-certificate.ensures in
    both_ok _ _ _ c.certificate_output.result c.certificate_output.ensures.outcome c.certificate_output.ensures.text
    (λ output one gives. found c.args.chain.now.certificate c.taken_alone_law.ensures c.args.chain.now.chain (looked_at c.args.word) (outcome_of output) c.in-Found.certificate answer.0 answer.1 one gives)

pub returns-in-Solvable : goal.returns-in-Solvable
returns-in-Solvable c =
    let answer = subst (Answers c.args.chain.now.certificate) c.in-Solvable.is c.in_ok-certificate.ensures in
    IfOk-weaker c.solvable_output.result _ _ (λ output is. solvable c.args.chain.now.certificate c.taken_alone_law.ensures c.args.chain.now.chain (looked_at c.args.word) (outcome_of output) c.in-Solvable.place answer
    (subst (λ (p : NamedProblem). outcome_of output ≡ refused (solvable_line p c.in-Solvable.place)) c.last.ensures is)) c.solvable_output.ensures

pub returns-in-NotFound : goal.returns-in-NotFound
returns-in-NotFound c =
    let answer = subst (Answers c.args.chain.now.certificate) c.in-NotFound.is c.in_ok-certificate.ensures in
    IfOk-weaker c.searched_output.result _ _ (λ output is. counted c.args.chain.now.certificate c.taken_alone_law.ensures c.args.chain.now.chain (looked_at c.args.word) (outcome_of output) c.in-NotFound.seen c.in-NotFound.cut answer is) c.searched_output.ensures

pub returns-in-TooMany : goal.returns-in-TooMany
returns-in-TooMany c =
    let answer = subst (Answers c.args.chain.now.certificate) c.in-TooMany.is c.in_ok-certificate.ensures in
    IfOk-weaker c.searched_limit.result _ _ (λ output is. subst (λ (n : ℕ). MayFindBy (Cycle MAX_STEPS 0 n) Alone c.args.chain.now.certificate (outcome_of output)) c.looked_at-nodes.ensures
    (full c.args.chain.now.certificate c.taken_alone_law.ensures c.args.chain.now.chain c.looked_at-nodes.result (outcome_of output) answer is)) c.searched_limit.ensures
