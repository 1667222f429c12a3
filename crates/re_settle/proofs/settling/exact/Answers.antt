use Rattle.std.proofs.Common.{inl, refl}
use Rattle.re_given_words.specs.declared.counting.Counted.TheVariants as counted
use Rattle.re_settle.proofs.Known.{count_known}
use Rattle.re_settle.proofs.Together.{exactly_settled}
use Rattle.re_evidence.specs.declared.types.Claim.TheVariants.{Exactly}
use Rattle.re_settle.specs.declared.types.Way.TheVariants.{Rounds}
use Rattle.re_settle.proofs.settling.exact.Goals as goal

pub returns-in-None : goal.returns-in-None
returns-in-None c =
    let is = c.names-names.ensures.problem.problem in
    exactly_settled c.args.times c.args.problem.now (record { rounds = c.args.rounds; way = Rounds 8 }) is c.requires.unfixed
    (count_known c.args.times c.args.problem.now 8 (counted.Exactly c.args.rounds) (Exactly c.args.rounds) is (inl refl) c.requires.counted refl)
