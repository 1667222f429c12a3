use Rattle.std.proofs.Common.{inl}
use Rattle.re_extract.proofs.Found.{is_put}
use Rattle.re_extract.proofs.sights.put.Goals as goal

pub returns-in_err-place-clause-put : goal.returns-in_err-place-clause-put
returns-in_err-place-clause-put c = inl c.in_err-place.ensures.err

pub returns-clause-put : goal.returns-clause-put
returns-clause-put c = is_put c.args.seen.now.keys c.insert_full.new.self.keys c.args.view _ c.in_ok-place.ensures.keys
