use Rattle.re_shaping.proofs.Continued.{repeats, repeats_same}
use Rattle.re_shaping.proofs.extending.repeated.Goals as goal

pub returns-clause-goes_on : goal.returns-clause-goes_on
returns-clause-goes_on c =
    repeats c.args.most c.args.labels c.args.chain.now.certificate c.in-Some.certificate c.new.result.items c.new-2.result.items c.in_ok-certificate.field-0 c.check-verdict.result c.new.ensures.items c.new-2.ensures.items
    c.in_ok-certificate.ensures c.in-Some.is c.kind-kind.ensures.bound c.args.chain.now.chain c.over_problems.ensures c.requires c.check-verdict.ensures.verdict c.check-verdict.ensures.means

pub returns-clause-same : goal.returns-clause-same
returns-clause-same c =
    repeats_same c.args.chain.now.certificate c.in-Some.certificate c.new.result.items c.new-2.result.items c.in_ok-certificate.field-0 c.new.ensures.items c.new-2.ensures.items
    c.in_ok-certificate.ensures c.in-Some.is c.kind-kind.ensures.bound c.args.chain.now.chain.lower
