use Rattle.std.proofs.Common.{◌++◌, ◌∷◌, [], List, subst, true, ℕ}
use Rattle.re_cert.specs.CertificateReading.{FeedRefuses, Stands}
use Rattle.re_net.proofs.FrontLines.{feed_refused}
use Rattle.re_net.proofs.certificate_part.feed.Goals as goal

pub returns-in-Ok-feed : goal.returns-in-Ok-feed
returns-in-Ok-feed c = λ before s is stands.
    subst (λ (t : List ℕ). Stands c.feed.new.self (before ++ record { text = t; ended = true } ∷ [])) c.in-Ok.ensures.items (c.in-Ok-feed.ensures before stands).1

pub returns : goal.returns
returns c = λ before s is stands.
    feed_refused c.args.reader.now c.feed.new.self s before c.args.text.now c.in-Err-feed.fault is stands
    (subst (λ (t : List ℕ). FeedRefuses c.args.reader.now (record { text = t; ended = true }) c.in-Err-feed.fault) c.in-Ok.ensures.items c.in-Err-feed.ensures)
