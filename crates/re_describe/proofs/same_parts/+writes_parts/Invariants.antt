use Rattle.re_describe.proofs.same_parts.+writes_parts.Given as goal

abbrev pub decreases-writes_parts : goal.decreases-writes_parts
decreases-writes_parts l = l.more
