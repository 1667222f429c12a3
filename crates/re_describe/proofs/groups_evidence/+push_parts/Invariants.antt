use Rattle.re_describe.proofs.groups_evidence.+push_parts.Given as goal

abbrev pub decreases-push_parts : goal.decreases-push_parts
decreases-push_parts l = l.more
