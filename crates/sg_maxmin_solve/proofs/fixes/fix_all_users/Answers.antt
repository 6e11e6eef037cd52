use Rattle.sg_maxmin_solve.proofs.fixes.fix_all_users.Goals as goal

pub fix_due-requires : goal.fix_due-requires
fix_due-requires g c = record { at = c.requires; keys = c.has_keys.ensures.some c.if-has_keys.true }
