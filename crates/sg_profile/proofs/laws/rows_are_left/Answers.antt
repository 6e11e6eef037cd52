use Rattle.sg_profile.proofs.Ahead.{none_is_before, rows_are_left}
use Rattle.sg_profile.proofs.laws.rows_are_left.Goals as goal

pub returns : goal.returns
returns c = record { next = rows_are_left; none = none_is_before }
