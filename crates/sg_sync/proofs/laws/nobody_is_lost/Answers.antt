use Rattle.sg_sync.proofs.Losses.{locked_keeps, unlocked_keeps, acquired_keeps, released_keeps, arrived_keeps}
use Rattle.sg_sync.proofs.laws.nobody_is_lost.Goals as goal

pub returns-clause-lock : goal.returns-clause-lock
returns-clause-lock c = locked_keeps

pub returns-clause-unlock : goal.returns-clause-unlock
returns-clause-unlock c = unlocked_keeps

pub returns-clause-acquire : goal.returns-clause-acquire
returns-clause-acquire c = acquired_keeps

pub returns-clause-release : goal.returns-clause-release
returns-clause-release c = released_keeps

pub returns-clause-arrive : goal.returns-clause-arrive
returns-clause-arrive c = arrived_keeps
