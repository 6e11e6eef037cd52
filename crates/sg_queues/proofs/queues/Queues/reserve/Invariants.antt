use Rattle.std.proofs.Common.{◌≡◌, ◌≤◌, ◌-◌}
use Rattle.sg_queues.specs.Queues.{Queues}
use Rattle.sg_queues.proofs.queues.Queues.reserve.Given as goal

-- the same queues, and no less room
pub record Grows {T : Type 0} (old new : Queues T) : Type 0 where
  pub queues : new.queues ≡ old.queues
  pub room : old.room ≤ new.room

abbrev pub invariant-loop-self : goal.invariant-loop-self
invariant-loop-self g l = Grows l.initial.self l.self

abbrev pub decreases-loop-self : goal.decreases-loop-self
decreases-loop-self g l = l.n - l.self.room
