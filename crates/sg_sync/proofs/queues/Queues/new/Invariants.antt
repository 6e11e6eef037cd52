use Rattle.std.proofs.Common.{◌≡◌, ◌+◌, ◌∷◌, []}
use Rattle.std.specs.Prelude.{replicate}
use Rattle.sg_queues.specs.Rings.{IsApart}
use Rattle.sg_sync.specs.kept.Slots.{AreKept}
use Rattle.sg_sync.proofs.queues.Queues.new.Given as goal

abbrev pub invariant-loop-actor : goal.invariant-loop-actor
invariant-loop-actor l = record {
  apart : IsApart l.rings;
  nodes : l.rings.nodes ≡ l._actor + 1;
  heads : l.rings.heads ≡ 0 ∷ [];
  idle : l.rings.idle ≡ [];
  none : l.rings.queues ≡ [];
}

abbrev pub invariant-loop-queue : goal.invariant-loop-queue
invariant-loop-queue l = record { kept : AreKept l.actors l.rings; nobody : l.rings.queues ≡ replicate l._queue [] }
