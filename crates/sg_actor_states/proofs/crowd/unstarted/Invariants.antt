use Rattle.std.proofs.Common.{◌≡◌, false, replicate}
use Rattle.sg_actor_states.specs.Actors.{first_actor}
use Rattle.sg_actor_states.proofs.crowd.unstarted.Given as goal

abbrev pub invariant-loop-i : goal.invariant-loop-i
invariant-loop-i l = record {
  items : l.actors.items ≡ replicate l._i (first_actor false);
}
