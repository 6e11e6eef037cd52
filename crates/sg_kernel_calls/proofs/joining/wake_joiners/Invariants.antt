use Rattle.std.proofs.Common.{◌≡◌, length}
use Rattle.sg_actor_states.specs.Actors.{joiners}
use Rattle.sg_kernel_calls.specs.Locks.{wakes}
use Rattle.sg_kernel_calls.specs.kept.Sound.{known_of}
use Rattle.sg_kernel_calls.specs.kept.Waking.{LeavesCallers}
use Rattle.sg_kernel_calls.specs.kept.Whole.{IsWhole}
use Rattle.sg_kernel_calls.proofs.Each.{still}
use Rattle.sg_kernel_calls.proofs.joining.wake_joiners.Given as goal

abbrev pub invariant-loop-actor : goal.invariant-loop-actor
invariant-loop-actor l = record {
  known : still wakes (joiners l.target.0 1 l.fields.states.actors) (known_of l.fields) ≡ still wakes (joiners l.target.0 1 l.fn.fields.states.actors) (known_of l.fn.fields);
  frees : LeavesCallers l.fn.fields.states l.fields.states;
  whole : IsWhole l.fields;
}

abbrev pub decreases-loop-actor : goal.decreases-loop-actor
decreases-loop-actor l = length (joiners l.target.0 1 l.fields.states.actors)
