use Rattle.std.proofs.Common.{◌≡◌, List, drop}
use Rattle.sg_base.specs.declared.ids.ActorId.{ActorId}
use Rattle.sg_kernel_calls.specs.Locks.{all_wake}
use Rattle.sg_kernel_calls.specs.Known.{after}
use Rattle.sg_kernel_calls.specs.kept.Sound.{core_of, known_of}
use Rattle.sg_kernel_calls.specs.kept.Waking.{AreWaking, LeavesCallers}
use Rattle.sg_kernel_calls.specs.kept.Whole.{IsSteady}
use Rattle.sg_kernel_calls.proofs.locks.wake_others.Given as goal

abbrev pub invariant-loop-i : goal.invariant-loop-i
invariant-loop-i l = record {
  known : after (all_wake (drop l.i l.initial.fields.objects.others) (core_of l.fields)) (known_of l.fields) ≡ after (all_wake l.initial.fields.objects.others (core_of l.initial.fields)) (known_of l.initial.fields);
  objects : l.fields.objects ≡ l.initial.fields.objects;
  waking : (comers : List ActorId) → AreWaking l.initial.fields comers l.initial.fields.objects.others → AreWaking l.fields comers (drop l.i l.initial.fields.objects.others);
  frees : LeavesCallers l.initial.fields.states l.fields.states;
  steady : IsSteady l.fields;
}
