use Rattle.std.proofs.Common.{◌≡◌, drop, length}
use Rattle.sg_kernel_calls.specs.Kills.{gives_up}
use Rattle.sg_kernel_calls.specs.Known.{after}
use Rattle.sg_kernel_calls.specs.Steps.{each}
use Rattle.sg_kernel_calls.specs.kept.Sound.{core_of, known_of}
use Rattle.sg_kernel_calls.specs.kept.Whole.{IsWhole}
use Rattle.sg_kernel_calls.proofs.killing.give_up_all.Given as goal

abbrev pub invariant-loop-i : goal.invariant-loop-i
invariant-loop-i l = record {
  known : after (each gives_up (drop l.i l.initial.fields.requests.awaited) (core_of l.fields)) (known_of l.fields) ≡ after (each gives_up l.initial.fields.requests.awaited (core_of l.initial.fields)) (known_of l.initial.fields);
  requests : l.fields.requests ≡ l.initial.fields.requests;
  many : length l.fields.whose.whose ≡ length l.initial.fields.whose.whose;
  whole : IsWhole l.fields;
}
