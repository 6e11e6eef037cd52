use Rattle.std.proofs.Common.{◌≡◌, [], length}
use Rattle.sg_kernel.specs.Passes.{changes}
use Rattle.sg_kernel.specs.kept.Coming.{LeavesDue, rows_now}
use Rattle.sg_kernel_calls.specs.kept.Sound.{known_of, setup_in}
use Rattle.sg_kernel_calls.specs.kept.Whole.{IsPassing}
use Rattle.sg_kernel.proofs.Counting.{Counted}
use Rattle.sg_kernel_calls.proofs.Each.{still, still_stops}
use Rattle.sg_kernel.proofs.entries.change_due.Given as goal

abbrev pub invariant-loop-entry : goal.invariant-loop-entry
invariant-loop-entry l = record {
  passing : IsPassing l.fields;
  setup : setup_in l.fields ≡ setup_in l.fn.fields;
  known : still (changes (setup_in l.fn.fields)) (rows_now l.fields) (known_of l.fields) ≡ still (changes (setup_in l.fn.fields)) (rows_now l.fn.fields) (known_of l.fn.fields);
  stop : still_stops (changes (setup_in l.fn.fields)) (rows_now l.fields) (known_of l.fields) ≡ still_stops (changes (setup_in l.fn.fields)) (rows_now l.fn.fields) (known_of l.fn.fields);
  due : LeavesDue l.fn.fields l.fields;
  idle : rows_now l.fn.fields ≡ [] → (rows_now l.fields ≡ []) × (l.fields.doing.due ≡ l.fn.fields.doing.due);
  events : Counted l.fn.fields l.fields (rows_now l.fn.fields) (rows_now l.fields);
}

abbrev pub decreases-loop-entry : goal.decreases-loop-entry
decreases-loop-entry l = length (rows_now l.fields)
