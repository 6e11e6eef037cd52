use Rattle.std.proofs.Common.{◌≡◌, length}
use Rattle.sg_kernel.specs.Passes.{ends}
use Rattle.sg_kernel_calls.specs.kept.Sound.{known_of, setup_in}
use Rattle.sg_kernel_calls.specs.kept.Whole.{IsPassing}
use Rattle.sg_kernel.proofs.Counting.{Counted}
use Rattle.sg_kernel_calls.proofs.Each.{still, still_stops}
use Rattle.sg_kernel.proofs.passes.end_due.Given as goal

abbrev pub invariant-loop-phase : goal.invariant-loop-phase
invariant-loop-phase l = record {
  passing : IsPassing l.fields;
  setup : setup_in l.fields ≡ setup_in l.fn.fields;
  known : still (ends (setup_in l.fn.fields)) l.fields.doing.due (known_of l.fields) ≡ still (ends (setup_in l.fn.fields)) l.fn.fields.doing.due (known_of l.fn.fields);
  stop : still_stops (ends (setup_in l.fn.fields)) l.fields.doing.due (known_of l.fields) ≡ still_stops (ends (setup_in l.fn.fields)) l.fn.fields.doing.due (known_of l.fn.fields);
  date : l.fields.doing.under.date ≡ l.fn.fields.doing.under.date;
  events : Counted l.fn.fields l.fields l.fn.fields.doing.due l.fields.doing.due;
}

abbrev pub decreases-loop-phase : goal.decreases-loop-phase
decreases-loop-phase l = length l.fields.doing.due
