use Rattle.std.proofs.Common.{◌≡◌, ◌≤◌, length}
use Rattle.sg_activity.specs.Underway.{hits}
use Rattle.sg_kernel.specs.Passes.{fails}
use Rattle.sg_kernel.specs.kept.Coming.{LeavesDue}
use Rattle.sg_kernel_calls.specs.kept.Sound.{known_of, setup_in}
use Rattle.sg_kernel_calls.specs.kept.Whole.{IsPassing}
use Rattle.sg_kernel_calls.proofs.Each.{still, still_stops}
use Rattle.sg_kernel.proofs.failures.fail_all.Given as goal

abbrev pub invariant-loop-serial : goal.invariant-loop-serial
invariant-loop-serial l = record {
  passing : IsPassing l.fields;
  setup : setup_in l.fields ≡ setup_in l.fn.fields;
  known : still (fails (setup_in l.fn.fields)) (hits l.fields.doing.under) (known_of l.fields) ≡ still (fails (setup_in l.fn.fields)) (hits l.fn.fields.doing.under) (known_of l.fn.fields);
  stop : still_stops (fails (setup_in l.fn.fields)) (hits l.fields.doing.under) (known_of l.fields) ≡ still_stops (fails (setup_in l.fn.fields)) (hits l.fn.fields.doing.under) (known_of l.fn.fields);
  due : LeavesDue l.fn.fields l.fields;
  profiles : l.fields.profiles ≡ l.fn.fields.profiles;
  events : l.fn.fields.events ≤ l.fields.events;
}

abbrev pub decreases-loop-serial : goal.decreases-loop-serial
decreases-loop-serial l = length (hits l.fields.doing.under)
