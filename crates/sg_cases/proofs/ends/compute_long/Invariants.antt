use Rattle.std.proofs.Common.{◌≡◌, ◌+◌, length}
use Rattle.sg_cases.specs.Ends.{HasHosts}
use Rattle.sg_cases.proofs.ends.compute_long.Given as goal

abbrev pub invariant-loop-host : goal.invariant-loop-host
invariant-loop-host g l = record {
  hosts : HasHosts 16384 l.doing;
  tasks : length l.doing.under.tasks ≡ l.host;
}

abbrev pub invariant-loop-end : goal.invariant-loop-end
invariant-loop-end g l = record {
  hosts : HasHosts 16384 l.doing;
  tasks : length l.doing.under.tasks ≡ 16384 + l._end;
}
