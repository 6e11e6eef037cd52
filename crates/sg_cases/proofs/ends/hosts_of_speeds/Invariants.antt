use Rattle.std.proofs.Common.{◌≡◌, All, length}
use Rattle.sg_activity.specs.Hosts.{IsHost}
use Rattle.sg_cases.proofs.ends.hosts_of_speeds.Given as goal

abbrev pub invariant-loop-host : goal.invariant-loop-host
invariant-loop-host l = record {
  hosts : All IsHost l.hosts.items;
  count : length l.hosts.items ≡ l.host;
}
