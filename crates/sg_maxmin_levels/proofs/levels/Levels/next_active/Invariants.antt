use Rattle.std.proofs.Common.{◌≡◌, ◌-◌, ◌^◌, ◌<◌, true, None, IfSome, length}
use Rattle.sg_maxmin_levels.specs.Allowed.{HaveUsers}
use Rattle.sg_maxmin_levels.specs.Settling.{is_active}
use Rattle.sg_maxmin_levels.proofs.levels.Levels.next_active.Given as goal

abbrev pub invariant-loop-resource : goal.invariant-loop-resource
invariant-loop-resource l = record {
  none : l.found ≡ None → l.resource-index ≡ 0;
  least : l.found ≡ None → l.least ≡ 2 ^ 64 - 1;
  exist : IfSome l.found (λ r. r < length l.system.capacities);
  active : IfSome l.found (λ r. is_active l.self.active.members r ≡ true);
  most : HaveUsers l.self l.most_users;
}
