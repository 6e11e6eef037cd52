use Rattle.std.proofs.Common.{◌≡◌, ◌<◌, ◌≤◌, ◌+◌, ◌++◌, drop, length}
use Rattle.std.specs.List.{All}
use Rattle.sg_platform_rows.specs.Deployment.{member_ids}
use Rattle.sg_toml_tree.specs.Along.{along}
use Rattle.sg_platform_rows.proofs.deployment.members_among.Given as goal

abbrev pub invariant-loop-place : goal.invariant-loop-place
invariant-loop-place l = record {
  whole : l.members ++ along member_ids l.place (drop l.place l.actors) ≡ along member_ids 0 l.actors;
  rising : All (λ member. member.0 < l.place + 1) l.members;
  few : length l.members ≤ l.place;
}
