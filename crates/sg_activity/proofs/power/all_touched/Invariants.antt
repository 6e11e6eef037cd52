use Rattle.std.proofs.Common.{◌≡◌, ℕ, ◌<◌, IsTrue}
use Rattle.sg_base.specs.MarkSet.{is_in}
use Rattle.sg_activity.proofs.power.all_touched.Given as goal

abbrev pub invariant-loop-host : goal.invariant-loop-host
invariant-loop-host l = record {
  room : l.touched.room ≡ l.hosts;
  all : (host : ℕ) → host < l.host → IsTrue (is_in host l.touched.members);
}
