use Rattle.std.proofs.Common.{◌≡◌, ℕ, length, take}
use Rattle.sg_maxmin.specs.Walk.{next_of_flow, resource_of, left_from}
use Rattle.sg_maxmin.proofs.Walked.{IsWalk}
use Rattle.sg_activity.specs.kept.Rows.{row_at, way_in}
use Rattle.sg_activity.proofs.routes.write_way.Given as goal

abbrev pub invariant-loop-at : goal.invariant-loop-at
invariant-loop-at l = (k : ℕ) × record {
  walk : IsWalk next_of_flow resource_of l.index.uses (row_at l.index.rows l.key) k l.at;
  place : l.place ≡ k;
  links : l.links.items ≡ way_in l.hosts (take k (row_at l.index.rows l.key));
}

abbrev pub decreases-loop-at : goal.decreases-loop-at
decreases-loop-at l = left_from (length l.index.uses) next_of_flow l.index.uses l.at
