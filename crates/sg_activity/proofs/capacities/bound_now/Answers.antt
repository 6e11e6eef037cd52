use Rattle.std.proofs.Common.{sym, subst, ◌∙◌}
use Rattle.sg_activity.specs.kept.Rows.{IsWayRow, row_at}
use Rattle.sg_activity.specs.kept.Sound.{IsOver}
use Rattle.sg_activity.specs.kept.State.{links_at, state_of, ways_of}
use Rattle.sg_activity.proofs.Indexing.{over_row}
use Rattle.sg_activity.proofs.capacities.bound_now.Goals as goal

pub way_of-way-requires-clause-way : goal.way_of-way-requires-clause-way
way_of-way-requires-clause-way c =
    let kept = c.args.kept.now in
    let live = c.args.live.now in
    subst (λ n. IsWayRow n (row_at kept.index.rows c.args.key)) (sym (c.len.ensures ∙ kept.hosts.ok.0))
    (over_row (state_of kept).capacities (row_at kept.index.rows c.args.key) live.place (links_at (ways_of kept) c.args.key) (subst IsOver (sym c.in-Over.is) tt) c.requires.place c.requires.row)
