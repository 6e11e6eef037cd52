use Rattle.std.proofs.Common.{◌≡◌, Some, length, sym, ap, ◌∙◌, arith}
use Rattle.sg_activity_table.specs.Pool.{slot_at}
use Rattle.sg_activity.specs.kept.Index.{used_by}
use Rattle.sg_activity.specs.kept.State.{links_at, ways_of}
use Rattle.sg_activity.proofs.switches.update_hit.Goals as goal

pub uses_off-requires-clause-at : goal.uses_off-requires-clause-at
uses_off-requires-clause-at c =
    let kept = c.args.kept.now in
    let key = c.args.key in
    let look = c.requires.look in
    let at : slot_at kept.lives.slots key ≡ Some c.in-Some.live = sym c.get.ensures ∙ c.in-Some.is in
    record {
      key = omega (arith, c.requires.key, look.used.long);
      place = look.placed key c.in-Some.live at;
      row = look.used.rows key ∙ ap (used_by (length kept.hosts.items) (length kept.links.items) (links_at (ways_of kept) key)) at;
    }
