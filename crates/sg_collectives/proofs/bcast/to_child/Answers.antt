use Rattle.std.proofs.Common.{arith}
use Rattle.sg_collectives.proofs.Places.{to_child_at, to_child_past}
use Rattle.sg_collectives.proofs.bcast.to_child.Goals as goal

pub returns-then-place-count : goal.returns-then-place-count
returns-then-place-count c =
    to_child_past c.args.bytes c.args.rank.number c.args.rank.members c.child_count.result c.args.place c.child_count.ensures.counted (omega arith)

pub returns : goal.returns
returns c =
    grind (arith, to_child_at c.args.bytes c.args.rank.number c.args.rank.members c.child_count.result c.args.place c.child_count.ensures.counted)
