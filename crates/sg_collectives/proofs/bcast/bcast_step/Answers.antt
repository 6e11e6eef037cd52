use Rattle.std.proofs.Common.{◌∙◌, ap, arith}
use Rattle.std.specs.List.{slice_get}
use Rattle.sg_collectives.proofs.Places.{bcast_root, bcast_behind}
use Rattle.sg_collectives.proofs.bcast.bcast_step.Goals as goal

pub returns-then-rank-eq0 : goal.returns-then-rank-eq0
returns-then-rank-eq0 c =
    c.to_child.ensures
    ∙ ap (λ steps. slice_get steps c.args.place) (bcast_root c.args.bytes c.args.rank.number c.args.rank.members c.if-rank-eq0.true)

pub returns : goal.returns
returns c =
    c.to_child-2.ensures
    ∙ bcast_behind c.args.bytes c.args.rank.number c.args.rank.members c.args.place (omega arith) (omega arith)
