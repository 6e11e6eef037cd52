use Rattle.std.proofs.Common.{◌-◌, subst, sym, arith}
use Rattle.sg_kernel_calls.proofs.Suspending.{like_held, whole_like, IsLike}
use Rattle.sg_kernel_calls.proofs.holding.turn_awaited.Goals as goal

pub returns-in-Some-on-clause-whole : goal.returns-in-Some-on-clause-whole
returns-in-Some-on-clause-whole c =
    let old = c.args.fields.now in
    let room = old.states.room in
    let under = old.doing.under in
    let like = subst (IsLike under) (sym c.turn.ensures.under) (like_held c.args.on c.in-Some-on.awaited.serial.0 under) in
    whole_like old room (room - 1) c.turn.new.doing like (omega (arith, c.turn.ensures.room, c.requires.able.whole.roomy.starts)) (omega arith) c.requires.able.whole
