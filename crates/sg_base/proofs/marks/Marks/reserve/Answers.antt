use Rattle.std.proofs.Common.{arith}
use Rattle.sg_base.proofs.Members.{few_members}
use Rattle.sg_base.proofs.marks.Marks.reserve.Goals as goal

pub overflow_sub-room : goal.overflow_sub-room
overflow_sub-room c =
    omega (arith, few_members c.self.inside.order.items c.self.inside.place.items _ c.self.invariant, c.len.ensures, c.len-2.ensures, c.if-room-len.false)
