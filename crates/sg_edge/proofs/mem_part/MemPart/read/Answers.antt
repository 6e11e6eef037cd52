use Rattle.std.proofs.Common.{◌+◌, ◌≤◌, length, arith}
use Rattle.std.proofs.lemmas.Grind.{common_steps}
use Rattle.sg_edge.proofs.Reading.{takes_piece}
use Rattle.sg_edge.proofs.mem_part.MemPart.read.Goals as goal

pub returns-else-n-eq0-clause-took : goal.returns-else-n-eq0-clause-took
returns-else-n-eq0-clause-took c =
    let fits : c.args.self.now.taken + c.min-n.result ≤ length c.args.self.now.bytes.items = grind (arith, common_steps) in
    takes_piece c.args.self.now.bytes.items _ _ _ _ _ _ _ c.requires.begun c.if-n-eq0.false fits (rw c.deref.ensures.value at c.copy_from_slice.ensures.after)
