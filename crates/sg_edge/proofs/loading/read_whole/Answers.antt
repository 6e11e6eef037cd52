use Rattle.std.proofs.Common.{◌+◌, ◌≤◌, length, take, arith}
use Rattle.std.proofs.lemmas.Grind.{common_steps}
use Rattle.sg_edge.proofs.Reading.{takes_more}
use Rattle.sg_edge.proofs.loading.read_whole.Goals as goal

pub returns-in_err-extend_from_slice-clause-most : goal.returns-in_err-extend_from_slice-clause-most
returns-in_err-extend_from_slice-clause-most g c =
    let few : length c.loop-part.bytes.items + length (take c.in_ok-n.n c.read.new.buf) ≤ c.args.limit = grind (arith, common_steps) in
    takes_more c.args.limit c.loop-part.bytes.items (take c.in_ok-n.n c.read.new.buf) _ (g.F.Files.shows c.loop-part.files c.args.part) _ c.loop-part.invariant.left c.in_ok-n.ensures.took.left few
