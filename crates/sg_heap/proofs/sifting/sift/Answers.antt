use Rattle.std.proofs.Common.{arith}
use Rattle.sg_heap.proofs.Digits.{digits-le}
use Rattle.sg_heap.proofs.sifting.sift.Goals as goal

pub returns-then-is_before : goal.returns-then-is_before
returns-then-is_before g c = record { sifted = c.rise.ensures.sifted; most = omega (arith, digits-le c.args.from c.args.count (omega arith)) }
