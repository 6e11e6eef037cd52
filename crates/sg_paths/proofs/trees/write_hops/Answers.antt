-- One hop more is written.
use Rattle.std.proofs.Common.{◌≡◌, ◌<◌, Some, get_or, refl, arith}
use Rattle.std.specs.Prelude.{slice_get}
use Rattle.std.proofs.lemmas.Option.{slice_get-get_or}
use Rattle.sg_paths.specs.declared.trail.Settled.{Settled}
use Rattle.sg_paths.specs.declared.trees.Hop.{Hop}
use Rattle.sg_paths.proofs.TreeLemmas.{one_written}
use Rattle.sg_paths.proofs.trees.write_hops.Goals as goal

pub writing-preserved : goal.writing-preserved
writing-preserved c =
    let d : Settled = record { point = 0; route = 0; next = 0 } in
    let k = c.writing.k in
    let s : Settled = get_or c.args.settled.now k d in
    let hop : Hop = record { to = c.args.to; route = c.numbered-route.result } in
    let there : slice_get c.args.settled.now k ≡ Some s = slice_get-get_or c.args.settled.now k d c.writing-test.true in
    let above : 0 < k = let a = c.writing.invariant.above in omega (arith, a) in
    record {
      take = λ routes tree old. one_written c.args.settled.now c.writing.hops.items c.write_hop.new.hops.items c.args.to k hop s above there refl c.numbered-route.ensures c.write_hop.ensures routes tree (c.writing.invariant.take routes tree old);
      above = omega arith;
    }
