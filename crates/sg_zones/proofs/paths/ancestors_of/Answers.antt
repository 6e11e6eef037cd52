-- Twice as many steps.
use Rattle.std.proofs.Common.{◌≡◌, ◌^◌, ◌∙◌}
use Rattle.sg_zones.specs.Paths.{ancestors_of}
use Rattle.sg_zones.proofs.Ancestors.{doubled_is}
use Rattle.sg_zones.proofs.paths.ancestors_of.Goals as goal

pub loop-preserved : goal.loop-preserved
loop-preserved c =
    let before : c.deref.result.now ≡ ancestors_of (2 ^ c.loop.counter) c.args.zones.now = cc (c.deref.ensures.value, c.loop.invariant) in
    c.in_ok-ancestors-2.ensures ∙ doubled_is c.loop.counter c.args.zones.now c.deref.result.now before
