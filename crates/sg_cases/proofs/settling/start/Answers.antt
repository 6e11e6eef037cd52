use Rattle.std.proofs.Common.{true, is_some, length, ap, ◌∙◌, arith}
use Rattle.sg_maxmin.specs.Fill.{flow}
use Rattle.sg_lazy.specs.Lazily.{Lazily}
use Rattle.sg_cases.proofs.Pairs.{pairs_stay, pairs_start}
use Rattle.sg_cases.proofs.settling.start.Goals as goal

pub returns-clause-paired : goal.returns-clause-paired
returns-clause-paired c =
    let a = c.args.lazy.now in
    let b = c.reserve.new.self in
    let s = c.args.whole.now in
    let t = c.reserve-2.new.self in
    let twins = c.lengthen.new.twins.items in
    let its = flow c.args.uses.now c.args.weight c.args.bound in
    let roomier = c.reserve.ensures.kept in
    let wider = c.reserve-2.ensures in
    let starts = c.start-id.ensures in
    let adds = c.add-twin.ensures in
    let still = pairs_stay a b s t c.args.twins.now.items twins c.requires.paired (ap length roomier.capacities) (ap length wider.capacities)
    (λ id h. ap is_some (roomier.runs id) ∙ h) (λ id h. ap is_some (wider.slots.same id) ∙ h) c.lengthen.ensures.same in
    pairs_start b c.start-id.new.self t c.add-twin.new.self twins c.start-id.result c.add-twin.result (record { flow = its; rate = 0; began = true; marked = true }) still
    (ap (λ (x : Lazily). length x.capacities) starts.starts) (ap length adds.capacities) starts.in_range
    (omega (arith, starts.in_range, c.reserve.ensures.few, c.numbers.ensures, c.in-Some.ensures, c.in_ok-lengthen.ensures.long))
    (ap (λ (x : Lazily). x.slots) starts.starts) adds.free (ap is_some adds.added.changed) adds.added.others
