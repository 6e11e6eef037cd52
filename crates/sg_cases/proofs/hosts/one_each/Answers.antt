use Rattle.std.proofs.Common.{◌≡◌, ◌+◌, ℕ, sym, subst, arith}
use Rattle.sg_lazy.specs.Lazily.{Lazily}
use Rattle.sg_cases.specs.OneEach.{IsOneEach}
use Rattle.sg_cases.proofs.OneEach.{one_none, one_more, one_settled}
use Rattle.sg_cases.proofs.hosts.one_each.Goals as goal

pub loop-host-init : goal.loop-host-init
loop-host-init g c = one_none c.args.lazy.now c.reserve.new.self c.requires c.reserve.ensures.kept c.in_ok-reserve.ensures.flow_room c.in_ok-reserve.ensures.use_room

pub loop-host-preserved : goal.loop-host-preserved
loop-host-preserved g c =
    let starts = c.start-flow.ensures in
    subst (λ (x : Lazily). IsOneEach (c.loop-host.host + 1) x) (sym starts.starts) (one_more c.loop-host.lazy c.loop-host.host c.start-flow.result c.loop-host.invariant (omega arith) starts.free starts.in_range)

pub returns-clause-each : goal.returns-clause-each
returns-clause-each g c =
    let all : c.loop-host.host ≡ 100 = omega arith in
    one_settled c.loop-host.lazy c.settle.new.self 100 c.settle.ensures.settled (subst (λ (n : ℕ). IsOneEach n c.loop-host.lazy) all c.loop-host.invariant)
