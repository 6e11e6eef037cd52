use Rattle.std.proofs.Common.{◌≡◌, ◌+◌, ◌<◌, length, true≢false, sym, subst, ◌∙◌, arith}
use Rattle.sg_actor_states.proofs.Begins.{HasBegun, begun_all, begun_first, begun_skip, begun_start}
use Rattle.sg_actor_states.proofs.crowd.Crowd.new.Goals as goal
use Rattle.sg_actor_states.proofs.crowd.Crowd.new.Goals.{then-starts-i, else-starts-i}

pub loop-i-init : goal.loop-i-init
loop-i-init c = begun_first c.args.starts.now _ c.in_ok-crowd.ensures

pub put_state-requires-clause-actor : goal.put_state-requires-clause-actor
put_state-requires-clause-actor c = record { from = omega arith; to = omega (arith, c.loop-i.invariant.long, c.in-Ok.ensures {u = tt}, c.loop-i-test.true) }

pub put_state-requires-clause-turn : goal.put_state-requires-clause-turn
put_state-requires-clause-turn c = λ goes. absurd (true≢false (sym goes ∙ c.loop-i.invariant.passing))

pub loop-i-preserved : goal.loop-i-preserved
loop-i-preserved c =
    let within : c.loop-i.i < length c.args.starts.now = omega (arith, c.in-Ok.ensures {u = tt}, c.loop-i-test.true) in
    elim c.if-starts-i.branch [
      | then-starts-i w ↦ begun_start c.args.starts.now c.loop-i.i c.loop-i.crowd c.if-starts-i.crowd within w.if-starts-i.true (w.crowd-is ∙ w.put_state.ensures) c.loop-i.invariant
      | else-starts-i w ↦ subst (HasBegun c.args.starts.now (c.loop-i.i + 1)) (sym w.crowd-is) (begun_skip c.args.starts.now c.loop-i.i c.loop-i.crowd within w.if-starts-i.false c.loop-i.invariant)
    ]

pub returns : goal.returns
returns c =
    let all : c.loop-i.i ≡ length c.args.starts.now = omega (arith, c.in-Ok.ensures {u = tt}, c.loop-i-test.false, c.loop-i.auto.i-end) in
    begun_all c.args.starts.now c.loop-i.i c.loop-i.crowd all c.loop-i.invariant
