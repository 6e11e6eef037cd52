use Rattle.std.proofs.Common.{◌<◌, ◌∙◌, length, refl, arith}
use Rattle.sg_script.proofs.QueueLemmas.{left_popped, limited_front, limited_popped, limited_taken}
use Rattle.sg_script.proofs.queues.take_next.Goals as goal

pub returns-in-Some-take-clause-limited : goal.returns-in-Some-take-clause-limited
returns-in-Some-take-clause-limited c = λ extent exist all.
    let lines = c.loop-line.invariant.limited extent all in
    let some : 0 < length c.loop-line.lines.items = omega (arith, c.in-Some.ensures.variant.0 refl, c.loop-line.lines.ok.0) in (
      c.in-Some-take.ensures.limited extent exist (limited_front extent c.loop-line.lines.items c.in-Some.line.now c.in-Some.ensures.value some lines),
      limited_taken extent c.loop-line.lines.items c.in-Some.line.now c.take.new.self c.in-Some.ensures.value c.take.ensures.same lines,
    )

pub loop-line-preserved : goal.loop-line-preserved
loop-line-preserved c = record {
  same = left_popped c.args.members.now c.args.actor.0 c.loop-line.lines.items c.pop_front.new.self.items c.in-Some.line.now c.take.new.self c.in-Some.ensures.value c.in_default-take.ensures.empty c.pop_front.ensures.rest ∙ c.loop-line.invariant.same;
  limited = λ extent all. limited_popped extent c.loop-line.lines.items c.pop_front.new.self.items c.in-Some.line.now c.take.new.self c.in-Some.ensures.value c.take.ensures.same c.pop_front.ensures.rest (c.loop-line.invariant.limited extent all);
}
