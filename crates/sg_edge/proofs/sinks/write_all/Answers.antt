use Rattle.std.proofs.Common.{◌∙◌, arith}
use Rattle.std.proofs.lemmas.Grind.{common_steps}
use Rattle.sg_edge.proofs.Writing.{written_more}
use Rattle.sg_edge.proofs.sinks.write_all.Goals as goal

pub loop-rest-preserved : goal.loop-rest-preserved
loop-rest-preserved g c = record {
  written = written_more _ _ _ _ _ _ _ c.loop-rest.invariant.written c.in_ok-n.ensures.wrote (grind (arith, common_steps));
  sound = c.in_ok-n.ensures.sound ∙ c.loop-rest.invariant.sound;
  other = λ s ne. c.in_ok-n.ensures.other s ne ∙ c.loop-rest.invariant.other s ne;
}
