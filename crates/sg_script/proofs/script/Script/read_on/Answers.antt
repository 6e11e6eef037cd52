use Rattle.std.proofs.Common.{◌∙◌, refl, arith}
use Rattle.sg_edge.specs.declared.files.Part.TheVariants.{Script as ScriptPart}
use Rattle.sg_script.specs.Known.{known_in}
use Rattle.sg_script.specs.Stands.{kept_of}
use Rattle.sg_script.proofs.Going.{goes_not, goes_then, ends_then}
use Rattle.sg_script.proofs.script.Script.read_on.Goals as goal

pub returns-in-Some : goal.returns-in-Some
returns-in-Some g c = record {
  ends = ends_then (known_in c.args.deployment.now) c.args.actor.0 c.in-Some.answer (g.F.Files.shows c.args.files.now ScriptPart) (g.F.Files.shows c.loop-answer.files ScriptPart) (g.F.Files.shows c.step.new.files ScriptPart) (kept_of c.args.self.now) (kept_of c.loop-answer.self) (kept_of c.step.new.self) c.requires.idle.empty c.loop-answer.invariant.idle.empty c.loop-answer.invariant.goes c.in-Some.ensures.step.0;
  limited = c.in-Some.ensures.limits.limited;
  waiting = c.in-Some.ensures.limits.waiting;
  read = c.in-Some.ensures.step.1;
  others = λ q isnt. c.step.ensures.others q isnt ∙ c.loop-answer.invariant.others q isnt;
}

pub loop-answer-init : goal.loop-answer-init
loop-answer-init g c = record {
  goes = goes_not (known_in c.args.deployment.now) c.args.actor.0 (g.F.Files.shows c.args.files.now ScriptPart) (kept_of c.args.self.now) c.requires.begun;
  idle = c.requires.idle;
  others = λ q isnt. refl;
}

pub loop-answer-preserved : goal.loop-answer-preserved
loop-answer-preserved g c = record {
  goes = goes_then (known_in c.args.deployment.now) c.args.actor.0 (g.F.Files.shows c.args.files.now ScriptPart) (g.F.Files.shows c.loop-answer.files ScriptPart) (g.F.Files.shows c.step.new.files ScriptPart) (kept_of c.args.self.now) (kept_of c.loop-answer.self) (kept_of c.step.new.self) c.requires.idle.empty c.loop-answer.invariant.idle.empty c.loop-answer.invariant.goes c.in-None.ensures.step.0;
  idle = record {
    ready = record {
      actors = omega (arith, c.in-None.ensures.step.0.queues, c.loop-answer.invariant.idle.ready.actors);
      queue = omega (arith, c.in-None.ensures.step.0.queues, c.loop-answer.invariant.idle.ready.queue);
      waiting = c.in-None.ensures.limits.waiting;
    };
    empty = c.in-None.ensures.step.1;
  };
  others = λ q isnt. c.step.ensures.others q isnt ∙ c.loop-answer.invariant.others q isnt;
}
