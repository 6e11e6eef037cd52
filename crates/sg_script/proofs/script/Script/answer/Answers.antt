use Rattle.std.proofs.Common.{◌≡◌, ◌∙◌, refl, sym, length, None, arith}
use Rattle.sg_edge.specs.declared.files.Part.TheVariants.{Script as ScriptPart}
use Rattle.sg_script.specs.Known.{known_in}
use Rattle.sg_script.specs.Stands.{kept_of}
use Rattle.sg_script.proofs.Steps.{ends_behind, pop_answers, popped_length}
use Rattle.sg_script.proofs.script.Script.answer.Goals as goal

pub read_on-requires : goal.read_on-requires
read_on-requires g c =
    let pops = c.in-None.ensures.pops in
    let same : length c.take_waiting.new.self.queues ≡ length c.args.self.now.queues =
    popped_length (known_in c.args.deployment.now) c.args.actor.0 None (kept_of c.args.self.now) (kept_of c.take_waiting.new.self) pops in
    record {
      begun = c.requires.begun;
      idle = record {
        ready = record {
          actors = omega (arith, same, c.requires.ready.actors);
          queue = omega (arith, same, c.requires.ready.queue);
          waiting = c.take_waiting.ensures.waiting;
        };
        empty = sym pops.first_is ∙ pops.empty;
      };
    }

pub returns-in-Some : goal.returns-in-Some
returns-in-Some g c = record {
  ends = pop_answers (known_in c.args.deployment.now) (g.F.Files.shows c.args.files.now ScriptPart) (kept_of c.args.self.now) (kept_of c.take_waiting.new.self) c.args.actor.0 c.in-Some.action c.requires.begun c.in-Some.ensures.pops;
  limited = c.in-Some.ensures.limited;
  waiting = c.take_waiting.ensures.waiting;
  read = tt;
  others = λ q isnt. refl;
}

pub returns-in-None : goal.returns-in-None
returns-in-None g c = record {
  ends = ends_behind (known_in c.args.deployment.now) (g.F.Files.shows c.args.files.now ScriptPart) (g.F.Files.shows c.read_on.new.files ScriptPart) (kept_of c.args.self.now) (kept_of c.take_waiting.new.self) (kept_of c.read_on.new.self) c.args.actor.0 c.read_on.result c.requires.begun c.in-None.ensures.pops c.read_on.ensures.ends;
  limited = c.read_on.ensures.limited;
  waiting = c.read_on.ensures.waiting;
  read = c.read_on.ensures.read;
  others = c.read_on.ensures.others;
}
