use Rattle.sg_script.specs.kept.Asks.{IsIdle}
use Rattle.sg_edge.specs.declared.files.Part.TheVariants.{Script as ScriptPart}
use Rattle.sg_edge.specs.Files.{Only}
use Rattle.sg_script.specs.Known.{known_in}
use Rattle.sg_script.specs.Stands.{kept_of}
use Rattle.sg_script.specs.kept.Steps.{Goes, to_do}
use Rattle.sg_script.proofs.script.Script.read_on.Given as goal

abbrev pub invariant-loop-answer : goal.invariant-loop-answer
invariant-loop-answer g l = record {
  goes : Goes (known_in l.deployment) l.actor.0 (g.F.Files.shows l.initial.files ScriptPart) (g.F.Files.shows l.files ScriptPart) (kept_of l.initial.self) (kept_of l.self);
  idle : IsIdle l.deployment l.actor.0 (kept_of l.self);
  others : Only ScriptPart (g.F.Files.shows l.initial.files) (g.F.Files.shows l.files);
}

abbrev pub decreases-loop-answer : goal.decreases-loop-answer
decreases-loop-answer g l = to_do (g.F.Files.shows l.files ScriptPart).stage (kept_of l.self)
