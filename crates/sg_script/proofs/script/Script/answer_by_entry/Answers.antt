use Rattle.std.proofs.Common.{◌<◌, length, arith, rules}
use Rattle.sg_platform_rows.specs.Deployment.{extent_of}
use Rattle.sg_script.specs.Known.{known_in}
use Rattle.sg_script.specs.Stands.{kept_of}
use Rattle.sg_script.proofs.Taking.{own_tells}
use Rattle.sg_script.proofs.script.Script.answer_by_entry.Goals as goal

pub returns-in-Some-clause-line : goal.returns-in-Some-clause-line
returns-in-Some-clause-line c =
    let within : c.args.entry.actor.0 < length c.args.self.now.queues = omega (arith, c.requires.limits.0.1, c.requires.idle.ready.actors) in
    own_tells (known_in c.args.deployment.now) c.args.entry c.in-Some.action c.args.end c.args.actor.0 (kept_of c.args.self.now) (kept_of c.pass.new.self) c.in-Some.ensures.0 c.in-Some.ensures.1 within c.requires.idle.empty
    record { queued = c.pass.ensures.queues; lines = c.pass.ensures.lines; pending = c.pass.ensures.pending }

pub take_waiting-requires : goal.take_waiting-requires
take_waiting-requires c = record {
  actors = search rules;
  queue = search rules;
  waiting = c.take_entry.ensures.waiting (extent_of c.args.deployment.now) c.requires.limits.1 c.requires.idle.ready.waiting;
}
