use Rattle.std.proofs.Common.{rules}
use Rattle.sg_sync.specs.Objects.{arrived}
use Rattle.sg_sync.proofs.Losses.{arrived_keeps}
use Rattle.sg_kernel_calls.proofs.Moves.{steady_called}
use Rattle.sg_kernel_calls.proofs.Waiting.{arrived_like, waking_called}
use Rattle.sg_kernel_calls.proofs.locks.arrive.Goals as goal

pub answer_last-requires-clause-waking : goal.answer_last-requires-clause-waking
answer_last-requires-clause-waking c =
    let old = c.args.fields.now in
    let actor = c.args.actor in
    waking_called old c.arrive-outcome.new.self c.arrive-outcome.result actor (arrived actor old.objects.objects) c.requires.call.caller c.requires.fresh c.requires.whole.held
    (arrived_keeps old.objects.objects actor)
    (arrived_like actor old.objects.objects)
    c.arrive-outcome.ensures

pub answer_last-requires-clause-serves : goal.answer_last-requires-clause-serves
answer_last-requires-clause-serves c = record {
  able = search rules;
  what = search rules;
  object = search rules;
  steady = steady_called c.args.fields.now c.arrive-outcome.new.self c.requires.whole;
}
