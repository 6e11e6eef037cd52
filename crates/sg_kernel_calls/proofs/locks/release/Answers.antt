use Rattle.std.proofs.Common.{arith, rules}
use Rattle.sg_sync.specs.Objects.{released}
use Rattle.sg_sync.proofs.Losses.{released_keeps}
use Rattle.sg_kernel_calls.proofs.Moves.{steady_called}
use Rattle.sg_kernel_calls.proofs.Waiting.{released_like, waking_called}
use Rattle.sg_kernel_calls.proofs.locks.release.Goals as goal

pub answer_first-requires-clause-waking : goal.answer_first-requires-clause-waking
answer_first-requires-clause-waking c =
    let old = c.args.fields.now in
    let actor = c.args.actor in
    waking_called old c.release-outcome.new.self c.release-outcome.result actor (released c.args.semaphore old.objects.objects) c.requires.able.call.caller c.requires.able.fresh c.requires.able.whole.held
    (released_keeps old.objects.objects actor c.args.semaphore (omega (arith, c.requires.call, c.requires.able.whole.held.acquiring)))
    (released_like c.args.semaphore old.objects.objects (omega (arith, c.requires.call, c.requires.able.whole.held.counts)))
    c.release-outcome.ensures

pub answer_first-requires-clause-serves : goal.answer_first-requires-clause-serves
answer_first-requires-clause-serves c = record {
  able = search rules;
  what = search rules;
  object = search rules;
  steady = steady_called c.args.fields.now c.release-outcome.new.self c.requires.able.whole;
}
