use Rattle.std.proofs.Common.{arith, rules}
use Rattle.sg_sync.specs.Objects.{locked}
use Rattle.sg_sync.proofs.Losses.{locked_keeps}
use Rattle.sg_kernel_calls.proofs.Moves.{steady_called}
use Rattle.sg_kernel_calls.proofs.Waiting.{locked_like, waking_called}
use Rattle.sg_kernel_calls.proofs.locks.lock.Goals as goal

pub answer_first-requires-clause-waking : goal.answer_first-requires-clause-waking
answer_first-requires-clause-waking c =
    let old = c.args.fields.now in
    let actor = c.args.actor in
    waking_called old c.lock-outcome.new.self c.lock-outcome.result actor (locked actor c.args.mutex old.objects.objects) c.requires.able.call.caller c.requires.able.fresh c.requires.able.whole.held
    (locked_keeps old.objects.objects actor c.args.mutex (omega (arith, c.requires.call, c.requires.able.whole.held.locking)))
    (locked_like actor c.args.mutex old.objects.objects)
    c.lock-outcome.ensures

pub answer_first-requires-clause-serves : goal.answer_first-requires-clause-serves
answer_first-requires-clause-serves c = record {
  able = search rules;
  what = search rules;
  object = search rules;
  steady = steady_called c.args.fields.now c.lock-outcome.new.self c.requires.able.whole;
}
