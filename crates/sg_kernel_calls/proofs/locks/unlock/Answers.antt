use Rattle.std.proofs.Common.{arith, rules}
use Rattle.sg_sync.specs.Objects.{unlocked}
use Rattle.sg_sync.proofs.Losses.{unlocked_keeps}
use Rattle.sg_kernel_calls.proofs.Moves.{steady_called}
use Rattle.sg_kernel_calls.proofs.Waiting.{unlocked_like, waking_called}
use Rattle.sg_kernel_calls.proofs.locks.unlock.Goals as goal

pub answer_first-requires-clause-waking : goal.answer_first-requires-clause-waking
answer_first-requires-clause-waking c =
    let old = c.args.fields.now in
    let actor = c.args.actor in
    waking_called old c.unlock-outcome.new.self c.unlock-outcome.result actor (unlocked actor c.args.mutex old.objects.objects) c.requires.able.call.caller c.requires.able.fresh c.requires.able.whole.held
    (unlocked_keeps old.objects.objects actor c.args.mutex (omega (arith, c.requires.call, c.requires.able.whole.held.locking)))
    (unlocked_like actor c.args.mutex old.objects.objects)
    c.unlock-outcome.ensures

pub answer_first-requires-clause-serves : goal.answer_first-requires-clause-serves
answer_first-requires-clause-serves c = record {
  able = search rules;
  what = search rules;
  object = search rules;
  steady = steady_called c.args.fields.now c.unlock-outcome.new.self c.requires.able.whole;
}
