use Rattle.std.proofs.Common.{◌≡◌, [], ◌∷◌, ap, length, ◌∙◌, arith}
use Rattle.std.proofs.lemmas.List.{length-append}
use Rattle.sg_base.specs.declared.awaits.Await.{Await}
use Rattle.sg_mailbox.specs.declared.owners.Whose.TheVariants.{Alone}
use Rattle.sg_mailbox.specs.Owners.{Owned}
use Rattle.sg_kernel_calls.proofs.Begins.{whole_begun}
use Rattle.sg_kernel_calls.proofs.executions.sleep.Goals as goal

pub start_timer-serial-requires-clause-start : goal.start_timer-serial-requires-clause-start
start_timer-serial-requires-clause-start c =
    let able = c.requires.able in
    record { room = omega (arith, able.call.room, able.whole.roomy.starts); few = omega (arith, able.fresh.tasks, able.whole.sound.within, able.whole.sound.budgeted) }

pub block-requires-clause-able : goal.block-requires-clause-able
block-requires-clause-able c =
    let old = c.args.fields.now in
    let able = c.requires.able in
    record {
      whole = whole_begun old old.states.room c.args.actor _ c.start_timer-serial.new.self c.push.new.self (able.call.caller.from, omega (arith, able.call.caller.to, able.whole.sound.homes_known)) able.fresh.tasks c.start_timer-serial.ensures.starts c.push.ensures able.whole;
      call = able.call;
    }

pub block-requires-clause-made : goal.block-requires-clause-made
block-requires-clause-made c =
    let old = c.args.fields.now in
    let long = ap (λ (o : Owned). length o.whose) c.push.ensures ∙ length-append old.whose.whose (Alone c.args.actor ∷ []) in
    let serial : c.alone.result.serial.0 ≡ c.start_timer-serial.result.0 = ap (λ (on : Await). on.serial.0) c.alone.ensures in
    record { from = omega (arith, serial, c.start_timer-serial.ensures.serial); to = omega (arith, serial, long, c.start_timer-serial.ensures.serial, c.requires.able.whole.sound.numbered) }
