use Rattle.std.proofs.Common.{◌≡◌, ◌+◌, ◌-◌, ◌++◌, [], ◌∷◌, None, Some, ap, length, ◌∙◌, arith}
use Rattle.std.proofs.lemmas.List.{get_or_push, length-append}
use Rattle.sg_activity.specs.Doing.{Doing}
use Rattle.sg_activity_table.specs.Slots.{passes}
use Rattle.sg_activity.specs.Task.{exec_of, of_kind, task_at}
use Rattle.sg_activity_table.specs.Kinds.{is_exec}
use Rattle.sg_activity.specs.Underway.{is_computing}
use Rattle.sg_base.specs.declared.awaits.Await.{Await}
use Rattle.sg_mailbox.specs.declared.owners.Whose.TheVariants.{Alone}
use Rattle.sg_mailbox.specs.Owners.{Owned}
use Rattle.sg_kernel_calls.specs.Known.{Known}
use Rattle.sg_kernel_calls.proofs.Begins.{whole_begun}
use Rattle.sg_kernel_calls.proofs.executions.start.Goals as goal

pub start_exec-serial-requires-clause-start : goal.start_exec-serial-requires-clause-start
start_exec-serial-requires-clause-start c =
    let able = c.requires.computes.able in
    record { room = omega (arith, able.call.room, able.whole.roomy.starts); few = omega (arith, able.fresh.tasks, able.whole.sound.within, able.whole.sound.budgeted) }

pub block-requires-clause-able : goal.block-requires-clause-able
block-requires-clause-able c =
    let old = c.args.fields.now in
    let able = c.requires.computes.able in
    record {
      whole = whole_begun old old.states.room c.args.actor _ c.start_exec-serial.new.self c.push.new.self (able.call.caller.from, omega (arith, able.call.caller.to, able.whole.sound.homes_known)) able.fresh.tasks c.start_exec-serial.ensures.starts c.push.ensures able.whole;
      call = able.call;
    }

pub block-requires-clause-made : goal.block-requires-clause-made
block-requires-clause-made c =
    let old = c.args.fields.now in
    let long = ap (λ (o : Owned). length o.whose) c.push.ensures ∙ length-append old.whose.whose (Alone c.args.actor ∷ []) in
    let serial : c.alone.result.serial.0 ≡ c.start_exec-serial.result.0 = ap (λ (on : Await). on.serial.0) c.alone.ensures in
    record { from = omega (arith, serial, c.start_exec-serial.ensures.serial); to = omega (arith, serial, long, c.start_exec-serial.ensures.serial, c.requires.computes.able.whole.sound.numbered) }

pub returns-clause-computing : goal.returns-clause-computing
returns-clause-computing c =
    let tasks = c.args.fields.now.doing.under.tasks in
    let task = exec_of c.args.host.0 c.args.flops c.args.priority in
    ap (λ (k : Known). is_computing k.core.under c.start_exec-serial.result.0) c.block.ensures.known
    ∙ ap (λ (d : Doing). is_computing d.under c.start_exec-serial.result.0) c.start_exec-serial.ensures.starts
    ∙ ap (λ n. passes (of_kind is_exec) (task_at (tasks ++ Some task ∷ []) n)) c.start_exec-serial.ensures.serial
    ∙ ap (passes (of_kind is_exec)) (get_or_push tasks (Some task) None (length tasks + 1 - 1) (omega arith))
