use Rattle.std.proofs.Common.{true, false, [], refl, sym, ◌∙◌}
use Rattle.sg_base.specs.declared.call.Answer.TheVariants as answer
use Rattle.sg_base.specs.declared.call.Call.TheVariants as call
use Rattle.sg_requests.specs.Requested.{oldest, queue_at}
use Rattle.sg_actor_states.specs.Actors.{is_ended}
use Rattle.sg_sync.specs.Objects.{acquired, arrived, locked, released, unlocked}
use Rattle.sg_kernel_calls.specs.Calls.{answered_call, computes, with_sleep}
use Rattle.sg_kernel_calls.specs.Kills.{kills}
use Rattle.sg_kernel_calls.specs.Lives.{answers_create, exits, joins_by}
use Rattle.sg_kernel_calls.specs.Locks.{caller_first, caller_last}
use Rattle.sg_kernel_calls.specs.Meetings.{waits_by}
use Rattle.sg_kernel_calls.specs.Steps.{at_once, goes_on, readied}
use Rattle.sg_kernel_calls.specs.Suspensions.{suspended_to}
use Rattle.sg_kernel_calls.specs.World.{state_of}
use Rattle.sg_kernel_calls.specs.kept.Sound.{core_of, known_of}
use Rattle.sg_kernel_calls.proofs.Alone.{can_come, can_make, comer_replies, row_replies}
use Rattle.sg_kernel_calls.proofs.Each.{called_alone}
use Rattle.sg_kernel_calls.proofs.Moves.{can_conclude}
use Rattle.sg_kernel_calls.proofs.Replied.{used_replies}
use Rattle.sg_kernel_calls.proofs.calls.answer_call.Goals as goal

-- ---- an endpoint arrives
pub come-requires-clause-comes : goal.come-requires-clause-comes
come-requires-clause-comes c = can_come c.args.fields.now c.args.actor.0 c.args.call c.in-Some.comer (sym c.in-Some.ensures) c.requires.answers

-- ---- each call can be made
pub compute-requires : goal.compute-requires
compute-requires c = can_make c.args.fields.now c.event.new.fields c.args.actor.0 c.args.call (call.Compute c.in-Compute.flops c.in-Compute.priority) c.in-Compute.is (c.in_ok-event.ensures {u = tt}).counts c.requires.answers

pub lock-requires : goal.lock-requires
lock-requires c = can_make c.args.fields.now c.event.new.fields c.args.actor.0 c.args.call (call.Lock c.in-Lock.mutex) c.in-Lock.is (c.in_ok-event.ensures {u = tt}).counts c.requires.answers

pub unlock-requires : goal.unlock-requires
unlock-requires c = can_make c.args.fields.now c.event.new.fields c.args.actor.0 c.args.call (call.Unlock c.in-Unlock.mutex) c.in-Unlock.is (c.in_ok-event.ensures {u = tt}).counts c.requires.answers

pub acquire-requires : goal.acquire-requires
acquire-requires c = can_make c.args.fields.now c.event.new.fields c.args.actor.0 c.args.call (call.Acquire c.in-Acquire.semaphore) c.in-Acquire.is (c.in_ok-event.ensures {u = tt}).counts c.requires.answers

pub release-requires : goal.release-requires
release-requires c = can_make c.args.fields.now c.event.new.fields c.args.actor.0 c.args.call (call.Release c.in-Release.semaphore) c.in-Release.is (c.in_ok-event.ensures {u = tt}).counts c.requires.answers

pub create-requires-clause-makes : goal.create-requires-clause-makes
create-requires-clause-makes c = can_make c.args.fields.now c.event.new.fields c.args.actor.0 c.args.call (call.Create c.in-Create.target) c.in-Create.is (c.in_ok-event.ensures {u = tt}).counts c.requires.answers

pub join-requires : goal.join-requires
join-requires c = can_make c.args.fields.now c.event.new.fields c.args.actor.0 c.args.call (call.Join c.in-Join.target) c.in-Join.is (c.in_ok-event.ensures {u = tt}).counts c.requires.answers

pub kill-requires : goal.kill-requires
kill-requires c = can_make c.args.fields.now c.event.new.fields c.args.actor.0 c.args.call (call.Kill c.in-Kill.target) c.in-Kill.is (c.in_ok-event.ensures {u = tt}).counts c.requires.answers

pub suspend-requires : goal.suspend-requires
suspend-requires c = can_make c.args.fields.now c.event.new.fields c.args.actor.0 c.args.call (call.Suspend c.in-Suspend.target) c.in-Suspend.is (c.in_ok-event.ensures {u = tt}).counts c.requires.answers

pub resume-requires : goal.resume-requires
resume-requires c = can_make c.args.fields.now c.event.new.fields c.args.actor.0 c.args.call (call.Resume c.in-Resume.target) c.in-Resume.is (c.in_ok-event.ensures {u = tt}).counts c.requires.answers

pub sleep-requires : goal.sleep-requires
sleep-requires c = can_make c.args.fields.now c.event.new.fields c.args.actor.0 c.args.call (call.Sleep c.in-Sleep.ns) c.in-Sleep.is (c.in_ok-event.ensures {u = tt}).counts c.requires.answers

pub wait-requires : goal.wait-requires
wait-requires c = (can_make c.args.fields.now c.event.new.fields c.args.actor.0 c.args.call call.Wait c.in-Wait.is (c.in_ok-event.ensures {u = tt}).counts c.requires.answers).able

pub arrive-requires : goal.arrive-requires
arrive-requires c = (can_make c.args.fields.now c.event.new.fields c.args.actor.0 c.args.call call.Barrier c.in-Barrier.is (c.in_ok-event.ensures {u = tt}).counts c.requires.answers).able

pub answer_now-requires-clause-able : goal.answer_now-requires-clause-able
answer_now-requires-clause-able c = can_conclude c.event.new.fields c.args.actor.0 (can_make c.args.fields.now c.event.new.fields c.args.actor.0 c.args.call call.Yield c.in-Yield.is (c.in_ok-event.ensures {u = tt}).counts c.requires.answers).able

pub exit-requires : goal.exit-requires
exit-requires c = (can_make c.args.fields.now c.event.new.fields c.args.actor.0 c.args.call call.Exit c.in-Exit.is (c.in_ok-event.ensures {u = tt}).counts c.requires.answers).able

pub go_on-requires-clause-able : goal.go_on-requires-clause-able
go_on-requires-clause-able c = can_conclude c.event.new.fields c.args.actor.0 (can_make c.args.fields.now c.event.new.fields c.args.actor.0 c.args.call call.Ask c.in-Ask.is (c.in_ok-event.ensures {u = tt}).counts c.requires.answers).able

-- ---- what it does
pub returns-in-Compute-clause-replies : goal.returns-in-Compute-clause-replies
returns-in-Compute-clause-replies c = row_replies c.args.router.now c.args.fields.now c.event.new.fields c.compute.new.fields c.args.actor.0 c.args.call (call.Compute c.in-Compute.flops c.in-Compute.priority) (λ s. computes s c.args.actor.0 c.in-Compute.flops c.in-Compute.priority) c.in-Compute.is (c.in_ok-event.ensures {u = tt}).counts refl refl c.compute.ensures.known c.compute.ensures.whole

pub returns-in-Lock-clause-replies : goal.returns-in-Lock-clause-replies
returns-in-Lock-clause-replies c = row_replies c.args.router.now c.args.fields.now c.event.new.fields c.lock.new.fields c.args.actor.0 c.args.call (call.Lock c.in-Lock.mutex) (λ s core. caller_first (locked c.args.actor c.in-Lock.mutex core.objects) c.args.actor.0 (call.Lock c.in-Lock.mutex) core) c.in-Lock.is (c.in_ok-event.ensures {u = tt}).counts refl refl c.lock.ensures.known c.lock.ensures.whole

pub returns-in-Unlock-clause-replies : goal.returns-in-Unlock-clause-replies
returns-in-Unlock-clause-replies c = row_replies c.args.router.now c.args.fields.now c.event.new.fields c.unlock.new.fields c.args.actor.0 c.args.call (call.Unlock c.in-Unlock.mutex) (λ s core. caller_first (unlocked c.args.actor c.in-Unlock.mutex core.objects) c.args.actor.0 (call.Unlock c.in-Unlock.mutex) core) c.in-Unlock.is (c.in_ok-event.ensures {u = tt}).counts refl refl c.unlock.ensures.known c.unlock.ensures.whole

pub returns-in-Acquire-clause-replies : goal.returns-in-Acquire-clause-replies
returns-in-Acquire-clause-replies c = row_replies c.args.router.now c.args.fields.now c.event.new.fields c.acquire.new.fields c.args.actor.0 c.args.call (call.Acquire c.in-Acquire.semaphore) (λ s core. caller_first (acquired c.args.actor c.in-Acquire.semaphore core.objects) c.args.actor.0 (call.Acquire c.in-Acquire.semaphore) core) c.in-Acquire.is (c.in_ok-event.ensures {u = tt}).counts refl refl c.acquire.ensures.known c.acquire.ensures.whole

pub returns-in-Release-clause-replies : goal.returns-in-Release-clause-replies
returns-in-Release-clause-replies c = row_replies c.args.router.now c.args.fields.now c.event.new.fields c.release.new.fields c.args.actor.0 c.args.call (call.Release c.in-Release.semaphore) (λ s core. caller_first (released c.in-Release.semaphore core.objects) c.args.actor.0 (call.Release c.in-Release.semaphore) core) c.in-Release.is (c.in_ok-event.ensures {u = tt}).counts refl refl c.release.ensures.known c.release.ensures.whole

pub returns-in-Create-clause-replies : goal.returns-in-Create-clause-replies
returns-in-Create-clause-replies c = row_replies c.args.router.now c.args.fields.now c.event.new.fields c.create.new.fields c.args.actor.0 c.args.call (call.Create c.in-Create.target) (λ s. answers_create false c.args.actor.0 c.in-Create.target) c.in-Create.is (c.in_ok-event.ensures {u = tt}).counts refl refl c.create.ensures.known c.create.ensures.whole

pub returns-in-Join-clause-replies : goal.returns-in-Join-clause-replies
returns-in-Join-clause-replies c = row_replies c.args.router.now c.args.fields.now c.event.new.fields c.join.new.fields c.args.actor.0 c.args.call (call.Join c.in-Join.target) (λ s core. joins_by (is_ended (state_of core c.in-Join.target.0)) c.args.actor.0 c.in-Join.target core) c.in-Join.is (c.in_ok-event.ensures {u = tt}).counts refl refl c.join.ensures.known c.join.ensures.whole

pub returns-in-Kill-clause-replies : goal.returns-in-Kill-clause-replies
returns-in-Kill-clause-replies c = row_replies c.args.router.now c.args.fields.now c.event.new.fields c.kill.new.fields c.args.actor.0 c.args.call (call.Kill c.in-Kill.target) (λ s. kills c.args.actor.0 c.in-Kill.target) c.in-Kill.is (c.in_ok-event.ensures {u = tt}).counts refl refl c.kill.ensures.known c.kill.ensures.whole

pub returns-in-Suspend-clause-replies : goal.returns-in-Suspend-clause-replies
returns-in-Suspend-clause-replies c = row_replies c.args.router.now c.args.fields.now c.event.new.fields c.suspend.new.fields c.args.actor.0 c.args.call (call.Suspend c.in-Suspend.target) (λ s core. at_once c.args.actor.0 (call.Suspend c.in-Suspend.target) 0 answer.Done (suspended_to true c.in-Suspend.target core)) c.in-Suspend.is (c.in_ok-event.ensures {u = tt}).counts refl refl c.suspend.ensures.known c.suspend.ensures.whole

pub returns-in-Resume-clause-replies : goal.returns-in-Resume-clause-replies
returns-in-Resume-clause-replies c = row_replies c.args.router.now c.args.fields.now c.event.new.fields c.resume.new.fields c.args.actor.0 c.args.call (call.Resume c.in-Resume.target) (λ s core. at_once c.args.actor.0 (call.Resume c.in-Resume.target) 0 answer.Done (suspended_to false c.in-Resume.target core)) c.in-Resume.is (c.in_ok-event.ensures {u = tt}).counts refl refl c.resume.ensures.known c.resume.ensures.whole

pub returns-in-Wait-clause-replies : goal.returns-in-Wait-clause-replies
returns-in-Wait-clause-replies c = row_replies c.args.router.now c.args.fields.now c.event.new.fields c.wait.new.fields c.args.actor.0 c.args.call call.Wait (λ s core. waits_by (oldest (queue_at core.requests c.args.actor.0)) c.args.actor.0 core) c.in-Wait.is (c.in_ok-event.ensures {u = tt}).counts refl refl c.wait.ensures.known c.wait.ensures.whole

pub returns-in-Barrier-clause-replies : goal.returns-in-Barrier-clause-replies
returns-in-Barrier-clause-replies c = row_replies c.args.router.now c.args.fields.now c.event.new.fields c.arrive.new.fields c.args.actor.0 c.args.call call.Barrier (λ s core. caller_last (arrived c.args.actor core.objects) c.args.actor.0 call.Barrier core) c.in-Barrier.is (c.in_ok-event.ensures {u = tt}).counts refl refl c.arrive.ensures.known c.arrive.ensures.whole

pub returns-in-Yield-clause-replies : goal.returns-in-Yield-clause-replies
returns-in-Yield-clause-replies c = row_replies c.args.router.now c.args.fields.now c.event.new.fields c.answer_now.new.fields c.args.actor.0 c.args.call call.Yield (λ s. at_once c.args.actor.0 call.Yield 0 answer.Done) c.in-Yield.is (c.in_ok-event.ensures {u = tt}).counts refl refl c.answer_now.ensures.known c.answer_now.ensures.whole

pub returns-in-Exit-clause-replies : goal.returns-in-Exit-clause-replies
returns-in-Exit-clause-replies c = row_replies c.args.router.now c.args.fields.now c.event.new.fields c.exit.new.fields c.args.actor.0 c.args.call call.Exit (λ s. exits c.args.actor.0) c.in-Exit.is (c.in_ok-event.ensures {u = tt}).counts refl refl c.exit.ensures.known c.exit.ensures.whole

pub returns-in-Ask-clause-replies : goal.returns-in-Ask-clause-replies
returns-in-Ask-clause-replies c = row_replies c.args.router.now c.args.fields.now c.event.new.fields c.go_on.new.fields c.args.actor.0 c.args.call call.Ask (λ s core. goes_on (readied c.args.actor.0 answer.Refused core) []) c.in-Ask.is (c.in_ok-event.ensures {u = tt}).counts refl refl (c.go_on.ensures.known ∙ called_alone (known_of c.event.new.fields) (readied c.args.actor.0 answer.Refused (core_of c.event.new.fields))) c.go_on.ensures.whole

pub returns-in-Sleep-clause-replies : goal.returns-in-Sleep-clause-replies
returns-in-Sleep-clause-replies c = row_replies c.args.router.now c.args.fields.now c.event.new.fields c.sleep.new.fields c.args.actor.0 c.args.call (call.Sleep c.in-Sleep.ns) (λ s core. goes_on (with_sleep c.args.actor.0 c.in-Sleep.ns core) []) c.in-Sleep.is (c.in_ok-event.ensures {u = tt}).counts refl refl (c.sleep.ensures.known ∙ called_alone (known_of c.event.new.fields) (with_sleep c.args.actor.0 c.in-Sleep.ns (core_of c.event.new.fields))) c.sleep.ensures.whole

pub returns-in-Some-clause-replies : goal.returns-in-Some-clause-replies
returns-in-Some-clause-replies c = comer_replies c.args.router.now c.args.fields.now c.come.new.fields c.args.actor.0 c.args.call c.in-Some.comer c.come.result (sym c.in-Some.ensures) c.come.ensures.replies

-- ---- the budget is used up
pub returns-in_err-event-clause-replies : goal.returns-in_err-event-clause-replies
returns-in_err-event-clause-replies c = used_replies (answered_call c.args.router.now c.args.fields.now.setup (core_of c.args.fields.now) c.args.actor.0 c.args.call) c.args.fields.now c.event.new.fields c.in_err-event.field-0.0 c.from_residual.result c.from_residual.ensures.1 (c.in_err-event.ensures).counts (c.in_err-event.ensures).stays c.requires.answers.whole
