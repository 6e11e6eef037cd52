use Rattle.std.proofs.Common.{◌-◌, sym, ap, subst}
use Rattle.sg_base.specs.declared.call.Call.TheVariants as call
use Rattle.sg_actor_states.specs.Records.{IsTellable}
use Rattle.sg_kernel_calls.specs.Known.{Known}
use Rattle.sg_kernel_calls.specs.Setup.{Setup}
use Rattle.sg_kernel_calls.specs.World.{extent}
use Rattle.sg_kernel_calls.specs.kept.Whole.{IsWholeFor}
use Rattle.sg_kernel_calls.proofs.Alone.{can_name}
use Rattle.sg_kernel_calls.proofs.holding.resume.Goals as goal

pub set-requires-clause-target : goal.set-requires-clause-target
set-requires-clause-target c = (can_name c.args.fields.now c.args.actor.0 c.args.target c.requires.able c.requires.call).target

pub answer_now-requires-clause-what : goal.answer_now-requires-clause-what
answer_now-requires-clause-what c = subst (λ (s : Setup). IsTellable (extent s) (call.Resume c.args.target)) (sym (ap (λ (k : Known). k.setup) c.set.ensures.known)) (record { told = tt; call = c.requires.call })

pub answer_now-requires-clause-able : goal.answer_now-requires-clause-able
answer_now-requires-clause-able c = record {
  whole = subst (λ n. IsWholeFor (n - 1) c.set.new.fields) (sym (ap (λ (k : Known). k.room) c.set.ensures.known)) c.set.ensures.whole;
  call = c.set.ensures.callers.callers c.args.actor.0 c.requires.able.call;
}
