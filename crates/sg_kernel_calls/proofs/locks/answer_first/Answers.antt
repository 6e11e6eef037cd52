use Rattle.std.proofs.Common.{[], List, sym, ap, subst}
use Rattle.sg_base.specs.declared.ids.ActorId.{ActorId}
use Rattle.sg_sync.specs.Sync.{SyncState}
use Rattle.sg_kernel_calls.specs.kept.Sound.{known_of}
use Rattle.sg_kernel_calls.specs.kept.Waking.{AreWaking}
use Rattle.sg_kernel_calls.proofs.Waiting.{answered_wakers, held_again}
use Rattle.sg_kernel_calls.proofs.Woken.{then_others}
use Rattle.sg_kernel_calls.proofs.locks.answer_first.Goals as goal

pub wake_others-requires-clause-wakers : goal.wake_others-requires-clause-wakers
wake_others-requires-clause-wakers c =
    let fields = c.answer_caller.new.fields in
    let same = ap (λ (s : SyncState). s.others) c.answer_caller.ensures.objects in
    answered_wakers fields fields.objects.others c.answer_caller.ensures.steady.sound (subst (λ (q : List ActorId). AreWaking fields [] q) (sym same) (c.answer_caller.ensures.waking _ c.requires.waking))

pub returns : goal.returns
returns c = record {
  known =
      then_others (known_of c.args.fields.now) (known_of c.answer_caller.new.fields) (known_of c.wake_others.new.fields) c.args.fields.now.objects.others c.answer_caller.new.fields.objects.others c.args.outcome c.args.actor.0 c.args.what
      (ap (λ (s : SyncState). s.others) c.answer_caller.ensures.objects) c.answer_caller.ensures.known c.wake_others.ensures.known;
  whole =
      let fields = c.answer_caller.new.fields in
      let same = ap (λ (s : SyncState). s.others) c.answer_caller.ensures.objects in
      let steady = c.wake_others.ensures.steady in
      let woken = c.wake_others.ensures.waking [] (subst (λ (q : List ActorId). AreWaking fields [] q) (sym same) (c.answer_caller.ensures.waking _ c.requires.waking)) in
      record {
        sound = steady.sound;
        roomy = steady.roomy;
        dated = steady.dated;
        timely = steady.timely;
        limited = steady.limited;
        meeting = steady.meeting;
        held = held_again c.wake_others.new.fields woken;
        round = steady.round;
      };
}
