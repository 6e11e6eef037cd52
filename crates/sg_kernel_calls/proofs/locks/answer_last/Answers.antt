use Rattle.std.proofs.Common.{[], rules}
use Rattle.sg_sync.specs.Laws.{comers}
use Rattle.sg_kernel_calls.specs.kept.Sound.{known_of}
use Rattle.sg_kernel_calls.proofs.Waiting.{wakers_exist, held_again}
use Rattle.sg_kernel_calls.proofs.Woken.{then_caller}
use Rattle.sg_kernel_calls.proofs.locks.answer_last.Goals as goal

pub wake_others-requires-clause-wakers : goal.wake_others-requires-clause-wakers
wake_others-requires-clause-wakers c =
    let fields = c.args.fields.now in
    wakers_exist fields c.args.actor c.args.outcome fields.objects.others c.requires.serves.steady.sound c.requires.serves.able.caller c.requires.waking

pub answer_caller-requires : goal.answer_caller-requires
answer_caller-requires c = record {
  able = c.wake_others.ensures.frees.callers c.args.actor.0 c.requires.serves.able;
  what = search rules;
  object = search rules;
  steady = search rules;
}

pub returns : goal.returns
returns c = record {
  known = then_caller (known_of c.args.fields.now) (known_of c.wake_others.new.fields) (known_of c.answer_caller.new.fields) c.args.fields.now.objects.others c.args.outcome c.args.actor.0 c.args.what c.wake_others.ensures.known c.answer_caller.ensures.known;
  whole =
      let steady = c.answer_caller.ensures.steady in
      let woken = c.answer_caller.ensures.waking [] (c.wake_others.ensures.waking (comers c.args.actor c.args.outcome) c.requires.waking) in
      record {
        sound = steady.sound;
        roomy = steady.roomy;
        dated = steady.dated;
        timely = steady.timely;
        limited = steady.limited;
        meeting = steady.meeting;
        held = held_again c.answer_caller.new.fields woken;
        round = steady.round;
      };
}
