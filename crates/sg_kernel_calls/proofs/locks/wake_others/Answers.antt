use Rattle.std.proofs.Common.{◌≡◌, ◌+◌, ◌<◌, [], List, length, drop, get_or, arith, ap, sym, subst, ◌∙◌}
use Rattle.std.proofs.lemmas.List.{get_or_default, drop_all}
use Rattle.sg_base.specs.declared.ids.ActorId.{ActorId}
use Rattle.sg_sync.specs.Sync.{SyncState}
use Rattle.sg_kernel_calls.specs.Locks.{all_wake}
use Rattle.sg_kernel_calls.specs.Known.{after}
use Rattle.sg_kernel_calls.specs.kept.Sound.{core_of, known_of}
use Rattle.sg_kernel_calls.specs.kept.Waking.{AreWaking}
use Rattle.sg_kernel_calls.proofs.Woken.{drop_at, wake_more, wake_none}
use Rattle.sg_kernel_calls.proofs.locks.wake_others.Goals as goal

pub wake-requires-clause-actor : goal.wake-requires-clause-actor
wake-requires-clause-actor c =
    let others = c.args.fields.now.objects.others in
    let same : c.others.result.now ≡ others = c.others.ensures ∙ ap (λ (s : SyncState). s.others) c.loop-i.invariant.objects in
    let within : c.loop-i.i < length others = omega (arith, c.loop-i-test.true, ap length c.others-i-end.ensures) in
    let none : ActorId = record { 0 = 0 } in
    let actor : ActorId = get_or c.others.result.now c.loop-i.i none in
    let here : get_or others c.loop-i.i actor ≡ actor = get_or_default others c.loop-i.i actor none within ∙ ap (λ (q : List ActorId). get_or q c.loop-i.i none) (sym same) in
    let is = c.requires.wakers actor (c.loop-i.i, within, here) in
    record { from = is.from; to = omega (arith, is.to, c.loop-i.invariant.frees.actors) }

pub loop-i-preserved : goal.loop-i-preserved
loop-i-preserved c =
    let fields = c.args.fields.now in
    let others = fields.objects.others in
    let same : c.others.result.now ≡ others = c.others.ensures ∙ ap (λ (s : SyncState). s.others) c.loop-i.invariant.objects in
    let within : c.loop-i.i < length others = omega (arith, c.loop-i-test.true, ap length c.others-i-end.ensures) in
    let none : ActorId = record { 0 = 0 } in
    record {
      known = wake_more others c.others.result.now c.loop-i.i none (known_of c.loop-i.fields) (known_of c.wake.new.fields) same within c.wake.ensures.known ∙ c.loop-i.invariant.known;
      objects = c.wake.ensures.objects ∙ c.loop-i.invariant.objects;
      waking = λ comers old.
          c.wake.ensures.waking comers (drop (c.loop-i.i + 1) others) (subst (λ (q : List ActorId). AreWaking c.loop-i.fields comers q) (drop_at others c.others.result.now c.loop-i.i none same within) (c.loop-i.invariant.waking comers old));
      frees = record {
        actors = c.wake.ensures.frees.actors ∙ c.loop-i.invariant.frees.actors;
        callers = λ caller may. c.wake.ensures.frees.callers caller (c.loop-i.invariant.frees.callers caller may);
      };
      steady = c.wake.ensures.steady;
    }

pub returns-clause-known : goal.returns-clause-known
returns-clause-known c =
    let others = c.args.fields.now.objects.others in
    let past : drop c.loop-i.i others ≡ [] = drop_all c.loop-i.i others (omega (arith, c.loop-i-test.false, ap length c.others-i-end.ensures)) in
    sym (wake_none (known_of c.loop-i.fields)) ∙ ap (λ (q : List ActorId). after (all_wake q (core_of c.loop-i.fields)) (known_of c.loop-i.fields)) (sym past) ∙ c.loop-i.invariant.known

pub returns-clause-waking : goal.returns-clause-waking
returns-clause-waking c = λ comers old.
    let others = c.args.fields.now.objects.others in
    let past : drop c.loop-i.i others ≡ [] = drop_all c.loop-i.i others (omega (arith, c.loop-i-test.false, ap length c.others-i-end.ensures)) in
    subst (λ (q : List ActorId). AreWaking c.loop-i.fields comers q) past (c.loop-i.invariant.waking comers old)
