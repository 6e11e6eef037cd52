use Rattle.std.proofs.Common.{◌≡◌, rules, refl, subst}
use Rattle.std.specs.Prelude.{None}
use Rattle.sg_actor.proofs.Blanks.{all_more, all_of}
use Rattle.sg_actor.proofs.crew.all_blank.Goals as goal

pub loop-actor-preserved : goal.loop-actor-preserved
loop-actor-preserved g c =
    all_more (λ b. (goal.Actor-dyn g (b.vtable, b.value)).mind b.value ≡ None) c.args.crew.now c.loop-actor.actor-index c.actor-item.result
    c.loop-actor-test.true c.loop-actor.invariant
    (subst (λ b. (goal.Actor-dyn g (b.vtable, b.value)).mind b.value ≡ None) c.actor-item.is (c.if-not-is_blank.ensures.0 refl))

pub returns : goal.returns
returns g c = (
  (λ is_true. all_of (λ b. (goal.Actor-dyn g (b.vtable, b.value)).mind b.value ≡ None) c.args.crew.now c.loop-actor.actor-index (search rules) c.loop-actor.invariant),
  (λ all. refl),
)
