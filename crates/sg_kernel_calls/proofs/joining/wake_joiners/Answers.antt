use Rattle.std.proofs.Common.{◌≡◌, drop, length, refl, sym, ap, ◌∙◌, arith, rules}
use Rattle.sg_actor_states.specs.Actors.{joiners}
use Rattle.sg_kernel_calls.specs.Known.{Known}
use Rattle.sg_kernel_calls.specs.Locks.{wakes}
use Rattle.sg_kernel_calls.specs.kept.Sound.{core_of, known_of}
use Rattle.sg_kernel_calls.proofs.Each.{still, still_none, still_one}
use Rattle.sg_kernel_calls.proofs.Woken.{wakes_goes}
use Rattle.sg_kernel_calls.proofs.joining.wake_joiners.Goals as goal

pub loop-actor-init : goal.loop-actor-init
loop-actor-init c = record { known = refl; frees = record { actors = refl; callers = λ actor may. may }; whole = c.requires }

pub loop-actor-preserved : goal.loop-actor-preserved
loop-actor-preserved c =
    let old = c.loop-actor.fields in
    let new = c.wake_joiner.new.fields in
    let inv = c.loop-actor.invariant in
    let made = c.wake_joiner.ensures in
    let first = c.in-Some.ensures in
    let rest : joiners c.args.target.0 1 new.states.actors ≡ first.rest = made.rest ∙ ap (drop 1) first.first in
    record {
      known =
          ap (λ q. still wakes q (known_of new)) rest
          ∙ ap (λ (k : Known). still wakes first.rest k) made.wakes.known
          ∙ still_one wakes c.in-Some.actor first.rest (known_of old) (wakes_goes c.in-Some.actor (core_of old))
          ∙ ap (λ q. still wakes q (known_of old)) (sym first.first)
          ∙ inv.known;
      frees = record {
        actors = made.wakes.frees.actors ∙ inv.frees.actors;
        callers = λ caller may. made.wakes.frees.callers caller (inv.frees.callers caller may);
      };
      whole = made.wakes.whole;
    }

pub loop-actor-smaller : goal.loop-actor-smaller
loop-actor-smaller c =
    let first = c.in-Some.ensures in
    omega (arith, ap length (c.wake_joiner.ensures.rest ∙ ap (drop 1) first.first), ap length first.first)

pub returns : goal.returns
returns c = record {
  known =
      let fields = c.loop-actor.fields in
      sym (still_none wakes (known_of fields))
      ∙ ap (λ q. still wakes q (known_of fields)) (sym c.in_default.ensures)
      ∙ c.loop-actor.invariant.known;
  frees = search rules;
  whole = search rules;
}
