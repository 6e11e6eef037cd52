-- Those that are unblocked are answered one after another.
use Rattle.std.proofs.Common.{◌≡◌, ℕ, suc, ◌+◌, ◌-◌, ◌<◌, true, Option, None, Some, List, [], ◌∷◌, length, drop, get_or, refl, sym, ap, ◌∙◌, drop-cons, add-one, arith}
use Rattle.sg_base.specs.declared.ids.ActorId.{ActorId}
use Rattle.sg_base.specs.declared.call.Call.{Call}
use Rattle.sg_actor_states.specs.declared.state.Blocking.{Blocking}
use Rattle.sg_actor_states.specs.Actors.{blocking_in}
use Rattle.sg_sync.specs.declared.outcome.Outcome.{Outcome}
use Rattle.sg_sync.specs.declared.outcome.Outcome.TheVariants.{GoesOn, Waits, Refused}
use Rattle.sg_kernel_calls.specs.World.{Core, state_of}
use Rattle.sg_kernel_calls.specs.Steps.{and_then}
use Rattle.sg_kernel_calls.specs.Locks.{all_wake, caller_gets, wakes, wakes_from}
use Rattle.sg_kernel_calls.specs.Known.{Known, after, after_call}
use Rattle.sg_kernel_calls.proofs.Each.{then_after, still_none, still_one, each_on}

wakes_on : (blocking : Option Blocking) (actor : ActorId) (core : Core) → (wakes_from blocking actor core).stop ≡ None
wakes_on None actor core = refl
wakes_on (Some blocking) actor core = refl

pub wakes_goes : (actor : ActorId) (core : Core) → (wakes actor core).stop ≡ None
wakes_goes actor core = wakes_on (blocking_in (state_of core actor.0)) actor core

pub wake_none : (known : Known) → after (all_wake [] known.core) known ≡ known
wake_none known = still_none wakes known

-- the next one, and those after it
pub drop_at : (others now : List ActorId) (i : ℕ) (d : ActorId) → now ≡ others → i < length others → drop i others ≡ get_or now i d ∷ drop (i + 1) others
drop_at others now i d same within =
    ap (λ (q : List ActorId). drop i q) (sym same) ∙ drop-cons now i d (omega (arith, within, ap length same)) ∙ ap (λ (q : List ActorId). get_or now i d ∷ drop (suc i) q) same ∙ ap (λ k. get_or now i d ∷ drop k others) (sym (add-one i))

pub wake_more : (others now : List ActorId) (i : ℕ) (d : ActorId) (known next : Known) → now ≡ others → i < length others → next ≡ after (wakes (get_or now i d) known.core) known → after (all_wake (drop (i + 1) others) next.core) next ≡ after (all_wake (drop i others) known.core) known
wake_more others now i d known next same within is =
    ap (λ (k : Known). after (all_wake (drop (i + 1) others) k.core) k) is
    ∙ still_one wakes (get_or now i d) (drop (i + 1) others) known (wakes_goes (get_or now i d) known.core)
    ∙ ap (λ (q : List ActorId). after (all_wake q known.core) known) (sym (drop_at others now i d same within))

pub all_on : (others : List ActorId) (core : Core) → (all_wake others core).stop ≡ None
all_on others core = each_on wakes wakes_goes others core

pub caller_goes : (outcome : Outcome) (actor : ℕ) (what : Call) (core : Core) → (caller_gets outcome actor what core).stop ≡ None
caller_goes GoesOn actor what core = refl
caller_goes Waits actor what core = refl
caller_goes Refused actor what core = refl

-- the caller is answered, and then all wake
pub then_others : (known mid next : Known) (others now : List ActorId) (outcome : Outcome) (actor : ℕ) (what : Call) → now ≡ others → mid ≡ after_call true (caller_gets outcome actor what known.core) known → next ≡ after (all_wake now mid.core) mid →
    next ≡ after_call true (and_then (caller_gets outcome actor what known.core) (all_wake others)) known
then_others known mid next others now outcome actor what same answered woken =
    woken
    ∙ ap (λ (q : List ActorId). after (all_wake q mid.core) mid) same
    ∙ ap (λ (k : Known). after (all_wake others k.core) k) answered
    ∙ ap (λ (k : Known). record k { room = known.room - 1 }) (then_after (caller_gets outcome actor what known.core) (all_wake others) known (caller_goes outcome actor what known.core))

-- all wake, and then the caller is answered
pub then_caller : (known mid next : Known) (others : List ActorId) (outcome : Outcome) (actor : ℕ) (what : Call) → mid ≡ after (all_wake others known.core) known → next ≡ after_call true (caller_gets outcome actor what mid.core) mid →
    next ≡ after_call true (and_then (all_wake others known.core) (caller_gets outcome actor what)) known
then_caller known mid next others outcome actor what woken answered =
    answered
    ∙ ap (λ (k : Known). after_call true (caller_gets outcome actor what k.core) k) woken
    ∙ ap (λ (k : Known). record k { room = known.room - 1 }) (then_after (all_wake others known.core) (caller_gets outcome actor what) known (all_on others known.core))
