-- What is kept, as one actor's state changes, and as an event is counted.
use Rattle.std.proofs.Common.{◌≡◌, ◌≢◌, ℕ, ◌+◌, ◌-◌, ◌<◌, ◌≤◌, false, true, true≢false, IsTrue, List, [], ◌∷◌, length, inl, inr, refl, sym, subst, ap, ◌∙◌, arith}
use Rattle.std.proofs.lemmas.Bool.{cases_eq}
use Rattle.std.proofs.lemmas.List.{length-set}
use Rattle.sg_base.specs.declared.call.Answer.{Answer}
use Rattle.sg_base.specs.declared.call.Call.{Call}
use Rattle.sg_base.specs.declared.ids.ActorId.{ActorId}
use Rattle.sg_base.specs.Limits.{IsActorNumber}
use Rattle.sg_actor_states.specs.declared.state.State.{State}
use Rattle.sg_actor_states.specs.declared.state.State.TheVariants.{Unstarted, Ready, Blocked, Ended}
use Rattle.sg_actor_states.specs.declared.state.Actor.{Actor}
use Rattle.sg_actor_states.specs.Actors.{actor_at, blocking_in, is_answered, put_state, state_at, IsActor, MayCall}
use Rattle.sg_actor_states.specs.States.{ActorStates, CanCall, by_call, with_reply}
use Rattle.sg_sync.specs.Objects.{waiting}
use Rattle.sg_sync.specs.Sync.{SyncState}
use Rattle.sg_sync.specs.Queues.{times}
use Rattle.sg_sync.proofs.Counts.{one_other, one_same, times_cons}
use Rattle.sg_kernel_calls.specs.declared.simulation_state.Fields.{Fields}
use Rattle.sg_kernel_calls.specs.World.{extent}
use Rattle.sg_kernel_calls.specs.kept.Sound.{is_queued, AreHeld, AreMeeting, AwaitsMade, HasRoom, IsSound}
use Rattle.sg_kernel_calls.specs.kept.Waking.{AreWaking, LeavesCallers}
use Rattle.sg_kernel_calls.specs.kept.Whole.{CanConclude, CanStep, IsPassing, IsSteady, IsWhole, IsWholeFor, KeepsWhole}
use Rattle.sg_kernel_calls.proofs.Stated.{awaiting_state, state_other, state_same, AreAwaiting}
use Rattle.sg_kernel_calls.proofs.Suspending.{whole_less}
use Rattle.sg_kernel_calls.proofs.Waiting.{others_held, still_held}

-- the state of one actor changes, and nothing else except records and room
pub record Moves (old new : ActorStates) (actor : ℕ) (state : State) : Type 0 where
  pub extent : new.extent ≡ old.extent
  pub actors : new.actors ≡ put_state old.actors actor state
  pub passing : new.passing ≡ old.passing

pub moves_called : (old new : ActorStates) (actor : ℕ) (state : State) → new ≡ by_call actor state old → Moves old new actor state
moves_called old new actor state is = record { extent = ap (λ (s : ActorStates). s.extent) is; actors = ap (λ (s : ActorStates). s.actors) is; passing = ap (λ (s : ActorStates). s.passing) is }

pub moves_answered : (old new : ActorStates) (actor : ℕ) (what : Call) (since bytes : ℕ) (answer : Answer) (date : ℕ) → new ≡ record (with_reply actor what since bytes answer date old) { room = old.room - 1 } → Moves old new actor (Ready answer)
moves_answered old new actor what since bytes answer date is = record { extent = ap (λ (s : ActorStates). s.extent) is; actors = ap (λ (s : ActorStates). s.actors) is; passing = ap (λ (s : ActorStates). s.passing) is }

pub moves_replied : (old new : ActorStates) (actor : ℕ) (what : Call) (since bytes : ℕ) (answer : Answer) (date : ℕ) → new ≡ with_reply actor what since bytes answer date old → Moves old new actor (Ready answer)
moves_replied old new actor what since bytes answer date is = record { extent = ap (λ (s : ActorStates). s.extent) is; actors = ap (λ (s : ActorStates). s.actors) is; passing = ap (λ (s : ActorStates). s.passing) is }

-- there are as many actors
pub moves_long : (old new : ActorStates) (actor : ℕ) (state : State) → Moves old new actor state → length new.actors ≡ length old.actors
moves_long old new actor state moves = ap length moves.actors ∙ length-set old.actors (actor - 1) (record (actor_at old.actors actor) { state = state })

-- the state of an actor is blocked on nothing, or on an activity that was made
abbrev pub IsFree : Fields → State → Type 0
IsFree fields state = AwaitsMade (length fields.whose.whose) (blocking_in state)

-- ---- what is kept of it
pub sound_moved : (fields : Fields) (states : ActorStates) (actor : ℕ) (state : State) → Moves fields.states states actor state → IsSound fields → IsSound (record fields { states = states })
sound_moved fields states actor state moves was =
    let long = moves_long fields.states states actor state moves in
    record {
      numbered = was.numbered;
      few = was.few;
      within = was.within;
      budgeted = was.budgeted;
      hosts_counted = was.hosts_counted;
      links_counted = was.links_counted;
      homes_known = was.homes_known ∙ sym long;
      requests_known = was.requests_known ∙ sym long;
      requests_few = was.requests_few;
      extent_is = moves.extent ∙ was.extent_is;
    }

pub roomy_less : (fields : Fields) (states : ActorStates) (room less : ℕ) → less ≤ room → HasRoom room fields → HasRoom less (record fields { states = states })
roomy_less fields states room less le was = record { starts = omega (arith, le, was.starts); owners = omega (arith, le, was.owners); mailboxes = omega (arith, le, was.mailboxes); requests = omega (arith, le, was.requests) }

pub meeting_moved : (fields : Fields) (states : ActorStates) (actor : ℕ) (state : State) → IsFree fields state → Moves fields.states states actor state → AreMeeting fields → AreMeeting (record fields { states = states })
meeting_moved fields states actor state free moves was = record {
  posts = was.posts;
  idle = was.idle;
  busy = was.busy;
  asked = was.asked;
  awaited = subst (AreAwaiting (length fields.whose.whose)) (sym moves.actors) (awaiting_state (length fields.whose.whose) fields.states.actors actor state free was.awaited);
}

-- one that waits at no object may do anything
pub held_moved : (fields : Fields) (states : ActorStates) (actor : ActorId) (state : State) → 0 < actor.0 → is_queued (state_at fields.states.actors actor.0) ≡ false → Moves fields.states states actor.0 state → AreHeld fields → AreHeld (record fields { states = states })
held_moved fields states actor state from isnt moves was = record {
  owners = was.owners;
  counts = was.counts;
  actors = was.actors ∙ sym (moves_long fields.states states actor.0 state moves);
  few = was.few;
  once = was.once;
  held = λ b some. let old = was.held b some in (old.0, ap (λ (xs : List Actor). is_queued (state_at xs b.0)) moves.actors ∙ others_held fields.states.actors actor b state from old.0.0 isnt old.1);
  locking = was.locking;
  acquiring = was.acquiring;
}

pub ready_unheld : (s : State) → IsTrue (is_answered s) → is_queued s ≡ false
ready_unheld Unstarted e = absurd (true≢false (sym e))
ready_unheld (Ready a) e = refl
ready_unheld (Blocked what since on) e = absurd (true≢false (sym e))
ready_unheld Ended e = absurd (true≢false (sym e))

pub whole_moved : (fields : Fields) (room : ℕ) (states : ActorStates) (actor : ActorId) (state : State) → CanCall fields.states actor.0 → IsFree fields state → Moves fields.states states actor.0 state → states.room ≤ room → IsWholeFor room fields → IsWhole (record fields { states = states })
whole_moved fields room states actor state able free moves le was =
    let isnt = ready_unheld (state_at fields.states.actors actor.0) able.caller.ready in
    record {
      sound = sound_moved fields states actor.0 state moves was.sound;
      roomy = roomy_less fields states room states.room le was.roomy;
      dated = was.dated;
      timely = was.timely;
      limited = was.limited;
      meeting = meeting_moved fields states actor.0 state free moves was.meeting;
      held = held_moved fields states actor state able.caller.from isnt moves was.held;
      round = moves.passing ∙ was.round;
    }

pub steady_moved : (fields : Fields) (states : ActorStates) (actor : ℕ) (state : State) → IsFree fields state → Moves fields.states states actor state → states.room ≤ fields.states.room → IsSteady fields → IsSteady (record fields { states = states })
steady_moved fields states actor state free moves le was = record {
  sound = sound_moved fields states actor state moves was.sound;
  roomy = roomy_less fields states fields.states.room states.room le was.roomy;
  dated = was.dated;
  timely = was.timely;
  limited = was.limited;
  meeting = meeting_moved fields states actor state free moves was.meeting;
  round = moves.passing ∙ was.round;
}

-- ---- an event is counted
pub sound_counted : (fields : Fields) → fields.events ≢ fields.setup.budget → IsSound fields → IsSound (record fields { events = fields.events + 1 })
sound_counted fields left was = record {
  numbered = was.numbered;
  few = omega (arith, was.few);
  within = omega (arith, was.within, left);
  budgeted = was.budgeted;
  hosts_counted = was.hosts_counted;
  links_counted = was.links_counted;
  homes_known = was.homes_known;
  requests_known = was.requests_known;
  requests_few = omega (arith, was.requests_few);
  extent_is = was.extent_is;
}

pub held_counted : (fields : Fields) → AreHeld fields → AreHeld (record fields { events = fields.events + 1 })
held_counted fields was = record {
  owners = was.owners;
  counts = was.counts;
  actors = was.actors;
  few = λ k d within. omega (arith, was.few k d within);
  once = was.once;
  held = was.held;
  locking = was.locking;
  acquiring = was.acquiring;
}

meeting_counted : (fields : Fields) → AreMeeting fields → AreMeeting (record fields { events = fields.events + 1 })
meeting_counted fields was = record { posts = was.posts; idle = was.idle; busy = was.busy; asked = was.asked; awaited = was.awaited }

roomy_counted : (fields : Fields) (room : ℕ) → HasRoom room fields → HasRoom room (record fields { events = fields.events + 1 })
roomy_counted fields room was = record { starts = was.starts; owners = was.owners; mailboxes = was.mailboxes; requests = was.requests }

-- by a call
pub whole_counted : (fields : Fields) → fields.events ≢ fields.setup.budget → IsWhole fields → IsWhole (record fields { events = fields.events + 1 })
whole_counted fields left was = record {
  sound = sound_counted fields left was.sound;
  roomy = roomy_counted fields fields.states.room was.roomy;
  dated = omega (arith, was.dated);
  timely = was.timely;
  limited = was.limited;
  meeting = meeting_counted fields was.meeting;
  held = held_counted fields was.held;
  round = was.round;
}

-- or in a time advance
pub passing_counted : (fields : Fields) → fields.events ≢ fields.setup.budget → IsPassing fields → IsPassing (record fields { events = fields.events + 1 })
passing_counted fields left was = record {
  sound = sound_counted fields left was.sound;
  roomy = roomy_counted fields fields.states.room was.roomy;
  timely = was.timely;
  limited = was.limited;
  meeting = meeting_counted fields was.meeting;
  held = held_counted fields was.held;
  passing = was.passing;
  small = was.small;
}

-- its call can then be answered
pub can_call : (fields : Fields) (actor : ℕ) → IsWhole fields → CanCall fields.states actor → fields.events ≢ fields.setup.budget → CanStep (record fields { events = fields.events + 1 }) actor
can_call fields actor whole call left = record {
  whole = whole_counted fields left whole;
  call = call;
  fresh = record { tasks = omega (arith, whole.sound.few); asked = omega (arith, whole.sound.requests_few); counts = λ k d within. omega (arith, whole.held.few k d within) };
}

-- what contracts see shows the same
pub can_step : (fields : Fields) (actor : ℕ) → IsWhole fields → MayCall fields.states.actors actor → 0 < fields.states.room → fields.events ≢ fields.setup.budget → CanStep (record fields { events = fields.events + 1 }) actor
can_step fields actor whole caller room left = can_call fields actor whole (record { caller = caller; room = room; round = whole.round }) left

-- a call that began nothing ends
pub can_conclude : (fields : Fields) (actor : ℕ) → CanStep fields actor → CanConclude fields actor
can_conclude fields actor able = record {
  whole = whole_less fields fields.states.room (fields.states.room - 1) (omega arith) able.whole;
  call = able.call;
}

-- it leaves all whole
pub whole_concluded : (fields : Fields) (states : ActorStates) (actor : ActorId) (state : State) → CanConclude fields actor.0 → IsFree fields state → Moves fields.states states actor.0 state → states.room ≡ fields.states.room - 1 → IsWhole (record fields { states = states })
whole_concluded fields states actor state able free moves room =
    whole_moved fields (fields.states.room - 1) states actor state able.call free moves (omega (arith, room)) able.whole

-- a call on an object
pub steady_called : (fields : Fields) (objects : SyncState) → IsWhole fields → IsSteady (record fields { objects = objects })
steady_called fields objects was =
    let sound = was.sound in
    record {
      sound = record {
        numbered = sound.numbered;
        few = sound.few;
        within = sound.within;
        budgeted = sound.budgeted;
        hosts_counted = sound.hosts_counted;
        links_counted = sound.links_counted;
        homes_known = sound.homes_known;
        requests_known = sound.requests_known;
        requests_few = sound.requests_few;
        extent_is = sound.extent_is;
      };
      roomy = record { starts = was.roomy.starts; owners = was.roomy.owners; mailboxes = was.roomy.mailboxes; requests = was.roomy.requests };
      dated = was.dated;
      timely = was.timely;
      limited = was.limited;
      meeting = record { posts = was.meeting.posts; idle = was.meeting.idle; busy = was.meeting.busy; asked = was.meeting.asked; awaited = was.meeting.awaited };
      round = was.round;
    }

-- in a time advance
pub passing_moved : (fields : Fields) (states : ActorStates) (actor : ActorId) (state : State) → 0 < actor.0 → is_queued (state_at fields.states.actors actor.0) ≡ false → IsFree fields state → Moves fields.states states actor.0 state → states.room ≤ fields.states.room → IsPassing fields → IsPassing (record fields { states = states })
passing_moved fields states actor state from isnt free moves le was = record {
  sound = sound_moved fields states actor.0 state moves was.sound;
  roomy = roomy_less fields states fields.states.room states.room le was.roomy;
  timely = was.timely;
  limited = was.limited;
  meeting = meeting_moved fields states actor.0 state free moves was.meeting;
  held = held_moved fields states actor state from isnt moves was.held;
  passing = moves.passing ∙ was.passing;
  small = was.small;
}

-- ---- who waits at an object, as one actor's state changes
waking_with : (fields : Fields) (states : ActorStates) (actor : ActorId) (state : State) (comers others : List ActorId) → Moves fields.states states actor.0 state → AreWaking fields comers others
    → (next left : List ActorId) → ((b : ActorId) → waiting fields.objects.objects b + times b left ≤ 1)
    → ((b : ActorId) → times b next < waiting fields.objects.objects b + times b left → IsActorNumber (extent fields.setup) b.0 × IsTrue (is_queued (state_at (put_state fields.states.actors actor.0 state) b.0)))
    → AreWaking (record fields { states = states }) next left
waking_with fields states actor state comers others moves was next left once held = record {
  owners = was.owners;
  counts = was.counts;
  actors = was.actors ∙ sym (moves_long fields.states states actor.0 state moves);
  few = was.few;
  once = once;
  held = λ b some. let now = held b some in (now.0, ap (λ (xs : List Actor). is_queued (state_at xs b.0)) moves.actors ∙ now.1);
  locking = was.locking;
  acquiring = was.acquiring;
}

-- the caller continues
pub waking_on : (fields : Fields) (states : ActorStates) (actor : ActorId) (state : State) (others : List ActorId) → MayCall fields.states.actors actor.0 → Moves fields.states states actor.0 state → AreWaking fields [] others → AreWaking (record fields { states = states }) [] others
waking_on fields states actor state others may moves was =
    let isnt = ready_unheld (state_at fields.states.actors actor.0) may.ready in
    waking_with fields states actor state [] others moves was [] others was.once (λ b some. let old = was.held b some in (old.0, others_held fields.states.actors actor b state may.from old.0.0 isnt old.1))

-- or it waits
pub waking_waits : (fields : Fields) (states : ActorStates) (actor : ActorId) (state : State) (others : List ActorId) → IsSound fields → MayCall fields.states.actors actor.0 → is_queued state ≡ true → Moves fields.states states actor.0 state → AreWaking fields (actor ∷ []) others → AreWaking (record fields { states = states }) [] others
waking_waits fields states actor state others sound may held moves was =
    waking_with fields states actor state (actor ∷ []) others moves was [] others was.once (λ b some. elim (cases_eq b.0 actor.0) [
      | inl same ↦
          let here = state_same fields.states.actors actor.0 state (record { from = may.from; to = may.to }) in
          ((omega (arith, same, may.from), omega (arith, same, may.to, sound.homes_known)), ap (λ n. is_queued (state_at (put_state fields.states.actors actor.0 state) n)) same ∙ ap is_queued here ∙ held)
      | inr apart ↦
          let old = was.held b (omega (arith, some, times_cons b actor [], one_other b actor (λ e. apart (sym e)))) in
          (old.0, still_held fields.states.actors actor b state may.from old.0.0 apart old.1)
    ])

-- one that waited is unblocked
pub waking_woken : (fields : Fields) (states : ActorStates) (actor : ActorId) (state : State) (comers others : List ActorId) → 0 < actor.0 → Moves fields.states states actor.0 state → AreWaking fields comers (actor ∷ others) → AreWaking (record fields { states = states }) comers others
waking_woken fields states actor state comers others from moves was =
    waking_with fields states actor state comers (actor ∷ others) moves was comers others (λ b. omega (arith, was.once b, times_cons b actor others)) (λ b some. elim (cases_eq b.0 actor.0) [
      | inl same ↦ absurd (omega (arith, some, was.once b, times_cons b actor others, one_same b actor (sym same)))
      | inr apart ↦
          let old = was.held b (omega (arith, some, times_cons b actor others)) in
          (old.0, still_held fields.states.actors actor b state from old.0.0 apart old.1)
    ])

-- an actor that may make a call still may, as another gets ready
pub callers_left : (old new : ActorStates) (actor : ℕ) (state : State) → IsActor old.actors actor → is_answered state ≡ true → Moves old new actor state → new.room ≡ old.room → LeavesCallers old new
callers_left old new actor state is ready moves same =
    let long = moves_long old new actor state moves in
    record {
      actors = long;
      callers = λ other may. record {
        caller = record {
          from = may.caller.from;
          to = omega (arith, long, may.caller.to);
          ready = ap (λ (xs : List Actor). is_answered (state_at xs other)) moves.actors ∙ elim (cases_eq other actor) [
            | inl equal ↦ ap (λ n. is_answered (state_at (put_state old.actors actor state) n)) equal ∙ ap is_answered (state_same old.actors actor state is) ∙ ready
            | inr apart ↦ ap is_answered (state_other old.actors actor other state is.from may.caller.from apart) ∙ may.caller.ready
          ];
        };
        room = omega (arith, same, may.room);
        round = moves.passing ∙ may.round;
      };
    }

-- ---- one that waited is answered, in a time advance or not
pub whole_answered : (fields : Fields) (states : ActorStates) (actor : ActorId) (state : State) → IsActor fields.states.actors actor.0 → is_answered state ≡ true → is_queued (state_at fields.states.actors actor.0) ≡ false → IsFree fields state → Moves fields.states states actor.0 state →
    states.room ≡ fields.states.room → IsSound fields → KeepsWhole fields (record fields { states = states })
whole_answered fields states actor state is ready isnt free moves room sound = record {
  passing = passing_moved fields states actor state is.from isnt free moves (omega (arith, room));
  whole = λ n was. record {
    sound = sound_moved fields states actor.0 state moves was.sound;
    roomy = record { starts = was.roomy.starts; owners = was.roomy.owners; mailboxes = was.roomy.mailboxes; requests = was.roomy.requests };
    dated = was.dated;
    timely = was.timely;
    limited = was.limited;
    meeting = meeting_moved fields states actor.0 state free moves was.meeting;
    held = held_moved fields states actor state is.from isnt moves was.held;
    round = moves.passing ∙ was.round;
  };
  sound = sound_moved fields states actor.0 state moves sound;
  callers = callers_left fields.states states actor.0 state is ready moves room;
  room = room;
  rest = refl;
}

-- one after another
pub keeps_both : (old mid new : Fields) → KeepsWhole old mid → KeepsWhole mid new → KeepsWhole old new
keeps_both old mid new one two = record {
  passing = λ was. two.passing (one.passing was);
  whole = λ room was. two.whole room (one.whole room was);
  sound = two.sound;
  callers = record {
    actors = two.callers.actors ∙ one.callers.actors;
    callers = λ actor may. two.callers.callers actor (one.callers.callers actor may);
  };
  room = two.room ∙ one.room;
  rest = two.rest ∙ ap (λ (f : Fields). record f { states = new.states }) one.rest;
}

-- or is not blocked so
pub whole_kept : (fields : Fields) → IsSound fields → KeepsWhole fields fields
whole_kept fields sound = record {
  passing = λ was. was;
  whole = λ n was. was;
  sound = sound;
  callers = record { actors = refl; callers = λ actor may. may };
  room = refl;
  rest = refl;
}
