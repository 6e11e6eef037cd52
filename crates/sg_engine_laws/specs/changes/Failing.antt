-- Which activities fail in a run, and which complete.
use Rattle.std.specs.Prelude.{◌≡◌, ◌≢◌, ℕ, ◌+◌, ◌-◌, ◌<◌, ◌++◌, true, false, Option, None, Some, Contains, slice_index_or}
use Rattle.sg_base.specs.declared.awaits.Await.{Await}
use Rattle.sg_base.specs.declared.call.Answer.TheVariants as answer
use Rattle.sg_base.specs.declared.call.Call.{Call}
use Rattle.sg_base.specs.declared.ids.ActorId.{ActorId}
use Rattle.sg_mailbox.specs.declared.sides.Post.{Post}
use Rattle.sg_mailbox.specs.Posts.{partner}
use Rattle.sg_route.specs.Roads.{roads_of}
use Rattle.sg_actor_states.specs.declared.state.State.TheVariants.{Ready, Blocked}
use Rattle.sg_actor_states.specs.Actors.{is_ended}
use Rattle.sg_kernel_calls.specs.declared.meetings.Comer.{Comer}
use Rattle.sg_mailbox.specs.declared.owners.How.{How}
use Rattle.sg_mailbox.specs.declared.owners.How.TheVariants as how
use Rattle.sg_mailbox.specs.declared.owners.Whose.TheVariants.{Over}
use Rattle.sg_kernel_calls.specs.Kills.{awaited}
use Rattle.sg_kernel_calls.specs.Meetings.{comer_of, posts_at}
use Rattle.sg_kernel.specs.Passes.{next_span, settled}
use Rattle.sg_kernel_calls.specs.Setup.{Setup}
use Rattle.sg_kernel_calls.specs.World.{Core, state_of, whose_at}
use Rattle.sg_engine.specs.Run.{Progress, anyone_ready, are_completed}
use Rattle.sg_kernel_laws.specs.failures.Cut.{over_in}
use Rattle.sg_kernel_laws.specs.failures.Laws.{call_fails, is_over}
use Rattle.sg_engine_laws.specs.awaits.Runs.{Run, KillsAt, calls_in, parts_in, run_to}
use Rattle.sg_engine_laws.specs.changes.Meets.{both_records, comer_answer}
use Rattle.sg_engine_laws.specs.changes.Told.{setup_in}

-- ---- time advances
-- behind so many scheduling rounds and time advances, a time advance is next
pub record PassesAt (run : Run) (parts : ℕ) : Type 0 where
  pub goes_on : (parts_in parts run).ended ≡ None
  pub going : are_completed (parts_in parts run).world.core ≡ false
  pub idle : anyone_ready (parts_in parts run).world.core ≡ false

-- how an activity ends in it, if it does: where nothing comes next, none does
abbrev pub over_next : Option ℕ → Setup → Core → ℕ → Option How
over_next None setup core serial = None
over_next (Some span) setup core serial = over_in setup span core serial

-- If it doesn't end the run the activity has ended so after it; and it has ended only so.
pub record EndsInRun (expected : Option How) (serial : ℕ) (after : Progress) : Type 0 where
  pub so : (over : How) → expected ≡ Some over → after.ended ≡ None → whose_at after.world.core serial ≡ Over over
  pub only : (over : How) → whose_at after.world.core serial ≡ Over over → expected ≡ Some over

-- so it is for each activity that has not ended before
abbrev pub TimeAdvancesFailWhatIsOffInRuns : Type 0
TimeAdvancesFailWhatIsOffInRuns = (run : Run) (parts serial : ℕ) → PassesAt run parts → 0 < serial → is_over (whose_at (parts_in parts run).world.core serial) ≡ false →
    EndsInRun (over_next (next_span (setup_in run) (settled (parts_in parts run).world.core)) (setup_in run) (settled (parts_in parts run).world.core) serial) serial (parts_in (parts + 1) run)

-- ---- kills
-- the activity has failed if the killed actor awaited it, and is as it was if not
pub record FailsInKill (target : ActorId) (serial : ℕ) (before after : Core) : Type 0 where
  pub fails : Contains (awaited target before) serial → whose_at after serial ≡ Over how.Failed
  pub stays : (Contains (awaited target before) serial → ⊥) → whose_at after serial ≡ whose_at before serial

-- so it is, where a run kills an actor, for each activity that has not ended before
abbrev pub KillsFailWhatIsAwaitedInRuns : Type 0
KillsFailWhatIsAwaitedInRuns = (run : Run) (parts actors : ℕ) (target : ActorId) (serial : ℕ) → KillsAt run parts actors target → 0 < serial → is_over (whose_at (run_to parts actors run).world.core serial) ≡ false →
    FailsInKill target serial (run_to parts actors run).world.core (run_to parts (actors + 1) run).world.core

-- ---- meetings
-- The actor that is next there makes this call, and is answered: it wasn't killed itself, and the run doesn't end.
pub record CallsAt (run : Run) (parts actors : ℕ) (what : Call) : Type 0 where
  pub calls : slice_index_or (calls_in (parts_in parts run).world) actors None ≡ Some what
  pub caller : is_ended (state_of (run_to parts actors run).world.core (actors + 1)) ≡ false
  pub goes_on : (run_to parts (actors + 1) run).ended ≡ None

-- by this call an endpoint arrives and matches a post, and the way between them is cut
pub record MeetsCut (run : Run) (parts actors : ℕ) (what : Call) (comer : Comer) (post : Post) : Type 0 where
  pub calls : CallsAt run parts actors what
  pub comes : comer_of (actors + 1) what ≡ Some comer
  pub meets : partner comer.sends (posts_at comer.mailbox (run_to parts actors run).world.core) ≡ Some post
  pub fails : call_fails (roads_of run.platform) (setup_in run) (run_to parts actors run).world.core (actors + 1) what ≡ true

-- this activity has failed, and each other is as it was
pub record FailsAlone (serial : ℕ) (before after : Core) : Type 0 where
  pub fails : whose_at after serial ≡ Over how.Failed
  pub others : (other : ℕ) → other - 1 ≢ serial - 1 → whose_at after other ≡ whose_at before other

-- both have a record, the sender first, and an answer
pub record TellsBothInRun (actor : ℕ) (what : Call) (comer : Comer) (post : Post) (since : ℕ) (called : Call) (before after : Progress) : Type 0 where
  pub made : after.made ≡ before.made ++ both_records before.world.core actor what comer post since called
  pub other : state_of after.world.core post.side.actor.0 ≡ Ready answer.Failed
  pub caller : state_of after.world.core actor ≡ Ready (comer_answer comer.waits)

-- If a match fails in a run its communication has failed, and no other activity; and if the actor of the other endpoint
-- is blocked on it, both have their records and answers.
pub record MeetingsTellBothInRuns : Type 0 where
  pub alone : (run : Run) (parts actors : ℕ) (what : Call) (comer : Comer) (post : Post) → MeetsCut run parts actors what comer post →
      FailsAlone post.serial.0 (run_to parts actors run).world.core (run_to parts (actors + 1) run).world.core
  pub both : (run : Run) (parts actors : ℕ) (what : Call) (comer : Comer) (post : Post) (since : ℕ) (called : Call) (on : Await) → MeetsCut run parts actors what comer post →
      state_of (run_to parts actors run).world.core post.side.actor.0 ≡ Blocked called since (Some on) → on.serial.0 ≡ post.serial.0 →
      TellsBothInRun (actors + 1) what comer post since called (run_to parts actors run) (run_to parts (actors + 1) run)
