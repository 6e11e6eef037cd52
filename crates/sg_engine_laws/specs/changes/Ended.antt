-- An actor that has ended stays so to the end of the run.
use Rattle.std.specs.Prelude.{◌≡◌, ◌≤◌, ℕ, ◌+◌, List, ◌++◌, All}
use Rattle.sg_base.specs.declared.trace_record.Record.{Record}
use Rattle.sg_requests.specs.Requested.{queue_at}
use Rattle.sg_engine.specs.Run.{Progress}
use Rattle.sg_kernel_laws.specs.actors.Dead.{HasEnded, IsOfAnother}
use Rattle.sg_engine_laws.specs.awaits.Runs.{Run, run_to, whole}

-- the run until a later point: further in that scheduling round, after it, or at the end of the run that it is a part of
pub data IsLater (run : Run) (parts actors : ℕ) : Progress → Type 0 where
  in_round : (more : ℕ) → IsLater run parts actors (run_to parts (actors + more) run)
  behind_round : (more others : ℕ) → IsLater run parts actors (run_to (parts + 1 + more) others run)
  at_end : parts ≤ run.budget → IsLater run parts actors (whole run)

-- there the actor has still ended, with the requests that it had, and no record that the run made since is of it
pub record StaysEnded (actor : ℕ) (before after : Progress) : Type 0 where
  pub ended : HasEnded actor after.world.core
  pub requests : queue_at after.world.core.requests actor ≡ queue_at before.world.core.requests actor
  pub more : List Record
  pub made : after.made ≡ before.made ++ more
  pub silent : All (IsOfAnother actor) more

-- so it is for each actor that has ended anywhere in a run
abbrev pub EndedActorsStayEnded : Type 0
EndedActorsStayEnded = (run : Run) (parts actors actor : ℕ) → HasEnded actor (run_to parts actors run).world.core → (later : Progress) → IsLater run parts actors later → StaysEnded actor (run_to parts actors run) later
