-- If a communication fails in a call, both endpoints get a record.
use Rattle.std.specs.Prelude.{◌≡◌, ◌≢◌, ℕ, ◌-◌, Bool, true, false, None, Some, if◌then◌else◌, List, [], ◌∷◌}
use Rattle.sg_base.specs.declared.awaits.Await.{Await}
use Rattle.sg_base.specs.declared.call.Answer.{Answer}
use Rattle.sg_base.specs.declared.call.Answer.TheVariants as answer
use Rattle.sg_base.specs.declared.call.Call.{Call}
use Rattle.sg_base.specs.declared.trace_record.Record.{Record}
use Rattle.sg_mailbox.specs.declared.sides.Post.{Post}
use Rattle.sg_mailbox.specs.Posts.{partner}
use Rattle.sg_route.specs.Roads.{Roads}
use Rattle.sg_actor_states.specs.declared.state.State.TheVariants.{Ready, Blocked}
use Rattle.sg_actor_states.specs.Records.{record_of}
use Rattle.sg_kernel_calls.specs.declared.meetings.Comer.{Comer}
use Rattle.sg_kernel_calls.specs.Answers.{tells_bytes}
use Rattle.sg_kernel_calls.specs.Calls.{answered}
use Rattle.sg_kernel_calls.specs.Meetings.{comer_of, party_of, posts_at, sender_of}
use Rattle.sg_kernel_calls.specs.Steps.{Step}
use Rattle.sg_mailbox.specs.declared.owners.How.TheVariants as how
use Rattle.sg_mailbox.specs.declared.owners.Whose.TheVariants.{Over}
use Rattle.sg_kernel_calls.specs.Setup.{Setup}
use Rattle.sg_kernel_calls.specs.World.{Core, MayCall, state_of, whose_at}
use Rattle.sg_kernel_laws.specs.failures.Laws.{call_fails}

-- an arriving endpoint matches by its call a post whose actor is another, and is blocked on that endpoint
pub record MeetsBlocked (core : Core) (actor : ℕ) (what : Call) (comer : Comer) (post : Post) (since : ℕ) (called : Call) (on : Await) : Type 0 where
  pub comes : comer_of actor what ≡ Some comer
  pub meets : partner comer.sends (posts_at comer.mailbox core) ≡ Some post
  pub blocked : state_of core post.side.actor.0 ≡ Blocked called since (Some on)
  pub serial : on.serial.0 ≡ post.serial.0
  pub side : on.party ≡ party_of post.sends
  pub apart : post.side.actor.0 - 1 ≢ actor - 1

-- the answer of the arriving endpoint: one that doesn't wait is done at once
abbrev pub comer_answer : Bool → Answer
comer_answer true = answer.Failed
comer_answer false = answer.Done

-- what its record says of bytes: those that the sender sends, or its own
abbrev pub comer_bytes : Bool → Comer → Post → ℕ
comer_bytes true comer post = (sender_of comer post.side).bytes
comer_bytes false comer post = comer.side.bytes

abbrev pub comer_record : Core → ℕ → Call → Comer → Post → Record
comer_record core actor what comer post = record_of actor what core.under.date (comer_bytes comer.waits comer post) (comer_answer comer.waits) core.under.date

abbrev pub other_record : Core → Comer → Post → ℕ → Call → Record
other_record core comer post since called =
    record_of post.side.actor.0 called since (if tells_bytes called then (sender_of comer post.side).bytes else 0) answer.Failed core.under.date

-- the records of both, that of the sender first
abbrev pub both_records : Core → ℕ → Call → Comer → Post → ℕ → Call → List Record
both_records core actor what comer post since called =
    if comer.sends then comer_record core actor what comer post ∷ other_record core comer post since called ∷ []
    else other_record core comer post since called ∷ comer_record core actor what comer post ∷ []

-- both have a record, the sender first, and an answer; and their communication has failed
pub record TellsBoth (core : Core) (actor : ℕ) (what : Call) (comer : Comer) (post : Post) (since : ℕ) (called : Call) (step : Step) : Type 0 where
  pub made : step.made ≡ both_records core actor what comer post since called
  pub goes_on : step.stop ≡ None
  pub other : state_of step.core post.side.actor.0 ≡ Ready answer.Failed
  pub caller : MayCall core actor → state_of step.core actor ≡ Ready (comer_answer comer.waits)
  pub over : whose_at step.core post.serial.0 ≡ Over how.Failed

-- so it is of each such call that fails, and that the budget doesn't stop
abbrev pub MeetingsTellBoth : Type 0
MeetingsTellBoth = (roads : Roads) (setup : Setup) (core : Core) (actor : ℕ) (what : Call) (comer : Comer) (post : Post) (since : ℕ) (called : Call) (on : Await) → MeetsBlocked core actor what comer post since called on →
    call_fails roads setup core actor what ≡ true → core.events ≢ setup.budget → TellsBoth core actor what comer post since called (answered roads setup core actor what)
