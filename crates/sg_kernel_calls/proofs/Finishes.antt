-- The waiters of an activity that ended are answered, and the run continues.
use Rattle.std.proofs.Common.{◌≡◌, ℕ, Bool, true, false, cond, Option, None, Some, refl}
use Rattle.sg_mailbox.specs.declared.sides.Side.{Side}
use Rattle.sg_base.specs.declared.awaits.Party.{Party}
use Rattle.sg_base.specs.declared.awaits.Party.TheVariants as party
use Rattle.sg_mailbox.specs.declared.owners.How.{How}
use Rattle.sg_mailbox.specs.declared.owners.Whose.{Whose}
use Rattle.sg_mailbox.specs.declared.owners.Whose.TheVariants.{Over, Alone, Posted, Pair}
use Rattle.sg_kernel_calls.specs.World.{Core, state_of, whose_at}
use Rattle.sg_actor_states.specs.declared.state.Blocking.{Blocking}
use Rattle.sg_actor_states.specs.Actors.{blocking_in}
use Rattle.sg_kernel_calls.specs.Steps.{Step}
use Rattle.sg_kernel_calls.specs.Answers.{answers, answers_by, answers_side, bare_side, finishes, for_receiver, awaits_side, with_over}
use Rattle.sg_kernel_calls.specs.Known.{Known, after}
use Rattle.sg_kernel_calls.proofs.Each.{then_after, both_on}

answers_by_goes : (over : How) (serial : ℕ) (side : Party) (given : Side) (blocking : Option Blocking) (core : Core) → (answers_by over serial side given blocking core).stop ≡ None
answers_by_goes over serial side given None core = refl
answers_by_goes over serial side given (Some blocking) core = cases (awaits_side serial side blocking.on) _ _ refl refl
  where
    cases : (b : Bool) (one other : Step) → one.stop ≡ None → other.stop ≡ None → (cond b one other).stop ≡ None
    cases true one other e f = e
    cases false one other e f = f

pub answers_side_goes : (over : How) (serial : ℕ) (side : Party) (given : Side) (core : Core) → (answers_side over serial side given core).stop ≡ None
answers_side_goes over serial side given core = answers_by_goes over serial side given (blocking_in (state_of core given.actor.0)) core

-- a communication's two endpoints are answered one after another
pub after_both : (over : How) (serial : ℕ) (sender receiver : Side) (known : Known) →
    after (answers_side over serial party.Receiver (for_receiver sender receiver) (after (answers_side over serial party.Sender sender known.core) known).core) (after (answers_side over serial party.Sender sender known.core) known)
    ≡ after (answers over serial (Pair sender receiver) known.core) known
after_both over serial sender receiver known =
    then_after (answers_side over serial party.Sender sender known.core) (answers_side over serial party.Receiver (for_receiver sender receiver)) known (answers_side_goes over serial party.Sender sender known.core)

pub answers_goes : (over : How) (serial : ℕ) (whose : Whose) (core : Core) → (answers over serial whose core).stop ≡ None
answers_goes over serial (Over before) core = refl
answers_goes over serial (Alone actor) core = answers_side_goes over serial party.Alone (bare_side actor.0) core
answers_goes over serial (Posted mailbox sends side) core = refl
answers_goes over serial (Pair sender receiver) core =
    both_on (answers_side over serial party.Sender sender core) (answers_side over serial party.Receiver (for_receiver sender receiver)) (answers_side_goes over serial party.Sender sender core)
    (answers_side_goes over serial party.Receiver (for_receiver sender receiver))

-- an activity ends
pub finishes_goes : (over : How) (serial : ℕ) (core : Core) → (finishes over serial core).stop ≡ None
finishes_goes over serial core = answers_goes over serial (whose_at core serial) (with_over over serial core)
