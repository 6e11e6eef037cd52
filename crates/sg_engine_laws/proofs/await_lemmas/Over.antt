-- What has ended names no actor; and a kill continues to its end.
use Rattle.std.proofs.Common.{◌≡◌, ℕ, ◌==◌, Bool, true, false, true≢false, cond, inl, inr, None, List, [], length, set, get_or, refl, sym, ap, arith}
use Rattle.std.proofs.lemmas.Bool.{cases_lt}
use Rattle.std.proofs.lemmas.List.{get_or-set_same, get_or_past, length-set}
use Rattle.sg_base.specs.declared.call.Answer.TheVariants as answer
use Rattle.sg_base.specs.declared.call.Call.TheVariants as call
use Rattle.sg_base.specs.declared.ids.ActorId.{ActorId}
use Rattle.sg_base.specs.declared.trace_record.Record.{Record}
use Rattle.sg_mailbox.specs.declared.owners.How.{How}
use Rattle.sg_mailbox.specs.declared.owners.How.TheVariants as how
use Rattle.sg_mailbox.specs.declared.owners.Whose.{Whose}
use Rattle.sg_mailbox.specs.declared.owners.Whose.TheVariants.{Over, Alone, Posted, Pair}
use Rattle.sg_kernel_calls.specs.Kills.{gives_up, gives_up_by, kill_done}
use Rattle.sg_kernel_calls.specs.Steps.{Step, goes_on, follows, and_then, at_once}
use Rattle.sg_kernel_calls.specs.World.{Core, whose_at}
use Rattle.sg_kernel_calls.proofs.Finishes.{finishes_goes}
use Rattle.sg_engine_laws.specs.awaits.Awaits.{names}
use Rattle.sg_kernel_laws.proofs.actor_lemmas.Kept.{Replying, one_made}

abbrev pub anything : Record → Type 0
anything r = Unit {0}

abbrev pub is_over : Whose → Bool
is_over (Over before) = true
is_over (Alone actor) = false
is_over (Posted mailbox sends side) = false
is_over (Pair sender receiver) = false

pub over_unnamed : (target : ActorId) (whose : Whose) → is_over whose ≡ true → names target whose ≡ false
over_unnamed target (Over before) e = refl
over_unnamed target (Alone actor) e = absurd (true≢false (sym e))
over_unnamed target (Posted mailbox sends side) e = absurd (true≢false (sym e))
over_unnamed target (Pair sender receiver) e = absurd (true≢false (sym e))

pub over_there : (whose : List Whose) (place : ℕ) (over : How) → is_over (get_or (set whose place (Over over)) place (Over how.Done)) ≡ true
over_there whose place over = elim (cases_lt place (length whose)) [
  | inl less ↦ ap is_over (get_or-set_same whose place (Over over) (Over how.Done) less)
  | inr past ↦ ap is_over (get_or_past (set whose place (Over over)) place (Over how.Done) (omega (arith, past, length-set whose place (Over over))))
]

abbrev pub IsGone : ℕ → Core → Type 0
IsGone serial core = is_over (whose_at core serial) ≡ true

pub gone_replying : (serial : ℕ) → Replying (IsGone serial) anything
gone_replying serial = record { replies = λ actor blocking bytes given core is gone. one_made (IsGone serial) anything _ _ gone tt }

-- ---- a kill continues
pub gives_up_goes : (serial : ℕ) (core : Core) → (gives_up serial core).stop ≡ None
gives_up_goes serial core = by (whose_at core serial)
  where
    by : (whose : Whose) → (gives_up_by whose serial core).stop ≡ None
    by (Over before) = refl
    by (Alone actor) = finishes_goes how.Failed serial core
    by (Posted mailbox sends side) = finishes_goes how.Failed serial core
    by (Pair sender receiver) = finishes_goes how.Failed serial core

pub kill_done_goes : (actor : ℕ) (target : ActorId) (core : Core) → (kill_done actor target core).stop ≡ None
kill_done_goes actor target core = by (actor == target.0)
  where
    by : (b : Bool) → (cond b (goes_on core []) (at_once actor (call.Kill target) 0 answer.Done core)).stop ≡ None
    by true = refl
    by false = refl

pub core_after : (first : Step) (next : Core → Step) → first.stop ≡ None → (and_then first next).core ≡ (next first.core).core
core_after first next on = ap (λ o. (follows o first (next first.core)).core) on
