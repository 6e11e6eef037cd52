-- What one line of a script says.
use Rattle.std.specs.Prelude.{ℕ, Bool, ◌==◌, ◌||◌, ◌&&◌, ◌-◌, List, [], ◌∷◌, length, take, slice_index, Option, None, Some, Result, Ok, Err, ok_or, if◌then◌else◌, nat_lt, nat_le, codes, bytes_eq, ⊤}
use Rattle.std.specs.List.{find, list_all}
use Rattle.std.specs.Result.{result_ok}
use Rattle.sg_base.specs.declared.call.Action.{Action}
use Rattle.sg_base.specs.declared.call.Action.TheVariants as action
use Rattle.sg_base.specs.declared.ids.ActorId.{ActorId}
use Rattle.sg_base.specs.Limits.{Extent, IsActorIn}
use Rattle.sg_collectives.specs.declared.collective.Collective.{Collective}
use Rattle.sg_collectives.specs.declared.collective.Collective.TheVariants as collective
use Rattle.sg_units.specs.Amount.{amount_of, bandwidth_of, time_of}
use Rattle.sg_script.specs.declared.line.Entry.{Entry}
use Rattle.sg_script.specs.declared.fault.LineFault.{LineFault}
use Rattle.sg_script.specs.declared.fault.LineFault.TheVariants.{TooLong, NotAscii, UnknownActor, UnknownAction, ArgumentCount, BadAmount, UnknownObject}
use Rattle.sg_script.specs.declared.operation.Operation.{Operation}
use Rattle.sg_script.specs.declared.operation.Operation.TheVariants.{Alone, Together}
use Rattle.sg_script.specs.Known.{ScriptNames}
use Rattle.sg_script.specs.Operation.{IsOperation}
use Rattle.sg_script.specs.Words.{words}

-- what a line says, None if it is skipped; or why it is bad
abbrev pub Judgement : Type 0
Judgement = Result (Option Entry) LineFault

-- a step that may refuse, and what follows it
abbrev pub then_go : {X Y : Type 0} → Result X LineFault → (X → Result Y LineFault) →
    Result Y LineFault
then_go (Ok x) next = next x
then_go (Err kind) next = Err kind

-- ---- the words of arguments
-- no argument
abbrev pub no_words : List (List ℕ) → Result (Unit {0}) LineFault
no_words [] = Ok tt
no_words (word ∷ more) = Err ArgumentCount

-- the only argument, as what it stands for; if it stands for nothing, this is why the line is bad
abbrev pub one_of : {X : Type 0} → (List ℕ → Option X) → LineFault → List (List ℕ) → Result X LineFault
one_of read fault (word ∷ []) = ok_or (read word) fault
one_of read fault other = Err ArgumentCount

-- two arguments, of which the first is judged first
abbrev pub both : {X Y : Type 0} → (List ℕ → Result X LineFault) → (List ℕ → Result Y LineFault) → List (List ℕ) →
    Result (X × Y) LineFault
both first second (one ∷ two ∷ []) = then_go (first one) (λ x. then_go (second two) (λ y. Ok (x, y)))
both first second other = Err ArgumentCount

-- an argument in flops or bytes, up to 10^15
abbrev pub script_amount : List ℕ → Result ℕ LineFault
script_amount text = ok_or (result_ok (amount_of text)) BadAmount

-- a number from 1 on up to this one
abbrev pub from_one_to : ℕ → ℕ → Result ℕ LineFault
from_one_to most n = if nat_lt 0 n && nat_le n most then Ok n else Err BadAmount

-- the rate of a send, from 1 to 10^15 bytes a second
abbrev pub rate_in : List ℕ → Result ℕ LineFault
rate_in text = then_go (ok_or (result_ok (bandwidth_of text)) BadAmount) (from_one_to 1000000000000000)

-- an actor that replays
abbrev pub actor_in : ScriptNames → List ℕ → Result ActorId LineFault
actor_in known name = ok_or (known.actor name) UnknownActor

-- ---- arguments
-- an amount, and optionally a priority from 1 to 1,000, which is 1 else
abbrev pub computing_of : List (List ℕ) → Result (ℕ × ℕ) LineFault
computing_of (flops ∷ []) = then_go (script_amount flops) (λ n. Ok (n, 1))
computing_of other = both script_amount (λ text. then_go (script_amount text) (from_one_to 1000)) other

-- a peer and an amount
abbrev pub message_of : ScriptNames → List (List ℕ) → Result (ActorId × ℕ) LineFault
message_of known = both (actor_in known) script_amount

-- a peer and an amount, and optionally a rate, which is 0 else
abbrev pub sending_of : ScriptNames → List (List ℕ) → Result (ActorId × ℕ × ℕ) LineFault
sending_of known (peer ∷ bytes ∷ rate ∷ []) =
    then_go (message_of known (peer ∷ bytes ∷ []))
    (λ both. then_go (rate_in rate) (λ n. Ok (both.0, both.1, n)))
sending_of known other = then_go (message_of known other) (λ both. Ok (both.0, both.1, 0))

-- a peer, and optionally an amount, which has no effect
abbrev pub receiving_of : ScriptNames → List (List ℕ) → Result ActorId LineFault
receiving_of known (peer ∷ []) = actor_in known peer
receiving_of known other = then_go (message_of known other) (λ both. Ok both.0)

-- ---- operations
-- an action of what is read of the arguments, which an actor does alone
abbrev pub alone : {X : Type 0} → (X → Action) → (List (List ℕ) → Result X LineFault) → List (List ℕ) →
    Result Operation LineFault
alone make read args = then_go (read args) (λ x. Ok (Alone (make x)))

-- a collective of what is read of the arguments, which all members do together
abbrev pub together : {X : Type 0} → (X → Collective) → (List (List ℕ) → Result X LineFault) → List (List ℕ) →
    Result Operation LineFault
together make read args = then_go (read args) (λ x. Ok (Together (make x)))

-- the table of actions: the word of each, and what it makes of its arguments
abbrev pub actions : ScriptNames → List (List ℕ × (List (List ℕ) → Result Operation LineFault))
actions known =
    let time = one_of (λ text. result_ok (time_of text)) BadAmount in
    let amount = one_of (λ text. result_ok (amount_of text)) BadAmount in
    let amounts = both script_amount script_amount in
    let mutex = one_of known.mutex UnknownObject in
    let semaphore = one_of known.semaphore UnknownObject in
    let actor = one_of known.anyone UnknownActor in
    (codes "compute", alone (λ c. action.Compute c.0 c.1) computing_of)
    ∷ (codes "sleep", alone action.Sleep time)
    ∷ (codes "send", alone (λ s. action.Send s.0 s.1 s.2) (sending_of known))
    ∷ (codes "isend", alone (λ s. action.ISend s.0 s.1 s.2) (sending_of known))
    ∷ (codes "recv", alone action.Recv (receiving_of known))
    ∷ (codes "irecv", alone action.IRecv (receiving_of known))
    ∷ (codes "wait", alone (λ _. action.Wait) no_words)
    ∷ (codes "barrier", alone (λ _. action.Barrier) no_words)
    ∷ (codes "yield", alone (λ _. action.Yield) no_words)
    ∷ (codes "lock", alone action.Lock mutex)
    ∷ (codes "unlock", alone action.Unlock mutex)
    ∷ (codes "acquire", alone action.Acquire semaphore)
    ∷ (codes "release", alone action.Release semaphore)
    ∷ (codes "create", alone action.Create actor)
    ∷ (codes "join", alone action.Join actor)
    ∷ (codes "kill", alone action.Kill actor)
    ∷ (codes "suspend", alone action.Suspend actor)
    ∷ (codes "resume", alone action.Resume actor)
    ∷ (codes "bcast", together collective.Bcast amount)
    ∷ (codes "reduce", together (λ b. collective.Reduce b.0 b.1) amounts)
    ∷ (codes "allreduce", together (λ b. collective.Allreduce b.0 b.1) amounts)
    ∷ (codes "alltoall", together collective.Alltoall amount) ∷ []

-- ---- lines
-- the second word is the action, those after it are its arguments
abbrev pub with_action : ScriptNames → ActorId → List (List ℕ) → Judgement
with_action known a [] = Err UnknownAction
with_action known a (word ∷ args) =
    then_go (then_go (ok_or (find (λ row. bytes_eq row.0 word) (actions known)) UnknownAction) (λ row. row.1 args))
    (λ operation. Ok (Some (record { actor = a; operation = operation })))

-- the first word is the actor
abbrev pub entry_of : ScriptNames → List ℕ → List (List ℕ) → Judgement
entry_of known name more = then_go (actor_in known name) (λ a. with_action known a more)

-- a tab, or 0x20 to 0x7E
abbrev pub is_plain : ℕ → Bool
is_plain b = (b == 9) || (nat_le 32 b && nat_le b 126)

-- a line of these words; it is skipped if it has none, or its first one begins with `#`
abbrev pub of_words : ScriptNames → Bool → List (List ℕ) → Judgement
of_words known all_plain [] = Ok None
of_words known all_plain (word ∷ more) =
    if slice_index word 0 == 35 then Ok None
    else if all_plain then entry_of known word more else Err NotAscii

-- the judgement of a line without its line end: it is split into words and checked for ASCII
abbrev pub text_judgement : ScriptNames → List ℕ → Judgement
text_judgement known text = of_words known (list_all is_plain text) (words text)

-- one carriage return at the end is dropped
abbrev pub without_return : List ℕ → List ℕ
without_return text =
    if slice_index text (length text - 1) == 13 then take (length text - 1) text else text

-- the judgement of a line; its length is judged with its carriage return
abbrev pub line_judgement : ScriptNames → List ℕ → Judgement
line_judgement known line =
    if nat_lt 4096 (length line) then Err TooLong else text_judgement known (without_return line)

-- the actor of an entry exists, and its operation keeps to the limits
abbrev pub KeepsLimits : Extent → Judgement → Type 0
KeepsLimits extent (Ok None) = ⊤
KeepsLimits extent (Ok (Some entry)) = IsActorIn extent entry.actor × IsOperation extent entry.operation
KeepsLimits extent (Err kind) = ⊤
