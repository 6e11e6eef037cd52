-- The rows of the table of actions by verbs: the code first finds the verb of a word, and then reads its arguments.
use Rattle.std.specs.Prelude.{ℕ, List, [], ◌∷◌, codes, bytes_eq, drop, ok_or, Option, option_map, Result}
use Rattle.std.specs.List.{find}
use Rattle.std.specs.Result.{result_ok}
use Rattle.sg_base.specs.declared.call.Action.TheVariants as action
use Rattle.sg_collectives.specs.declared.collective.Collective.TheVariants as collective
use Rattle.sg_units.specs.Amount.{amount_of, time_of}
use Rattle.sg_script.specs.declared.fault.LineFault.{LineFault}
use Rattle.sg_script.specs.declared.fault.LineFault.TheVariants.{UnknownActor, UnknownAction, BadAmount, UnknownObject}
use Rattle.sg_script.specs.declared.operation.Operation.{Operation}
use Rattle.sg_script.specs.declared.verbs.Verb.{Verb}
use Rattle.sg_script.specs.declared.verbs.Verb.TheVariants.{Compute, Sleep, Send, ISend, Recv, IRecv, Wait, Barrier, Yield, Lock, Unlock, Acquire, Release, Create, Join, Kill, Suspend, Resume, Bcast, Reduce, Allreduce, Alltoall}
use Rattle.sg_script.specs.Known.{ScriptNames}
use Rattle.sg_script.specs.Line.{actions, alone, both, computing_of, no_words, one_of, receiving_of, script_amount, sending_of, then_go, together}

-- each action with its word, the usual ones first
abbrev pub all_verbs : List (List ℕ × Verb)
all_verbs = (codes "compute", Compute) ∷ (codes "sleep", Sleep) ∷ (codes "send", Send)
    ∷ (codes "isend", ISend) ∷ (codes "recv", Recv) ∷ (codes "irecv", IRecv)
    ∷ (codes "wait", Wait) ∷ (codes "barrier", Barrier) ∷ (codes "yield", Yield)
    ∷ (codes "lock", Lock) ∷ (codes "unlock", Unlock)
    ∷ (codes "acquire", Acquire) ∷ (codes "release", Release)
    ∷ (codes "create", Create) ∷ (codes "join", Join) ∷ (codes "kill", Kill)
    ∷ (codes "suspend", Suspend) ∷ (codes "resume", Resume) ∷ (codes "bcast", Bcast)
    ∷ (codes "reduce", Reduce) ∷ (codes "allreduce", Allreduce) ∷ (codes "alltoall", Alltoall) ∷ []

-- the action of this word
abbrev pub verb_of : List ℕ → Option Verb
verb_of word = option_map (λ row. row.1) (find (λ row. bytes_eq row.0 word) all_verbs)

-- the action of a word that is none of the usual ones
abbrev pub rarer_verb_of : List ℕ → Option Verb
rarer_verb_of word = option_map (λ row. row.1) (find (λ row. bytes_eq row.0 word) (drop 11 all_verbs))

-- what a verb makes of its arguments
abbrev pub operation_of : ScriptNames → Verb → List (List ℕ) → Result Operation LineFault
operation_of known Compute = alone (λ c. action.Compute c.0 c.1) computing_of
operation_of known Sleep = alone action.Sleep (one_of (λ text. result_ok (time_of text)) BadAmount)
operation_of known Send = alone (λ s. action.Send s.0 s.1 s.2) (sending_of known)
operation_of known ISend = alone (λ s. action.ISend s.0 s.1 s.2) (sending_of known)
operation_of known Recv = alone action.Recv (receiving_of known)
operation_of known IRecv = alone action.IRecv (receiving_of known)
operation_of known Wait = alone (λ _. action.Wait) no_words
operation_of known Barrier = alone (λ _. action.Barrier) no_words
operation_of known Yield = alone (λ _. action.Yield) no_words
operation_of known Lock = alone action.Lock (one_of known.mutex UnknownObject)
operation_of known Unlock = alone action.Unlock (one_of known.mutex UnknownObject)
operation_of known Acquire = alone action.Acquire (one_of known.semaphore UnknownObject)
operation_of known Release = alone action.Release (one_of known.semaphore UnknownObject)
operation_of known Create = alone action.Create (one_of known.anyone UnknownActor)
operation_of known Join = alone action.Join (one_of known.anyone UnknownActor)
operation_of known Kill = alone action.Kill (one_of known.anyone UnknownActor)
operation_of known Suspend = alone action.Suspend (one_of known.anyone UnknownActor)
operation_of known Resume = alone action.Resume (one_of known.anyone UnknownActor)
operation_of known Bcast = together collective.Bcast (one_of (λ text. result_ok (amount_of text)) BadAmount)
operation_of known Reduce = together (λ b. collective.Reduce b.0 b.1) (both script_amount script_amount)
operation_of known Allreduce = together (λ b. collective.Allreduce b.0 b.1) (both script_amount script_amount)
operation_of known Alltoall = together collective.Alltoall (one_of (λ text. result_ok (amount_of text)) BadAmount)

-- what the action of a word makes of its arguments
abbrev pub operation_in : ScriptNames → List ℕ → List (List ℕ) → Result Operation LineFault
operation_in known word args =
    then_go (ok_or (find (λ row. bytes_eq row.0 word) (actions known)) UnknownAction) (λ row. row.1 args)
