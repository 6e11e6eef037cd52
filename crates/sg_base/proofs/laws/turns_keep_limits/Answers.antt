use Rattle.std.proofs.Common.{◌≡◌, ℕ, List, length, arith}
use Rattle.std.proofs.lemmas.Grind.{common_steps}
use Rattle.sg_base.specs.declared.call.Action.{Action}
use Rattle.sg_base.specs.declared.call.Action.TheVariants as action
use Rattle.sg_base.specs.declared.call.Answer.{Answer}
use Rattle.sg_base.specs.declared.call.Answer.TheVariants as answer
use Rattle.sg_base.specs.declared.call.Msg.{Msg}
use Rattle.sg_base.specs.declared.call.Msg.TheVariants as msg
use Rattle.sg_base.specs.declared.ids.ActorId.{ActorId}
use Rattle.sg_base.specs.Mind.{Kind, IsShaped, ActorsFrom, replay, worker, master, churn, ended}
use Rattle.sg_base.specs.Turn.{call_of, replay_turn, worker_got, worker_turn, master_turn, churn_turn, turn_of}
use Rattle.sg_base.specs.Limits.{Extent, IsActorIn, IsActorNumber, IsAction, IsAnswer, IsMsg, IsCall}
use Rattle.std.specs.Prelude.{slice_index}
use Rattle.sg_base.proofs.laws.turns_keep_limits.Goals as goal

action_call : (extent : Extent) (me : ActorId) (what : Action) → IsActorIn extent me → IsAction extent what → IsCall extent (call_of me what)
action_call extent me (action.Compute flops priority) is h = h
action_call extent me (action.Sleep ns) is h = h
action_call extent me (action.Send to bytes rate) is (there, h, slow) = ((is, there), h, tt, slow)
action_call extent me (action.Recv from) is h = (h, is)
action_call extent me (action.ISend to bytes rate) is (there, h, slow) = ((is, there), h, tt, slow)
action_call extent me (action.IRecv from) is h = (h, is)
action_call extent me action.Wait is h = tt
action_call extent me (action.Lock id) is h = h
action_call extent me (action.Unlock id) is h = h
action_call extent me (action.Acquire id) is h = h
action_call extent me (action.Release id) is h = h
action_call extent me action.Barrier is h = tt
action_call extent me (action.Create actor) is h = h
action_call extent me (action.Join actor) is h = h
action_call extent me (action.Kill actor) is h = h
action_call extent me (action.Suspend actor) is h = h
action_call extent me (action.Resume actor) is h = h
action_call extent me action.Yield is h = tt

-- the only number is an actor's
only : (extent : Extent) (numbers : List ℕ) → length numbers ≡ 1 → ActorsFrom extent 0 numbers → IsActorNumber extent (slice_index numbers 0)
only extent numbers one actors = actors 0 (omega arith) (omega arith)

got_call : (extent : Extent) (n : List ℕ) (m : Msg) → IsShaped extent worker n → IsMsg m → IsCall extent (worker_got n m).call
got_call extent n msg.Empty (one, actors) h = only extent n one actors
got_call extent n (msg.Task flops) shaped h = (h, (omega arith, omega arith))
got_call extent n msg.Stop shaped h = tt

replay_call : (extent : Extent) (n : List ℕ) (a : Answer) → IsShaped extent replay n → IsAnswer extent a → IsCall extent (replay_turn n a).call
replay_call extent n answer.Start shaped h = tt
replay_call extent n (answer.Act a) (one, actors) h = action_call extent _ a (only extent n one actors) h
replay_call extent n answer.NoMore shaped h = tt
replay_call extent n answer.Done shaped h = tt
replay_call extent n (answer.Got m) shaped h = tt
replay_call extent n answer.Refused shaped h = tt
replay_call extent n answer.Failed shaped h = tt

worker_call : (extent : Extent) (n : List ℕ) (a : Answer) → IsShaped extent worker n → IsAnswer extent a → IsCall extent (worker_turn n a).call
worker_call extent n answer.Start (one, actors) h = only extent n one actors
worker_call extent n (answer.Act a) (one, actors) h = only extent n one actors
worker_call extent n answer.NoMore (one, actors) h = only extent n one actors
worker_call extent n answer.Done (one, actors) h = only extent n one actors
worker_call extent n (answer.Got m) shaped h = got_call extent n m shaped h
worker_call extent n answer.Refused (one, actors) h = only extent n one actors
worker_call extent n answer.Failed (one, actors) h = only extent n one actors

master_call : (extent : Extent) (n : List ℕ) → IsShaped extent master n → IsCall extent (master_turn n).call
master_call extent n h = grind (arith, common_steps)

churn_call : (extent : Extent) (n : List ℕ) → IsShaped extent churn n → IsCall extent (churn_turn n).call
churn_call extent n h = grind (arith, common_steps)

by_kind : (extent : Extent) (k : Kind) (n : List ℕ) (a : Answer) → IsShaped extent k n → IsAnswer extent a → IsCall extent (turn_of k n a).call
by_kind extent replay n a shaped h = replay_call extent n a shaped h
by_kind extent worker n a shaped h = worker_call extent n a shaped h
by_kind extent master n a shaped h = master_call extent n shaped
by_kind extent churn n a shaped h = churn_call extent n shaped
by_kind extent ended n a shaped h = tt

pub returns-clause-call : goal.returns-clause-call
returns-clause-call c extent m a shaped h = by_kind extent m.kind m.numbers a shaped h
