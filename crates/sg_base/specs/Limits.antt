-- The limits of amounts and times, and which numbers stand for something that exists.
use Rattle.std.specs.Prelude.{ℕ, ◌<◌, ◌≤◌, ◌^◌, ⊤}
use Rattle.sg_base.specs.declared.ids.ActorId.{ActorId}
use Rattle.sg_base.specs.declared.ids.BoxId.{BoxId}
use Rattle.sg_base.specs.declared.ids.BoxId.TheVariants as box
use Rattle.sg_base.specs.declared.call.Action.{Action}
use Rattle.sg_base.specs.declared.call.Action.TheVariants as action
use Rattle.sg_base.specs.declared.call.Answer.{Answer}
use Rattle.sg_base.specs.declared.call.Answer.TheVariants as answer
use Rattle.sg_base.specs.declared.call.Call.{Call}
use Rattle.sg_base.specs.declared.call.Call.TheVariants as call
use Rattle.sg_base.specs.declared.call.Msg.{Msg}
use Rattle.sg_base.specs.declared.call.Msg.TheVariants as msg
use Rattle.sg_base.specs.declared.trace_record.End.{End}
use Rattle.sg_base.specs.declared.trace_record.End.TheVariants as end

-- flops and bytes
abbrev pub IsAmount : ℕ → Type 0
IsAmount n = n ≤ 1000000000000000

-- how much more an execution gets of its host than one of priority 1
abbrev pub IsPriority : ℕ → Type 0
IsPriority n = (0 < n) × (n ≤ 1000)

-- bytes a second that a message is to have at most; 0 stands for none
abbrev pub IsRate : ℕ → Type 0
IsRate n = n ≤ 1000000000000000

-- nanoseconds of a sleep
abbrev pub IsTime : ℕ → Type 0
IsTime n = n ≤ 1000000000000000000

-- how many actors, mutexes and semaphores there are
pub record Extent : Type 0 where
  pub actors : ℕ
  pub mutexes : ℕ
  pub semaphores : ℕ

-- actors are numbered from 1 on
abbrev pub IsActorNumber : Extent → ℕ → Type 0
IsActorNumber extent number = (0 < number) × (number ≤ extent.actors)

abbrev pub IsActorIn : Extent → ActorId → Type 0
IsActorIn extent actor = IsActorNumber extent actor.0

-- mutexes and semaphores are numbered from 0 on
abbrev pub IsMutexIn : Extent → ℕ → Type 0
IsMutexIn extent mutex = mutex < extent.mutexes

abbrev pub IsSemaphoreIn : Extent → ℕ → Type 0
IsSemaphoreIn extent semaphore = semaphore < extent.semaphores

abbrev pub IsBoxIn : Extent → BoxId → Type 0
IsBoxIn extent (box.Pair from to) = IsActorIn extent from × IsActorIn extent to
IsBoxIn extent (box.Named actor) = IsActorIn extent actor

abbrev pub IsMsg : Msg → Type 0
IsMsg msg.Empty = ⊤
IsMsg (msg.Task flops) = IsAmount flops
IsMsg msg.Stop = ⊤

-- the amounts and times of an action keep to their limits, and what it names exists
abbrev pub IsAction : Extent → Action → Type 0
IsAction extent (action.Compute flops priority) = IsAmount flops × IsPriority priority
IsAction extent (action.Sleep ns) = IsTime ns
IsAction extent (action.Send to bytes rate) = IsActorIn extent to × IsAmount bytes × IsRate rate
IsAction extent (action.Recv from) = IsActorIn extent from
IsAction extent (action.ISend to bytes rate) = IsActorIn extent to × IsAmount bytes × IsRate rate
IsAction extent (action.IRecv from) = IsActorIn extent from
IsAction extent action.Wait = ⊤
IsAction extent (action.Lock mutex) = IsMutexIn extent mutex
IsAction extent (action.Unlock mutex) = IsMutexIn extent mutex
IsAction extent (action.Acquire semaphore) = IsSemaphoreIn extent semaphore
IsAction extent (action.Release semaphore) = IsSemaphoreIn extent semaphore
IsAction extent action.Barrier = ⊤
IsAction extent (action.Create actor) = IsActorIn extent actor
IsAction extent (action.Join actor) = IsActorIn extent actor
IsAction extent (action.Kill actor) = IsActorIn extent actor
IsAction extent (action.Suspend actor) = IsActorIn extent actor
IsAction extent (action.Resume actor) = IsActorIn extent actor
IsAction extent action.Yield = ⊤

abbrev pub IsAnswer : Extent → Answer → Type 0
IsAnswer extent answer.Start = ⊤
IsAnswer extent (answer.Act what) = IsAction extent what
IsAnswer extent answer.NoMore = ⊤
IsAnswer extent answer.Done = ⊤
IsAnswer extent (answer.Got message) = IsMsg message
IsAnswer extent answer.Refused = ⊤
IsAnswer extent answer.Failed = ⊤

abbrev pub IsCall : Extent → Call → Type 0
IsCall extent call.Ask = ⊤
IsCall extent (call.Compute flops priority) = IsAmount flops × IsPriority priority
IsCall extent (call.Sleep ns) = IsTime ns
IsCall extent (call.Send mailbox bytes message rate) =
    IsBoxIn extent mailbox × IsAmount bytes × IsMsg message × IsRate rate
IsCall extent (call.Recv mailbox) = IsBoxIn extent mailbox
IsCall extent (call.ISend mailbox bytes message rate) =
    IsBoxIn extent mailbox × IsAmount bytes × IsMsg message × IsRate rate
IsCall extent (call.IRecv mailbox) = IsBoxIn extent mailbox
IsCall extent call.Wait = ⊤
IsCall extent (call.Lock mutex) = IsMutexIn extent mutex
IsCall extent (call.Unlock mutex) = IsMutexIn extent mutex
IsCall extent (call.Acquire semaphore) = IsSemaphoreIn extent semaphore
IsCall extent (call.Release semaphore) = IsSemaphoreIn extent semaphore
IsCall extent call.Barrier = ⊤
IsCall extent (call.Create actor) = IsActorIn extent actor
IsCall extent (call.Join actor) = IsActorIn extent actor
IsCall extent (call.Kill actor) = IsActorIn extent actor
IsCall extent (call.Suspend actor) = IsActorIn extent actor
IsCall extent (call.Resume actor) = IsActorIn extent actor
IsCall extent call.Yield = ⊤
IsCall extent call.Exit = ⊤

-- what was done took less than 10^33 nanoseconds
abbrev pub IsEnd : End → Type 0
IsEnd (end.Done ns) = ns < 10 ^ 33
IsEnd end.Refused = ⊤
IsEnd end.Failed = ⊤
