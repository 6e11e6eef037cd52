-- What a line says of a call.
use Rattle.std.specs.Prelude.{ℕ, Bool, true, false, if◌then◌else◌, List, [], ◌++◌, decimal, codes, Option}
use Rattle.std.specs.Option.{option_map_or}
use Rattle.sg_base.specs.declared.call.Call.{Call}
use Rattle.sg_base.specs.declared.call.Call.TheVariants as call
use Rattle.sg_base.specs.declared.ids.BoxId.{BoxId}
use Rattle.sg_base.specs.declared.ids.BoxId.TheVariants as box
use Rattle.sg_platform_rows.specs.Deployment.{Deployed}
use Rattle.sg_trace.specs.Names.{actor_name, mutex_id, semaphore_id}

-- the peer that a mailbox names: the receiver if the call sends, else the sender; or the actor whose name the mailbox has
abbrev pub peer_name : Bool → Deployed → BoxId → List ℕ
peer_name sends deployed (box.Pair from to) = actor_name deployed (if sends then to else from)
peer_name sends deployed (box.Named actor) = actor_name deployed actor

-- the text of a call; a completed receive has the bytes that it brought, one that is still blocked doesn't
abbrev pub call_text : Deployed → Option ℕ → Call → List ℕ
call_text deployed brought (call.Compute flops priority) = codes "compute " ++ decimal flops
call_text deployed brought (call.Sleep ns) = codes "sleep"
call_text deployed brought (call.Send to bytes message rate) = codes "send " ++ peer_name true deployed to ++ codes " " ++ decimal bytes
call_text deployed brought (call.Recv from) =
    codes "recv " ++ peer_name false deployed from ++ option_map_or (λ bytes. codes " " ++ decimal bytes) brought []
call_text deployed brought (call.ISend to bytes message rate) = codes "isend " ++ peer_name true deployed to ++ codes " " ++ decimal bytes
call_text deployed brought (call.IRecv from) = codes "irecv " ++ peer_name false deployed from
call_text deployed brought call.Wait = codes "wait"
call_text deployed brought (call.Lock mutex) = codes "lock " ++ mutex_id deployed mutex
call_text deployed brought (call.Unlock mutex) = codes "unlock " ++ mutex_id deployed mutex
call_text deployed brought (call.Acquire semaphore) = codes "acquire " ++ semaphore_id deployed semaphore
call_text deployed brought (call.Release semaphore) = codes "release " ++ semaphore_id deployed semaphore
call_text deployed brought call.Barrier = codes "barrier"
call_text deployed brought (call.Create actor) = codes "create " ++ actor_name deployed actor
call_text deployed brought (call.Join actor) = codes "join " ++ actor_name deployed actor
call_text deployed brought (call.Kill actor) = codes "kill " ++ actor_name deployed actor
call_text deployed brought (call.Suspend actor) = codes "suspend " ++ actor_name deployed actor
call_text deployed brought (call.Resume actor) = codes "resume " ++ actor_name deployed actor
call_text deployed brought call.Yield = codes "yield"
call_text deployed brought other = []
