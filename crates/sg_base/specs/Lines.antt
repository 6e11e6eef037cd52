-- Which calls have a line in the trace.
use Rattle.std.specs.Prelude.{⊤}
use Rattle.sg_base.specs.declared.call.Call.{Call}
use Rattle.sg_base.specs.declared.call.Call.TheVariants as call

-- a call that does something, so that it has a line
abbrev pub HasLine : Call → Type 0
HasLine call.Ask = ⊥
HasLine (call.Compute flops priority) = ⊤
HasLine (call.Sleep ns) = ⊤
HasLine (call.Send mailbox bytes message rate) = ⊤
HasLine (call.Recv mailbox) = ⊤
HasLine (call.ISend mailbox bytes message rate) = ⊤
HasLine (call.IRecv mailbox) = ⊤
HasLine call.Wait = ⊤
HasLine (call.Lock mutex) = ⊤
HasLine (call.Unlock mutex) = ⊤
HasLine (call.Acquire semaphore) = ⊤
HasLine (call.Release semaphore) = ⊤
HasLine call.Barrier = ⊤
HasLine (call.Create actor) = ⊤
HasLine (call.Join actor) = ⊤
HasLine (call.Kill actor) = ⊤
HasLine (call.Suspend actor) = ⊤
HasLine (call.Resume actor) = ⊤
HasLine call.Yield = ⊤
HasLine call.Exit = ⊥
