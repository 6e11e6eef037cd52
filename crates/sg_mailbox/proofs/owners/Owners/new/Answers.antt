use Rattle.std.proofs.Common.{ap}
use Rattle.sg_queues.specs.Serials as serials
use Rattle.sg_mailbox.proofs.Tables.{table_none}
use Rattle.sg_mailbox.proofs.owners.Owners.new.Goals as goal

pub returns : goal.returns
returns c = ap (λ l. record { whose = l; room = 0 }) (table_none (serials.at c.new.result) 1)
