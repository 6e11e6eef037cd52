use Rattle.std.proofs.Common.{ap, ◌∙◌, arith, rules}
use Rattle.sg_queues.specs.Serials as serials
use Rattle.sg_mailbox.specs.Owners.{Owned}
use Rattle.sg_mailbox.proofs.Tables.{table_same}
use Rattle.sg_mailbox.proofs.owners.Owners.reserve.Goals as goal

pub returns-in_err-reserve : goal.returns-in_err-reserve
returns-in_err-reserve c =
    let s = c.self.inside in
    record {
      room = search rules;
      grows = search rules;
      kept = ap (λ l. record { whose = l; room = s.room }) (table_same (serials.at c.reserve.new.self) (serials.at s.owners) 1 s.drawn (λ k from to. c.reserve.ensures.same k))
          ∙ ap (λ (o : Owned). record o { room = s.room }) c.self.view_is;
    }

pub returns : goal.returns
returns c =
    let s = c.self.inside in
    let was = ap (λ (o : Owned). o.room) c.self.view_is in
    record {
      room = search rules;
      grows = omega arith;
      kept = ap (λ l. record { whose = l; room = c.max-n.result }) (table_same (serials.at c.reserve.new.self) (serials.at s.owners) 1 s.drawn (λ k from to. c.reserve.ensures.same k))
          ∙ ap (λ (o : Owned). record o { room = c.max-n.result }) c.self.view_is;
    }
