use Rattle.std.proofs.Common.{◌≡◌, ◌+◌, ◌-◌, ◌<◌, ℕ, Option, get_or, length, sym, ap, ◌∙◌, arith}
use Rattle.sg_queues.specs.Serials as serials
use Rattle.sg_mailbox.specs.declared.owners.How.TheVariants as how
use Rattle.sg_mailbox.specs.declared.owners.Whose.{Whose}
use Rattle.sg_mailbox.specs.declared.owners.Whose.TheVariants.{Over}
use Rattle.sg_mailbox.specs.Owners.{Owned, whose_of}
use Rattle.sg_mailbox.proofs.Tables.{length-table, table_at}
use Rattle.sg_mailbox.proofs.owners.Owners.of.Goals as goal

pub returns : goal.returns
returns c =
    let s = c.self.inside in
    let f : ℕ → Option Whose = serials.at s.owners in
    let at : 1 + (c.args.serial.0 - 1) ≡ c.args.serial.0 = omega (arith, c.requires.from) in
    let within : c.args.serial.0 - 1 < s.drawn = omega (arith, c.requires.from, c.requires.to, ap (λ (o : Owned). length o.whose) c.self.view_is, length-table f 1 s.drawn) in
    c.whose_of.ensures
    ∙ ap whose_of c.get.ensures
    ∙ sym (table_at f 1 s.drawn (c.args.serial.0 - 1) (Over how.Done) within ∙ ap (λ k. whose_of (f k)) at)
    ∙ ap (λ (o : Owned). get_or o.whose (c.args.serial.0 - 1) (Over how.Done)) c.self.view_is
