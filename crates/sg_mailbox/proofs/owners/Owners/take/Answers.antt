use Rattle.std.proofs.Common.{◌≡◌, ◌≢◌, ◌+◌, ◌-◌, ◌<◌, ℕ, false, true, cond, nat_eq, Option, None, set, get_or, length, sym, ap, ◌∙◌, arith}
use Rattle.sg_queues.specs.Serials as serials
use Rattle.sg_mailbox.specs.declared.owners.How.TheVariants as how
use Rattle.sg_mailbox.specs.declared.owners.Whose.{Whose}
use Rattle.sg_mailbox.specs.declared.owners.Whose.TheVariants.{Over}
use Rattle.sg_mailbox.specs.Owners.{Owned, whose_of, table}
use Rattle.sg_mailbox.proofs.Tables.{length-table, table_at, table-set}
use Rattle.sg_mailbox.proofs.owners.Owners.take.Goals as goal

differs : (a b : ℕ) → b ≢ a → nat_eq a b ≡ false
differs a b h = grind (arith, h)

agrees : (a : ℕ) → nat_eq a a ≡ true
agrees a = grind arith

pub returns-clause-is : goal.returns-clause-is
returns-clause-is c =
    let s = c.self.inside in
    let f : ℕ → Option Whose = serials.at s.owners in
    let g : ℕ → Option Whose = serials.at c.remove.new.self in
    let up = c.remove.ensures.puts in
    let here : g c.args.serial.0 ≡ None = up c.args.serial.0 ∙ ap (λ b. cond b None (f c.args.serial.0)) (agrees c.args.serial.0) in
    let apart : (j : ℕ) → j ≢ c.args.serial.0 → g j ≡ f j = λ j away. up j ∙ ap (λ b. cond b None (f j)) (differs c.args.serial.0 j away) in
    ap (λ l. record { whose = l; room = s.room }) (table-set f g 1 s.drawn c.args.serial.0 c.requires.from apart ∙ ap (λ x. set (table f 1 s.drawn) (c.args.serial.0 - 1) (whose_of x)) here)
    ∙ ap (λ (o : Owned). record o { whose = set o.whose (c.args.serial.0 - 1) (Over how.Done) }) c.self.view_is

pub returns-clause-was : goal.returns-clause-was
returns-clause-was c =
    let s = c.self.inside in
    let f : ℕ → Option Whose = serials.at s.owners in
    let at : 1 + (c.args.serial.0 - 1) ≡ c.args.serial.0 = omega (arith, c.requires.from) in
    let within : c.args.serial.0 - 1 < s.drawn = omega (arith, c.requires.from, c.requires.to, ap (λ (o : Owned). length o.whose) c.self.view_is, length-table f 1 s.drawn) in
    c.whose_of.ensures
    ∙ ap whose_of c.remove.ensures.was
    ∙ sym (table_at f 1 s.drawn (c.args.serial.0 - 1) (Over how.Done) within ∙ ap (λ k. whose_of (f k)) at)
    ∙ ap (λ (o : Owned). get_or o.whose (c.args.serial.0 - 1) (Over how.Done)) c.self.view_is
