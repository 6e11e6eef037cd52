use Rattle.std.proofs.Common.{◌≡◌, ◌≢◌, ◌-◌, ℕ, false, true, cond, nat_eq, Option, Some, set, ap, ◌∙◌, arith}
use Rattle.sg_queues.specs.Serials as serials
use Rattle.sg_mailbox.specs.declared.owners.Whose.{Whose}
use Rattle.sg_mailbox.specs.Owners.{Owned, whose_of, table}
use Rattle.sg_mailbox.proofs.Tables.{table-set}
use Rattle.sg_mailbox.proofs.owners.Owners.put.Goals as goal

differs : (a b : ℕ) → b ≢ a → nat_eq a b ≡ false
differs a b h = grind (arith, h)

agrees : (a : ℕ) → nat_eq a a ≡ true
agrees a = grind arith

pub returns : goal.returns
returns c =
    let s = c.self.inside in
    let f : ℕ → Option Whose = serials.at s.owners in
    let g : ℕ → Option Whose = serials.at c.insert.new.self in
    let up = c.insert.ensures.puts in
    let here : g c.args.serial.0 ≡ Some c.args.whose = up c.args.serial.0 ∙ ap (λ b. cond b (Some c.args.whose) (f c.args.serial.0)) (agrees c.args.serial.0) in
    let apart : (j : ℕ) → j ≢ c.args.serial.0 → g j ≡ f j = λ j away. up j ∙ ap (λ b. cond b (Some c.args.whose) (f j)) (differs c.args.serial.0 j away) in
    ap (λ l. record { whose = l; room = s.room - 1 }) (table-set f g 1 s.drawn c.args.serial.0 c.requires.drawn.from apart ∙ ap (λ x. set (table f 1 s.drawn) (c.args.serial.0 - 1) (whose_of x)) here)
    ∙ ap (λ (o : Owned). record { whose = set o.whose (c.args.serial.0 - 1) c.args.whose; room = o.room - 1 }) c.self.view_is
