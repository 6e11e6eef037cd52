use Rattle.std.proofs.Common.{◌≡◌, ◌+◌, ◌-◌, ◌<◌, ◌++◌, ◌∷◌, [], ℕ, false, true, cond, nat_eq, Some, length, Option, ap, ap₂, ◌∙◌, arith}
use Rattle.sg_queues.specs.Serials as serials
use Rattle.sg_mailbox.specs.declared.owners.Whose.{Whose}
use Rattle.sg_mailbox.specs.Owners.{Owned, whose_of, table}
use Rattle.sg_mailbox.proofs.Tables.{length-table, table-push, table_same}
use Rattle.sg_mailbox.proofs.owners.Owners.push.Goals as goal

differs : (a b : ℕ) → b < a → nat_eq a b ≡ false
differs a b h = grind (arith, h)

agrees : (a : ℕ) → nat_eq a a ≡ true
agrees a = grind arith

pub overflow_add-self-inside : goal.overflow_add-self-inside
overflow_add-self-inside c = omega (arith, c.requires.few, ap (λ (o : Owned). length o.whose) c.self.view_is, length-table (serials.at c.self.inside.owners) 1 c.self.inside.drawn)

pub overflow_add-self : goal.overflow_add-self
overflow_add-self c = omega (arith, c.requires.few, ap (λ (o : Owned). length o.whose) c.self.view_is, length-table (serials.at c.self.inside.owners) 1 c.self.inside.drawn)

pub returns : goal.returns
returns c =
    let s = c.self.inside in
    let f : ℕ → Option Whose = serials.at s.owners in
    let g : ℕ → Option Whose = serials.at c.insert.new.self in
    let up = c.insert.ensures.puts in
    let one : 1 + s.drawn ≡ s.drawn + 1 = omega arith in
    let here : g (s.drawn + 1) ≡ Some c.args.whose = up (s.drawn + 1) ∙ ap (λ b. cond b (Some c.args.whose) (f (s.drawn + 1))) (agrees (s.drawn + 1)) in
    let same : table g 1 s.drawn ≡ table f 1 s.drawn = table_same g f 1 s.drawn (λ k a b. up k ∙ ap (λ v. cond v (Some c.args.whose) (f k)) (differs (s.drawn + 1) k (omega (arith, b)))) in
    ap (λ l. record { whose = l; room = s.room - 1 }) (table-push g 1 s.drawn ∙ ap₂ (λ l x. l ++ whose_of x ∷ []) same (ap g one ∙ here))
    ∙ ap (λ (o : Owned). record { whose = o.whose ++ c.args.whose ∷ []; room = o.room - 1 }) c.self.view_is
