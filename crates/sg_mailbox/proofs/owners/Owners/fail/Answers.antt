use Rattle.std.proofs.Common.{◌≡◌, ◌≢◌, ◌+◌, ◌-◌, ◌<◌, ℕ, false, true, cond, nat_eq, Option, None, Some, set, get_or, length, refl, sym, ap, subst, ◌∙◌, arith}
use Rattle.std.specs.Option.{IsSome}
use Rattle.sg_queues.specs.Serials as serials
use Rattle.sg_mailbox.specs.declared.owners.How.TheVariants as how
use Rattle.sg_mailbox.specs.declared.owners.Whose.{Whose}
use Rattle.sg_mailbox.specs.declared.owners.Whose.TheVariants.{Over}
use Rattle.sg_mailbox.specs.Owners.{Owned, whose_of, table}
use Rattle.sg_mailbox.proofs.Tables.{length-table, table_at, table-set}
use Rattle.sg_mailbox.proofs.owners.Owners.fail.Goals as goal

differs : (a b : ℕ) → b ≢ a → nat_eq a b ≡ false
differs a b h = grind (arith, h)

agrees : (a : ℕ) → nat_eq a a ≡ true
agrees a = grind arith

-- whose it is in the map is whose it is in the list
found : (owned : Owned) (f : ℕ → Option Whose) (drawn serial : ℕ) → 0 < serial → serial - 1 < drawn → table f 1 drawn ≡ owned.whose → get_or owned.whose (serial - 1) (Over how.Done) ≡ whose_of (f serial)
found owned f drawn serial from within is =
    let at : 1 + (serial - 1) ≡ serial = omega (arith, from) in
    ap (λ l. get_or l (serial - 1) (Over how.Done)) (sym is) ∙ table_at f 1 drawn (serial - 1) (Over how.Done) within ∙ ap (λ k. whose_of (f k)) at

pub unreachable-requires : goal.unreachable-requires
unreachable-requires c =
    let s = c.self.inside in
    let f : ℕ → Option Whose = serials.at s.owners in
    let within : c.args.serial.0 - 1 < s.drawn = omega (arith, c.requires.drawn.from, c.requires.drawn.to, ap (λ (o : Owned). length o.whose) c.self.view_is, length-table f 1 s.drawn) in
    let none : f c.args.serial.0 ≡ None = sym c.replace.ensures.was ∙ c.in-None.is in
    c.requires.under_way (found c.args.self.now f s.drawn c.args.serial.0 c.requires.drawn.from within (ap (λ (o : Owned). o.whose) c.self.view_is) ∙ ap whose_of none)

pub returns-clause-was : goal.returns-clause-was
returns-clause-was c =
    let s = c.self.inside in
    let f : ℕ → Option Whose = serials.at s.owners in
    let within : c.args.serial.0 - 1 < s.drawn = omega (arith, c.requires.drawn.from, c.requires.drawn.to, ap (λ (o : Owned). length o.whose) c.self.view_is, length-table f 1 s.drawn) in
    let there : Some c.in-Some.was ≡ f c.args.serial.0 = sym c.in-Some.is ∙ c.replace.ensures.was in
    ap whose_of there ∙ sym (found c.args.self.now f s.drawn c.args.serial.0 c.requires.drawn.from within (ap (λ (o : Owned). o.whose) c.self.view_is))

pub returns-clause-is : goal.returns-clause-is
returns-clause-is c =
    let s = c.self.inside in
    let serial = c.args.serial.0 in
    let w = Over how.Failed in
    let f : ℕ → Option Whose = serials.at s.owners in
    let g : ℕ → Option Whose = serials.at c.replace.new.self in
    let some : IsSome c.replace.result = subst IsSome (sym c.in-Some.is) refl in
    let up = c.replace.ensures.puts some in
    let here : g serial ≡ Some w = up serial ∙ ap (λ b. cond b (Some w) (f serial)) (agrees serial) in
    let apart : (j : ℕ) → j ≢ serial → g j ≡ f j = λ j away. up j ∙ ap (λ b. cond b (Some w) (f j)) (differs serial j away) in
    ap (λ l. record { whose = l; room = s.room }) (table-set f g 1 s.drawn serial c.requires.drawn.from apart ∙ ap (λ x. set (table f 1 s.drawn) (serial - 1) (whose_of x)) here)
    ∙ ap (λ (o : Owned). record o { whose = set o.whose (serial - 1) w }) c.self.view_is
