use Rattle.std.proofs.Common.{◌≡◌, ◌<◌, [], length, map, set, subst, ap, ◌∙◌, arith}
use Rattle.std.proofs.lemmas.List.{length-map}
use Rattle.sg_activity.specs.declared.index.Uses.{Uses}
use Rattle.sg_activity.specs.kept.Rows.{Indexed, IsRow, row_at, things_of}
use Rattle.sg_activity.proofs.Chained.{enter_indexed, put_row}
use Rattle.sg_activity.proofs.index.Index.enter.Goals as goal

pub invariant_of-self : goal.invariant_of-self
invariant_of-self c =
    let rows = c.self.inside.rows.items in
    let old = c.self.inside.chains in
    let key = c.args.key in
    let row : Uses = record { first = c.add-first.result; count = length c.args.things.now } in
    let made = c.add-first.ensures in
    let within : key < length rows = omega (arith, c.requires.key, ap (λ (i : Indexed). length i.rows) c.self.view_is, length-map rows (things_of old.uses)) in
    let idle : row_at (map (things_of old.uses) rows) key ≡ [] = ap (λ (i : Indexed). row_at i.rows key) c.self.view_is ∙ c.requires.idle in
    enter_indexed rows old c.add-first.new.self key row c.self.invariant within made.kept c.args.things.now made.is made.resources made.users idle

pub returns : goal.returns
returns c =
    let rows = c.self.inside.rows.items in
    let old = c.self.inside.chains in
    let new = c.add-first.new.self in
    let key = c.args.key in
    let row : Uses = record { first = c.add-first.result; count = length c.args.things.now } in
    let made = c.add-first.ensures in
    let within : key < length rows = omega (arith, c.requires.key, ap (λ (i : Indexed). length i.rows) c.self.view_is, length-map rows (things_of old.uses)) in
    record {
      row = subst (λ (i : Indexed). IsRow i.rows (map (things_of new.uses) (set rows key row)) key c.args.things.now) c.self.view_is (put_row rows old new key row c.self.invariant within made.kept c.args.things.now made.resources);
      users = made.len ∙ ap (λ (i : Indexed). length i.users) c.self.view_is;
      room = omega (arith, made.room, ap length c.requires.idle, ap (λ (i : Indexed). i.room) c.self.view_is);
    }
