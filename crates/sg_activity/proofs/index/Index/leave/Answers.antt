use Rattle.std.proofs.Common.{◌≡◌, ◌<◌, [], length, map, set, refl, subst, ap, ◌∙◌, arith}
use Rattle.std.proofs.lemmas.List.{get_or_default, length-map}
use Rattle.sg_maxmin.specs.Chained.{GainsUses}
use Rattle.sg_maxmin.proofs.ChainLemmas.{length-resources}
use Rattle.sg_activity.specs.declared.index.Uses.{Uses}
use Rattle.sg_activity.specs.kept.Rows.{Indexed, IsRow, row_at, things_of, uses_at}
use Rattle.sg_activity.proofs.Chained.{leave_indexed, no_uses, nothing_of, put_row, row_mapped}
use Rattle.sg_activity.proofs.index.Index.leave.Goals as goal

pub invariant_of-self : goal.invariant_of-self
invariant_of-self c =
    let rows = c.self.inside.rows.items in
    let old = c.self.inside.chains in
    let new = c.remove.new.self in
    let key = c.args.key in
    let within : key < length rows = omega (arith, c.requires, ap (λ (i : Indexed). length i.rows) c.self.view_is, length-map rows (things_of old.uses)) in
    let read : c.index-row.result.now ≡ uses_at rows key = c.index-row.ensures ∙ get_or_default rows key c.index-row.result.now no_uses within in
    leave_indexed rows old new key no_uses c.self.invariant within c.remove.ensures.kept refl (subst (λ (r : Uses). GainsUses new.users old.users key (things_of old.uses r)) read c.remove.ensures.users)

pub returns : goal.returns
returns c =
    let rows = c.self.inside.rows.items in
    let old = c.self.inside.chains in
    let new = c.remove.new.self in
    let uses = old.uses in
    let key = c.args.key in
    let within : key < length rows = omega (arith, c.requires, ap (λ (i : Indexed). length i.rows) c.self.view_is, length-map rows (things_of uses)) in
    let read : c.index-row.result.now ≡ uses_at rows key = c.index-row.ensures ∙ get_or_default rows key c.index-row.result.now no_uses within in
    let row : Uses = uses_at rows key in
    let long : length (things_of uses row) ≡ row.count = length-resources key row.count uses row.first (c.self.invariant.chained key) in
    let seen : length (row_at (map (things_of uses) rows) key) ≡ length (row_at c.args.self.now.rows key) = ap (λ (i : Indexed). length (row_at i.rows key)) c.self.view_is in
    record {
      row = subst (λ (i : Indexed). IsRow i.rows (map (things_of new.uses) (set rows key no_uses)) key []) c.self.view_is (put_row rows old new key no_uses c.self.invariant within c.remove.ensures.kept [] (nothing_of new.uses));
      users = c.remove.ensures.len ∙ ap (λ (i : Indexed). length i.users) c.self.view_is;
      room = omega (arith, c.remove.ensures.room, ap (λ (r : Uses). r.count) read, long, ap length (row_mapped uses rows key), seen, ap (λ (i : Indexed). i.room) c.self.view_is);
    }
