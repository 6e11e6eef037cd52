use Rattle.std.proofs.Common.{◌≡◌, ℕ, ◌<◌, Some, cond, is_some, IsSome, length, set, sym, ap, subst, ◌∙◌, arith, count_by}
use Rattle.sg_maxmin.specs.kept.Cells.{rows_in}
use Rattle.sg_maxmin.specs.kept.Numbers.{AreFree, row_at}
use Rattle.sg_maxmin.proofs.FreeNumbers.{count_set, free_replaced, rows_set, some_in}
use Rattle.sg_maxmin.proofs.numbered_rows.Rows.replace.Goals as goal

pub invariant_of-self : goal.invariant_of-self
invariant_of-self c =
    let cells = c.self.inside.rows.items in
    let is_there = subst (λ r. IsSome (row_at r c.args.id)) (sym c.self.view_is) c.requires in
    subst (λ rows. AreFree rows c.self.inside.free.items c.self.inside.count) (sym (rows_set cells c.args.id c.cell_with.result (Some c.args.row) c.cell_with.ensures))
    (free_replaced (rows_in cells) c.self.inside.free.items c.self.inside.count c.args.id c.args.row c.self.invariant is_there)

pub returns-clause-put : goal.returns-clause-put
returns-clause-put c =
    rows_set c.self.inside.rows.items c.args.id c.cell_with.result (Some c.args.row) c.cell_with.ensures
    ∙ ap (λ rows. set rows c.args.id (Some c.args.row)) c.self.view_is

pub returns-clause-count : goal.returns-clause-count
returns-clause-count c =
    let cells = c.self.inside.rows.items in
    let rows = rows_in cells in
    let is_there = subst (λ r. IsSome (row_at r c.args.id)) (sym c.self.view_is) c.requires in
    let within : c.args.id < length rows = some_in rows c.args.id is_there in
    let one : ◌≡◌ {A = ℕ} (cond (is_some (row_at rows c.args.id)) 1 0) 1 = ap (λ b. cond b 1 0) is_there in
    omega (arith, ap (λ r. count_by is_some r) (rows_set cells c.args.id c.cell_with.result (Some c.args.row) c.cell_with.ensures), count_set rows c.args.id (Some c.args.row) within, one, ap (λ r. count_by is_some r) c.self.view_is)
