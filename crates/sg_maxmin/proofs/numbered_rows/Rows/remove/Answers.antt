use Rattle.std.proofs.Common.{◌≡◌, ℕ, ◌<◌, ◌+◌, Some, None, cond, is_some, IsSome, length, set, sym, ap, subst, ◌∙◌, arith, count_by}
use Rattle.sg_maxmin.specs.kept.Cells.{rows_in}
use Rattle.sg_maxmin.specs.kept.Numbers.{AreFree, row_at}
use Rattle.sg_maxmin.proofs.FreeNumbers.{count_set, free_given, row_read, rows_set, some_in}
use Rattle.sg_maxmin.proofs.numbered_rows.Rows.remove.Goals as goal

pub invariant_of-self : goal.invariant_of-self
invariant_of-self c =
    let cells = c.self.inside.rows.items in
    let within : c.args.id < length (rows_in cells) = some_in (rows_in cells) c.args.id (subst (λ r. IsSome (row_at r c.args.id)) (sym c.self.view_is) c.requires) in
    let there : row_at (rows_in cells) c.args.id ≡ Some c.in-Some.row = row_read cells c.args.id c.index.result.now within (sym c.index.ensures) ∙ sym c.row_in.ensures ∙ c.in-Some.is in
    subst (λ rows. AreFree rows (set c.self.inside.free.items c.self.inside.count c.args.id) (c.self.inside.count + 1)) (sym (rows_set cells c.args.id c.free_cell.result None c.free_cell.ensures))
    (free_given (rows_in cells) c.self.inside.free.items c.self.inside.count c.args.id c.in-Some.row c.self.invariant there)

pub returns-clause-taken : goal.returns-clause-taken
returns-clause-taken c =
    rows_set c.self.inside.rows.items c.args.id c.free_cell.result None c.free_cell.ensures
    ∙ ap (λ rows. set rows c.args.id None) c.self.view_is

pub returns-clause-count : goal.returns-clause-count
returns-clause-count c =
    let cells = c.self.inside.rows.items in
    let rows = rows_in cells in
    let is_there = subst (λ r. IsSome (row_at r c.args.id)) (sym c.self.view_is) c.requires in
    let within : c.args.id < length rows = some_in rows c.args.id is_there in
    let one : ◌≡◌ {A = ℕ} (cond (is_some (row_at rows c.args.id)) 1 0) 1 = ap (λ b. cond b 1 0) is_there in
    omega (arith, ap (λ r. count_by is_some r) (rows_set cells c.args.id c.free_cell.result None c.free_cell.ensures), count_set rows c.args.id None within, one, ap (λ r. count_by is_some r) c.self.view_is)
