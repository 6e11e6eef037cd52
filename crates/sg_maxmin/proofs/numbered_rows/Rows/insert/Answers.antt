use Rattle.std.proofs.Common.{◌≡◌, ℕ, ◌-◌, ◌<◌, Some, None, cond, is_some, length, set, get_or, sym, ap, subst, ◌∙◌, arith, count_by}
use Rattle.std.proofs.lemmas.Grind.{get_or_default_zero}
use Rattle.sg_maxmin.specs.kept.Cells.{rows_in}
use Rattle.sg_maxmin.specs.kept.Numbers.{AreFree, row_at, free_count}
use Rattle.sg_maxmin.proofs.FreeNumbers.{free_taken, count_set, rows_set}
use Rattle.sg_maxmin.proofs.numbered_rows.Rows.insert.Goals as goal

some : (c : goal.After-self-2-1) → 0 < c.self.inside.count
some c =
    let room : 0 < free_count (rows_in c.self.inside.rows.items) = subst (λ rows. 0 < free_count rows) (sym c.self.view_is) c.requires in
    omega (arith, room, c.self.invariant.counted)

-- the number that is given is the last of the free ones
given : (c : goal.After-self-2-1) → c.index.result.now ≡ get_or c.self.inside.free.items (c.self.inside.count - 1) 0
given c =
    let free = c.self.inside.free.items in
    let within : c.self.inside.count - 1 < length free = omega (arith, c.self.invariant.len, c.self.invariant.counted, some c) in
    c.index.ensures ∙ get_or_default_zero free (c.self.inside.count - 1) c.index.result.now within

pub invariant_of-self : goal.invariant_of-self
invariant_of-self c =
    let cells = c.self.inside.rows.items in
    subst (λ rows. AreFree rows c.self.inside.free.items (c.self.inside.count - 1)) (sym (rows_set cells c.index.result.now c.cell_with.result (Some c.args.row) c.cell_with.ensures))
    (free_taken (rows_in cells) c.self.inside.free.items c.self.inside.count c.index.result.now c.args.row c.self.invariant (some c) (given c))

pub returns-clause-put : goal.returns-clause-put
returns-clause-put c =
    rows_set c.self.inside.rows.items c.index.result.now c.cell_with.result (Some c.args.row) c.cell_with.ensures
    ∙ ap (λ rows. set rows c.index.result.now (Some c.args.row)) c.self.view_is

pub returns-clause-count : goal.returns-clause-count
returns-clause-count c =
    let cells = c.self.inside.rows.items in
    let rows = rows_in cells in
    let id = c.index.result.now in
    let last : c.self.inside.count - 1 < c.self.inside.count = omega (arith, some c) in
    let within : id < length rows = omega (arith, given c, c.self.invariant.in_range (c.self.inside.count - 1) last) in
    let vacant : row_at rows id ≡ None = ap (λ k. get_or rows k None) (given c) ∙ c.self.invariant.vacant (c.self.inside.count - 1) last in
    let none : ◌≡◌ {A = ℕ} (cond (is_some (row_at rows id)) 1 0) 0 = ap (λ o. cond (is_some o) 1 0) vacant in
    omega (arith, ap (λ r. count_by is_some r) (rows_set cells id c.cell_with.result (Some c.args.row) c.cell_with.ensures), count_set rows id (Some c.args.row) within, none, ap (λ r. count_by is_some r) c.self.view_is)
