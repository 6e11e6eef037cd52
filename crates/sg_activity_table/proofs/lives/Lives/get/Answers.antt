use Rattle.std.proofs.Common.{◌<◌, Some, option_map, length, sym, ap, ◌∙◌, arith}
use Rattle.std.specs.Option.{option_copied}
use Rattle.sg_activity_table.specs.Cells.{live_of, live_at}
use Rattle.sg_activity_table.specs.Pool.{Pool, slot_at}
use Rattle.sg_activity_table.proofs.Keeping.{live_read}
use Rattle.sg_activity_table.proofs.Listed.{length-listed}
use Rattle.sg_activity_table.proofs.lives.Lives.get.Goals as goal

pub returns : goal.returns
returns c =
    let keys = c.self.inside.keys in
    let slab = c.self.inside.slab in
    let key = c.args.key in
    let within : key < keys = omega (arith, c.requires, ap (λ (p : Pool). length p.slots) c.self.view_is, length-listed keys (live_at slab)) in
    ap Some c.live_of.ensures ∙ ap (option_map live_of) (sym (ap option_copied c.in_ok-cell.was) ∙ c.get.ensures)
    ∙ sym (live_read keys key slab within) ∙ ap (λ (p : Pool). slot_at p.slots key) c.self.view_is

pub returns-in_err-cell : goal.returns-in_err-cell
returns-in_err-cell c =
    let keys = c.self.inside.keys in
    let slab = c.self.inside.slab in
    let key = c.args.key in
    let within : key < keys = omega (arith, c.requires, ap (λ (p : Pool). length p.slots) c.self.view_is, length-listed keys (live_at slab)) in
    c.from_residual.ensures ∙ ap (option_map live_of) (sym (ap option_copied c.in_err-cell.was) ∙ c.get.ensures)
    ∙ sym (live_read keys key slab within) ∙ ap (λ (p : Pool). slot_at p.slots key) c.self.view_is
