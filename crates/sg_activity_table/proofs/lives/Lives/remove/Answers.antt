use Rattle.std.proofs.Common.{◌≡◌, ◌<◌, ℕ, cond, count_by, IsSome, Option, None, Some, length, option_map, set, subst, sym, ap, ◌∙◌, arith}
use Rattle.sg_queues.specs.Serials as serials
use Rattle.sg_activity_table.specs.Slots.{passes}
use Rattle.sg_activity_table.specs.Cells.{live_of, live_at, lives_in}
use Rattle.sg_activity_table.specs.Pool.{Pool, FindsEach, goes_on, slot_at}
use Rattle.sg_activity_table.proofs.Keeping.{live_read, lives_set, there_in}
use Rattle.sg_activity_table.proofs.Listed.{length-listed}
use Rattle.sg_activity_table.proofs.Found.{agrees, differs, found_gone}
use Rattle.sg_activity_table.proofs.Pooled.{counts_set}
use Rattle.sg_activity_table.proofs.lives.Lives.remove.Goals as goal

pub remove-cell-requires : goal.remove-cell-requires
remove-cell-requires c = (there_in c.self.inside.keys c.args.key c.self.inside.slab (subst (λ (p : Pool). IsSome (slot_at p.slots c.args.key)) (sym c.self.view_is) c.requires)).1

pub overflow_sub-self : goal.overflow_sub-self
overflow_sub-self c =
    let s = c.self.inside in
    let slots = lives_in s.keys s.slab in
    let key = c.args.key in
    let old = live_of c.remove-cell.result in
    let low : key < s.keys = (there_in s.keys key s.slab (subst (λ (p : Pool). IsSome (slot_at p.slots key)) (sym c.self.view_is) c.requires)).0 in
    let within : key < length slots = omega (arith, low, length-listed s.keys (live_at s.slab)) in
    let at : slot_at slots key ≡ Some old = live_read s.keys key s.slab low ∙ ap (option_map live_of) c.remove-cell.ensures.value in
    omega (arith, c.self.invariant.goes, c.going_by.ensures, counts_set slots key None within, ap {B = ℕ} (λ o. cond (passes goes_on o) 1 0) at)

pub invariant_of-self : goal.invariant_of-self
invariant_of-self c =
    let s = c.self.inside in
    let slots = lives_in s.keys s.slab in
    let key = c.args.key in
    let old = live_of c.remove-cell.result in
    let low : key < s.keys = (there_in s.keys key s.slab (subst (λ (p : Pool). IsSome (slot_at p.slots key)) (sym c.self.view_is) c.requires)).0 in
    let within : key < length slots = omega (arith, low, length-listed s.keys (live_at s.slab)) in
    let at : slot_at slots key ≡ Some old = live_read s.keys key s.slab low ∙ ap (option_map live_of) c.remove-cell.ensures.value in
    let slots_are : lives_in s.keys c.remove-cell.new.self ≡ set slots key None = lives_set s.keys key s.slab c.remove-cell.new.self None low c.remove-cell.ensures.updates in
    let f : ℕ → Option ℕ = serials.at s.by_serial in
    let g : ℕ → Option ℕ = serials.at c.remove.new.self in
    let up = c.remove.ensures.puts in
    record {
      pool = record {
        above = λ k h. c.remove-cell.ensures.updates.others k (λ e. absurd (omega (arith, e, h, low))) ∙ c.self.invariant.pool.above k h;
        fits = omega (arith, c.self.invariant.pool.fits, c.remove-cell.ensures.capacity);
        free = omega (arith, c.self.invariant.pool.free, c.remove-cell.ensures.len);
      };
      keyed = subst (λ l. FindsEach l g) (sym slots_are) (found_gone slots f key c.self.invariant.keyed within g old at (up old.serial ∙ ap (λ b. cond b None (f old.serial)) (agrees old.serial)) (λ j ne. up j ∙ ap (λ b. cond b None (f j)) (differs old.serial j ne)));
      goes = omega (arith, c.self.invariant.goes, c.going_by.ensures, counts_set slots key None within, ap {B = ℕ} (λ o. cond (passes goes_on o) 1 0) at, ap (λ l. count_by (passes goes_on) l) slots_are);
      spare_room = omega (arith, c.self.invariant.spare_room, c.remove.ensures.room);
    }

pub returns : goal.returns
returns c =
    let s = c.self.inside in
    let key = c.args.key in
    let low : key < s.keys = (there_in s.keys key s.slab (subst (λ (p : Pool). IsSome (slot_at p.slots key)) (sym c.self.view_is) c.requires)).0 in
    record {
      slots = lives_set s.keys key s.slab c.remove-cell.new.self None low c.remove-cell.ensures.updates ∙ ap (λ (p : Pool). set p.slots key None) c.self.view_is;
      room = ap (λ (p : Pool). p.room) c.self.view_is;
    }
