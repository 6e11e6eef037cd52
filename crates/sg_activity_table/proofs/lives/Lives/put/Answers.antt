use Rattle.std.proofs.Common.{◌≡◌, ◌<◌, ◌≤◌, ℕ, cond, count_by, is_some, Option, None, Some, length, length-set, option_map, set, subst, sym, ap, ◌∙◌, arith}
use Rattle.std.proofs.lemmas.List.Sums.{count_by-le-length}
use Rattle.slab.specs.Slab.{slab_len}
use Rattle.sg_queues.specs.Serials as serials
use Rattle.sg_activity_table.specs.Slots.{passes}
use Rattle.sg_activity_table.specs.Cells.{live_of, live_at, lives_in}
use Rattle.sg_activity_table.specs.Pool.{Pool, FindsEach, IsMissing, goes_on, slot_at}
use Rattle.sg_activity_table.proofs.Keeping.{count_listed, live_read, lives_set}
use Rattle.sg_activity_table.proofs.Listed.{length-listed}
use Rattle.sg_activity_table.proofs.Found.{agrees, differs, found_put}
use Rattle.sg_activity_table.proofs.Pooled.{counts_set}
use Rattle.sg_activity_table.proofs.lives.Lives.put.Goals as goal

pub insert_below-key-requires : goal.insert_below-key-requires
insert_below-key-requires c =
    let s = c.self.inside in
    let few : count_by is_some (lives_in s.keys s.slab) ≤ slab_len s.slab = count_listed s.keys s.slab.slots in
    record {
      free = omega (arith, few, c.self.invariant.pool.free, c.requires.room, ap (λ (p : Pool). p.room) c.self.view_is);
      fits = c.self.invariant.pool.fits;
    }

pub overflow_add-self : goal.overflow_add-self
overflow_add-self c =
    let s = c.self.inside in
    let slots = lives_in s.keys s.slab in
    let put = c.insert_below-key in
    let key = put.result in
    let low : key < s.keys = put.ensures.below in
    let within : key < length slots = omega (arith, low, length-listed s.keys (live_at s.slab)) in
    let free : slot_at slots key ≡ None = live_read s.keys key s.slab low ∙ ap (option_map live_of) put.ensures.vacant in
    omega (arith, c.self.invariant.goes, c.going_by.ensures, counts_set slots key (Some c.args.live) within, ap {B = ℕ} (λ o. cond (passes goes_on o) 1 0) free, count_by-le-length (passes goes_on) (set slots key (Some c.args.live)), length-set slots key (Some c.args.live), length-listed s.keys (live_at s.slab))

pub invariant_of-self : goal.invariant_of-self
invariant_of-self c =
    let s = c.self.inside in
    let slots = lives_in s.keys s.slab in
    let put = c.insert_below-key in
    let key = put.result in
    let live = c.args.live in
    let low : key < s.keys = put.ensures.below in
    let within : key < length slots = omega (arith, low, length-listed s.keys (live_at s.slab)) in
    let free : slot_at slots key ≡ None = live_read s.keys key s.slab low ∙ ap (option_map live_of) put.ensures.vacant in
    let missing : IsMissing slots live.serial = subst (λ (p : Pool). IsMissing p.slots live.serial) (sym c.self.view_is) c.requires.apart in
    let slots_are : lives_in s.keys put.new.slab ≡ set slots key (Some live) = lives_set s.keys key s.slab put.new.slab (Some c.cell_of.result) low put.ensures.updates ∙ ap (λ l. set slots key (Some l)) c.cell_of.ensures in
    let f : ℕ → Option ℕ = serials.at s.by_serial in
    let g : ℕ → Option ℕ = serials.at c.insert.new.self in
    let up = c.insert.ensures.puts in
    record {
      pool = record {
        above = λ k h. put.ensures.updates.others k (λ e. absurd (omega (arith, e, h, low))) ∙ c.self.invariant.pool.above k h;
        fits = omega (arith, c.self.invariant.pool.fits, put.ensures.capacity);
        free = omega (arith, c.self.invariant.pool.free, put.ensures.len, c.requires.room, ap (λ (p : Pool). p.room) c.self.view_is);
      };
      keyed = subst (λ l. FindsEach l g) (sym slots_are) (found_put slots f key c.self.invariant.keyed within g live missing free (up live.serial ∙ ap (λ b. cond b (Some key) (f live.serial)) (agrees live.serial)) (λ j ne. up j ∙ ap (λ b. cond b (Some key) (f j)) (differs live.serial j ne)));
      goes = omega (arith, c.self.invariant.goes, c.going_by.ensures, counts_set slots key (Some live) within, ap {B = ℕ} (λ o. cond (passes goes_on o) 1 0) free, ap (λ l. count_by (passes goes_on) l) slots_are);
      spare_room = omega (arith, c.self.invariant.spare_room, c.insert.ensures.room);
    }

pub returns-clause-free : goal.returns-clause-free
returns-clause-free c =
    let s = c.self.inside in
    let put = c.insert_below-key in
    ap (λ (p : Pool). slot_at p.slots put.result) (sym c.self.view_is) ∙ live_read s.keys put.result s.slab put.ensures.below ∙ ap (option_map live_of) put.ensures.vacant

pub returns-clause-in_range : goal.returns-clause-in_range
returns-clause-in_range c =
    let s = c.self.inside in
    omega (arith, c.insert_below-key.ensures.below, length-listed s.keys (live_at s.slab), ap (λ (p : Pool). length p.slots) c.self.view_is)

pub returns-clause-slots : goal.returns-clause-slots
returns-clause-slots c =
    let s = c.self.inside in
    let put = c.insert_below-key in
    lives_set s.keys put.result s.slab put.new.slab (Some c.cell_of.result) put.ensures.below put.ensures.updates ∙ ap (λ l. set (lives_in s.keys s.slab) put.result (Some l)) c.cell_of.ensures ∙ ap (λ (p : Pool). set p.slots put.result (Some c.args.live)) c.self.view_is
