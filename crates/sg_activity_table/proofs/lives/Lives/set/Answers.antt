use Rattle.std.proofs.Common.{◌≡◌, ◌<◌, ℕ, cond, count_by, is_some, IsSome, None, Some, length, length-set, option_map, set, subst, sym, ap, ◌∙◌, arith}
use Rattle.std.specs.Option.{IfSome, option_copied_mut}
use Rattle.std.proofs.lemmas.List.Sums.{count_by-le-length}
use Rattle.slab.specs.Slab.{Slab, with_value}
use Rattle.slab.proofs.SlabLemmas.{Updates-with_value}
use Rattle.sg_queues.specs.Serials as serials
use Rattle.sg_activity_table.specs.declared.cells.Cell.{Cell}
use Rattle.sg_activity_table.specs.declared.lives.Live.{Live}
use Rattle.sg_activity_table.specs.Cells.{live_of, live_at, lives_in}
use Rattle.sg_activity_table.specs.Pool.{Pool, FindsEach, goes_on, slot_at}
use Rattle.sg_activity_table.specs.Slots.{passes}
use Rattle.sg_activity_table.proofs.Keeping.{len_with, live_read, lives_set, there_in}
use Rattle.sg_activity_table.proofs.Listed.{length-listed}
use Rattle.sg_activity_table.proofs.Found.{found_set}
use Rattle.sg_activity_table.proofs.Pooled.{counts_set}
use Rattle.sg_activity_table.proofs.lives.Lives.set.Goals as goal

pub unreachable-requires : goal.unreachable-requires
unreachable-requires c =
    let s = c.self.inside in
    let there = (there_in s.keys c.args.key s.slab (subst (λ (p : Pool). IsSome (slot_at p.slots c.args.key)) (sym c.self.view_is) c.requires.there)).1 in
    cc (sym there ∙ ap is_some (sym c.get_mut.ensures.value ∙ ap option_copied_mut c.in_default.is))

pub overflow_sub-self : goal.overflow_sub-self
overflow_sub-self c =
    let s = c.self.inside in
    let slots = lives_in s.keys s.slab in
    let key = c.args.key in
    let old = live_of c.in-Some.cell.now in
    let low : key < s.keys = (there_in s.keys key s.slab (subst (λ (p : Pool). IsSome (slot_at p.slots key)) (sym c.self.view_is) c.requires.there)).0 in
    let within : key < length slots = omega (arith, low, length-listed s.keys (live_at s.slab)) in
    let at : slot_at slots key ≡ Some old = live_read s.keys key s.slab low ∙ ap (option_map live_of) (sym c.get_mut.ensures.value ∙ ap option_copied_mut c.in-Some.is) in
    omega (arith, c.self.invariant.goes, c.going_by.ensures, counts_set slots key None within, ap {B = ℕ} (λ o. cond (passes goes_on o) 1 0) at)

pub overflow_add-self : goal.overflow_add-self
overflow_add-self c =
    let s = c.self.inside in
    let slots = lives_in s.keys s.slab in
    let key = c.args.key in
    let live = c.args.live in
    let old = live_of c.in-Some.cell.now in
    let low : key < s.keys = (there_in s.keys key s.slab (subst (λ (p : Pool). IsSome (slot_at p.slots key)) (sym c.self.view_is) c.requires.there)).0 in
    let within : key < length slots = omega (arith, low, length-listed s.keys (live_at s.slab)) in
    let at : slot_at slots key ≡ Some old = live_read s.keys key s.slab low ∙ ap (option_map live_of) (sym c.get_mut.ensures.value ∙ ap option_copied_mut c.in-Some.is) in
    omega (arith, c.self.invariant.goes, c.going_by.ensures, c.going_by-2.ensures, counts_set slots key (Some live) within, ap {B = ℕ} (λ o. cond (passes goes_on o) 1 0) at, count_by-le-length (passes goes_on) (set slots key (Some live)), length-set slots key (Some live), length-listed s.keys (live_at s.slab))

pub invariant_of-self : goal.invariant_of-self
invariant_of-self c =
    let s = c.self.inside in
    let slots = lives_in s.keys s.slab in
    let key = c.args.key in
    let live = c.args.live in
    let old = live_of c.in-Some.cell.now in
    let there = there_in s.keys key s.slab (subst (λ (p : Pool). IsSome (slot_at p.slots key)) (sym c.self.view_is) c.requires.there) in
    let low : key < s.keys = there.0 in
    let within : key < length slots = omega (arith, low, length-listed s.keys (live_at s.slab)) in
    let at : slot_at slots key ≡ Some old = live_read s.keys key s.slab low ∙ ap (option_map live_of) (sym c.get_mut.ensures.value ∙ ap option_copied_mut c.in-Some.is) in
    let at_pool : slot_at c.args.self.now.slots key ≡ Some old = ap (λ (p : Pool). slot_at p.slots key) (sym c.self.view_is) ∙ at in
    let same : old.serial ≡ live.serial = subst (λ o. IfSome o (λ (l : Live). l.serial ≡ live.serial)) at_pool c.requires.same in
    let next : Slab Cell = with_value s.slab key c.cell_of.result in
    let up = Updates-with_value s.slab key c.cell_of.result there.1 in
    let slots_are : lives_in s.keys next ≡ set slots key (Some live) = lives_set s.keys key s.slab next (Some c.cell_of.result) low up ∙ ap (λ l. set slots key (Some l)) c.cell_of.ensures in
    record {
      pool = record {
        above = λ k h. up.others k (λ e. absurd (omega (arith, e, h, low))) ∙ c.self.invariant.pool.above k h;
        fits = c.self.invariant.pool.fits;
        free = omega (arith, c.self.invariant.pool.free, len_with s.slab key c.cell_of.result there.1);
      };
      keyed = subst (λ l. FindsEach l (serials.at s.by_serial)) (sym slots_are) (found_set slots (serials.at s.by_serial) key c.self.invariant.keyed within old live at same);
      goes = omega (arith, c.self.invariant.goes, c.going_by.ensures, c.going_by-2.ensures, counts_set slots key (Some live) within, counts_set slots key None within, ap {B = ℕ} (λ o. cond (passes goes_on o) 1 0) at, ap (λ l. count_by (passes goes_on) l) slots_are);
      spare_room = c.self.invariant.spare_room;
    }

pub returns : goal.returns
returns c =
    let s = c.self.inside in
    let key = c.args.key in
    let there = there_in s.keys key s.slab (subst (λ (p : Pool). IsSome (slot_at p.slots key)) (sym c.self.view_is) c.requires.there) in
    let next : Slab Cell = with_value s.slab key c.cell_of.result in
    record {
      slots = lives_set s.keys key s.slab next (Some c.cell_of.result) there.0 (Updates-with_value s.slab key c.cell_of.result there.1) ∙ ap (λ l. set (lives_in s.keys s.slab) key (Some l)) c.cell_of.ensures ∙ ap (λ (p : Pool). set p.slots key (Some c.args.live)) c.self.view_is;
      room = ap (λ (p : Pool). p.room) c.self.view_is;
    }
