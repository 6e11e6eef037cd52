use Rattle.std.proofs.Common.{◌≡◌, is_some, count_by, length, refl, ap, ◌∙◌, arith, rules}
use Rattle.slab.specs.Slab.{Slab, slab_len}
use Rattle.sg_queues.specs.Serials as serials
use Rattle.sg_activity_table.specs.declared.cells.Cell.{Cell}
use Rattle.sg_activity_table.specs.Cells.{live_at, lives_in}
use Rattle.sg_activity_table.specs.Pool.{Pool, slot_at}
use Rattle.sg_activity_table.proofs.Keeping.{more_lives, wider}
use Rattle.sg_activity_table.proofs.Listed.{length-listed}
use Rattle.sg_activity_table.proofs.lives.Lives.reserve.Goals as goal

pub invariant_of-self : goal.invariant_of-self
invariant_of-self c =
    let s = c.self.inside in
    let is = c.self.invariant in
    let slots = ap (λ (x : Slab Cell). x.slots) c.reserve.ensures.rest_kept in
    more_lives s.keys s.keys s.slab c.reserve.new.self (serials.at s.by_serial) (serials.at s.by_serial) (serials.room s.by_serial) (serials.room s.by_serial) s.going s.room s.room is slots (omega arith) (omega (arith, is.pool.fits, c.reserve.ensures.capacity)) is.pool.free is.spare_room (λ serial. refl)

pub invariant_of-self-in_err-reserve-2 : goal.invariant_of-self-in_err-reserve-2
invariant_of-self-in_err-reserve-2 c =
    let s = c.self.inside in
    let is = c.self.invariant in
    let slots = ap (λ (x : Slab Cell). x.slots) c.reserve.ensures.rest_kept in
    more_lives s.keys s.keys s.slab c.reserve.new.self (serials.at s.by_serial) (serials.at c.reserve-2.new.self) (serials.room s.by_serial) (serials.room c.reserve-2.new.self) s.going s.room s.room is slots (omega arith) (omega (arith, is.pool.fits, c.reserve.ensures.capacity)) is.pool.free (omega (arith, is.spare_room, c.reserve-2.ensures.grows)) c.reserve-2.ensures.same

pub invariant_of-self-2 : goal.invariant_of-self-2
invariant_of-self-2 c =
    let s = c.self.inside in
    let is = c.self.invariant in
    let slots = ap (λ (x : Slab Cell). x.slots) c.reserve.ensures.rest_kept in
    let len : slab_len c.reserve.new.self ≡ slab_len s.slab = ap (count_by is_some) slots in
    more_lives s.keys c.max-self-inside.result s.slab c.reserve.new.self (serials.at s.by_serial) (serials.at c.reserve-2.new.self) (serials.room s.by_serial) (serials.room c.reserve-2.new.self) s.going s.room c.max-self-inside-2.result is slots
    (omega (arith, c.max-self-inside.ensures))
    (omega (arith, c.max-self-inside.ensures, c.len.ensures, is.pool.fits, c.reserve.ensures.capacity, c.in_ok-reserve.ensures.room))
    (omega (arith, c.max-self-inside.ensures, c.max-self-inside-2.ensures, c.len.ensures, is.pool.free, len))
    (omega (arith, c.max-self-inside-2.ensures, is.spare_room, c.in_ok-reserve-2.ensures.grows, c.in_ok-reserve-2.ensures.room))
    c.reserve-2.ensures.same

-- with as many keys, nothing changes
pub returns-in_err-reserve : goal.returns-in_err-reserve
returns-in_err-reserve c =
    let s = c.self.inside in
    let whole = ap (λ (x : Slab Cell). lives_in s.keys x) c.reserve.ensures.rest_kept ∙ ap (λ (p : Pool). p.slots) c.self.view_is in
    record {
      same = λ key. ap (λ l. slot_at l key) whole;
      longer = omega (arith, ap length whole);
      few = omega (arith, ap length whole);
      grows = omega (arith, ap (λ (p : Pool). p.room) c.self.view_is);
      room = search rules;
    }

pub returns-in_err-reserve-2 : goal.returns-in_err-reserve-2
returns-in_err-reserve-2 c =
    let s = c.self.inside in
    let whole = ap (λ (x : Slab Cell). lives_in s.keys x) c.reserve.ensures.rest_kept ∙ ap (λ (p : Pool). p.slots) c.self.view_is in
    record {
      same = λ key. ap (λ l. slot_at l key) whole;
      longer = omega (arith, ap length whole);
      few = omega (arith, ap length whole);
      grows = omega (arith, ap (λ (p : Pool). p.room) c.self.view_is);
      room = search rules;
    }

pub returns : goal.returns
returns c =
    let s = c.self.inside in
    let is = c.self.invariant in
    let many = c.max-self-inside.result in
    let whole = ap (λ (x : Slab Cell). lives_in many x) c.reserve.ensures.rest_kept in
    let len : slab_len c.reserve.new.self ≡ slab_len s.slab = ap (count_by is_some) (ap (λ (x : Slab Cell). x.slots) c.reserve.ensures.rest_kept) in
    let now = length-listed many (live_at c.reserve.new.self) in
    let was = length-listed s.keys (live_at s.slab) in
    let were = ap (λ (p : Pool). length p.slots) c.self.view_is in
    record {
      same = λ key. ap (λ l. slot_at l key) whole ∙ wider s.keys many s.slab (omega (arith, c.max-self-inside.ensures)) is.pool.above key ∙ ap (λ (p : Pool). slot_at p.slots key) c.self.view_is;
      longer = omega (arith, c.max-self-inside.ensures, now, was, were);
      few = omega (arith, c.max-self-inside.ensures, c.len.ensures, len, is.pool.free, now, was, were);
      grows = omega (arith, c.max-self-inside-2.ensures, ap (λ (p : Pool). p.room) c.self.view_is);
      room = omega (arith, c.max-self-inside-2.ensures);
    }
