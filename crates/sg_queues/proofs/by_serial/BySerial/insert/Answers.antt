use Rattle.std.proofs.Common.{◌≡◌, ◌<◌, ℕ, nat_eq, None, Some, length, slice_index_or, set, sym, ap, ap₂, ◌∙◌, rules, arith}
use Rattle.std.proofs.lemmas.List.{length-set, with_items_is}
use Rattle.std.specs.HashMap.{get}
use Rattle.sg_queues.specs.Serials.{at, room, in_parts, place, value_in}
use Rattle.sg_queues.proofs.Places.{put_near, put_far}
use Rattle.sg_queues.proofs.by_serial.BySerial.insert.Goals as goal

pub put_far-requires : goal.put_far-requires
unfolding room
put_far-requires g c = c.requires

pub returns-then-is_open-clause-room : goal.returns-then-is_open-clause-room
unfolding room
returns-then-is_open-clause-room g c = search rules

pub returns-else-is_open-clause-room : goal.returns-else-is_open-clause-room
unfolding room
returns-else-is_open-clause-room g c = c.put_far.ensures.room

pub returns-then-is_open-clause-puts : goal.returns-then-is_open-clause-puts
unfolding at
returns-then-is_open-clause-puts g c = λ other.
    let map = c.args.self.now in
    let serial = c.args.serial in
    let far = λ (s : ℕ). get nat_eq map.far s in
    let is = c.if-is_open.true in
    let new = c.put_place.ensures ∙ ap₂ (λ l k. set l k (Some (record { serial = serial; value = c.args.value }))) c.deref_mut.ensures.value c.place-at.ensures in
    let within : place map.mask serial < length map.near.items = omega (arith, c.is_open.ensures.there is, c.place-at.ensures, ap length c.deref.ensures.value) in
    let long : length c.put_place.new.near ≡ map.near.len = omega (arith, ap length c.put_place.ensures, length-set c.deref_mut.result.now c.place-at.result (Some (record { serial = c.args.serial; value = c.args.value })), ap length c.deref_mut.ensures.value, map.near.ok.0) in
    ap (λ l. in_parts l map.mask far other) (with_items_is map.near c.put_place.new.near long ∙ new)
    ∙ put_near map.near.items map.mask far serial c.args.value within (λ k h. sym (ap₂ (λ l p. value_in (slice_index_or l p None) k) c.deref.ensures.value c.place-at.ensures) ∙ c.is_open.ensures.free is k h) other

pub returns-else-is_open-clause-puts : goal.returns-else-is_open-clause-puts
unfolding at
returns-else-is_open-clause-puts g c = λ other.
    let map = c.args.self.now in
    let serial = c.args.serial in
    let none = sym (ap₂ (λ l p. value_in (slice_index_or l p None) serial) c.deref.ensures.value c.place-at.ensures) ∙ c.is_open.ensures.closed c.if-is_open.false in
    put_far map.near.items map.mask (λ (s : ℕ). get nat_eq map.far s) (λ (s : ℕ). get nat_eq c.put_far.new.far s) serial (Some c.args.value) none c.put_far.ensures.is other
