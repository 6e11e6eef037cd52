use Rattle.std.proofs.Common.{◌≡◌, ℕ, nat_eq, None, length, slice_index_or, set, sym, ap, ap₂, ◌∙◌, arith}
use Rattle.std.proofs.lemmas.List.{length-set, with_items_is}
use Rattle.std.specs.HashMap.{get}
use Rattle.sg_queues.specs.Serials.{at, room, in_parts, or_else, value_in}
use Rattle.sg_queues.proofs.Places.{take_near, put_far}
use Rattle.sg_queues.proofs.by_serial.BySerial.remove.Goals as goal

pub returns-in-Some-clause-room : goal.returns-in-Some-clause-room
unfolding room
returns-in-Some-clause-room g c = c.remove_far-far.ensures.room

pub returns-in-None-clause-room : goal.returns-in-None-clause-room
unfolding room
returns-in-None-clause-room g c = c.remove_far-far.ensures.room

pub returns-in-Some-clause-was : goal.returns-in-Some-clause-was
unfolding at
returns-in-Some-clause-was g c =
    let map = c.args.self.now in
    let slot = sym (c.near_value.ensures ∙ ap₂ (λ l k. value_in (slice_index_or l k None) c.args.serial) c.deref.ensures.value c.place-at.ensures) ∙ c.in-Some.is in
    sym (ap (λ v. or_else v (get nat_eq map.far c.args.serial)) slot)

pub returns-in-Some-clause-puts : goal.returns-in-Some-clause-puts
unfolding at
returns-in-Some-clause-puts g c = λ other.
    let map = c.args.self.now in
    let slot = sym (c.near_value.ensures ∙ ap₂ (λ l k. value_in (slice_index_or l k None) c.args.serial) c.deref.ensures.value c.place-at.ensures) ∙ c.in-Some.is in
    let far = λ (s : ℕ). get nat_eq map.far s in
    let left = λ (s : ℕ). get nat_eq c.remove_far-far.new.far s in
    let new = c.clear_place.ensures ∙ ap₂ (λ l k. set l k None) c.deref_mut.ensures.value c.place-at.ensures in
    let long : length c.clear_place.new.near ≡ map.near.len = omega (arith, ap length c.clear_place.ensures, length-set c.deref_mut.result.now c.place-at.result (None), ap length c.deref_mut.ensures.value, map.near.ok.0) in
    ap (λ l. in_parts l map.mask left other) (with_items_is map.near c.clear_place.new.near long ∙ new)
    ∙ take_near map.near.items map.mask far left c.args.serial c.in-Some.value slot c.remove_far-far.ensures.is other

pub returns-in-None-clause-was : goal.returns-in-None-clause-was
unfolding at
returns-in-None-clause-was g c =
    let map = c.args.self.now in
    let slot = sym (c.near_value.ensures ∙ ap₂ (λ l k. value_in (slice_index_or l k None) c.args.serial) c.deref.ensures.value c.place-at.ensures) ∙ c.in-None.is in
    c.remove_far-far.ensures.was ∙ sym (ap (λ v. or_else v (get nat_eq map.far c.args.serial)) slot)

pub returns-in-None-clause-puts : goal.returns-in-None-clause-puts
unfolding at
returns-in-None-clause-puts g c = λ other.
    let map = c.args.self.now in
    let slot = sym (c.near_value.ensures ∙ ap₂ (λ l k. value_in (slice_index_or l k None) c.args.serial) c.deref.ensures.value c.place-at.ensures) ∙ c.in-None.is in
    put_far map.near.items map.mask (λ (s : ℕ). get nat_eq map.far s) (λ (s : ℕ). get nat_eq c.remove_far-far.new.far s) c.args.serial None slot c.remove_far-far.ensures.is other
