use Rattle.std.proofs.Common.{◌≡◌, ℕ, nat_eq, None, Some, length, slice_index_or, set, sym, ap, ap₂, ◌∙◌, rules, arith}
use Rattle.std.proofs.lemmas.List.{length-set, with_items_is}
use Rattle.std.specs.HashMap.{get}
use Rattle.sg_queues.specs.Serials.{at, room, in_parts, or_else, value_in}
use Rattle.sg_queues.proofs.Places.{replace_near, put_far}
use Rattle.sg_queues.proofs.by_serial.BySerial.replace.Goals as goal

pub returns-in-Some-clause-room : goal.returns-in-Some-clause-room
unfolding room
returns-in-Some-clause-room g c = search rules

pub returns-in-None-clause-room : goal.returns-in-None-clause-room
unfolding room
returns-in-None-clause-room g c = c.replace_far.ensures.room

pub returns-in-Some-clause-was : goal.returns-in-Some-clause-was
unfolding at
returns-in-Some-clause-was g c =
    let map = c.args.self.now in
    let slot = sym (c.near_value.ensures ∙ ap₂ (λ l k. value_in (slice_index_or l k None) c.args.serial) c.deref.ensures.value c.place-at.ensures) ∙ c.in-Some.is in
    sym (ap (λ v. or_else v (get nat_eq map.far c.args.serial)) slot)

pub returns-in-Some-clause-puts : goal.returns-in-Some-clause-puts
unfolding at
returns-in-Some-clause-puts g c = λ _ other.
    let map = c.args.self.now in
    let slot = sym (c.near_value.ensures ∙ ap₂ (λ l k. value_in (slice_index_or l k None) c.args.serial) c.deref.ensures.value c.place-at.ensures) ∙ c.in-Some.is in
    let far = λ (s : ℕ). get nat_eq map.far s in
    let new = c.put_place.ensures ∙ ap₂ (λ l k. set l k (Some (record { serial = c.args.serial; value = c.args.value }))) c.deref_mut.ensures.value c.place-at.ensures in
    let long : length c.put_place.new.near ≡ map.near.len = omega (arith, ap length c.put_place.ensures, length-set c.deref_mut.result.now c.place-at.result (Some (record { serial = c.args.serial; value = c.args.value })), ap length c.deref_mut.ensures.value, map.near.ok.0) in
    ap (λ l. in_parts l map.mask far other) (with_items_is map.near c.put_place.new.near long ∙ new)
    ∙ replace_near map.near.items map.mask far c.args.serial c.in-Some.was c.args.value slot other

pub returns-in-None-clause-was : goal.returns-in-None-clause-was
unfolding at
returns-in-None-clause-was g c =
    let map = c.args.self.now in
    let slot = sym (c.near_value.ensures ∙ ap₂ (λ l k. value_in (slice_index_or l k None) c.args.serial) c.deref.ensures.value c.place-at.ensures) ∙ c.in-None.is in
    c.replace_far.ensures.was ∙ sym (ap (λ v. or_else v (get nat_eq map.far c.args.serial)) slot)

pub returns-in-None-clause-puts : goal.returns-in-None-clause-puts
unfolding at
returns-in-None-clause-puts g c = λ some other.
    let map = c.args.self.now in
    let slot = sym (c.near_value.ensures ∙ ap₂ (λ l k. value_in (slice_index_or l k None) c.args.serial) c.deref.ensures.value c.place-at.ensures) ∙ c.in-None.is in
    put_far map.near.items map.mask (λ (s : ℕ). get nat_eq map.far s) (λ (s : ℕ). get nat_eq c.replace_far.new.far s) c.args.serial (Some c.args.value) slot (c.replace_far.ensures.is some) other
