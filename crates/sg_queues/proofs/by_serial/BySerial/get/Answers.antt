use Rattle.std.proofs.Common.{nat_eq, None, slice_index_or, sym, ap, ap₂, ◌∙◌}
use Rattle.std.specs.HashMap.{get}
use Rattle.sg_queues.specs.Serials.{at, or_else, value_in}
use Rattle.sg_queues.proofs.by_serial.BySerial.get.Goals as goal

pub returns-in-Some : goal.returns-in-Some
unfolding at
returns-in-Some g c =
    let map = c.args.self.now in
    let slot = c.near_value.ensures ∙ ap₂ (λ l k. value_in (slice_index_or l k None) c.args.serial) c.deref.ensures.value c.place.ensures in
    sym (ap (λ v. or_else v (get nat_eq map.far c.args.serial)) (sym slot ∙ c.in-Some.is))

pub returns-in-None : goal.returns-in-None
unfolding at
returns-in-None g c =
    let map = c.args.self.now in
    let slot = c.near_value.ensures ∙ ap₂ (λ l k. value_in (slice_index_or l k None) c.args.serial) c.deref.ensures.value c.place.ensures in
    c.far_value.ensures ∙ sym (ap (λ v. or_else v (get nat_eq map.far c.args.serial)) (sym slot ∙ c.in-None.is))
