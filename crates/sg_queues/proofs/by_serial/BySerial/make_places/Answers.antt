use Rattle.std.proofs.Common.{◌≡◌, ℕ, nat_eq, None, length, slice_index_or, sym, ap, ◌∙◌, rules, arith}
use Rattle.std.specs.HashMap.{get}
use Rattle.std.proofs.Common.{◌-◌}
use Rattle.std.proofs.lemmas.Bool.Decides.{nat_tests}
use Rattle.std.proofs.lemmas.List.{get_or_past}
use Rattle.sg_queues.specs.Serials.{at, room, or_else, place, value_in}
use Rattle.sg_queues.proofs.Places.{no_places}
use Rattle.sg_queues.proofs.by_serial.BySerial.make_places.Goals as goal

pub returns-in_err-add_places-clause-room : goal.returns-in_err-add_places-clause-room
unfolding room
returns-in_err-add_places-clause-room g c = search rules

pub returns-clause-room : goal.returns-clause-room
unfolding room
returns-clause-room g c = search rules

pub returns-in_err-add_places-clause-same : goal.returns-in_err-add_places-clause-same
unfolding at
returns-in_err-add_places-clause-same g c = λ serial.
    let map = c.args.self.now in
    ap (λ e. or_else (value_in e serial) (get nat_eq map.far serial)) (c.add_places.ensures (place map.mask serial))

pub returns-clause-same : goal.returns-clause-same
unfolding at
returns-clause-same g c = λ serial.
    let map = c.args.self.now in
    let empty : length map.near.items ≡ 0 = grind (arith, nat_tests, c.is_empty.ensures, c.if-not-is_empty.false, map.near.ok.0) in
    let none : (at : ℕ) → slice_index_or map.near.items at None ≡ None = λ at. get_or_past map.near.items at None (omega (arith, empty)) in
    let far = λ (s : ℕ). get nat_eq map.far s in
    no_places c.add_places.new.near.items (c.count_for-count.result - 1) far serial (λ at. c.add_places.ensures at ∙ none at) ∙ sym (no_places map.near.items map.mask far serial none)
