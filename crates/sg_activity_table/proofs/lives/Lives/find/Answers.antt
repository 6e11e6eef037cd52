use Rattle.std.proofs.Common.{◌≡◌, ◌<◌, Some, option_map, sym, ap, subst, ◌∙◌, arith}
use Rattle.std.specs.Option.{option_copied}
use Rattle.sg_queues.specs.Serials as serials
use Rattle.sg_activity_table.specs.declared.lives.Live.{Live}
use Rattle.sg_activity_table.specs.Cells.{live_of, live_at, lives_in}
use Rattle.sg_activity_table.specs.Pool.{Pool, IsFound, slot_at}
use Rattle.sg_activity_table.proofs.Keeping.{live_read}
use Rattle.sg_activity_table.proofs.Listed.{length-listed}
use Rattle.sg_activity_table.proofs.Places.{some_same, there_within}
use Rattle.sg_activity_table.proofs.lives.Lives.find.Goals as goal

pub returns : goal.returns
returns c =
    let s = c.self.inside in
    let key = c.in_ok-key.key in
    let live = c.live_of.result in
    let e : serials.at s.by_serial c.args.serial.0 ≡ Some key = sym c.get.ensures ∙ c.in_ok-key.was in
    let found = c.self.invariant.keyed.back c.args.serial.0 key e in
    let within : key < s.keys = omega (arith, there_within (lives_in s.keys s.slab) key found.0 found.1.at, length-listed s.keys (live_at s.slab)) in
    let at : slot_at (lives_in s.keys s.slab) key ≡ Some live = live_read s.keys key s.slab within ∙ ap (option_map live_of) (sym c.get-2.ensures ∙ ap option_copied c.in-Some.is) ∙ ap Some (sym c.live_of.ensures) in
    subst (λ (p : Pool). IsFound p.slots c.args.serial.0 key live) c.self.view_is (record { at = at; is = ap (λ (l : Live). l.serial) (some_same (sym at ∙ found.1.at)) ∙ found.1.is })

pub unreachable-requires : goal.unreachable-requires
unreachable-requires c =
    let s = c.self.inside in
    let key = c.in_ok-key.key in
    let e : serials.at s.by_serial c.args.serial.0 ≡ Some key = sym c.get.ensures ∙ c.in_ok-key.was in
    let found = c.self.invariant.keyed.back c.args.serial.0 key e in
    let within : key < s.keys = omega (arith, there_within (lives_in s.keys s.slab) key found.0 found.1.at, length-listed s.keys (live_at s.slab)) in
    cc (sym found.1.at ∙ live_read s.keys key s.slab within ∙ ap (option_map live_of) (sym c.get-2.ensures ∙ ap option_copied c.in_default.is))
