use Rattle.std.proofs.Common.{◌≡◌, ◌∙◌, None, map, sym}
use Rattle.std.specs.HashMap.{get_by_text}
use Rattle.sg_toml_rules.proofs.Repeats.{nothing_seen, seen_turn, seen_twice}
use Rattle.sg_toml_rules.specs.Arguments.{text_of}
use Rattle.sg_toml_tree.specs.NameSpaces.{Finds}
use Rattle.toml.specs.View.{view}
use Rattle.sg_toml_rules.proofs.arguments.has_repeat.Goals as goal

pub loop-i-init : goal.loop-i-init
loop-i-init c =
    nothing_seen (λ q. get_by_text c.new-seen.result q) (λ q. let empty : get_by_text c.new-seen.result q ≡ None = rw c.new-seen.ensures.empty in empty) (map text_of (map view c.args.items.now))

pub returns-then-contains_key : goal.returns-then-contains_key
returns-then-contains_key c =
    let seen : Finds = λ q. get_by_text c.loop-i.seen q in
    let there = rw c.text_of-text.ensures at (sym c.contains_key.ensures ∙ c.if-contains_key.true) in
    sym (seen_twice seen c.args.items.now c.loop-i.i c.index-items-i.result c.loop-i-test.true c.index-items-i.is there) ∙ c.loop-i.invariant

pub loop-i-preserved : goal.loop-i-preserved
loop-i-preserved c =
    let old : Finds = λ q. get_by_text c.loop-i.seen q in
    let new : Finds = λ q. get_by_text c.add_name.new.space q in
    let fresh = rw c.text_of-text.ensures at (sym c.contains_key.ensures ∙ c.if-contains_key.false) in
    seen_turn old new c.args.items.now c.loop-i.i c.index-items-i.result c.loop-i.i c.loop-i-test.true c.index-items-i.is fresh (λ q. rw c.text_of-text.ensures at (c.in_ok-add_name.ensures.added q)) ∙ c.loop-i.invariant
