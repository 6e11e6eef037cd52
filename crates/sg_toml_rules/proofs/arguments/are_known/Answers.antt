use Rattle.std.proofs.Common.{◌∙◌, ap, is_some, sym}
use Rattle.std.specs.HashMap.{get_by_text}
use Rattle.std.specs.List.{list_all}
use Rattle.sg_toml_rules.proofs.Repeats.{rest_step}
use Rattle.sg_toml_rules.proofs.arguments.are_known.Goals as goal

pub returns-then-not-contains_key : goal.returns-then-not-contains_key
returns-then-not-contains_key c =
    let known = rw c.text_of.ensures at (sym c.contains_key.ensures ∙ c.if-not-contains_key.true) in
    let next = rest_step c.args.items.now c.loop-item.item-index c.item-item.result c.loop-item-test.true c.item-item.is in
    rw known at (ap (list_all (λ name. is_some (get_by_text c.args.workers.now name))) (sym next)) ∙ c.loop-item.invariant

pub loop-item-preserved : goal.loop-item-preserved
loop-item-preserved c =
    let known = rw c.text_of.ensures at (sym c.contains_key.ensures ∙ c.if-not-contains_key.false) in
    let next = rest_step c.args.items.now c.loop-item.item-index c.item-item.result c.loop-item-test.true c.item-item.is in
    rw known at (ap (list_all (λ name. is_some (get_by_text c.args.workers.now name))) (sym next)) ∙ c.loop-item.invariant
