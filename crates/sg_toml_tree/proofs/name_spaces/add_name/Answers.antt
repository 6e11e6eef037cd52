use Rattle.std.proofs.Common.{◌∙◌, Some, None, ap, cond, string_bytes}
use Rattle.std.proofs.lemmas.Map.Text.{hash_map_updates_text}
use Rattle.std.specs.HashMap.{get_by_text}
use Rattle.std.specs.Str.{bytes_eq}
use Rattle.sg_toml_tree.proofs.NameSpaceLemmas.{absent_from, new_name}
use Rattle.sg_toml_tree.specs.NameSpaces.{or_else}
use Rattle.sg_toml_tree.proofs.name_spaces.add_name.Goals as goal

pub returns-in_ok-insert-clause-added : goal.returns-in_ok-insert-clause-added
returns-in_ok-insert-clause-added c = λ q.
    let name = c.args.name.now in
    let old = c.args.space.now in
    let n = c.in_ok-number.number in
    let absent = absent_from _ _ c.contains_key.ensures c.if-not-contains_key.true in
    hash_map_updates_text (string_bytes c.in_ok-key.key) old c.insert.new.self (Some n) c.in_ok-insert.ensures.updates q
    ∙ rw c.in_ok-key.ensures.ok (new_name name q n (get_by_text old) absent)
    ∙ ap (λ m. or_else (get_by_text old q) (cond (bytes_eq q name) (Some m) None)) c.in_ok-number.ensures
