use Rattle.std.proofs.Common.{◌≡◌, ◌∙◌, ◌∷◌, [], None, ap}
use Rattle.std.specs.HashMap.{get_by}
use Rattle.std.specs.Map.{lookup}
use Rattle.std.specs.Str.{bytes_eq}
use Rattle.indexmap.proofs.CallerLemmas.{insert_entry-new}
use Rattle.sg_platform_rows.specs.kept.Finds.{by_bytes, finds}
use Rattle.sg_toml_tree.proofs.NameSpaceLemmas.{absent_from, lookup_append}
use Rattle.sg_toml_tree.specs.NameSpaces.{or_else}
use Rattle.sg_platform_rows.proofs.index.add_bytes.Goals as goal

pub returns-in_ok-insert : goal.returns-in_ok-insert
returns-in_ok-insert c = λ q.
    let old = c.args.space.now in
    let key = c.in_ok-key.key in
    let n = c.in_ok-number.number in
    let absent : get_by (λ k. bytes_eq c.args.name.now k.items) old ≡ None = absent_from _ _ c.contains_key.ensures c.if-not-contains_key.true in
    let new : get_by (λ k. bytes_eq key.items k.items) old ≡ None = rw c.in_ok-key.ensures.items absent in
    let entries = c.in_ok-insert.ensures.entries ∙ insert_entry-new (λ a b. bytes_eq a.items b.items) old key n new in
    ap (lookup (by_bytes q)) entries ∙ lookup_append (by_bytes q) old.entries ((key, n) ∷ [])
    ∙ rw c.in_ok-key.ensures.items (ap (λ m. or_else (finds old q) (lookup (bytes_eq q) ((c.args.name.now, m) ∷ []))) c.in_ok-number.ensures)
