use Rattle.std.proofs.Common.{◌∙◌, ◌+◌, ◌++◌, ℕ, List, Option, sym, ap, map, length, codes}
use Rattle.std.proofs.lemmas.List.{length-map}
use Rattle.std.specs.Str.{bytes_eq}
use Rattle.sg_toml_tree.proofs.NameLemmas.{three_numbered}
use Rattle.sg_toml_tree.proofs.NameSpaceLemmas.{lookup_append}
use Rattle.sg_toml_tree.specs.NameSpaces.{found_in, numbered, or_else, texts_at}
use Rattle.toml.specs.View.{view}
use Rattle.sg_toml_tree.proofs.names.points_of.Goals as goal

pub returns : goal.returns
returns c = λ q.
    let zones = map view c.args.zones.now in
    let hosts = map view c.args.hosts.now in
    let routers = map view c.args.routers.now in
    let found : List (List ℕ × ℕ) → Option ℕ = λ names. found_in names q in
    let first = numbered (texts_at (codes "id")) 0 zones in
    let second = numbered (texts_at (codes "id")) (length zones) hosts in
    let third = numbered (texts_at (codes "id")) (length zones + length hosts) routers in
    c.in_ok-add_names-2.ensures.added q
    ∙ rw (c.in_ok-add_names.ensures.added q, c.in_ok-made.ensures q, ← length-map c.args.zones.now view, ← length-map c.args.hosts.now view)
    (sym (lookup_append (bytes_eq q) (first ++ second) third ∙ ap (λ o. or_else o (found third)) (lookup_append (bytes_eq q) first second)))
    ∙ ap found (three_numbered (texts_at (codes "id")) zones hosts routers)
