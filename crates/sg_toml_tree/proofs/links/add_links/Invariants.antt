use Rattle.std.proofs.Common.{◌≡◌, ◌≤◌, ◌*◌, ℕ, List, [], ◌∷◌, drop}
use Rattle.std.specs.HashMap.{get_by_text}
use Rattle.std.specs.List.{flat_map}
use Rattle.sg_toml_tree.specs.LinkNames.{link_names}
use Rattle.sg_toml_tree.specs.NameSpaces.{found_in, numbered, or_else}
use Rattle.toml.specs.View.{view}
use Rattle.sg_toml_tree.proofs.links.add_links.Given as goal

abbrev pub invariant-loop-row : goal.invariant-loop-row
invariant-loop-row l = record {
  few : l.next ≤ 2 * l.row-index;
  given : (q : List ℕ) → or_else (get_by_text l.space q) (found_in (numbered (λ name. name ∷ []) l.next (flat_map (λ row. link_names (view row)) (drop l.row-index l.rows))) q)
      ≡ or_else (get_by_text l.initial.space q) (found_in (numbered (λ name. name ∷ []) 0 (flat_map (λ row. link_names (view row)) l.rows)) q);
}
