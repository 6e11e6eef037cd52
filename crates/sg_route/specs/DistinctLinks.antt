-- Each link of a list once, at its first place.
use Rattle.std.specs.Prelude.{Bool, ◌==◌, if◌then◌else◌, List, [], ◌∷◌, ◌++◌}
use Rattle.std.specs.List.{list_any}
use Rattle.sg_base.specs.declared.ids.LinkId.{LinkId}

-- whether a link is in a list
abbrev pub is_among : LinkId → List LinkId → Bool
is_among link links = list_any (λ other. other.0 == link.0) links

-- the links that haven't been seen, each at its first place
abbrev pub distinct_links : List LinkId → List LinkId → List LinkId
distinct_links seen [] = []
distinct_links seen (link ∷ rest) = if is_among link seen then distinct_links seen rest else link ∷ distinct_links (seen ++ link ∷ []) rest
