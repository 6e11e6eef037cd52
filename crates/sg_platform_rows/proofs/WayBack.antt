-- The reverse route.
use Rattle.std.proofs.Common.{◌≡◌, List, [], ◌∷◌, ◌++◌, ap}
use Rattle.std.specs.Prelude.{map}
use Rattle.std.proofs.lemmas.List.{reverse-append}
use Rattle.sg_base.specs.declared.ids.LinkId.{LinkId}
use Rattle.sg_platform_rows.specs.Ends.{back_of, way_back}
use Rattle.sg_platform_rows.specs.declared.ends.LinkEnd.{LinkEnd}

-- it begins with the last link
pub back_last : (ends : List LinkEnd) (links : List LinkId) (link : LinkId) → way_back ends (links ++ link ∷ []) ≡ back_of ends link ∷ way_back ends links
back_last ends links link = ap (map (back_of ends)) (reverse-append links (link ∷ []))
