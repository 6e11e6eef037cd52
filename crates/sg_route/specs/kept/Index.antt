-- Of each key the first row with that key.
use Rattle.std.specs.Prelude.{◌≡◌, ◌==◌, ◌&&◌, ℕ, Bool, true, false, List, Option, None, slice_index_or}
use Rattle.std.specs.Bool.{beq}
use Rattle.std.specs.HashMap.{HashMap, get}
use Rattle.std.specs.List.{position_from}
use Rattle.sg_base.specs.declared.ids.Child.{Child}
use Rattle.sg_base.specs.declared.ids.Child.TheVariants.{Point, Zone}
use Rattle.sg_platform_rows.specs.declared.rows.SpokeRow.{SpokeRow}
use Rattle.sg_route.specs.declared.locals.Local.{Local}
use Rattle.sg_route.specs.declared.locals.Pair.{Pair}
use Rattle.sg_route.specs.declared.spokes.RowsByChild.{RowsByChild}
use Rattle.sg_route.specs.Equal.{child_eq}

-- of a child whether it is a zone, and its number
abbrev pub ChildKey : Type 0
ChildKey = Bool × ℕ

abbrev pub child_key : Child → ChildKey
child_key (Point point) = (false, point.0)
child_key (Zone zone) = (true, zone.0)

abbrev pub pair_key : Pair → ChildKey × ChildKey
pair_key pair = (child_key pair.from, child_key pair.to)

abbrev pub child_key_eq : ChildKey → ChildKey → Bool
child_key_eq a b = beq a.0 b.0 && a.1 == b.1

abbrev pub pair_key_eq : ChildKey × ChildKey → ChildKey × ChildKey → Bool
pair_key_eq a b = child_key_eq a.0 b.0 && child_key_eq a.1 b.1

-- of each pair the first row, if the rows are numbered from this number on
abbrev pub PairsFrom : {S : Type 0} → ℕ → HashMap (ChildKey × ChildKey) ℕ S → List Local → Type 0
PairsFrom first at rows = (pair : Pair) → get pair_key_eq at (pair_key pair) ≡ position_from (λ l. child_eq pair.from l.pair.from && child_eq pair.to l.pair.to) first rows

abbrev pub IsIndexOfPairs : {S : Type 0} → HashMap (ChildKey × ChildKey) ℕ S → List Local → Type 0
IsIndexOfPairs at rows = PairsFrom 0 at rows

-- the row under a child, if there is one
abbrev pub row_of : RowsByChild → Child → Option ℕ
row_of at (Point point) = slice_index_or at.points.items point.0 None
row_of at (Zone zone) = slice_index_or at.zones.items zone.0 None

-- of each child the first row
abbrev pub ChildrenFrom : ℕ → RowsByChild → List SpokeRow → Type 0
ChildrenFrom first at rows = (child : Child) → row_of at child ≡ position_from (λ s. child_eq child s.child) first rows

abbrev pub IsIndexOfChildren : RowsByChild → List SpokeRow → Type 0
IsIndexOfChildren at rows = ChildrenFrom 0 at rows
