-- Whether two children are the same.
use Rattle.std.specs.Prelude.{◌==◌, Bool, false}
use Rattle.sg_base.specs.declared.ids.Child.{Child}
use Rattle.sg_base.specs.declared.ids.Child.TheVariants.{Point, Zone}

-- whether two children of zones are the same point or the same zone
abbrev pub child_eq : Child → Child → Bool
child_eq (Point a) (Point b) = a.0 == b.0
child_eq (Zone a) (Zone b) = a.0 == b.0
child_eq a b = false
