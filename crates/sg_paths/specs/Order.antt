-- The order of lists of links.
use Rattle.std.specs.Prelude.{◌≡◌, ◌==◌, ◌&&◌, ◌||◌, ◌<◌, ◌⊎◌, Bool, true, false, nat_lt, List, [], ◌∷◌, length}
use Rattle.sg_base.specs.declared.ids.LinkId.{LinkId}

-- compared from the front, a is no greater than b
abbrev pub IsNotGreater : List LinkId → List LinkId → Type 0
IsNotGreater [] b = Unit {0}
IsNotGreater (x ∷ a) [] = ⊥
IsNotGreater (x ∷ a) (y ∷ b) = (x.0 < y.0) ⊎ ((x.0 ≡ y.0) × IsNotGreater a b)

-- a has fewer links than b, or as many and is no greater
abbrev pub IsNotAfter : List LinkId → List LinkId → Type 0
IsNotAfter a b = (length a < length b) ⊎ ((length a ≡ length b) × IsNotGreater a b)

-- whether a is no greater than b, compared from the front
abbrev pub not_greater : List LinkId → List LinkId → Bool
not_greater [] b = true
not_greater (x ∷ a) [] = false
not_greater (x ∷ a) (y ∷ b) = nat_lt x.0 y.0 || x.0 == y.0 && not_greater a b

-- whether a has fewer links than b, or as many and is no greater
abbrev pub not_after : List LinkId → List LinkId → Bool
not_after a b = nat_lt (length a) (length b) || length a == length b && not_greater a b
