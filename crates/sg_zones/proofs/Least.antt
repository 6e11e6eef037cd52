-- The faults rise, and the first is reported.
use Rattle.std.proofs.Common.{◌≡◌, ℕ, ◌+◌, ◌<◌, ◌≤◌, ◌⊎◌, inl, inr, Bool, true, false, cond, List, [], ◌∷◌, ◌++◌, Option, None, Some, map, refl, sym, ◌∙◌, ap, arith}
use Rattle.std.specs.Option.{option_or}
use Rattle.std.specs.Prelude.{is_none, is_some}
use Rattle.sg_base.specs.declared.ids.ZoneId.{ZoneId}
use Rattle.sg_platform_rows.specs.Platform.{Platform}
use Rattle.sg_platform_rows.specs.declared.rows.ZoneRouteRow.{ZoneRouteRow}
use Rattle.sg_platform_rows.specs.declared.rows.ZoneRow.{ZoneRow}
use Rattle.sg_toml_tree.specs.Along.{along, first}
use Rattle.sg_zones.specs.AllFaults.{TellsLeast, IsBefore, IsRising, faults_along, gateway_faults, kind_number, as_list, place_of, root_faults, row_faults, tree_faults}
use Rattle.sg_zones.specs.Faults.{child_zone_fault, ancestor_fault, first_along, spoke_gateway_fault, gateway_fault, zone_route_gateway_fault, place, root_fault, roots, route_fault, row_fault, spoke_fault, fault_if, tree_fault, zone_route_fault}
use Rattle.sg_zones.specs.Paths.{ancestors_of}
use Rattle.sg_zones.specs.Tree.{Tree, zone_tree}
use Rattle.sg_zones.specs.declared.fault.ZoneFault.{ZoneFault}
use Rattle.sg_zones.specs.declared.fault.ZoneFault.TheVariants.{ParentCycle, TooDeep, TwoRoots}
use Rattle.sg_zones.proofs.Each.{Each, each_append, each_mono, each_cross}

-- ---- the first of all faults

first-append : (a b : List ZoneFault) → first (a ++ b) ≡ option_or (first a) (first b)
first-append [] b = refl
first-append (x ∷ a) b = refl

first-as_list : (o : Option ZoneFault) → first (as_list o) ≡ o
first-as_list None = refl
first-as_list (Some fault) = refl

-- the first of two lists together, by the first of each
first_of_both : (xs ys : List ZoneFault) (a b : Option ZoneFault) → first xs ≡ a → first ys ≡ b → first (xs ++ ys) ≡ option_or a b
first_of_both xs ys a b e f = first-append xs ys ∙ ap (λ o. option_or o (first ys)) e ∙ ap (λ o. option_or a o) f

first-along : {X : Type 0} (f : ℕ → X → List ZoneFault) (told : ℕ → X → Option ZoneFault) → ((i : ℕ) (x : X) → first (f i x) ≡ told i x) → (i : ℕ) (xs : List X)
    → first (along f i xs) ≡ first_along told i xs
first-along f told is i [] = refl
first-along f told is i (x ∷ xs) = first_of_both (f i x) (along f (i + 1) xs) (told i x) (first_along told (i + 1) xs) (is i x) (first-along f told is (i + 1) xs)

first-faults_along : {X : Type 0} (told : ℕ → X → Option ZoneFault) (xs : List X) → first (faults_along told xs) ≡ first_along told 0 xs
first-faults_along told xs = first-along (λ row x. as_list (told row x)) told (λ i x. first-as_list (told i x)) 0 xs

first-root_faults : (rs : List ℕ) → first (root_faults rs) ≡ root_fault rs
first-root_faults [] = refl
first-root_faults (r ∷ []) = refl
first-root_faults (r ∷ (s ∷ rs)) = refl

first-tree_faults : (zones : List ZoneRow) → first (tree_faults zones) ≡ tree_fault zones
first-tree_faults zones =
    let cycles = faults_along (ancestor_fault ParentCycle) (ancestors_of 1024 zones) in
    let deep = faults_along (ancestor_fault TooDeep) (ancestors_of 16 zones) in
    let c = first_along (ancestor_fault ParentCycle) 0 (ancestors_of 1024 zones) in
    let d = first_along (ancestor_fault TooDeep) 0 (ancestors_of 16 zones) in
    first_of_both (root_faults (roots 1 zones)) (cycles ++ deep) (root_fault (roots 1 zones)) (option_or c d) (first-root_faults (roots 1 zones))
    (first_of_both cycles deep c d (first-faults_along (ancestor_fault ParentCycle) (ancestors_of 1024 zones)) (first-faults_along (ancestor_fault TooDeep) (ancestors_of 16 zones)))

first-gateway_faults : (t : Tree) (i : ℕ) (r : ZoneRouteRow) → first (gateway_faults t i r) ≡ zone_route_gateway_fault t i r
first-gateway_faults t i r =
    let src = gateway_fault t r.src r.gw_src (place 6 (i + 1) 3) in
    let dst = gateway_fault t r.dst r.gw_dst (place 6 (i + 1) 4) in
    first_of_both (as_list src) (as_list dst) src dst (first-as_list src) (first-as_list dst)

first-row_faults : (t : Tree) (p : Platform) → first (row_faults t p) ≡ row_fault t p
first-row_faults t p =
    let g = along (gateway_faults t) 0 p.zone_routes in
    let s = faults_along (spoke_gateway_fault t) p.spokes in
    let c = faults_along (child_zone_fault t) p.zones in
    let r = faults_along (route_fault t) p.routes in
    let z = faults_along (zone_route_fault t) p.zone_routes in
    let w = faults_along (spoke_fault t) p.spokes in
    let z1 = first_along (zone_route_fault t) 0 p.zone_routes in
    let w1 = first_along (spoke_fault t) 0 p.spokes in
    let r1 = first_along (route_fault t) 0 p.routes in
    let c1 = first_along (child_zone_fault t) 0 p.zones in
    let s1 = first_along (spoke_gateway_fault t) 0 p.spokes in
    let g1 = first_along (zone_route_gateway_fault t) 0 p.zone_routes in
    first_of_both g (s ++ (c ++ (r ++ (z ++ w)))) g1 (option_or s1 (option_or c1 (option_or r1 (option_or z1 w1)))) (first-along (gateway_faults t) (zone_route_gateway_fault t) (first-gateway_faults t) 0 p.zone_routes)
    (first_of_both s (c ++ (r ++ (z ++ w))) s1 (option_or c1 (option_or r1 (option_or z1 w1))) (first-faults_along (spoke_gateway_fault t) p.spokes)
    (first_of_both c (r ++ (z ++ w)) c1 (option_or r1 (option_or z1 w1)) (first-faults_along (child_zone_fault t) p.zones)
    (first_of_both r (z ++ w) r1 (option_or z1 w1) (first-faults_along (route_fault t) p.routes)
    (first_of_both z w z1 w1 (first-faults_along (zone_route_fault t) p.zone_routes) (first-faults_along (spoke_fault t) p.spokes)))))

-- ---- they rise

rising_append : (xs ys : List ZoneFault) → IsRising xs → IsRising ys → Each (λ x. Each (IsBefore x) ys) xs → IsRising (xs ++ ys)
rising_append [] ys p q cross = q
rising_append (x ∷ xs) ys p q cross = (each_append (IsBefore x) xs ys p.0 cross.0, rising_append xs ys p.1 q cross.1)

-- faults of one kind and table, from this row on
abbrev IsIn : ℕ → ℕ → ℕ → ZoneFault → Type 0
IsIn kind table from f = (kind_number f ≡ kind) × ((place_of f).table ≡ table) × (from ≤ (place_of f).row)

-- those of one row
abbrev IsOf : ℕ → ℕ → ℕ → ZoneFault → Type 0
IsOf kind table row f = (kind_number f ≡ kind) × ((place_of f).table ≡ table) × ((place_of f).row ≡ row)

record Rise (kind table from : ℕ) (fs : List ZoneFault) : Type 0 where
  rise : IsRising fs
  each : Each (IsIn kind table from) fs

-- what is made along rows rises, if that of each row does
along_rises : {X : Type 0} (kind table : ℕ) (f : ℕ → X → List ZoneFault) → ((i : ℕ) (x : X) → IsRising (f i x)) → ((i : ℕ) (x : X) → Each (IsOf kind table (i + 1)) (f i x))
    → (i : ℕ) (xs : List X) → Rise kind table (i + 1) (along f i xs)
along_rises kind table f rise each i [] = record { rise = tt; each = tt }
along_rises kind table f rise each i (x ∷ xs) =
    let rest = along_rises kind table f rise each (i + 1) xs in
    let behind = each_cross IsBefore (IsOf kind table (i + 1)) (IsIn kind table (i + 1 + 1)) (λ a b p q. inr (p.0 ∙ sym q.0, inr (p.1 ∙ sym q.1, inl (omega (arith, p.2, q.2))))) (f i x) (along f (i + 1) xs) (each i x) rest.each in
    record {
      rise = rising_append (f i x) (along f (i + 1) xs) (rise i x) rest.rise behind;
      each = each_append (IsIn kind table (i + 1)) (f i x) (along f (i + 1) xs)
          (each_mono (IsOf kind table (i + 1)) (IsIn kind table (i + 1)) (λ g p. (p.0, p.1, omega (arith, p.2))) (f i x) (each i x))
          (each_mono (IsIn kind table (i + 1 + 1)) (IsIn kind table (i + 1)) (λ g p. (p.0, p.1, omega (arith, p.2))) (along f (i + 1) xs) rest.each);
    }

one_rises : (o : Option ZoneFault) → IsRising (as_list o)
one_rises None = tt
one_rises (Some fault) = (tt, tt)

one_each : (P : ZoneFault → Type 0) (b : Bool) (fault : ZoneFault) → P fault → Each P (as_list (fault_if b fault))
one_each P true fault h = (h, tt)
one_each P false fault h = tt

two_rise : (b c : Bool) (f g : ZoneFault) → IsBefore f g → IsRising (as_list (fault_if b f) ++ as_list (fault_if c g))
two_rise true true f g h = ((h, tt), (tt, tt))
two_rise true false f g h = (tt, tt)
two_rise false true f g h = (tt, tt)
two_rise false false f g h = tt

-- of each row one fault at most
told_rise : {X : Type 0} (kind table : ℕ) (told : ℕ → X → Option ZoneFault) → ((i : ℕ) (x : X) → Each (IsOf kind table (i + 1)) (as_list (told i x))) → (xs : List X)
    → Rise kind table 1 (faults_along told xs)
told_rise kind table told each xs = along_rises kind table (λ row x. as_list (told row x)) (λ i x. one_rises (told i x)) each 0 xs

cycles_rise : (xs : List (Option ZoneId)) → Rise 3 1 1 (faults_along (ancestor_fault ParentCycle) xs)
cycles_rise xs = told_rise 3 1 (ancestor_fault ParentCycle) (λ i x. one_each (IsOf 3 1 (i + 1)) (is_some x) _ (refl, refl, refl)) xs

deep_rise : (xs : List (Option ZoneId)) → Rise 4 1 1 (faults_along (ancestor_fault TooDeep) xs)
deep_rise xs = told_rise 4 1 (ancestor_fault TooDeep) (λ i x. one_each (IsOf 4 1 (i + 1)) (is_some x) _ (refl, refl, refl)) xs

gateways_rise : (t : Tree) (xs : List ZoneRouteRow) → Rise 5 6 1 (along (gateway_faults t) 0 xs)
gateways_rise t xs =
    along_rises 5 6 (gateway_faults t) (λ i x. two_rise _ _ _ _ (inr (refl, inr (refl, inr (refl, inl (omega arith))))))
    (λ i x. each_append (IsOf 5 6 (i + 1)) (as_list (gateway_fault t x.src x.gw_src (place 6 (i + 1) 3))) (as_list (gateway_fault t x.dst x.gw_dst (place 6 (i + 1) 4)))
    (one_each (IsOf 5 6 (i + 1)) _ _ (refl, refl, refl)) (one_each (IsOf 5 6 (i + 1)) _ _ (refl, refl, refl))) 0 xs

-- ---- roots

abbrev second : ℕ → ZoneFault
second row = TwoRoots (place 1 row 2)

roots_rise : (n : ℕ) (zones : List ZoneRow) → Rise 2 1 n (map second (roots n zones))
roots_rise n [] = record { rise = tt; each = tt }
roots_rise n (zone ∷ zones) = go (is_none zone.parent) (roots n zones) (roots (n + 1) zones) (roots_rise (n + 1) zones)
  where
    go : (b : Bool) (rs qs : List ℕ) → Rise 2 1 (n + 1) (map second qs) → Rise 2 1 n (map second (cond b (n ∷ qs) qs))
    go true rs qs r = record {
      rise = (each_mono (IsIn 2 1 (n + 1)) (IsBefore (second n)) (λ g p. inr (sym p.0, inr (sym p.1, inl (omega (arith, p.2))))) (map second qs) r.each, r.rise);
      each = ((refl, refl, omega arith), each_mono (IsIn 2 1 (n + 1)) (IsIn 2 1 n) (λ g p. (p.0, p.1, omega (arith, p.2))) (map second qs) r.each);
    }
    go false rs qs r = record { rise = r.rise; each = each_mono (IsIn 2 1 (n + 1)) (IsIn 2 1 n) (λ g p. (p.0, p.1, omega (arith, p.2))) (map second qs) r.each }

abbrev IsUpTo : ℕ → ZoneFault → Type 0
IsUpTo kind f = kind_number f ≤ kind

abbrev IsFrom : ℕ → ZoneFault → Type 0
IsFrom kind f = kind ≤ kind_number f

root_rising : (rs : List ℕ) → Rise 2 1 1 (map second rs) → IsRising (root_faults rs) × Each (IsUpTo 2) (root_faults rs)
root_rising [] r = ((tt, tt), (omega arith, tt))
root_rising (n ∷ rs) r = (r.rise.1, each_mono (IsIn 2 1 1) (IsUpTo 2) (λ g p. omega (arith, p.0)) (map second rs) r.each.1)

-- ---- all together

below_from : (k : ℕ) (xs ys : List ZoneFault) → IsRising xs → Each (IsUpTo k) xs → IsRising ys → Each (IsFrom (k + 1)) ys → IsRising (xs ++ ys)
below_from k xs ys rx ex ry ey = rising_append xs ys rx ry (each_cross IsBefore (IsUpTo k) (IsFrom (k + 1)) (λ a b p q. inl (omega (arith, p, q))) xs ys ex ey)

up_to : (k n kind table : ℕ) (xs : List ZoneFault) → kind ≤ k → Rise kind table n xs → Each (IsUpTo k) xs
up_to k n kind table xs few r = each_mono (IsIn kind table n) (IsUpTo k) (λ g p. omega (arith, p.0, few)) xs r.each

from : (k n kind table : ℕ) (xs : List ZoneFault) → k ≤ kind → Rise kind table n xs → Each (IsFrom k) xs
from k n kind table xs many r = each_mono (IsIn kind table n) (IsFrom k) (λ g p. omega (arith, p.0, many)) xs r.each

tree_rises : (zones : List ZoneRow) → IsRising (tree_faults zones) × Each (IsUpTo 4) (tree_faults zones)
tree_rises zones =
    let roots_here = root_faults (roots 1 zones) in
    let cycles = faults_along (ancestor_fault ParentCycle) (ancestors_of 1024 zones) in
    let deep = faults_along (ancestor_fault TooDeep) (ancestors_of 16 zones) in
    let r = root_rising (roots 1 zones) (roots_rise 1 zones) in
    let c = cycles_rise (ancestors_of 1024 zones) in
    let d = deep_rise (ancestors_of 16 zones) in (
      below_from 2 roots_here (cycles ++ deep) r.0 r.1
          (below_from 3 cycles deep c.rise (up_to 3 1 3 1 cycles (omega arith) c) d.rise (from 4 1 4 1 deep (omega arith) d))
          (each_append (IsFrom 3) cycles deep (from 3 1 3 1 cycles (omega arith) c) (from 3 1 4 1 deep (omega arith) d)),
      each_append (IsUpTo 4) roots_here (cycles ++ deep) (each_mono (IsUpTo 2) (IsUpTo 4) (λ g p. omega (arith, p)) roots_here r.1)
          (each_append (IsUpTo 4) cycles deep (up_to 4 1 3 1 cycles (omega arith) c) (up_to 4 1 4 1 deep (omega arith) d)),
    )

-- of the same kind, and of a later table
abbrev IsLater : ℕ → ℕ → ZoneFault → Type 0
IsLater kind table f = (kind_number f ≡ kind) × (table < (place_of f).table)

later : (n kind table to : ℕ) (xs : List ZoneFault) → table < to → Rise kind to n xs → Each (IsLater kind table) xs
later n kind table to xs less r = each_mono (IsIn kind to n) (IsLater kind table) (λ g p. (p.0, omega (arith, p.1, less))) xs r.each

by_table : (n kind table : ℕ) (xs ys : List ZoneFault) → Rise kind table n xs → IsRising ys → Each (IsLater kind table) ys → IsRising (xs ++ ys)
by_table n kind table xs ys r ry ey =
    rising_append xs ys r.rise ry (each_cross IsBefore (IsIn kind table n) (IsLater kind table) (λ a b p q. inr (p.0 ∙ sym q.0, inl (omega (arith, p.1, q.1)))) xs ys r.each ey)

-- the four lists of the last kind, whose tables rise
last_rise : (c r z w : List ZoneFault) → Rise 6 1 1 c → Rise 6 5 1 r → Rise 6 6 1 z → Rise 6 7 1 w → IsRising (c ++ (r ++ (z ++ w))) × Each (IsFrom 6) (c ++ (r ++ (z ++ w)))
last_rise c r z w rc rr rz rw = (
  by_table 1 6 1 c (r ++ (z ++ w)) rc routes_on
      (each_append (IsLater 6 1) r (z ++ w) (later 1 6 1 5 r (omega arith) rr) (each_append (IsLater 6 1) z w (later 1 6 1 6 z (omega arith) rz) (later 1 6 1 7 w (omega arith) rw))),
  each_append (IsFrom 6) c (r ++ (z ++ w)) (from 6 1 6 1 c (omega arith) rc)
      (each_append (IsFrom 6) r (z ++ w) (from 6 1 6 5 r (omega arith) rr) (each_append (IsFrom 6) z w (from 6 1 6 6 z (omega arith) rz) (from 6 1 6 7 w (omega arith) rw))),
)
  where
    routes_on : IsRising (r ++ (z ++ w))
    routes_on =
        by_table 1 6 5 r (z ++ w) rr (by_table 1 6 6 z w rz rw.rise (later 1 6 6 7 w (omega arith) rw))
        (each_append (IsLater 6 5) z w (later 1 6 5 6 z (omega arith) rz) (later 1 6 5 7 w (omega arith) rw))

-- two lists of the kind before, and what rises after them
rows_rise : (g s rest : List ZoneFault) → Rise 5 6 1 g → Rise 5 7 1 s → IsRising rest × Each (IsFrom 6) rest
    → IsRising (g ++ (s ++ rest)) × Each (IsFrom 5) (g ++ (s ++ rest))
rows_rise g s rest rg rs (rising, six) = (
  rising_append g (s ++ rest) rg.rise spokes_on
      (each_cross IsBefore (IsIn 5 6 1) (λ f. IsLater 5 6 f ⊎ IsFrom 6 f) (λ a b p q. first_before a b p q) g (s ++ rest) rg.each behind),
  each_append (IsFrom 5) g (s ++ rest) (from 5 1 5 6 g (omega arith) rg)
      (each_append (IsFrom 5) s rest (from 5 1 5 7 s (omega arith) rs) (each_mono (IsFrom 6) (IsFrom 5) (λ f p. omega (arith, p)) rest six)),
)
  where
    spokes_on : IsRising (s ++ rest)
    spokes_on = below_from 5 s rest rs.rise (up_to 5 1 5 7 s (omega arith) rs) rising six

    behind : Each (λ f. IsLater 5 6 f ⊎ IsFrom 6 f) (s ++ rest)
    behind =
        each_append (λ f. IsLater 5 6 f ⊎ IsFrom 6 f) s rest (each_mono (IsLater 5 6) (λ f. IsLater 5 6 f ⊎ IsFrom 6 f) (λ f p. inl p) s (later 1 5 6 7 s (omega arith) rs))
        (each_mono (IsFrom 6) (λ f. IsLater 5 6 f ⊎ IsFrom 6 f) (λ f p. inr p) rest six)

    first_before : (a b : ZoneFault) → IsIn 5 6 1 a → (IsLater 5 6 b ⊎ IsFrom 6 b) → IsBefore a b
    first_before a b p (inl q) = inr (p.0 ∙ sym q.0, inl (omega (arith, p.1, q.1)))
    first_before a b p (inr q) = inl (omega (arith, p.0, q))

row_faults_rise : (t : Tree) (p : Platform) → IsRising (row_faults t p) × Each (IsFrom 5) (row_faults t p)
row_faults_rise t p =
    rows_rise (along (gateway_faults t) 0 p.zone_routes) (faults_along (spoke_gateway_fault t) p.spokes)
    (faults_along (child_zone_fault t) p.zones ++ (faults_along (route_fault t) p.routes ++ (faults_along (zone_route_fault t) p.zone_routes ++ faults_along (spoke_fault t) p.spokes)))
    (gateways_rise t p.zone_routes)
    (told_rise 5 7 (spoke_gateway_fault t) (λ i x. one_each (IsOf 5 7 (i + 1)) _ _ (refl, refl, refl)) p.spokes)
    (last_rise (faults_along (child_zone_fault t) p.zones) (faults_along (route_fault t) p.routes) (faults_along (zone_route_fault t) p.zone_routes) (faults_along (spoke_fault t) p.spokes)
    (told_rise 6 1 (child_zone_fault t) (λ i x. one_each (IsOf 6 1 (i + 1)) _ _ (refl, refl, refl)) p.zones)
    (told_rise 6 5 (route_fault t) (λ i x. one_each (IsOf 6 5 (i + 1)) _ _ (refl, refl, refl)) p.routes)
    (told_rise 6 6 (zone_route_fault t) (λ i x. one_each (IsOf 6 6 (i + 1)) _ _ (refl, refl, refl)) p.zone_routes)
    (told_rise 6 7 (spoke_fault t) (λ i x. one_each (IsOf 6 7 (i + 1)) _ _ (refl, refl, refl)) p.spokes))

pub tells_least : (p : Platform) → TellsLeast p
tells_least p =
    let t = tree_rises p.zones in
    let r = row_faults_rise (zone_tree p) p in
    record {
      first = sym (first_of_both (tree_faults p.zones) (row_faults (zone_tree p) p) (tree_fault p.zones) (row_fault (zone_tree p) p) (first-tree_faults p.zones) (first-row_faults (zone_tree p) p));
      rise = below_from 4 (tree_faults p.zones) (row_faults (zone_tree p) p) t.0 t.1 r.0 r.1;
    }
