-- The readings of a meter, and what contracts see of them.
use Rattle.std.proofs.Common.{◌≡◌, ℕ, zero, suc, ◌<◌, List, ◌∷◌, replicate, refl, length, get_or, set, map, sym, ap, subst, ◌∙◌}
use Rattle.std.proofs.lemmas.List.{get_or-map, length-map, map-set}
use Rattle.sg_energy.specs.declared.reading.Reading.{Reading}
use Rattle.sg_energy.specs.Meter.{Metered, first_meter, meter_of, with_power}
use Rattle.sg_energy.specs.kept.Reading.{metered_of}

-- so many of the same
pub map-replicate : (n : ℕ) (r : Reading) → map metered_of (replicate n r) ≡ replicate n (metered_of r)
map-replicate zero r = refl
map-replicate (suc n) r = ap (λ ms. metered_of r ∷ ms) (map-replicate n r)

-- that of a host
meter_of-readings : (readings : List Reading) (meters : List Metered) (host : ℕ) (was : Reading) → map metered_of readings ≡ meters → host < length meters
    → was ≡ get_or readings host was → meter_of meters host ≡ metered_of was
meter_of-readings readings meters host was is to at =
    ap (λ ms. meter_of ms host) (sym is)
    ∙ get_or-map metered_of readings host was first_meter (subst (λ n. host < n) (ap length (sym is) ∙ length-map readings metered_of) to)
    ∙ ap metered_of (sym at)

-- a reading is written
pub set_reading : (readings : List Reading) (meters : List Metered) (host power date : ℕ) (was now : Reading) → map metered_of readings ≡ meters → host < length meters
    → was ≡ get_or readings host was → metered_of now ≡ with_power power date (metered_of was)
    → map metered_of (set readings host now) ≡ set meters host (with_power power date (meter_of meters host))
set_reading readings meters host power date was now is to at e =
    map-set metered_of readings host now
    ∙ ap (λ ms. set ms host (metered_of now)) is
    ∙ ap (λ m. set meters host m) (e ∙ ap (with_power power date) (sym (meter_of-readings readings meters host was is to at)))
