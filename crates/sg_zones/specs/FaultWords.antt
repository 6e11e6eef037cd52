-- Why zones are no tree, in words, and where.
use Rattle.std.specs.Prelude.{ℕ, List, [], Option, Some, None, codes}
use Rattle.sg_toml_tree.specs.declared.fault.Place.{Place}
use Rattle.sg_zones.specs.declared.fault.ZoneFault.{ZoneFault}
use Rattle.sg_zones.specs.declared.fault.ZoneFault.TheVariants.{NoRoot, TwoRoots, ParentCycle, TooDeep, GatewayOutside, WrongRouting, Memory}

-- what is wrong, in words, and where
abbrev pub words_and_place : ZoneFault → List ℕ × Option Place
words_and_place (NoRoot at) = (codes "no root zone", Some at)
words_and_place (TwoRoots at) = (codes "two root zones", Some at)
words_and_place (ParentCycle at) = (codes "zone cycle", Some at)
words_and_place (TooDeep at) = (codes "zones too deep", Some at)
words_and_place (GatewayOutside at) = (codes "gateway outside", Some at)
words_and_place (WrongRouting at) = (codes "wrong routing", Some at)
words_and_place Memory = ([], None)

-- what is wrong with the zones, in words
abbrev pub zone_words : ZoneFault → List ℕ
zone_words fault = (words_and_place fault).0

-- where the fault of the zones is; none: the machine is out of memory
abbrev pub zone_place : ZoneFault → Option Place
zone_place fault = (words_and_place fault).1
