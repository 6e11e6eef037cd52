-- The tables of both texts in their order: of each its name and its limit of rows, and its keys in order; of each key
-- whether it is required, and what its value must be.
use Rattle.std.specs.Prelude.{ℕ, List, [], ◌∷◌, codes}
use Rattle.sg_toml_keys.specs.declared.tables.Key.{Key}
use Rattle.sg_toml_keys.specs.declared.tables.Need.{Need}
use Rattle.sg_toml_keys.specs.declared.tables.Need.TheVariants.{Required, Optional, IfZone, Unless}
use Rattle.sg_toml_keys.specs.declared.tables.Rule.{Rule}
use Rattle.sg_toml_keys.specs.declared.tables.Rule.TheVariants.{Text, Whole, Truth, Texts, Powers}
use Rattle.sg_toml_keys.specs.declared.tables.Table.{Table}
use Rattle.sg_toml_keys.specs.declared.tables.Table.TheVariants.{Zone, Host, Router, Link, Route, ZoneRoute, Spoke, Network, Profile, StateProfile, Actor, Mutex, Semaphore}
use Rattle.sg_toml_keys.specs.declared.tables.TextRule.TheVariants.{NewPoint, NewLink, NewActor, NewMutex, NewSemaphore, ZoneName, PointName, EndName, HostName, RouteEnd, ZoneRouteEnd, SpokeChild, RoutingWord, PolicyWord, FunctionWord, PositiveValue, AnyValue, ProfiledHost, ProfiledLink, SwitchedHost, SwitchedLink}
use Rattle.sg_toml_keys.specs.declared.tables.TextsRule.TheVariants.{LinkList, DateList, ValueList, StateList, ArgumentList}
use Rattle.sg_toml_keys.specs.declared.units.Quantity.TheVariants.{Time, Latency, Speed, Bandwidth, Factor, Amount}

-- a key of a table: its name, whether a row must have it, and the rule for its value
abbrev pub key : List ℕ → Need (List ℕ) → Rule → Key (List ℕ)
key name need rule = record { name = name; need = need; rule = rule }

-- the keys of a table, in order
abbrev pub keys_of : Table → List (Key (List ℕ))
keys_of Zone = key (codes "id") Required (Text NewPoint)
    ∷ key (codes "parent") Optional (Text ZoneName)
    ∷ key (codes "routing") Required (Text RoutingWord) ∷ []
keys_of Host = key (codes "id") Required (Text NewPoint)
    ∷ key (codes "zone") Required (Text ZoneName)
    ∷ key (codes "speed") Required (Text (PositiveValue Speed))
    ∷ key (codes "core") Optional (Whole 1 1024)
    ∷ key (codes "power") Optional Powers
    ∷ key (codes "power_off") Optional (Whole 0 1000000000) ∷ []
keys_of Router = key (codes "id") Required (Text NewPoint)
    ∷ key (codes "zone") Required (Text ZoneName) ∷ []
keys_of Link = key (codes "id") Required (Text NewLink)
    ∷ key (codes "bandwidth") Required (Text (PositiveValue Bandwidth))
    ∷ key (codes "latency") Optional (Text (AnyValue Latency))
    ∷ key (codes "sharing_policy") Optional (Text PolicyWord) ∷ []
keys_of Route = key (codes "src") Required (Text PointName)
    ∷ key (codes "dst") Required (Text RouteEnd)
    ∷ key (codes "links") Required (Texts LinkList)
    ∷ key (codes "symmetrical") Optional Truth ∷ []
keys_of ZoneRoute = key (codes "src") Required (Text EndName)
    ∷ key (codes "dst") Required (Text ZoneRouteEnd)
    ∷ key (codes "gw_src") (IfZone (codes "src")) (Text PointName)
    ∷ key (codes "gw_dst") (IfZone (codes "dst")) (Text PointName)
    ∷ key (codes "links") Required (Texts LinkList)
    ∷ key (codes "symmetrical") Optional Truth ∷ []
keys_of Spoke = key (codes "zone") Required (Text ZoneName)
    ∷ key (codes "child") Required (Text SpokeChild)
    ∷ key (codes "gateway") (IfZone (codes "child")) (Text PointName)
    ∷ key (codes "up") Required (Texts LinkList)
    ∷ key (codes "down") Optional (Texts LinkList) ∷ []
keys_of Network = key (codes "latency_factor") Optional (Text (AnyValue Factor))
    ∷ key (codes "bandwidth_factor") Optional (Text (PositiveValue Factor))
    ∷ key (codes "window") Optional (Text (AnyValue Amount)) ∷ []
keys_of Profile = key (codes "host") (Unless (codes "link")) (Text ProfiledHost)
    ∷ key (codes "link") Optional (Text ProfiledLink)
    ∷ key (codes "dates") Required (Texts DateList)
    ∷ key (codes "values") Required (Texts ValueList)
    ∷ key (codes "loop") Optional (Text (PositiveValue Time)) ∷ []
keys_of StateProfile = key (codes "host") (Unless (codes "link")) (Text SwitchedHost)
    ∷ key (codes "link") Optional (Text SwitchedLink)
    ∷ key (codes "dates") Required (Texts DateList)
    ∷ key (codes "states") Required (Texts StateList)
    ∷ key (codes "loop") Optional (Text (PositiveValue Time)) ∷ []
keys_of Actor = key (codes "name") Required (Text NewActor)
    ∷ key (codes "host") Required (Text HostName)
    ∷ key (codes "function") Required (Text FunctionWord)
    ∷ key (codes "argument") Optional (Texts ArgumentList)
    ∷ key (codes "start") Optional Truth ∷ []
keys_of Mutex = key (codes "id") Required (Text NewMutex) ∷ []
keys_of Semaphore = key (codes "id") Required (Text NewSemaphore)
    ∷ key (codes "capacity") Required (Whole 0 1000000000) ∷ []

-- the name of a table, and how many rows it may have
pub record Heading : Type 0 where
  pub name : List ℕ
  pub limit : ℕ

-- the heading of each table
abbrev pub heading : Table → Heading
heading Zone = record { name = codes "zone"; limit = 1024 }
heading Host = record { name = codes "host"; limit = 16384 }
heading Router = record { name = codes "router"; limit = 16384 }
heading Link = record { name = codes "link"; limit = 65536 }
heading Route = record { name = codes "route"; limit = 262144 }
heading ZoneRoute = record { name = codes "zone_route"; limit = 262144 }
heading Spoke = record { name = codes "spoke"; limit = 32768 }
heading Network = record { name = codes "network"; limit = 1 }
heading Profile = record { name = codes "profile"; limit = 4096 }
heading StateProfile = record { name = codes "state_profile"; limit = 4096 }
heading Actor = record { name = codes "actor"; limit = 65536 }
heading Mutex = record { name = codes "mutex"; limit = 65536 }
heading Semaphore = record { name = codes "semaphore"; limit = 65536 }

-- the tables of a platform, in order
abbrev pub platform_tables : List Table
platform_tables = Zone ∷ Host ∷ Router ∷ Link ∷ Route ∷ ZoneRoute ∷ Spoke ∷ Network ∷ Profile ∷ StateProfile ∷ []

-- the tables of a deployment, in order
abbrev pub deployment_tables : List Table
deployment_tables = Actor ∷ Mutex ∷ Semaphore ∷ []
