-- What the keys of the program stand for: their names are texts.
use Rattle.std.specs.Borrow.{Bor}
use Rattle.std.specs.Prelude.{ℕ, List}
use Rattle.sg_toml_keys.specs.declared.tables.Key.{Key}
use Rattle.sg_toml_keys.specs.declared.tables.Need.{Need}
use Rattle.sg_toml_keys.specs.declared.tables.Need.TheVariants.{Required, Optional, IfZone, Unless}
use Rattle.sg_toml_keys.specs.Tables.{key}

abbrev pub need_of : Need (Bor (List ℕ)) → Need (List ℕ)
need_of Required = Required
need_of Optional = Optional
need_of (IfZone name) = IfZone name.now
need_of (Unless name) = Unless name.now

abbrev pub key_of : Key (Bor (List ℕ)) → Key (List ℕ)
key_of k = key k.name.now (need_of k.need) k.rule
