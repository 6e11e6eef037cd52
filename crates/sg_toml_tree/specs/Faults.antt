-- Lists of faults: which rules are broken at a place.
use Rattle.std.specs.Prelude.{ℕ, Bool, List, [], ◌∷◌, if◌then◌else◌, Option, map, codes}
use Rattle.std.specs.Option.{option_map_or}
use Rattle.sg_toml_tree.specs.declared.fault.Kind.{Kind}
use Rattle.sg_toml_tree.specs.declared.fault.Kind.TheVariants.{MissingKey, WrongType, BadValue, BadName, Duplicate, Unknown, Limit, Function, Arguments}
use Rattle.sg_toml_tree.specs.declared.fault.Fault.{Fault}

-- the number by which kinds at one place are ordered
abbrev pub kind_number : Kind → ℕ
kind_number MissingKey = 2
kind_number WrongType = 3
kind_number BadValue = 4
kind_number BadName = 5
kind_number Duplicate = 6
kind_number Unknown = 7
kind_number Limit = 8
kind_number Function = 9
kind_number Arguments = 10

-- the rule that is broken, in words
abbrev pub kind_words : Kind → List ℕ
kind_words MissingKey = codes "missing key"
kind_words WrongType = codes "wrong type"
kind_words BadValue = codes "bad value"
kind_words BadName = codes "bad name"
kind_words Duplicate = codes "duplicate"
kind_words Unknown = codes "unknown name"
kind_words Limit = codes "over a limit"
kind_words Function = codes "unknown function"
kind_words Arguments = codes "bad arguments"

-- the kind, if its rule is broken
abbrev pub kind_if : Bool → Kind → List Kind
kind_if b kind = if b then kind ∷ [] else []

-- what is wrong with a value of the type; without one the type is wrong
abbrev pub of_type : {A : Type 0} → (A → List Kind) → Option A → List Kind
of_type kinds value = option_map_or kinds value (WrongType ∷ [])

-- the faults at one place: table t, row r, key k
abbrev pub at_place : ℕ → ℕ → ℕ → List Kind → List Fault
at_place t r k kinds = map (λ kind. record { place = record { table = t; row = r; key = k }; kind = kind }) kinds
