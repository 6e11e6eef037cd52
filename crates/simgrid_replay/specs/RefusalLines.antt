-- The lines that report why a platform or a deployment is refused.
use Rattle.std.specs.Prelude.{ℕ, List, ◌++◌, Option, Some, None, option_map, codes, decimal}
use Rattle.std.specs.Option.{option_map_or}
use Rattle.sg_toml_tree.specs.Faults.{kind_words}
use Rattle.sg_toml_tree.specs.declared.fault.Fault.{Fault}
use Rattle.sg_toml_tree.specs.declared.fault.Place.{Place}

-- PART: WORDS (table T, row R, key K), or PART: WORDS alone
abbrev pub refusal_line : List ℕ → List ℕ → Option Place → List ℕ
refusal_line part words None = part ++ (codes ": " ++ (words ++ codes "\n"))
refusal_line part words (Some place) =
    part ++ (codes ": " ++ (words ++ (codes " (table " ++ (decimal place.table ++ (codes ", row " ++ (decimal place.row ++ (codes ", key " ++ (decimal place.key ++ codes ")\n"))))))))

-- the line of a refused text: it is no TOML, or breaks a rule
abbrev pub text_line : List ℕ → Option Fault → List ℕ
text_line part fault = refusal_line part
    (option_map_or (λ rule. kind_words rule.kind) fault (codes "not TOML")) (option_map (λ rule. rule.place) fault)
