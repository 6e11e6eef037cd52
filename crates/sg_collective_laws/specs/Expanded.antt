-- A script with each collective line replaced by the lines of its expansion.
use Rattle.std.specs.Prelude.{◌≡◌, ◌-◌, ℕ, Bool, IsTrue, All, true, false, List, [], ◌∷◌, ◌++◌, length, Option, None, Some, Ok}
use Rattle.std.specs.List.{join_with_byte, slice_get, slice_split}
use Rattle.sg_base.specs.declared.ids.ActorId.{ActorId}
use Rattle.sg_edge.specs.Sources.{Source}
use Rattle.sg_platform_rows.specs.Deployment.{Deployed, members_among, replay_actor_named}
use Rattle.sg_platform_rows.specs.declared.rows.ActorRow.{ActorRow}
use Rattle.sg_script.specs.Answer.{is_newline, lines_among}
use Rattle.sg_script.specs.Known.{ScriptNames, known_in}
use Rattle.sg_script.specs.Line.{Judgement, line_judgement}
use Rattle.sg_script.specs.declared.operation.Operation.{Operation}
use Rattle.sg_script.specs.declared.operation.Operation.TheVariants.{Alone, Together}
use Rattle.sg_toml_tree.specs.Spelling.{is_name}
use Rattle.sg_collective_laws.specs.Written.{Naming, expansion_lines}

-- ---- one line
-- the lines that stand for a line of an actor, which asks for this
abbrev pub lines_asking : ScriptNames → Naming → List ℕ → ActorId → Operation → List (List ℕ)
lines_asking known name line actor (Alone action) = line ∷ []
lines_asking known name line actor (Together collective) =
    expansion_lines name known.members actor collective

abbrev pub lines_judged : ScriptNames → Naming → List ℕ → Judgement → List (List ℕ)
lines_judged known name line (Ok (Some entry)) =
    lines_asking known name line entry.actor entry.operation
lines_judged known name line other = line ∷ []

-- the lines that stand for this one: those of its expansion for a collective, else itself
abbrev pub lines_for : ScriptNames → Naming → List ℕ → List (List ℕ)
lines_for known name line = lines_judged known name line (line_judgement known line)

-- ---- what stands after the last newline
-- of an expansion there each line has a newline after it
abbrev pub rest_asking : ScriptNames → Naming → List ℕ → ActorId → Operation → List (List ℕ)
rest_asking known name rest actor (Alone action) = rest ∷ []
rest_asking known name rest actor (Together collective) =
    expansion_lines name known.members actor collective ++ [] ∷ []

abbrev pub rest_judged : ScriptNames → Naming → List ℕ → Judgement → List (List ℕ)
rest_judged known name rest (Ok (Some entry)) =
    rest_asking known name rest entry.actor entry.operation
rest_judged known name rest other = rest ∷ []

-- a line at the end of the input, but none before a failed read
abbrev pub rest_for : ScriptNames → Naming → Bool → List ℕ → List (List ℕ)
rest_for known name true rest = rest ∷ []
rest_for known name false rest = rest_judged known name rest (line_judgement known rest)

-- ---- the whole source
-- among parts that newlines separate
abbrev pub expanded_parts : ScriptNames → Naming → Bool → List (List ℕ) → List (List ℕ)
expanded_parts known name broken [] = []
expanded_parts known name broken (rest ∷ []) = rest_for known name broken rest
expanded_parts known name broken (line ∷ part ∷ parts) =
    lines_for known name line ++ expanded_parts known name broken (part ∷ parts)

abbrev pub expanded : ScriptNames → Naming → Source → Source
expanded known name source = record {
  bytes = join_with_byte 10
      (expanded_parts known name source.broken (slice_split is_newline source.bytes));
  broken = source.broken;
}

-- how many lines a source has
abbrev pub line_count : Source → ℕ
line_count source = length (lines_among source.broken 0 (slice_split is_newline source.bytes))

-- ---- by a deployment
abbrev pub row_name : Option ActorRow → List ℕ
row_name None = []
row_name (Some row) = row.name

-- the name of an actor; the first actor of the deployment has the identifier 1
abbrev pub name_of : Deployed → Naming
name_of deployed actor = row_name (slice_get deployed.actors (actor.0 - 1))

-- names are spelled as names, and each actor that replays is the one that its name stands for
pub record HasNames (deployed : Deployed) : Type 0 where
  pub spelled : All (λ row. IsTrue (is_name row.name)) deployed.actors
  pub own : All (λ member. replay_actor_named deployed (name_of deployed member) ≡ Some member) (members_among deployed.actors)

-- the source with each collective line replaced
abbrev pub expanded_in : Deployed → Source → Source
expanded_in deployed source = expanded (known_in deployed) (name_of deployed) source
