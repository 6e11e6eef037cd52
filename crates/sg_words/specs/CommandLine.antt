-- The command line of the program: its definition as `clap` sees it, and the job that words ask for.
use Rattle.std.specs.Prelude.{◌≡◌, ℕ, Bool, false, true, List, [], ◌∷◌, Option, Some, None, codes, if◌then◌else◌, option_and_then, option_map}
use Rattle.std.specs.Option.{option_map_or}
use Rattle.std.specs.Str.{bytes_eq}
use Rattle.std.specs.Str.Parse.{digits_value, without_leading_plus}
use Rattle.clap.specs.Words.{App, Kinds, Row, Rule, Text, fault_of, first_of, new_app, new_rule, subcommand_of, with_rule}
use Rattle.clap.specs.Takes.{value_passes}
use Rattle.clap.specs.declared.builder.action.ArgAction.TheVariants.{SetTrue}
use Rattle.clap.specs.declared.builder.value_parser.ValueParser.{ValueParser}
use Rattle.clap.specs.declared.builder.value_parser.ValueParser.TheVariants as vp

-- ---- the definition

-- an argument that must be given: a number that a parser reads, or a name
abbrev pub argument_rule : Text → Option ValueParser → Rule
argument_rule id parser = record (new_rule id) { required = true; value_names = 1; parser = parser }

-- the argument of churn for the seed: 0 to 2^63 - 1
abbrev pub seed_rule : Rule
seed_rule = argument_rule (codes "seed") (Some (vp.Unsigned 0 9223372036854775807))

-- the argument of churn for the number of actors: 2 to 4,096
abbrev pub actors_rule : Rule
actors_rule = argument_rule (codes "actors") (Some (vp.Unsigned 2 4096))

-- the argument of churn for the number of steps: 0 to 1,000,000
abbrev pub steps_rule : Rule
steps_rule = argument_rule (codes "steps") (Some (vp.Unsigned 0 1000000))

-- an option with a number from least to most, and its default
abbrev pub number_rule : Text → ℕ → ℕ → Text → Rule
number_rule id least most default =
    record (new_rule id) { long = Some id; parser = Some (vp.Unsigned least most); defaults = default ∷ []; value_names = 1 }

-- the option for the number of worker threads: 1 to 64, by default 1
abbrev pub workers_rule : Rule
workers_rule = number_rule (codes "nthreads") 1 64 (codes "1")

-- the option for the greatest number of events: 1 to 10^9, by default 1,000,000
abbrev pub budget_rule : Rule
budget_rule = number_rule (codes "budget") 1 1000000000 (codes "1000000")

-- the options of every command
abbrev pub with_common_options : App → App
with_common_options a = with_rule (with_rule a workers_rule) budget_rule

-- the options of a command that prints a line for each action
abbrev pub with_options : App → App
with_options a = with_rule (with_common_options a) (record (new_rule (codes "quiet")) { long = Some (codes "quiet"); action = Some SetTrue })

-- the file names of a platform and a deployment, as arguments of a command
abbrev pub with_parts : App → App
with_parts a = with_rule (with_rule a (argument_rule (codes "platform") None)) (argument_rule (codes "deployment") None)

-- the command `replay`: a platform, a deployment and a script, with all options
abbrev pub replay_app : App
replay_app = with_options (with_rule (with_parts (new_app (codes "replay"))) (argument_rule (codes "script") None))

-- the command `run`: a platform and a deployment without a script, with all options
abbrev pub run_app : App
run_app = with_options (with_parts (new_app (codes "run")))

-- the command `churn`: a seed, a number of actors and a number of steps
abbrev pub churn_app : App
churn_app = with_common_options (with_rule (with_rule (with_rule (new_app (codes "churn")) seed_rule) actors_rule) steps_rule)

-- the whole program: one of its commands `replay`, `run` and `churn` must be given, and there is a version
abbrev pub program_app : App
program_app = record {
  top = record (new_app (codes "simgrid_replay")).top { is_leaf = false; subcommand_required = true; has_version = true };
  subs = replay_app.top ∷ (run_app.top ∷ (churn_app.top ∷ []));
}

-- the kinds of refusal that the words may have, none if the definition accepts them
abbrev pub refusals : List Text → Kinds
refusals words = fault_of program_app words

-- ---- the job

-- what the program is asked to do: to replay a script on a platform with a deployment, to run without a script, or to
-- churn from a seed, with so many actors and steps
pub data Request : Type 0 where
  replay : Text → Text → Text → Request
  run : Text → Text → Request
  churn : ℕ → ℕ → ℕ → Request

-- the job of an accepted command line: what to simulate, on how many threads, how far, and whether quietly
pub record Asked : Type 0 where
  pub request : Request
  pub workers : ℕ
  pub budget : ℕ
  pub quiet : Bool

-- a function of one more value, if both are there
abbrev pub with_value : {X Y : Type 0} → Option (X → Y) → Option X → Option Y
with_value make value = option_and_then (λ f. option_map f value) make

-- the number that an argument has, if its rule takes it
abbrev pub number_at : Rule → List Row → Option ℕ
number_at rule rows =
    option_and_then (λ text. if value_passes rule text then Some (digits_value 10 (without_leading_plus text)) else None) (first_of rule.id rows)

-- what is made of the names of a platform and a deployment
abbrev pub parts_at : {X : Type 0} → (Text → Text → X) → List Row → Option X
parts_at make rows = with_value (option_map make (first_of (codes "platform") rows)) (first_of (codes "deployment") rows)

-- what the command of this name is asked to do, if its arguments are there
abbrev pub request_at : Text → List Row → Option Request
request_at name rows =
    if bytes_eq name (codes "replay") then with_value (parts_at (λ p d s. replay p d s) rows) (first_of (codes "script") rows)
    else if bytes_eq name (codes "run") then parts_at run rows
    else if bytes_eq name (codes "churn") then with_value (with_value (option_map (λ s a n. churn s a n)
    (number_at seed_rule rows)) (number_at actors_rule rows)) (number_at steps_rule rows)
    else None

-- whether the option `--quiet` was given
abbrev pub is_quiet : List Row → Bool
is_quiet rows = option_map_or (λ text. bytes_eq text (codes "true")) (first_of (codes "quiet") rows) false

-- what the command of a name is asked to do, by the values that were found for its arguments
abbrev pub asked_at : Text × List Row → Option Asked
asked_at command = with_value (with_value (option_map
    (λ request workers budget. record { request = request; workers = workers; budget = budget; quiet = is_quiet command.1 })
    (request_at command.0 command.1)) (number_at workers_rule command.1)) (number_at budget_rule command.1)

-- what the words ask for, if the definition accepts them
abbrev pub asked_of : List Text → Option Asked
asked_of words = option_and_then asked_at (subcommand_of program_app words)

-- words that aren't refused ask for a job
abbrev pub AcceptedWordsHaveJobs : Type 0
AcceptedWordsHaveJobs = (words : List Text) → refusals words ≡ [] → (job : Asked) × (asked_of words ≡ Some job)
