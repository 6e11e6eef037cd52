-- Words that the definition takes ask for something.
use Rattle.std.proofs.Common.{◌≡◌, ◌⊎◌, ◌&&◌, ◌||◌, ◌∙◌, ap, inl, inr, ℕ, List, [], Bool, true, false, Option, Some, None, refl, sym, subst, not, codes}
use Rattle.std.specs.Prelude.{is_some, option_and_then, option_map}
use Rattle.clap.specs.Words.{Row, Rule, Shape, Text, built, fault_of, first_of, subcommand_of}
use Rattle.clap.specs.Takes.{value_passes}
use Rattle.clap.specs.Walk.{answers_to, nothing_held, rows_after, walk, walk_from}
use Rattle.clap.specs.Simple.{argument_words, built_leaf, entered, filled, help_shape, inherited, label_of, names_of, with_index}
use Rattle.clap.specs.Faults.{entered_fault, level_fault}
use Rattle.sg_words.specs.CommandLine.{Asked, Request, actors_rule, argument_rule, asked_at, budget_rule, churn, churn_app, is_quiet, number_at, parts_at, program_app, replay, replay_app, request_at, run, run_app, seed_rule, steps_rule, workers_rule, with_value}
use Rattle.sg_words.proofs.Accepted.{Owns, nil_both}
use Rattle.sg_words.proofs.Ends.{owns_of, text_of}
use Rattle.sg_words.proofs.Level.{Taken, default_first, entered_level, find_four, level_taken, required_first}
use Rattle.sg_words.proofs.Stops.{is_help_at, walk_kept}

abbrev top : Shape
top = (built program_app).top

abbrev replay_shape : Shape
replay_shape = built_leaf (inherited top replay_app.top)

abbrev run_shape : Shape
run_shape = built_leaf (inherited top run_app.top)

abbrev churn_shape : Shape
churn_shape = built_leaf (inherited top churn_app.top)

abbrev help_built : Shape
help_built = built_leaf help_shape

top_owns : Owns top.rules
top_owns = owns_of top.rules refl refl

replay_owns : Owns replay_shape.rules
replay_owns = owns_of replay_shape.rules refl refl

run_owns : Owns run_shape.rules
run_owns = owns_of run_shape.rules refl refl

churn_owns : Owns churn_shape.rules
churn_owns = owns_of churn_shape.rules refl refl

map_some : {X Y : Type 0} (f : X → Y) (o : Option X) → is_some o ≡ true → is_some (option_map f o) ≡ true
map_some f None h = h
map_some f (Some x) h = refl

value_some : {X Y : Type 0} (make : Option (X → Y)) (value : Option X) → is_some make ≡ true → is_some value ≡ true → is_some (with_value make value) ≡ true
value_some None value h g = h
value_some (Some f) None h g = g
value_some (Some f) (Some x) h g = refl

some_of : {X : Type 0} (o : Option X) (x : X) → o ≡ Some x → is_some o ≡ true
some_of o x e = rw e refl

-- a number that passed its parser is read
number_read : (rule : Rule) (rows : List Row) → ((v : Text) × (first_of rule.id rows ≡ Some v) × (value_passes rule v ≡ true)) → is_some (number_at rule rows) ≡ true
number_read rule rows got =
    let passes : value_passes rule got.0 ≡ true = got.2 in
    rw got.1 (rw passes refl)

asked_some : (name : Text) (rows : List Row) → is_some (request_at name rows) ≡ true → is_some (number_at workers_rule rows) ≡ true
    → is_some (number_at budget_rule rows) ≡ true → is_some (asked_at (name, rows)) ≡ true
asked_some name rows r w b =
    let make : Request → ℕ → ℕ → Asked = λ request workers budget. record { request = request; workers = workers; budget = budget; quiet = is_quiet rows } in
    value_some (with_value (option_map make (request_at name rows)) (number_at workers_rule rows)) (number_at budget_rule rows)
    (value_some (option_map make (request_at name rows)) (number_at workers_rule rows) (map_some make (request_at name rows) r) w) b

parts_some : {X : Type 0} (make : Text → Text → X) (rows : List Row) → is_some (first_of (codes "platform") rows) ≡ true → is_some (first_of (codes "deployment") rows) ≡ true
    → is_some (parts_at make rows) ≡ true
parts_some make rows p d =
    value_some (option_map make (first_of (codes "platform") rows)) (first_of (codes "deployment") rows) (map_some make (first_of (codes "platform") rows) p) d

abbrev name_at : ℕ → Text → Rule
name_at i id = with_index i (filled (argument_rule id None))

replay_some : (words : List Text) → Taken replay_shape [] words false [] → is_some (asked_at (codes "replay", rows_after replay_shape.rules [] words)) ≡ true
replay_some words t =
    let rows = rows_after replay_shape.rules [] words in
    let p = required_first replay_shape [] words [] (name_at 1 (codes "platform")) t refl refl in
    let d = required_first replay_shape [] words [] (name_at 2 (codes "deployment")) t refl refl in
    let s = required_first replay_shape [] words [] (name_at 3 (codes "script")) t refl refl in
    let w = default_first replay_shape [] words false [] (codes "nthreads") t refl in
    let b = default_first replay_shape [] words false [] (codes "budget") t refl in
    let make : Text → Text → Text → Request = λ p d s. replay p d s in
    let parts : is_some (parts_at make rows) ≡ true = parts_some make rows (some_of _ _ p.1) (some_of _ _ d.1) in
    let request : is_some (with_value (parts_at make rows) (first_of (codes "script") rows)) ≡ true =
    value_some (parts_at make rows) (first_of (codes "script") rows) parts (some_of _ _ s.1) in
    asked_some (codes "replay") rows request (number_read workers_rule rows w) (number_read budget_rule rows b)

run_some : (words : List Text) → Taken run_shape [] words false [] → is_some (asked_at (codes "run", rows_after run_shape.rules [] words)) ≡ true
run_some words t =
    let rows = rows_after run_shape.rules [] words in
    let p = required_first run_shape [] words [] (name_at 1 (codes "platform")) t refl refl in
    let d = required_first run_shape [] words [] (name_at 2 (codes "deployment")) t refl refl in
    let w = default_first run_shape [] words false [] (codes "nthreads") t refl in
    let b = default_first run_shape [] words false [] (codes "budget") t refl in
    let make : Text → Text → Request = λ p d. run p d in
    let request : is_some (parts_at make rows) ≡ true = parts_some make rows (some_of _ _ p.1) (some_of _ _ d.1) in
    asked_some (codes "run") rows request (number_read workers_rule rows w) (number_read budget_rule rows b)

churn_some : (words : List Text) → Taken churn_shape [] words false [] → is_some (asked_at (codes "churn", rows_after churn_shape.rules [] words)) ≡ true
churn_some words t =
    let rows = rows_after churn_shape.rules [] words in
    let s = required_first churn_shape [] words [] (with_index 1 (filled seed_rule)) t refl refl in
    let a = required_first churn_shape [] words [] (with_index 2 (filled actors_rule)) t refl refl in
    let n = required_first churn_shape [] words [] (with_index 3 (filled steps_rule)) t refl refl in
    let w = default_first churn_shape [] words false [] (codes "nthreads") t refl in
    let b = default_first churn_shape [] words false [] (codes "budget") t refl in
    let make : ℕ → ℕ → ℕ → Request = λ seed actors steps. churn seed actors steps in
    let first = option_map make (number_at seed_rule rows) in
    let second = with_value first (number_at actors_rule rows) in
    let request : is_some (with_value second (number_at steps_rule rows)) ≡ true =
    value_some second (number_at steps_rule rows) (value_some first (number_at actors_rule rows)
    (map_some make (number_at seed_rule rows) (number_read seed_rule rows s)) (number_read actors_rule rows a)) (number_read steps_rule rows n) in
    asked_some (codes "churn") rows request (number_read workers_rule rows w) (number_read budget_rule rows b)

abbrev IsCommand : Shape → Type 0
IsCommand s = ((s ≡ replay_shape) ⊎ (s ≡ run_shape)) ⊎ (s ≡ churn_shape)

-- the command with what was found asks for something
abbrev Asks : Shape → List Text → Type 0
Asks s words = is_some (asked_at (s.name, rows_after s.rules [] words)) ≡ true

each_asks : (s : Shape) (words : List Text) → IsCommand s → level_fault s [] nothing_held words false [] ≡ [] → Asks s words
each_asks s words (inl (inl e)) f =
    subst (λ x. Asks x words) (sym e) (replay_some words (level_taken replay_shape replay_owns [] words false [] refl (subst (λ x. level_fault x [] nothing_held words false [] ≡ []) e f)))
each_asks s words (inl (inr e)) f =
    subst (λ x. Asks x words) (sym e) (run_some words (level_taken run_shape run_owns [] words false [] refl (subst (λ x. level_fault x [] nothing_held words false [] ≡ []) e f)))
each_asks s words (inr e) f =
    subst (λ x. Asks x words) (sym e) (churn_some words (level_taken churn_shape churn_owns [] words false [] refl (subst (λ x. level_fault x [] nothing_held words false [] ≡ []) e f)))

has_of : (b : Bool) → (not b && true) ≡ false → b ≡ true
has_of true h = refl
has_of false h = sym h

or_none : (b : Bool) → (b || false) ≡ true → b ≡ true
or_none true h = refl
or_none false h = h

-- the name of a command is its own
named_help : (word : Text) → answers_to word (label_of help_built) ≡ true → word ≡ codes "help"
named_help word h = sym (text_of (codes "help") word (or_none _ h))

-- `help` isn't entered
not_entered : (word : Text) (words : List Text) (stop : Option (Text × List Text)) → stop ≡ Some (word, words) → is_help_at stop ≡ false → answers_to word (label_of help_built) ≡ true → ⊥
not_entered word words stop is none answers =
    let name : word ≡ codes "help" = named_help word answers in
    let bad : is_help_at (Some (word, words)) ≡ false = subst (λ x. is_help_at x ≡ false) is none in
    let worse : is_help_at (Some (codes "help", words)) ≡ false = subst (λ x. is_help_at (Some (x, words)) ≡ false) name bad in
    cc

three_left : (s : Shape) (word : Text) (words : List Text) (stop : Option (Text × List Text)) → stop ≡ Some (word, words) → is_help_at stop ≡ false
    → IsCommand s ⊎ (answers_to word (label_of help_built) ≡ true) → IsCommand s
three_left s word words stop is none (inl three) = three
three_left s word words stop is none (inr help) = absurd (not_entered word words stop is none help)

-- words that the definition takes ask for something
pub accepted : (words : List Text) → fault_of program_app words ≡ [] → is_some (option_and_then asked_at (subcommand_of program_app words)) ≡ true
accepted words f =
    let given = argument_words (built program_app) words in
    let stop = (walk top.rules (names_of (built program_app)) nothing_held given).stopped in
    let t = level_taken top top_owns (names_of (built program_app)) given (is_some (entered (built program_app) stop))
    (entered_fault (built program_app) stop) refl f in
    let none : is_help_at stop ≡ false = walk_kept top (names_of (built program_app)) refl (walk_from nothing_held) given (nil_both _ _ f).0 refl in
    let e = entered_level (built program_app) stop (has_of _ t.wanted) t.entered in
    let four = find_four (λ s. answers_to e.word (label_of s)) replay_shape run_shape churn_shape help_built e.sub e.found in
    finish stop e.sub e.words e.is (each_asks e.sub e.words (three_left e.sub e.word e.words stop e.stops none four) e.fault)
  where
    finish : (stop : Option (Text × List Text)) (s : Shape) (ws : List Text) → entered (built program_app) stop ≡ Some (s.name, rows_after s.rules [] ws) → Asks s ws
        → is_some (option_and_then asked_at (entered (built program_app) stop)) ≡ true
    finish stop s ws is asks = subst (λ o. is_some (option_and_then asked_at o) ≡ true) (sym is) asks

pub job_of : {X : Type 0} (o : Option X) → is_some o ≡ true → (x : X) × (o ≡ Some x)
job_of None some = cc
job_of (Some x) some = (x, refl)

not_both : {X : Type 0} (o : Option X) → is_some o ≡ true → o ≡ None → ⊥
not_both None some none = cc
not_both (Some x) some none = cc

-- so it isn't that nothing is asked for
pub never : (words : List Text) (rows : Option (Text × List Row)) → fault_of program_app words ≡ [] → rows ≡ subcommand_of program_app words → None ≡ option_and_then asked_at rows → ⊥
never words rows f same none = not_both (option_and_then asked_at (subcommand_of program_app words)) (accepted words f) (sym (none ∙ ap (option_and_then asked_at) same))
