-- If the definition takes the words, each row has a first value that passed its parser.
use Rattle.std.proofs.Common.{◌≡◌, ◌<◌, ◌&&◌, ◌||◌, ◌++◌, ℕ, List, [], ◌∷◌, Bool, true, false, length, Option, Some, None, refl, arith, not}
use Rattle.std.specs.Prelude.{if◌then◌else◌, slice_get, find, nat_lt, ◌==◌}
use Rattle.std.specs.List.{list_all}
use Rattle.std.specs.Option.{option_map_or}
use Rattle.std.specs.Str.{bytes_eq}
use Rattle.clap.specs.Words.{Row, Rule, Text, Kinds}
use Rattle.clap.specs.Kinds.{or_else, range_kinds, value_kinds}
use Rattle.clap.specs.Facts.{unwrap_or_range, parser_of_value}
use Rattle.clap.specs.Takes.{value_passes}
use Rattle.clap.specs.Lexer.{long_of, short_of}
use Rattle.std.specs.Str.{chars}
use Rattle.std.specs.Prelude.{is_some, drop, encode_utf8, fold, zero, suc}
use Rattle.clap.specs.declared.error.kind.ErrorKind.TheVariants as kind
use Rattle.clap.specs.declared.error.kind.ErrorKind.{ErrorKind}
use Rattle.clap.specs.Simple.{Shape}
use Rattle.clap.specs.Walk.{Outcome, done, waits, plain, refused, Waiting, idle, option, positional, Step, next, trailing, subcommand, value, Names, Walk, takes_values, takes_several, is_pending, has_long, has_short, arg_by_long, arg_by_short, arg_by_index, option_met, flag_met, long_met, short_met, attached_value, bundle_step, bundle_met, bundle, option_word, plain_word, after_flag, long_or_other, short_or_plain, subcommand_met, subcommand_or_other, word_met, to_positional, after_step, walked, walked_from}
use Rattle.clap.specs.Walk.{Held, without, with_values, more_values, used, used_as, action_of, reading_by, values_or_missing, arg_by_id, settled, settled_rows, used_by_id, reacted, most_values}
use Rattle.clap.specs.Faults.{use_fault, action_fault, set_fault, settle_fault, react_fault, option_fault, long_fault, short_fault, bundle_step_fault, flags_fault, bundle_fault, flag_word_fault, other_fault, word_fault, positional_fault, stray_fault, step_fault, turn_fault, walk_fault}
use Rattle.clap.specs.declared.builder.value_parser.Reading.{Reading}
use Rattle.clap.specs.declared.parser.matches.ValueSource.{ValueSource}
use Rattle.clap.specs.declared.parser.matches.ValueSource.TheVariants.{CommandLine}
use Rattle.clap.specs.declared.builder.action.ArgAction.{ArgAction}
use Rattle.clap.specs.declared.builder.action.ArgAction.TheVariants.{Set, SetTrue, Help, Version}

abbrev pub passes_id : List Rule → Text → Text → Bool
passes_id c id v = option_map_or (λ a. value_passes a v) (arg_by_id c id) true

abbrev pub good : List Rule → Row → Bool
good c r = option_map_or (passes_id c r.id) (slice_get r.values 0) false

abbrev pub all_good : List Rule → List Row → Bool
all_good c rows = list_all (good c) rows

pub both : (a b : Bool) → (a && b) ≡ true → (a ≡ true) × (b ≡ true)
both true b h = (refl, h)
both false b h = (h, cc)

pub join : (a b : Bool) → a ≡ true → b ≡ true → (a && b) ≡ true
join a b h k = rw (h, k) refl

pub without_good : (c : List Rule) (id : Text) (rows : List Row) → all_good c rows ≡ true → all_good c (without id rows) ≡ true
without_good c id [] h = refl
without_good c id (r ∷ rs) h =
    let p = both (good c r) (all_good c rs) h in
    go (bytes_eq r.id id) p (without_good c id rs p.1)
  where
    go : (b : Bool) → (good c r ≡ true) × (all_good c rs ≡ true) → all_good c (without id rs) ≡ true → all_good c (if b then [] ++ rs else r ∷ without id rs) ≡ true
    go true p more = p.1
    go false p more = join _ _ p.0 more

first_stays : (xs ys : List Text) (v : Text) → slice_get xs 0 ≡ Some v → slice_get (xs ++ ys) 0 ≡ Some v
first_stays [] ys v h = cc
first_stays (x ∷ xs) ys v h = h

more_good : (P : Text → Bool) (xs ys : List Text) → option_map_or P (slice_get xs 0) false ≡ true → option_map_or P (slice_get (xs ++ ys) 0) false ≡ true
more_good P [] ys h = cc
more_good P (x ∷ xs) ys h = h

pub with_good : (c : List Rule) (id : Text) (how : Reading) (s : ValueSource) (v : Text) (vs : List Text) (rows : List Row) → passes_id c id v ≡ true
    → all_good c rows ≡ true → all_good c (with_values id how s (v ∷ vs) rows) ≡ true
with_good c id how s v vs [] p h = join _ _ p refl
with_good c id how s v vs (r ∷ rs) p h =
    let q = both (good c r) (all_good c rs) h in
    go (bytes_eq r.id id) q (with_good c id how s v vs rs p q.1)
  where
    go : (b : Bool) → (good c r ≡ true) × (all_good c rs ≡ true) → all_good c (with_values id how s (v ∷ vs) rs) ≡ true
        → all_good c (if b then more_values s (v ∷ vs) r ++ rs else r ∷ with_values id how s (v ∷ vs) rs) ≡ true
    go true q more = join _ _ (more_good (passes_id c r.id) r.values (v ∷ vs) q.0) q.1
    go false q more = join _ _ q.0 more

pub no_kinds : (x : ErrorKind) (xs : Kinds) → x ∷ xs ≡ [] → ⊥
no_kinds x xs e = cc

pub nil_both : (xs ys : Kinds) → or_else xs ys ≡ [] → (xs ≡ []) × (ys ≡ [])
nil_both [] ys h = (refl, h)
nil_both (x ∷ xs) ys h = absurd (no_kinds x xs h)

value_passes_of : (a : Rule) (v : Text) → value_kinds a.ignore_case (parser_of_value a.parser) v ≡ [] → value_passes a v ≡ true
value_passes_of a v h = go (value_passes a v) h
  where
    go : (b : Bool) → (if b then [] else Rattle.clap.specs.Values.refused_kind (parser_of_value a.parser) ∷ []) ≡ [] → b ≡ true
    go true h = refl
    go false h = cc

-- the actions of the program's arguments
abbrev pub is_sound_action : ArgAction → Bool
is_sound_action Set = true
is_sound_action SetTrue = true
is_sound_action Help = true
is_sound_action Version = true
is_sound_action _ = false

-- the action answers with a text, and holds no value
abbrev pub is_help : ArgAction → Bool
is_help Help = true
is_help Version = true
is_help _ = false

abbrev pub has_some_value : Rule → Bool
has_some_value a = nat_lt 0 (unwrap_or_range a.range).start_inclusive || not (length a.missing == 0)

abbrev pub is_sound : Rule → Bool
is_sound a = is_sound_action (action_of a) && (is_help (action_of a) || has_some_value a)

or_false : (a b : Bool) → (a || b) ≡ true → a ≡ false → b ≡ true
or_false true b h e = cc
or_false false b h e = h

set_good : (c : List Rule) (again : Bool) (a : Rule) (how : Reading) (values : List Text) (rows : List Row) → arg_by_id c a.id ≡ Some a
    → 0 < length values → set_fault again a values rows ≡ [] → all_good c rows ≡ true
    → all_good c (with_values a.id how CommandLine values (without a.id rows)) ≡ true
set_good c again a how [] rows own some f h = absurd (omega arith)
set_good c again a how (v ∷ vs) rows own some f h =
    let parts = nil_both _ _ f in
    let passes = value_passes_of a v (nil_both _ _ parts.1).0 in
    with_good c a.id how CommandLine v vs (without a.id rows) (rw own passes) (without_good c a.id rows h)

action_good : (c : List Rule) (x : ArgAction) (again : Bool) (a : Rule) (how : Reading) (values : List Text) (rows : List Row) → is_sound_action x ≡ true
    → arg_by_id c a.id ≡ Some a → (is_help x ≡ false → 0 < length values) → action_fault x again a values rows ≡ [] → all_good c rows ≡ true
    → all_good c (used_as x a.id how values rows) ≡ true
action_good c Set again a how values rows sound own some f h = set_good c again a how values rows own (some refl) f h
action_good c SetTrue again a how values rows sound own some f h = set_good c again a how values rows own (some refl) f h
action_good c Help again a how values rows sound own some f h = h
action_good c Version again a how values rows sound own some f h = h
action_good c _ again a how values rows sound own some f h = cc

missing_some : (a : Rule) (values : List Text) → has_some_value a ≡ true
    → range_kinds (unwrap_or_range a.range).start_inclusive (most_values a) (length values) ≡ [] → 0 < length (values_or_missing a values)
missing_some a (v ∷ vs) sound h = omega arith
missing_some a [] sound h =
    go (nat_lt 0 (unwrap_or_range a.range).start_inclusive) (length a.missing) sound h
  where
    go : (b : Bool) (n : ℕ) → (b || not (n == 0)) ≡ true
        → (if b && true then kind.InvalidValue ∷ []
        else (if (unwrap_or_range a.range).start_inclusive == most_values a then (if (unwrap_or_range a.range).start_inclusive == 0 then [] else kind.WrongNumberOfValues ∷ [])
        else (if nat_lt 0 (unwrap_or_range a.range).start_inclusive then kind.TooFewValues ∷ []
        else (if nat_lt (most_values a) 0 then kind.TooManyValues ∷ [] else [])))) ≡ [] → 0 < n
    go true n s h = absurd (no_kinds _ _ h)
    go false n s h = grind arith

-- what is asked of a list of arguments
pub record Owns (c : List Rule) : Type 0 where
  pub own : (p : Rule → Bool) (a : Rule) → find p c ≡ Some a → arg_by_id c a.id ≡ Some a
  pub sound : (p : Rule → Bool) (a : Rule) → find p c ≡ Some a → is_sound a ≡ true

module _ (c : List Rule) (o : Owns c) (again : Bool) where
  use_good : (p : Rule → Bool) (a : Rule) (values : List Text) (rows : List Row) → find p c ≡ Some a → use_fault again a values rows ≡ []
      → all_good c rows ≡ true → all_good c (used a values rows) ≡ true
  use_good p a values rows found f h =
      let parts = nil_both _ _ f in
      action_good c (action_of a) again a (reading_by a) (values_or_missing a values) rows (both _ _ (o.sound p a found)).0 (o.own p a found)
      (λ e. missing_some a values (or_false _ _ (both _ _ (o.sound p a found)).1 e) parts.0) parts.1 h

  pub settle_good : (h : Held) → settle_fault c again h ≡ [] → all_good c h.rows ≡ true → all_good c (settled c h).rows ≡ true
  settle_good h f g = go h.pending f
    where
      by_id : (id : Text) (values : List Text) (r : Option Rule) → arg_by_id c id ≡ r → option_map_or (λ a. use_fault again a values h.rows) r [] ≡ []
          → all_good c (used_by_id r values h.rows) ≡ true
      by_id id values None e f = g
      by_id id values (Some a) e f = use_good (λ a. bytes_eq a.id id) a values h.rows e f g

      go : (p : Option (Text × List Text))
          → option_map_or (λ p. option_map_or (λ a. use_fault again a p.1 h.rows) (arg_by_id c p.0) []) p [] ≡ []
          → all_good c (settled_rows c p h.rows) ≡ true
      go None f = g
      go (Some p) f = by_id p.0 p.1 (arg_by_id c p.0) refl f

  react_good : (p : Rule → Bool) (a : Rule) (values : List Text) (h : Held) → find p c ≡ Some a → react_fault c again a values h ≡ []
      → all_good c h.rows ≡ true → all_good c (reacted c a values h).rows ≡ true
  react_good p a values h found f g =
      let parts = nil_both _ _ f in
      use_good p a values (settled c h).rows found parts.1 (settle_good h parts.0 g)

  option_good : (p : Rule → Bool) (a : Rule) (v : Option Text) (h : Held) → find p c ≡ Some a → option_fault c again a v h ≡ []
      → all_good c h.rows ≡ true → all_good c (option_met c a v h).0.rows ≡ true
  option_good p a None h found f g = settle_good h f g
  option_good p a (Some v) h found f g = react_good p a (v ∷ []) h found f g

  long_good : (p : Rule → Bool) (r : Option Rule) (v : Option Text) (h : Held) → find p c ≡ r → long_fault c again r v h ≡ []
      → all_good c h.rows ≡ true → all_good c (long_met c r v h).0.rows ≡ true
  long_good p None v h found f g = g
  long_good p (Some a) v h found f g = go (takes_values a) v f
    where
      go : (b : Bool) (v : Option Text)
          → (if b then option_fault c again a v h else (if is_some v then kind.TooManyValues ∷ [] else react_fault c again a [] h)) ≡ []
          → all_good c (if b then option_met c a v h else flag_met c a v h).0.rows ≡ true
      go true v f = option_good p a v h found f g
      go false None f = react_good p a [] h found f g
      go false (Some v) f = g

  -- the characters of a bundle
  bundle_good : (k : ℕ) (flags : Text) (skip : ℕ) (so_far : Outcome) (h : Held) → flags_fault c again k flags skip h ≡ []
      → all_good c h.rows ≡ true → all_good c (bundle_met c k flags skip so_far h).0.rows ≡ true
  unfolding flags_fault bundle_met
  bundle_good zero flags skip so_far h f g = g
  bundle_good (suc k) flags skip so_far h f g = go (bundle_good k) (slice_get (chars flags) 0) skip f
    where
      short : (deeper : (flags : Text) (skip : ℕ) (so_far : Outcome) (h : Held) → flags_fault c again k flags skip h ≡ []
          → all_good c h.rows ≡ true → all_good c (bundle_met c k flags skip so_far h).0.rows ≡ true) (rest : Text) (p : Rule → Bool) (r : Option Rule) → find p c ≡ r
          → short_fault c again r rest h (flags_fault c again k rest 0) ≡ []
          → all_good c (short_met c r rest h (bundle_met c k rest 0 done)).0.rows ≡ true
      short deeper rest p None found f = g
      short deeper rest p (Some a) found f = flag (takes_values a) f
        where
          flag : (b : Bool)
              → (if b then option_fault c again a (attached_value rest) h
              else or_else (react_fault c again a [] h) (flags_fault c again k rest 0 (reacted c a [] h))) ≡ []
              → all_good c (if b then option_met c a (attached_value rest) h else bundle_met c k rest 0 done (reacted c a [] h)).0.rows ≡ true
          flag true f = option_good p a (attached_value rest) h found f g
          flag false f =
              let parts = nil_both _ _ f in
              deeper rest 0 done (reacted c a [] h) parts.1 (react_good p a [] h found parts.0 g)

      go : (deeper : (flags : Text) (skip : ℕ) (so_far : Outcome) (h : Held) → flags_fault c again k flags skip h ≡ []
          → all_good c h.rows ≡ true → all_good c (bundle_met c k flags skip so_far h).0.rows ≡ true) (x : Option ℕ) (skip : ℕ) → bundle_step_fault c again x flags skip h (flags_fault c again k) ≡ []
          → all_good c (bundle_step c x flags skip so_far h (bundle_met c k)).0.rows ≡ true
      go deeper None skip f = g
      go deeper (Some x) zero f = short deeper (drop (length (encode_utf8 x)) flags) (λ a. not (is_some a.index) && has_short a x) (arg_by_short c x) refl f
      go deeper (Some x) (suc skip) f = deeper (drop (length (encode_utf8 x)) flags) skip so_far h f g

  -- what follows a flag leaves the rows
  plain_rows : (waiting : Waiting) (word : Text) (h : Held) → (plain_word c waiting word h).0.rows ≡ h.rows
  plain_rows idle word h = refl
  plain_rows (option id) word h = go (arg_by_id c id)
    where
      go : (r : Option Rule) → (option_word r id word h).0.rows ≡ h.rows
      go None = refl
      go (Some a) = refl
  plain_rows positional word h = refl

  after_rows : (waiting : Waiting) (word : Text) (h : Held) (x : Outcome) → (after_flag c waiting word h x).0.rows ≡ h.rows
  after_rows waiting word h done = refl
  after_rows waiting word h (waits id) = refl
  after_rows waiting word h plain = plain_rows waiting word h
  after_rows waiting word h refused = plain_rows waiting word h

  as_rows : (x y : List Row) → x ≡ y → all_good c y ≡ true → all_good c x ≡ true
  as_rows x y e h = rw e h

  flag_word_good : (waiting : Waiting) (word : Text) (l : Option (Text × Option Text)) (h : Held) → flag_word_fault c again l word h ≡ []
      → all_good c h.rows ≡ true → all_good c (long_or_other c waiting word l h).0.rows ≡ true
  flag_word_good waiting word (Some p) h f g =
      as_rows _ _ (after_rows waiting word (long_met c (arg_by_long c p.0) p.1 h).0 (long_met c (arg_by_long c p.0) p.1 h).1)
      (long_good (λ a. not (is_some a.index) && has_long a p.0) (arg_by_long c p.0) p.1 h refl f g)
  flag_word_good waiting word None h f g = go (short_of word) f
    where
      go : (s : Option Text) → option_map_or (λ flags. bundle_fault c again flags h) s [] ≡ []
          → all_good c (short_or_plain c waiting word s h).0.rows ≡ true
      go None f = as_rows _ _ (plain_rows waiting word h) g
      go (Some flags) f =
          as_rows _ _ (after_rows waiting word (bundle c flags h).0 (bundle c flags h).1)
          (bundle_good (length flags) flags h.skip plain (record h { skip = 0 }) f g)

-- the walk over the words of a level
module _ (s : Shape) (o : Owns s.rules) (names : Names) where
  word_good : (is_trailing : Bool) (waiting : Waiting) (position : ℕ) (word : Text) (h : Held)
      → word_fault s names is_trailing waiting word h ≡ [] → all_good s.rules h.rows ≡ true
      → all_good s.rules (word_met s.rules names is_trailing waiting position word h).0.rows ≡ true
  word_good true waiting position word h f g = g
  word_good false waiting position word h f g = go (subcommand_met names waiting word) f
    where
      dashes : (b : Bool) → (if b then [] else flag_word_fault s.rules s.args_override_self (long_of word) word h) ≡ []
          → all_good s.rules (if b then (h, trailing position) else long_or_other s.rules waiting word (long_of word) h).0.rows ≡ true
      dashes true f = g
      dashes false f = flag_word_good s.rules o s.args_override_self waiting word (long_of word) h f g

      go : (n : Option Text) → other_fault s n word h ≡ []
          → all_good s.rules (subcommand_or_other s.rules n waiting position word h).0.rows ≡ true
      go (Some name) f = g
      go None f = dashes (bytes_eq word (45 ∷ 45 ∷ [])) f

  step_good : (word : Text) (w : Walk) (h : Held) (step : Step) → step_fault s w.position h step ≡ [] → all_good s.rules h.rows ≡ true
      → all_good s.rules (after_step s.rules word w h step).held.rows ≡ true
  step_good word w h (next waiting) f g = g
  step_good word w h (trailing position) f g = g
  step_good word w h (subcommand name) f g = g
  step_good word w h value f g = go (arg_by_index s.rules w.position) f
    where
      go : (r : Option Rule) → option_map_or (λ a. positional_fault s.rules s.args_override_self a h) r (stray_fault s) ≡ []
          → all_good s.rules (to_positional s.rules r word w h).held.rows ≡ true
      go None f = g
      go (Some a) f = held (is_pending a h.pending && takes_several a) f
        where
          held : (b : Bool) → (if b then [] else settle_fault s.rules s.args_override_self h) ≡ []
              → all_good s.rules (if b then h else settled s.rules h).rows ≡ true
          held true f = g
          held false f = settle_good s.rules o s.args_override_self h f g

  turn_good : (w : Walk) (word : Text) → turn_fault s names w word ≡ [] → all_good s.rules w.held.rows ≡ true
      → all_good s.rules (walked s.rules names w word).held.rows ≡ true
  unfolding walked
  turn_good w word f g = go w.stopped f
    where
      go : (p : Option (Text × List Text))
          → (if is_some p then [] else or_else (word_fault s names w.is_trailing w.waiting word w.held)
          (step_fault s w.position (word_met s.rules names w.is_trailing w.waiting w.position word w.held).0
          (word_met s.rules names w.is_trailing w.waiting w.position word w.held).1)) ≡ []
          → all_good s.rules (walked_from s.rules names p w word).held.rows ≡ true
      go (Some p) f = g
      go None f =
          let parts = nil_both _ _ f in
          step_good word w _ _ parts.1 (word_good w.is_trailing w.waiting w.position word w.held parts.0 g)

  pub walk_good : (w : Walk) (words : List Text) → walk_fault s names w words ≡ [] → all_good s.rules w.held.rows ≡ true
      → all_good s.rules (fold (walked s.rules names) w words).held.rows ≡ true
  unfolding walk_fault
  walk_good w [] f g = g
  walk_good w (word ∷ rest) f g =
      let parts = nil_both _ _ f in
      walk_good (walked s.rules names w word) rest parts.1 (turn_good w word parts.0 g)
