-- If the definition takes the words, the command that is entered isn't `help`.
use Rattle.std.proofs.Common.{◌≡◌, ◌&&◌, List, [], ◌∷◌, Bool, true, false, Option, Some, None, refl, not, codes}
use Rattle.std.specs.Prelude.{if◌then◌else◌, fold, is_some}
use Rattle.std.specs.Option.{option_map_or}
use Rattle.std.specs.Str.{bytes_eq}
use Rattle.clap.specs.Words.{Rule, Shape, Text}
use Rattle.clap.specs.Kinds.{or_else}
use Rattle.clap.specs.Lexer.{long_of, short_of}
use Rattle.clap.specs.Walk.{Held, Names, Outcome, done, waits, plain, refused, Step, next, trailing, subcommand, value, Waiting, idle, option, positional, Walk}
use Rattle.clap.specs.Walk.{after_flag, after_step, arg_by_index, arg_by_long, bundle, long_met, long_or_other, plain_word, short_or_plain, subcommand_met, subcommand_or_other, to_positional, walked, walked_from, word_met}
use Rattle.clap.specs.Faults.{other_fault, step_fault, turn_fault, walk_fault, word_fault}
use Rattle.clap.specs.declared.error.kind.ErrorKind.TheVariants as kind
use Rattle.sg_words.proofs.Accepted.{nil_both, no_kinds}

-- a walk stopped at `help`
abbrev pub is_help_at : Option (Text × List Text) → Bool
is_help_at stop = option_map_or (λ p. bytes_eq p.0 (codes "help")) stop false

-- the word isn't the name of a command
abbrev stays : Step → Bool
stays (subcommand name) = false
stays _ = true

module _ (c : List Rule) where
  plain_stays : (waiting : Waiting) (word : Text) (h : Held) → stays (plain_word c waiting word h).1 ≡ true
  plain_stays idle word h = refl
  plain_stays (option id) word h = refl
  plain_stays positional word h = refl

  flag_stays : (waiting : Waiting) (word : Text) (h : Held) (x : Outcome) → stays (after_flag c waiting word h x).1 ≡ true
  flag_stays waiting word h done = refl
  flag_stays waiting word h (waits id) = refl
  flag_stays waiting word h plain = plain_stays waiting word h
  flag_stays waiting word h refused = plain_stays waiting word h

  other_stays : (waiting : Waiting) (word : Text) (l : Option (Text × Option Text)) (h : Held) → stays (long_or_other c waiting word l h).1 ≡ true
  other_stays waiting word (Some p) h = flag_stays waiting word (long_met c (arg_by_long c p.0) p.1 h).0 (long_met c (arg_by_long c p.0) p.1 h).1
  other_stays waiting word None h = go (short_of word)
    where
      go : (s : Option Text) → stays (short_or_plain c waiting word s h).1 ≡ true
      go None = plain_stays waiting word h
      go (Some flags) = flag_stays waiting word (bundle c flags h).0 (bundle c flags h).1

  -- such a word leaves the walk where it hasn't stopped
  kept : (word : Text) (w : Walk) (h : Held) (step : Step) → stays step ≡ true → is_help_at w.stopped ≡ false → is_help_at (after_step c word w h step).stopped ≡ false
  kept word w h (next waiting) s e = e
  kept word w h (trailing position) s e = e
  kept word w h (subcommand name) s e = cc
  kept word w h value s e = go (arg_by_index c w.position)
    where
      go : (r : Option Rule) → is_help_at (to_positional c r word w h).stopped ≡ false
      go None = e
      go (Some a) = refl

module _ (s : Shape) (names : Names) (allowed : s.disable_help_subcommand ≡ false) where
  not_help : (name : Text) → (if bytes_eq name (codes "help") && not s.disable_help_subcommand then kind.DisplayHelp ∷ kind.InvalidSubcommand ∷ [] else []) ≡ [] → bytes_eq name (codes "help") ≡ false
  not_help name f = go (bytes_eq name (codes "help")) (rw allowed at f)
    where
      go : (b : Bool) → (if b && true then kind.DisplayHelp ∷ kind.InvalidSubcommand ∷ [] else []) ≡ [] → b ≡ false
      go true f = absurd (no_kinds _ _ f)
      go false f = refl

  word_kept : (is_trailing : Bool) (waiting : Waiting) (position : _) (word : Text) (w : Walk) (h : Held) → word_fault s names is_trailing waiting word h ≡ []
      → is_help_at w.stopped ≡ false
      → is_help_at (after_step s.rules word w (word_met s.rules names is_trailing waiting position word h).0 (word_met s.rules names is_trailing waiting position word h).1).stopped ≡ false
  word_kept true waiting position word w h f e = kept s.rules word w h value refl e
  word_kept false waiting position word w h f e = go (subcommand_met names waiting word) f
    where
      dashes : (b : Bool) → is_help_at (after_step s.rules word w (if b then (h, trailing position) else long_or_other s.rules waiting word (long_of word) h).0
          (if b then (h, trailing position) else long_or_other s.rules waiting word (long_of word) h).1).stopped ≡ false
      dashes true = e
      dashes false = kept s.rules word w (long_or_other s.rules waiting word (long_of word) h).0 (long_or_other s.rules waiting word (long_of word) h).1
          (other_stays s.rules waiting word (long_of word) h) e

      go : (n : Option Text) → other_fault s n word h ≡ []
          → is_help_at (after_step s.rules word w (subcommand_or_other s.rules n waiting position word h).0 (subcommand_or_other s.rules n waiting position word h).1).stopped ≡ false
      go (Some name) f = not_help name f
      go None f = dashes (bytes_eq word (45 ∷ 45 ∷ []))

  turn_kept : (w : Walk) (word : Text) → turn_fault s names w word ≡ [] → is_help_at w.stopped ≡ false → is_help_at (walked s.rules names w word).stopped ≡ false
  unfolding walked
  turn_kept w word f e = go w.stopped refl f
    where
      go : (p : Option (Text × List Text)) → w.stopped ≡ p
          → (if is_some p then [] else or_else (word_fault s names w.is_trailing w.waiting word w.held)
          (step_fault s w.position (word_met s.rules names w.is_trailing w.waiting w.position word w.held).0
          (word_met s.rules names w.is_trailing w.waiting w.position word w.held).1)) ≡ []
          → is_help_at (walked_from s.rules names p w word).stopped ≡ false
      go (Some p) at f = let met = rw at at e in met
      go None at f = word_kept w.is_trailing w.waiting w.position word w w.held (nil_both _ _ f).0 e

  pub walk_kept : (w : Walk) (words : List Text) → walk_fault s names w words ≡ [] → is_help_at w.stopped ≡ false
      → is_help_at (fold (walked s.rules names) w words).stopped ≡ false
  unfolding walk_fault
  walk_kept w [] f e = e
  walk_kept w (word ∷ rest) f e =
      let parts = nil_both _ _ f in
      walk_kept (walked s.rules names w word) rest parts.1 (turn_kept w word parts.0 e)
