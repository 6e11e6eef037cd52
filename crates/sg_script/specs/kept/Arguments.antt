-- The words of a text, as far as an action can have arguments.
use Rattle.std.specs.Prelude.{◌≡◌, ℕ, List, [], ◌∷◌, Result, Ok, Err}
use Rattle.sg_script.specs.declared.fault.LineFault.{LineFault}
use Rattle.sg_script.specs.declared.fault.LineFault.TheVariants.{ArgumentCount}
use Rattle.sg_script.specs.declared.words.Arguments.{Arguments}
use Rattle.sg_script.specs.declared.words.Arguments.TheVariants.{Zero, One, Two, Three, More}

-- the first four words, if there are so many
pub record HasFour (words : List (List ℕ)) : Type 0 where
  pub first : List ℕ
  pub second : List ℕ
  pub third : List ℕ
  pub fourth : List ℕ
  pub rest : List (List ℕ)
  pub are : words ≡ first ∷ second ∷ third ∷ fourth ∷ rest

abbrev pub AreArguments : Arguments → List (List ℕ) → Type 0
AreArguments Zero words = words ≡ []
AreArguments (One a) words = words ≡ a.now ∷ []
AreArguments (Two a b) words = words ≡ a.now ∷ b.now ∷ []
AreArguments (Three a b c) words = words ≡ a.now ∷ b.now ∷ c.now ∷ []
AreArguments More words = HasFour words

-- the only argument
abbrev pub one_word : List (List ℕ) → Result (List ℕ) LineFault
one_word (word ∷ []) = Ok word
one_word other = Err ArgumentCount
