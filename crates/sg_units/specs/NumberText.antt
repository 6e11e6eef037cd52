-- The texts that write a number, as a grammar.
use Rattle.std.specs.Prelude.{◌≡◌, ◌⊎◌, ◌≤◌, ℕ, Bool, true, false, List, [], ◌∷◌, ◌++◌, length}
use Rattle.std.specs.Str.Parse.{IsNumeral}
use Rattle.sg_units.specs.Number.{Number}

-- nothing, or a point and one or more digits
abbrev pub WritesFraction : List ℕ → List ℕ → Type 0
WritesFraction digits [] = digits ≡ []
WritesFraction digits (b ∷ text) = (b ≡ 46) × (text ≡ digits) × IsNumeral 10 digits

abbrev pub IsSign : Bool → List ℕ → Type 0
IsSign true sign = sign ≡ 45 ∷ []
IsSign false sign = (sign ≡ []) ⊎ (sign ≡ 43 ∷ [])

-- nothing, or `e` or `E`, then a sign or none, and one or more digits
abbrev pub WritesExponent : Bool → List ℕ → List ℕ → Type 0
WritesExponent is_negative digits [] = digits ≡ []
WritesExponent is_negative digits (b ∷ text) =
    ((b ≡ 101) ⊎ (b ≡ 69)) × ((sign : List ℕ) × IsSign is_negative sign × (text ≡ sign ++ digits)) × IsNumeral 10 digits

-- the text writes the number of these parts
pub record Writes (n : Number) (text : List ℕ) : Type 0 where
  pub fraction : List ℕ
  pub exponent : List ℕ
  pub parts : text ≡ n.whole ++ (fraction ++ exponent)
  pub is_whole : IsNumeral 10 n.whole
  pub is_fraction : WritesFraction n.fraction fraction
  pub is_exponent : WritesExponent n.is_negative n.exponent exponent

-- the text is a number text, and its unit after it; no longer front of the text is a number text
pub record IsLongestNumber (text : List ℕ) (n : Number) : Type 0 where
  pub number : List ℕ
  pub split : text ≡ number ++ n.unit
  pub writes : Writes n number
  pub longest : (other : Number) (front rest : List ℕ) → text ≡ front ++ rest → Writes other front → length front ≤ length number
