-- How many lines each actor has fetched, as a list by identifier. No actor has the identifier 0, and
-- none behind the end of the list has fetched.
use Rattle.std.specs.Prelude.{ℕ, zero, suc, List, [], ◌∷◌, slice_index}

-- how many lines an actor has fetched
abbrev pub fetches_of : List ℕ → ℕ → ℕ
fetches_of fetched actor = slice_index fetched actor

-- the fetches with one more of an actor
abbrev pub one_more : ℕ → List ℕ → List ℕ
one_more zero [] = 1 ∷ []
one_more zero (count ∷ behind) = suc count ∷ behind
one_more (suc actor) [] = 0 ∷ one_more actor []
one_more (suc actor) (count ∷ behind) = count ∷ one_more actor behind
