-- How many lines each actor has fetched, with one fetch more.
use Rattle.std.proofs.Common.{◌≡◌, ◌<◌, ◌≤◌, ◌+◌, zero, suc, refl, ℕ, true, eqb, List, [], ◌∷◌, length, arith}
use Rattle.std.proofs.Math.Dec.{eqb-suc-suc, eqb-suc-zero, eqb-zero-suc}
use Rattle.std.proofs.lemmas.Bool.Decides.{nat_tests}
use Rattle.sg_script.specs.Fetched.{fetches_of, one_more}
use Rattle.sg_script.specs.kept.Steps.{one_fetch}

pub one_more_is : (actor : ℕ) (fetched : List ℕ) (x : ℕ) → fetches_of (one_more actor fetched) x ≡ fetches_of fetched x + one_fetch actor x
one_more_is zero [] zero = refl
one_more_is zero [] (suc x) = rw (eqb-suc-zero x) refl
one_more_is zero (count ∷ behind) zero = omega arith
one_more_is zero (count ∷ behind) (suc x) = rw (eqb-suc-zero x) (omega arith)
one_more_is (suc actor) [] zero = rw (eqb-zero-suc actor) refl
one_more_is (suc actor) [] (suc x) = rw (eqb-suc-suc x actor) (one_more_is actor [] x)
one_more_is (suc actor) (count ∷ behind) zero = rw (eqb-zero-suc actor) (omega arith)
one_more_is (suc actor) (count ∷ behind) (suc x) = rw (eqb-suc-suc x actor) (one_more_is actor behind x)

pub one_more_rises : (actor : ℕ) (fetched : List ℕ) (x : ℕ) → fetches_of fetched x ≤ fetches_of (one_more actor fetched) x
one_more_rises actor fetched x = omega (arith, one_more_is actor fetched x)

pub one_more_made : (actor : ℕ) (fetched : List ℕ) → fetches_of fetched actor < fetches_of (one_more actor fetched) actor
one_more_made actor fetched =
    let same : eqb actor actor ≡ true = grind (arith, nat_tests) in
    let one : one_fetch actor actor ≡ 1 = rw same refl in
    omega (arith, one, one_more_is actor fetched actor)

-- only an actor within the list has fetched
pub has_fetched : (fetched : List ℕ) (actor earlier : ℕ) → earlier < fetches_of fetched actor → actor < length fetched
has_fetched [] actor earlier made = absurd (omega (arith, made))
has_fetched (count ∷ behind) zero earlier made = omega arith
has_fetched (count ∷ behind) (suc actor) earlier made = omega (arith, has_fetched behind actor earlier made)
