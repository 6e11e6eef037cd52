-- The earliest of dates.
use Rattle.std.proofs.Common.{◌≡◌, ℕ, zero, suc, ◌≤◌, min, Option, None, Some, List, [], ◌∷◌, get_or, refl, sym, ap, ◌∙◌, arith, ◌⊎◌, inl, inr}
use Rattle.std.proofs.Math.Nat.{min-le_left, min-le_right}
use Rattle.sg_profile.specs.Profiles.{earliest}
use Rattle.sg_profile.proofs.Cases.{earlier_of}

-- This date is the earliest, and no later than that.
pub record IsUpTo (dates : List (Option ℕ)) (date : ℕ) : Type 0 where
  pub first : ℕ
  pub is : earliest dates ≡ Some first
  pub to : first ≤ date

-- the earliest is no later than any
pub earliest_to : (dates : List (Option ℕ)) (row date : ℕ) → get_or dates row None ≡ Some date → IsUpTo dates date
unfolding earliest
earliest_to [] row date e = absurd (cc e)
earliest_to (None ∷ dates) zero date e = absurd (cc e)
earliest_to (None ∷ dates) (suc row) date e =
    let rest = earliest_to dates row date e in
    record { first = rest.first; is = rest.is; to = rest.to }
earliest_to (Some its ∷ dates) zero date e =
    let same : its ≡ date = cc e in
    record { first = earlier_of its (earliest dates); is = refl; to = omega (arith, same, earlier_to its (earliest dates)) }
  where
    earlier_to : (a : ℕ) (o : Option ℕ) → earlier_of a o ≤ a
    earlier_to a None = omega arith
    earlier_to a (Some b) = min-le_left a b
earliest_to (Some its ∷ dates) (suc row) date e =
    let rest = earliest_to dates row date e in
    let first : earlier_of its (earliest dates) ≡ min its rest.first = ap (earlier_of its) rest.is in
    record { first = earlier_of its (earliest dates); is = refl; to = omega (arith, first, min-le_right its rest.first, rest.to) }

-- Some row has this date.
pub record IsHeld (dates : List (Option ℕ)) (date : ℕ) : Type 0 where
  pub row : ℕ
  pub there : get_or dates row None ≡ Some date

min_is : (a b : ℕ) → (min a b ≡ a) ⊎ (min a b ≡ b)
min_is a b = grind arith

-- the earliest is that of some row
pub earliest_held : (dates : List (Option ℕ)) (date : ℕ) → earliest dates ≡ Some date → IsHeld dates date
unfolding earliest
earliest_held [] date e = absurd (cc e)
earliest_held (None ∷ dates) date e =
    let rest = earliest_held dates date e in
    record { row = suc rest.row; there = rest.there }
earliest_held (Some its ∷ dates) date e = by (earliest dates) refl (λ other later. earliest_held dates other later)
  where
    is : earlier_of its (earliest dates) ≡ date
    is = cc e

    by : (o : Option ℕ) → earliest dates ≡ o → ((other : ℕ) → earliest dates ≡ Some other → IsHeld dates other) → IsHeld (Some its ∷ dates) date
    by None alone behind = record { row = 0; there = ap Some (sym (ap (earlier_of its) alone) ∙ is) }
    by (Some other) later behind = elim (min_is its other) [
      | inl here ↦ record { row = 0; there = ap Some (sym here ∙ sym (ap (earlier_of its) later) ∙ is) }
      | inr there ↦
          let rest = behind other later in
          record { row = suc rest.row; there = rest.there ∙ ap Some (sym there ∙ sym (ap (earlier_of its) later) ∙ is) }
    ]

-- a date that some row has, and none has one before it, is the earliest
pub earliest_is : (dates : List (Option ℕ)) (row date : ℕ) → get_or dates row None ≡ Some date → ((i its : ℕ) → get_or dates i None ≡ Some its → date ≤ its) → earliest dates ≡ Some date
earliest_is dates row date there least =
    let to = earliest_to dates row date there in
    let held = earliest_held dates to.first to.is in
    let from = least held.row to.first held.there in
    let same : to.first ≡ date = omega (arith, to.to, from) in
    to.is ∙ ap Some same

-- if no row has a date, none is the earliest
pub none_earliest : (dates : List (Option ℕ)) → ((row : ℕ) → get_or dates row None ≡ None) → earliest dates ≡ None
none_earliest dates none = by (earliest dates) refl
  where
    by : (o : Option ℕ) → earliest dates ≡ o → earliest dates ≡ None
    by None e = e
    by (Some date) e = let held = earliest_held dates date e in absurd (cc (sym held.there ∙ none held.row))
