-- Events, as what comes is handled one by one.
use Rattle.std.proofs.Common.{◌≡◌, ◌≢◌, ℕ, ◌<◌, ◌≤◌, ◌⊎◌, inl, inr, List, [], ◌∷◌, refl, sym, ◌∙◌, arith}
use Rattle.sg_kernel_calls.specs.declared.simulation_state.Fields.{Fields}
use Rattle.sg_kernel.specs.kept.Coming.{CountsSome}

-- either nothing came yet, and all of it is left, or there was an event
abbrev pub Counted : Fields → Fields → List ℕ → List ℕ → Type 0
Counted old new all left = ((new.events ≡ old.events) × (left ≡ all)) ⊎ (old.events < new.events)

pub counted_more : (old now new : Fields) (all was left : List ℕ) → Counted old now all was → now.events < new.events → Counted old new all left
counted_more old now new all was left (inl same) more = inr (omega (arith, same.0, more))
counted_more old now new all was left (inr less) more = inr (omega (arith, less, more))

-- once none remains
pub counts_all : (old new : Fields) (all left : List ℕ) → Counted old new all left → left ≡ [] → CountsSome all old new
counts_all old new all left (inl same) none = record { more = omega (arith, same.0); some = λ go some. absurd (some (sym same.1 ∙ none)) }
counts_all old new all left (inr less) none = record { more = omega (arith, less); some = λ go some. less }

-- or once the budget is used up
pub counts_used : (old new : Fields) (all left : List ℕ) → Counted old new all left → old.setup.budget ≡ new.setup.budget → new.events ≡ new.setup.budget → CountsSome all old new
counts_used old new all left (inl same) budget used = record { more = omega (arith, same.0); some = λ go some. absurd (go (sym same.0 ∙ used ∙ sym budget)) }
counts_used old new all left (inr less) budget used = record { more = omega (arith, less); some = λ go some. less }

-- or once one more came, perhaps not to its end
pub counts_some : (old now new : Fields) (all was : List ℕ) → Counted old now all was → old.setup.budget ≡ now.setup.budget → CountsSome was now new → CountsSome all old new
counts_some old now new all was (inl same) budget count = record {
  more = omega (arith, same.0, count.more);
  some = λ go some. omega (arith, same.0, count.some (λ e. go (sym same.0 ∙ e ∙ sym budget)) (λ e. some (sym same.1 ∙ e)));
}
counts_some old now new all was (inr less) budget count = record { more = omega (arith, less, count.more); some = λ go some. omega (arith, less, count.more) }

none_or : (xs : List ℕ) → (xs ≡ []) ⊎ (xs ≢ [])
none_or [] = inl refl
none_or (x ∷ xs) = inr (λ e. cc e)

-- and then something else comes
pub counts_both : (old mid new : Fields) (rows due left : List ℕ) → CountsSome rows old mid → CountsSome left mid new → (rows ≡ [] → left ≡ due) → mid.setup.budget ≡ old.setup.budget → (rows ≢ []) ⊎ (due ≢ []) → old.events ≢ old.setup.budget → old.events < new.events
counts_both old mid new rows due left one two is budget some go = by (none_or rows)
  where
    step : {a b : ℕ} → a ≤ b → (a ≡ b) ⊎ (a < b)
    step h = grind (arith, h)

    none : rows ≡ [] → (rows ≢ []) ⊎ (due ≢ []) → (old.events ≡ mid.events) ⊎ (old.events < mid.events) → old.events < new.events
    none empty (inl some) so = absurd (some empty)
    none empty (inr some) (inl same) = omega (arith, same, two.some (λ e. go (same ∙ e ∙ budget)) (λ e. some (sym (is empty) ∙ e)))
    none empty (inr some) (inr less) = omega (arith, less, two.more)

    by : (rows ≡ []) ⊎ (rows ≢ []) → old.events < new.events
    by (inl empty) = none empty some (step one.more)
    by (inr row) = omega (arith, one.some go row, two.more)
