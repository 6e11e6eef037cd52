-- The flows that are held, as one comes or goes.
use Rattle.std.proofs.Common.{◌≡◌, ◌≢◌, ℕ, zero, suc, ◌+◌, inl, inr, Option, None, Some, List, [], ◌∷◌, get_or, sum_by, filter_map, refl, sym, ap, ap₂, ◌∙◌, arith}
use Rattle.std.specs.List.{cons_option}
use Rattle.std.proofs.lemmas.List.Sums.{sum_by-cons}
use Rattle.sg_maxmin.specs.Fill.{Flow}
use Rattle.sg_maxmin.specs.Sharing.{flow_at, held, slot_part}
use Rattle.sg_maxmin.specs.Laws.{SumsChange, IsHeld}
use Rattle.sg_maxmin.proofs.Members.{In, contains_from_In}

-- what the slot adds
abbrev pub weight : {X : Type 0} → (X → ℕ) → Option X → ℕ
weight h None = 0
weight h (Some x) = h x

pub sum_by-cons_option : {Y : Type 0} (h : Y → ℕ) (o : Option Y) (ys : List Y) → sum_by h (cons_option o ys) ≡ weight h o + sum_by h ys
sum_by-cons_option h None ys = omega arith
sum_by-cons_option h (Some y) ys = sum_by-cons h y ys

pub sum_by-filter_map : {X Y : Type 0} (h : Y → ℕ) (g : X → Option Y) (xs : List X) → sum_by h (filter_map g xs) ≡ sum_by (λ x. weight h (g x)) xs
sum_by-filter_map h g [] = refl
sum_by-filter_map h g (x ∷ xs) = sum_by-cons_option h (g x) (filter_map g xs) ∙ ap (λ s. weight h (g x) + s) (sum_by-filter_map h g xs) ∙ sym (sum_by-cons (λ z. weight h (g z)) x xs)

none_sum : {X : Type 0} (h : X → ℕ) (b : List (Option X)) → ((k : ℕ) → get_or b k None ≡ None) → sum_by (weight h) b ≡ 0
none_sum h [] e = refl
none_sum h (y ∷ b) e = sum_by-cons (weight h) y b ∙ ap₂ (λ x z. x + z) (ap (weight h) (e 0)) (none_sum h b (λ k. e (suc k)))

same_sum : {X : Type 0} (h : X → ℕ) (a b : List (Option X)) → ((k : ℕ) → get_or a k None ≡ get_or b k None) → sum_by (weight h) a ≡ sum_by (weight h) b
same_sum h [] b e = sym (none_sum h b (λ k. sym (e k)))
same_sum h (x ∷ a) [] e = none_sum h (x ∷ a) e
same_sum h (x ∷ a) (y ∷ b) e = sum_by-cons (weight h) x a ∙ ap₂ (λ v w. v + w) (ap (weight h) (e 0)) (same_sum h a b (λ k. e (suc k))) ∙ sym (sum_by-cons (weight h) y b)

not_suc : (k id : ℕ) → k ≢ id → suc k ≢ suc id
not_suc k id away e = away (omega (arith, e))

-- if the two lists differ at one place alone
pub changed_sum : {X : Type 0} (h : X → ℕ) (id : ℕ) (a b : List (Option X)) → ((k : ℕ) → k ≢ id → get_or b k None ≡ get_or a k None) →
    sum_by (weight h) b + weight h (get_or a id None) ≡ sum_by (weight h) a + weight h (get_or b id None)
changed_sum h zero [] [] e = refl
changed_sum h zero [] (y ∷ b) e = omega (arith, sum_by-cons (weight h) y b, none_sum h b (λ k. e (suc k) (λ z. absurd (omega (arith, z)))))
changed_sum h zero (x ∷ a) [] e = omega (arith, sum_by-cons (weight h) x a, none_sum h a (λ k. sym (e (suc k) (λ z. absurd (omega (arith, z))))))
changed_sum h zero (x ∷ a) (y ∷ b) e = omega (arith, sum_by-cons (weight h) x a, sum_by-cons (weight h) y b, same_sum h a b (λ k. sym (e (suc k) (λ z. absurd (omega (arith, z))))))
changed_sum h (suc id) [] [] e = refl
changed_sum h (suc id) [] (y ∷ b) e = omega (arith, sum_by-cons (weight h) y b, ap (weight h) (e 0 (λ z. absurd (omega (arith, z)))), changed_sum h id [] b (λ k away. e (suc k) (not_suc k id away)))
changed_sum h (suc id) (x ∷ a) [] e = omega (arith, sum_by-cons (weight h) x a, ap (weight h) (e 0 (λ z. absurd (omega (arith, z)))), changed_sum h id a [] (λ k away. e (suc k) (not_suc k id away)))
changed_sum h (suc id) (x ∷ a) (y ∷ b) e = omega (arith, sum_by-cons (weight h) x a, sum_by-cons (weight h) y b, ap (weight h) (e 0 (λ z. absurd (omega (arith, z)))), changed_sum h id a b (λ k away. e (suc k) (not_suc k id away)))

sums_held : (h : Flow → ℕ) (slots : List (Option Flow)) → sum_by h (held slots) ≡ sum_by (weight h) slots
sums_held h slots = sum_by-filter_map h (λ s. s) slots

part_is : (h : Flow → ℕ) (o : Option Flow) → slot_part h o ≡ weight h o
part_is h None = refl
part_is h (Some f) = refl

pub sums_change_lem : SumsChange
sums_change_lem h old new id slot ch =
    omega (arith, sums_held h old, sums_held h new, changed_sum h id old new ch.others, ap (weight h) ch.changed, part_is h slot, part_is h (flow_at old id))

pub held_in : (slots : List (Option Flow)) (id : ℕ) (f : Flow) → flow_at slots id ≡ Some f → In f (held slots)
held_in [] id f e = absurd (cc e)
held_in (None ∷ slots) zero f e = absurd (cc e)
held_in (Some g ∷ slots) zero f e = inl (cc e)
held_in (None ∷ slots) (suc id) f e = held_in slots id f e
held_in (Some g ∷ slots) (suc id) f e = inr (held_in slots id f e)

pub is_held_lem : IsHeld
is_held_lem slots id flow e = contains_from_In (held slots) flow (held_in slots id flow e)
