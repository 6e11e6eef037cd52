-- Lists of what a function gives of each number.
use Rattle.std.proofs.Common.{◌≡◌, ◌≢◌, ℕ, zero, suc, ◌<◌, ◌≤◌, inl, inr, ◌∷◌, length, get_or, set, length-set, get_or-set_same, get_or-set_other, refl, sym, ap, ◌∙◌, arith}
use Rattle.std.proofs.lemmas.List.{ext_get_or, get_or_past}
use Rattle.sg_activity_table.specs.Slots.{listed}
use Rattle.sg_activity_table.proofs.Places.{eq_cases}

pub length-listed : {X : Type 0} (n : ℕ) (f : ℕ → X) → length (listed n f) ≡ n
unfolding listed
length-listed zero f = refl
length-listed (suc n) f = ap suc (length-listed n (λ i. f (suc i)))

pub at_listed : {X : Type 0} (n : ℕ) (f : ℕ → X) (i : ℕ) (d : X) → i < n → get_or (listed n f) i d ≡ f i
unfolding listed
at_listed zero f i d h = absurd (omega arith)
at_listed (suc n) f zero d h = refl
at_listed (suc n) f (suc i) d h = at_listed n (λ i. f (suc i)) i d (omega arith)

pub past_listed : {X : Type 0} (n : ℕ) (f : ℕ → X) (i : ℕ) (d : X) → n ≤ i → get_or (listed n f) i d ≡ d
past_listed n f i d h = get_or_past (listed n f) i d (omega (arith, h, length-listed n f))

pub same_listed : {X : Type 0} (n : ℕ) (f g : ℕ → X) → ((i : ℕ) → i < n → f i ≡ g i) → listed n f ≡ listed n g
unfolding listed
same_listed zero f g e = refl
same_listed (suc n) f g e = ap (λ x. x ∷ listed n (λ i. f (suc i))) (e 0 (omega arith)) ∙ ap (λ xs. g 0 ∷ xs) (same_listed n (λ i. f (suc i)) (λ i. g (suc i)) (λ i h. e (suc i) (omega arith)))

pub set_listed : {X : Type 0} (n : ℕ) (f g : ℕ → X) (id : ℕ) (x : X) → id < n → g id ≡ x → ((other : ℕ) → other ≢ id → g other ≡ f other) → listed n g ≡ set (listed n f) id x
set_listed n f g id x h here others = ext_get_or x (listed n g) (set (listed n f) id x) (omega (arith, length-listed n g, length-set (listed n f) id x, length-listed n f))
    (λ i l.
    let m : i < n = omega (arith, l, length-listed n g) in
    at_listed n g i x m ∙ elim (eq_cases i id) [
      | inl e ↦ ap g e ∙ here ∙ sym (ap (λ k. get_or (set (listed n f) id x) k x) e ∙ get_or-set_same (listed n f) id x x (omega (arith, h, length-listed n f)))
      | inr ne ↦ others i ne ∙ sym (get_or-set_other (listed n f) id i x x ne ∙ at_listed n f i x m)
    ])
