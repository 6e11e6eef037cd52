-- Who receives and sends in lists of steps that are alike.
use Rattle.std.proofs.Common.{◌≡◌, ℕ, zero, suc, Bool, true, false, cond, Option, Some, None, List, [], ◌∷◌, ◌++◌, map, replicate, refl, ap}
use Rattle.std.specs.List.{filter_map, flat_map}
use Rattle.sg_collectives.specs.declared.step.Step.{Step}
use Rattle.sg_collectives.specs.declared.step.Step.TheVariants.{Wait}

-- each element gives what it was made of, or none gives anything
pub all_told : {X : Type 0} (h : X → Option ℕ) (f : ℕ → X) → ((n : ℕ) → h (f n) ≡ Some n) → (xs : List ℕ) → filter_map h (map f xs) ≡ xs
all_told h f each [] = refl
all_told h f each (x ∷ xs) = rw (each x) (ap (λ ys. x ∷ ys) (all_told h f each xs))

pub none_told : {X : Type 0} (h : X → Option ℕ) (f : ℕ → X) → ((n : ℕ) → h (f n) ≡ None) → (xs : List ℕ) → filter_map h (map f xs) ≡ []
none_told h f none [] = refl
none_told h f none (x ∷ xs) = rw (none x) (none_told h f none xs)

pub first_told : {X : Type 0} (h : X → Option ℕ) (f g : ℕ → X) → ((n : ℕ) → h (f n) ≡ Some n) → ((n : ℕ) → h (g n) ≡ None) → (xs : List ℕ) →
    filter_map h (flat_map (λ x. f x ∷ g x ∷ []) xs) ≡ xs
first_told h f g each none [] = refl
first_told h f g each none (x ∷ xs) = rw (each x, none x) (ap (λ ys. x ∷ ys) (first_told h f g each none xs))

pub neither_told : {X : Type 0} (h : X → Option ℕ) (f g : ℕ → X) → ((n : ℕ) → h (f n) ≡ None) → ((n : ℕ) → h (g n) ≡ None) → (xs : List ℕ) →
    filter_map h (flat_map (λ x. f x ∷ g x ∷ []) xs) ≡ []
neither_told h f g none also [] = refl
neither_told h f g none also (x ∷ xs) = rw (none x, also x) (neither_told h f g none also xs)

pub waits_tell_none : (h : Step → Option ℕ) → h Wait ≡ None → (n : ℕ) → filter_map h (replicate n Wait) ≡ []
waits_tell_none h none zero = refl
waits_tell_none h none (suc n) = rw none (waits_tell_none h none n)

pub one_told : {X : Type 0} (h : X → Option ℕ) (b : Bool) (f : ℕ → X) (n : ℕ) → h (f n) ≡ Some n → filter_map h (cond b (f n ∷ []) []) ≡ cond b (n ∷ []) []
one_told h true f n each = rw each refl
one_told h false f n each = refl

pub one_silent : {X : Type 0} (h : X → Option ℕ) (b : Bool) (x : X) → h x ≡ None → filter_map h (cond b (x ∷ []) []) ≡ []
one_silent h true x none = rw none refl
one_silent h false x none = refl

pub map-cond : {X : Type 0} (f : ℕ → X) (b : Bool) (n : ℕ) → cond b (f n ∷ []) [] ≡ map f (cond b (n ∷ []) [])
map-cond f true n = refl
map-cond f false n = refl

pub empty_behind : {X : Type 0} (xs : List X) → xs ++ [] ≡ xs
empty_behind [] = refl
empty_behind (x ∷ xs) = ap (λ ys. x ∷ ys) (empty_behind xs)
