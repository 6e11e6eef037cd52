-- What holds of each element of lists that are made of others, and of one that is found.
use Rattle.std.proofs.Common.{◌≡◌, ◌<◌, ℕ, zero, suc, Bool, true, false, cond, List, [], ◌∷◌, length, get_or, Some, arith, refl, subst}
use Rattle.std.specs.List.{find, flat_map}
use Rattle.std.specs.Prelude.{All, Contains}
use Rattle.sg_zones.proofs.Each.{Each, each_append}

pub each_from : {X : Type 0} (P : X → Type 0) (xs : List X) → ((k : ℕ) (d : X) → k < length xs → P (get_or xs k d)) → Each P xs
each_from P [] h = tt
each_from P (x ∷ xs) h = (h 0 x (omega arith), each_from P xs (λ k d few. h (suc k) d (omega arith)))

pub each_flat : {X Y : Type 0} (P : Y → Type 0) (Q : X → Type 0) (f : X → List Y) (xs : List X) → ((x : X) → Q x → Each P (f x)) → Each Q xs → Each P (flat_map f xs)
each_flat P Q f [] step h = tt
each_flat P Q f (x ∷ xs) step h = each_append P (f x) (flat_map f xs) (step x h.0) (each_flat P Q f xs step h.1)

pub each_found : {X : Type 0} (P : X → Type 0) (p : X → Bool) (xs : List X) (x : X) → find p xs ≡ Some x → Each P xs → P x × (p x ≡ true)
each_found {X} P p [] x h each = absurd (cc)
each_found {X} P p (y ∷ ys) x h each = go (p y) refl h (λ k. each_found P p ys x k each.1)
  where
    go : (b : Bool) → p y ≡ b → cond b (Some y) (find p ys) ≡ Some x → (find p ys ≡ Some x → P x × (p x ≡ true)) → P x × (p x ≡ true)
    go true e h more = let same : y ≡ x = cc in let Q : X → Type 0 = λ z. P z × (p z ≡ true) in subst Q same (each.0, e)
    go false e h more = more h

pub each_all : {X : Type 0} (P : X → Type 0) (xs : List X) → Each P xs → All P xs
each_all P [] h k d few = absurd (omega arith)
each_all P (x ∷ xs) h zero d few = h.0
each_all P (x ∷ xs) h (suc k) d few = each_all P xs h.1 k d (omega arith)

pub each_at : {X : Type 0} (P : X → Type 0) (xs : List X) (d : X) → Each P xs → P d → (k : ℕ) → P (get_or xs k d)
each_at P [] d each h k = h
each_at P (x ∷ xs) d each h zero = each.0
each_at P (x ∷ xs) d each h (suc k) = each_at P xs d each.1 h k

pub each_contained : {X : Type 0} (P : X → Type 0) (xs : List X) (x : X) → Each P xs → Contains xs x → P x
each_contained P [] x each (k, few, at) = absurd (omega arith)
each_contained {X} P (y ∷ xs) x each (zero, few, at) = subst P at each.0
each_contained P (y ∷ xs) x each (suc k, few, at) = each_contained P xs x each.1 (k, omega arith, at)
