-- A closed set that has grown to a closed one: what came is closed by itself.
use Rattle.std.proofs.Common.{◌≡◌, ◌≢◌, ℕ, ◌+◌, ◌-◌, ◌<◌, ◌⊎◌, inl, inr, true, List, ◌++◌, length, get_or, take, drop, AllPairs, length-append, length-take, refl, sym, ap, ◌∙◌, arith}
use Rattle.std.proofs.lemmas.List.{ext_get_or, get_or_append_left, take-append-drop}
use Rattle.std.proofs.Math.Seq.{get_or-append_right, get_or-take}
use Rattle.sg_base.specs.MarkSet.{is_in}
use Rattle.sg_maxmin.specs.Chained.{users_on}
use Rattle.sg_maxmin.specs.Sharing.{Sharing, IsSound, uses_at}
use Rattle.sg_maxmin.proofs.Members.{In-append_left, In-append_right, In-append_cases}
use Rattle.sg_maxmin_solve.specs.Component.{Grows, IsClosure}
use Rattle.sg_maxmin_solve.proofs.Rows.{into}
use Rattle.sg_maxmin.proofs.Listed.{at_in, in_at, same_in}
use Rattle.sg_maxmin.proofs.Users.{in_is, is_in_In}

-- ---- a list that has grown
pub first_of : (old new : List ℕ) → Grows old new → take (length old) new ≡ old
first_of old new g =
    ext_get_or 0 (take (length old) new) old (omega (arith, length-take (length old) new, g.longer))
    (λ i l. let m : i < length old = omega (arith, l, length-take (length old) new, g.longer) in get_or-take (length old) new i 0 m ∙ g.same i m)

pub came : (old new : List ℕ) → Grows old new → old ++ drop (length old) new ≡ new
came old new g = ap (λ xs. xs ++ drop (length old) new) (sym (first_of old new g)) ∙ take-append-drop (length old) new

pub in_cases : (n : ℕ) (xs ys : List ℕ) → is_in n (xs ++ ys) ≡ true → (is_in n xs ≡ true) ⊎ (is_in n ys ≡ true)
in_cases n xs ys h = elim (In-append_cases xs ys n (is_in_In n (xs ++ ys) h)) [ inl i ↦ inl (in_is n xs i) | inr i ↦ inr (in_is n ys i) ]

pub in_left : (n : ℕ) (xs ys : List ℕ) → is_in n xs ≡ true → is_in n (xs ++ ys) ≡ true
in_left n xs ys h = in_is n (xs ++ ys) (In-append_left xs ys n (is_in_In n xs h))

pub in_right : (n : ℕ) (xs ys : List ℕ) → is_in n ys ≡ true → is_in n (xs ++ ys) ≡ true
in_right n xs ys h = in_is n (xs ++ ys) (In-append_right xs ys n (is_in_In n ys h))

pub in_one : (n : ℕ) (xs ys : List ℕ) → AllPairs (λ a b. a ≢ b) (xs ++ ys) → is_in n xs ≡ true → is_in n ys ≡ true → ⊥
in_one n xs ys once i j =
    let a = at_in n xs i in
    let b = at_in n ys j in
    once a.0 (length xs + b.0) 0 (omega (arith, a.1)) (omega (arith, b.1, length-append xs ys))
    (get_or_append_left xs ys 0 a.0 a.1 ∙ a.2 ∙ sym (get_or-append_right xs ys (length xs + b.0) 0 (omega arith) ∙ ap (λ k. get_or ys k 0) (minus (length xs) b.0) ∙ b.2))
  where
    minus : (a b : ℕ) → a + b - a ≡ b
    minus a b = omega arith

module _ (s : Sharing) (sound : IsSound s) (t t' r r' : List ℕ) (first : IsClosure (uses_at s.slots) (users_on s.users) t r) (whole : IsClosure (uses_at s.slots) (users_on s.users) (t ++ t') (r ++ r')) (once : AllPairs (λ a b. a ≢ b) (t ++ t')) (distinct : AllPairs (λ a b. a ≢ b) (r ++ r')) where
  used : (id c : ℕ) → is_in id (users_on s.users c) ≡ true → is_in c (uses_at s.slots id) ≡ true
  used id c i = same_in id c (users_on s.users c) (uses_at s.slots id) (sound.both id c) i

  using : (id c : ℕ) → is_in c (uses_at s.slots id) ≡ true → is_in id (users_on s.users c) ≡ true
  using id c i = same_in c id (uses_at s.slots id) (users_on s.users c) (sym (sound.both id c)) i

  first_uses : (id c : ℕ) → is_in id t ≡ true → is_in c (uses_at s.slots id) ≡ true → is_in c r ≡ true
  first_uses id c i u = into (uses_at s.slots id) r c (first.covers id i) u

  first_users : (id c : ℕ) → is_in c r ≡ true → is_in id (users_on s.users c) ≡ true → is_in id t ≡ true
  first_users id c i u = into (users_on s.users c) t id (first.covered c i) u

  came_uses : (id c : ℕ) → is_in id t' ≡ true → is_in c (uses_at s.slots id) ≡ true → is_in c r' ≡ true
  came_uses id c i u = elim (in_cases c r r' (into (uses_at s.slots id) (r ++ r') c (whole.covers id (in_right id t t' i)) u)) [
    | inl k ↦ absurd (in_one id t t' once (first_users id c k (using id c u)) i)
    | inr k ↦ k
  ]

  came_users : (id c : ℕ) → is_in c r' ≡ true → is_in id (users_on s.users c) ≡ true → is_in id t' ≡ true
  came_users id c i u = elim (in_cases id t t' (into (users_on s.users c) (t ++ t') id (whole.covered c (in_right c r r' i)) u)) [
    | inl k ↦ absurd (in_one c r r' distinct (first_uses id c k (used id c u)) i)
    | inr k ↦ k
  ]

  -- what came is closed by itself
  pub came_closed : IsClosure (uses_at s.slots) (users_on s.users) t' r'
  came_closed = record {
    covers = λ id i k h. came_uses id (get_or (uses_at s.slots id) k 0) i (in_at (get_or (uses_at s.slots id) k 0) (uses_at s.slots id) k h refl);
    covered = λ c i k h. came_users (get_or (users_on s.users c) k 0) c i (in_at (get_or (users_on s.users c) k 0) (users_on s.users c) k h refl);
  }
