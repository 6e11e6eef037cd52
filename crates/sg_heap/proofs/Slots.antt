-- Slots that come have no key: what that changes of the keys.
use Rattle.std.proofs.Common.{◌≡◌, ℕ, ◌-◌, ◌<◌, ◌≤◌, inl, inr, List, Option, None, is_some, length, get_or, set, replicate, length-append, length-set, get_or-set_same, get_or-set_other, refl, sym, ap, ◌∙◌, arith, cond, zero, suc}
use Rattle.std.proofs.lemmas.Bool.{cases_eq, cases_lt}
use Rattle.std.proofs.lemmas.List.{ext_get_or, get_or_past, get_or_append_left, length-replicate, get_or-replicate, set-get_or}
use Rattle.std.proofs.Math.Seq.{get_or-append_right}
use Rattle.std.proofs.lemmas.List.Sums.{sum_by-append}
use Rattle.sg_heap.specs.Agenda.{Key, IsLeast, key_at, key_count, with_slots}

pub length-with : (n : ℕ) (keys : List (Option Key)) → length keys ≤ n → length (with_slots n keys) ≡ n
length-with n keys few = omega (arith, few, length-append keys (replicate (n - length keys) None), length-replicate {A = Option Key} (n - length keys) None)

no_key : (n i : ℕ) → get_or (replicate {A = Option Key} n None) i None ≡ None
no_key n i = elim (cases_lt i n) [
  | inl l ↦ get_or-replicate n i None None l
  | inr m ↦ get_or_past (replicate n None) i None (omega (arith, m, length-replicate {A = Option Key} n None))
]

pub reaches : (n : ℕ) (keys : List (Option Key)) → n ≤ length (with_slots n keys)
reaches n keys = omega (arith, length-append keys (replicate (n - length keys) None), length-replicate {A = Option Key} (n - length keys) None)

pub still_few : (m n : ℕ) (keys : List (Option Key)) → length keys ≤ m → n ≤ m → length (with_slots n keys) ≤ m
still_few m n keys few less = omega (arith, few, less, length-append keys (replicate (n - length keys) None), length-replicate {A = Option Key} (n - length keys) None)

pub key_at-with : (n : ℕ) (keys : List (Option Key)) (i : ℕ) → key_at (with_slots n keys) i ≡ key_at keys i
key_at-with n keys i = elim (cases_lt i (length keys)) [
  | inl l ↦ get_or_append_left keys (replicate (n - length keys) None) None i l
  | inr m ↦ get_or-append_right keys (replicate (n - length keys) None) i None m ∙ no_key (n - length keys) (i - length keys) ∙ sym (get_or_past keys i None m)
]

pub key_count-with : (n : ℕ) (keys : List (Option Key)) → key_count (with_slots n keys) ≡ key_count keys
key_count-with n keys = omega (arith, sum_by-append (λ (o : Option Key). cond (is_some o) 1 0) keys (replicate (n - length keys) None), none (n - length keys))
  where
    none : (m : ℕ) → key_count (replicate m None) ≡ 0
    none zero = refl
    none (suc m) = none m

-- lists that read alike
alike : (a b : List (Option Key)) → length a ≡ length b → ((i : ℕ) → key_at a i ≡ key_at b i) → a ≡ b
alike a b len same = ext_get_or None a b len (λ i below. same i)

pub with_more : (m n : ℕ) (keys : List (Option Key)) → length keys ≤ m → m ≤ n → with_slots n keys ≡ with_slots n (with_slots m keys)
with_more m n keys few more =
    alike (with_slots n keys) (with_slots n (with_slots m keys)) (length-with n keys (omega (arith, few, more)) ∙ sym (length-with n (with_slots m keys) (omega (arith, length-with m keys few, more))))
    (λ i. key_at-with n keys i ∙ sym (key_at-with m keys i) ∙ sym (key_at-with n (with_slots m keys) i))

pub with_fewer : (m n : ℕ) (keys : List (Option Key)) → length keys ≤ m → n ≤ m → with_slots m keys ≡ with_slots n (with_slots m keys)
with_fewer m n keys few less =
    alike (with_slots m keys) (with_slots n (with_slots m keys))
    (omega (arith, length-with m keys few, less, length-append (with_slots m keys) (replicate (n - length (with_slots m keys)) None), length-replicate {A = Option Key} (n - length (with_slots m keys)) None))
    (λ i. sym (key_at-with n (with_slots m keys) i))

pub set_with : (n slot : ℕ) (keys more : List (Option Key)) (x : Option Key) → length keys ≤ n → length more ≤ n → slot < length more → ((i : ℕ) → key_at more i ≡ key_at keys i) → with_slots n (set more slot x) ≡ set (with_slots n keys) slot x
set_with n slot keys more x few more_few below same =
    alike (with_slots n (set more slot x)) (set (with_slots n keys) slot x)
    (omega (arith, length-with n (set more slot x) (omega (arith, more_few, length-set more slot x)), length-set (with_slots n keys) slot x, length-with n keys few))
    (λ i. key_at-with n (set more slot x) i ∙ elim (cases_eq i slot) [
      | inl e ↦ ap (key_at (set more slot x)) e ∙ get_or-set_same more slot x None below ∙ sym (get_or-set_same (with_slots n keys) slot x None (omega (arith, below, more_few, length-with n keys few))) ∙ ap (key_at (set (with_slots n keys) slot x)) (sym e)
      | inr other ↦ get_or-set_other more slot i x None other ∙ same i ∙ sym (key_at-with n keys i) ∙ sym (get_or-set_other (with_slots n keys) slot i x None other)
    ])

pub set_none : (n slot : ℕ) (keys : List (Option Key)) → length keys ≤ slot → with_slots n keys ≡ set (with_slots n keys) slot None
set_none n slot keys past = sym (ap (set (with_slots n keys) slot) (sym (key_at-with n keys slot ∙ get_or_past keys slot None past)) ∙ set-get_or (with_slots n keys) slot None)

pub least_with : (n slot : ℕ) (keys : List (Option Key)) (key : Key) → IsLeast keys slot key → IsLeast (with_slots n keys) slot key
least_with n slot keys key least = record {
  there = key_at-with n keys slot ∙ least.there;
  least = λ other its e. least.least other its (sym (key_at-with n keys other) ∙ e);
}
