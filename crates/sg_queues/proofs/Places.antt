-- The value under each activity id as an entry comes into a place or leaves it.
use Rattle.std.proofs.Common.{◌≡◌, ◌≢◌, ◌<◌, ◌≤◌, ℕ, true, false, cond, nat_eq, ◌⊎◌, inl, inr, Option, None, Some, Result, Ok, Err, List, [], ◌∷◌, length, get_or, set, get_or-set_same, get_or-set_other, refl, sym, ap, subst, ◌∙◌, arith}
use Rattle.std.proofs.lemmas.List.{get_or_past}
use Rattle.std.specs.HashMap.{HashMap, get, hash_map_len}
use Rattle.std.specs.Map.{lookup}
use Rattle.std.specs.Result.{OnOk}
use Rattle.sg_queues.specs.declared.by_serial.Entry.{Entry}
use Rattle.sg_queues.specs.Serials.{in_parts, or_else, place, value_in}

eq_cases : (a b : ℕ) → (a ≡ b) ⊎ (a ≢ b)
eq_cases a b = grind arith

agrees : (a : ℕ) → nat_eq a a ≡ true
agrees a = grind arith

pub differs : (a b : ℕ) → a ≢ b → nat_eq a b ≡ false
differs a b h = grind (arith, h)

apart : (a b : ℕ) → nat_eq a b ≡ false → a ≢ b
apart a b h e = let q : true ≡ false = sym (agrees a) ∙ ap (nat_eq a) e ∙ h in cc

-- an empty map has nothing
pub nothing_in : {T S : Type 0} (far : HashMap ℕ T S) → hash_map_len far ≡ 0 → (serial : ℕ) → get nat_eq far serial ≡ None
nothing_in {T} far none serial = ap (λ (es : List (ℕ × T)). lookup (nat_eq serial) es) (empty far.entries none)
  where
    empty : (es : List (ℕ × T)) → length es ≡ 0 → es ≡ []
    empty [] h = refl
    empty (e ∷ es) h = absurd (omega (arith, h))

module _ {T : Type 0} (near : List (Option (Entry T))) (mask : ℕ) where
  -- what holds if a place has this entry or none, and else as before
  at_place : (far : ℕ → Option T) (slot : Option (Entry T)) (serial : ℕ) → place mask serial < length near → in_parts (set near (place mask serial) slot) mask far serial ≡ or_else (value_in slot serial) (far serial)
  at_place far slot serial within = ap (λ e. or_else (value_in e serial) (far serial)) (get_or-set_same near (place mask serial) slot None within)

  -- of another activity id, which neither the new nor the old entry has
  elsewhere : (far : ℕ → Option T) (slot : Option (Entry T)) (at other : ℕ) → at < length near → value_in slot other ≡ None → value_in (get_or near at None) other ≡ None → in_parts (set near at slot) mask far other ≡ in_parts near mask far other
  elsewhere far slot at other within new old = elim (eq_cases (place mask other) at) [
    | inl e ↦
        ap (λ k. or_else (value_in (get_or (set near at slot) k None) other) (far other)) e
        ∙ ap (λ s. or_else (value_in s other) (far other)) (get_or-set_same near at slot None within)
        ∙ ap (λ v. or_else v (far other)) (new ∙ sym old)
        ∙ sym (ap (λ k. or_else (value_in (get_or near k None) other) (far other)) e)
    | inr ne ↦ ap (λ s. or_else (value_in s other) (far other)) (get_or-set_other near at (place mask other) slot None ne)
  ]

  -- an entry comes into its place
  pub put_near : (far : ℕ → Option T) (serial : ℕ) (value : T) → place mask serial < length near
      → ((other : ℕ) → nat_eq serial other ≡ false → value_in (get_or near (place mask serial) None) other ≡ None)
      → (other : ℕ) → in_parts (set near (place mask serial) (Some (record { serial = serial; value = value }))) mask far other ≡ cond (nat_eq serial other) (Some value) (in_parts near mask far other)
  put_near far serial value within free other = elim (eq_cases serial other) [
    | inl e ↦ subst (λ k. in_parts (set near (place mask serial) (Some entry)) mask far k ≡ cond (nat_eq serial k) (Some value) (in_parts near mask far k)) e
        (at_place far (Some entry) serial within ∙ ap (λ b. or_else (cond b (Some value) None) (far serial)) (agrees serial) ∙ sym (ap (λ b. cond b (Some value) (in_parts near mask far serial)) (agrees serial)))
    | inr ne ↦ elsewhere far (Some entry) (place mask serial) other within (ap (λ b. cond b (Some value) None) (differs serial other ne)) (free other (differs serial other ne))
        ∙ sym (ap (λ b. cond b (Some value) (in_parts near mask far other)) (differs serial other ne))
  ]
    where
      entry : Entry T
      entry = record { serial = serial; value = value }

  -- a value comes into the map, if the place has another's entry
  pub put_far : (far new : ℕ → Option T) (serial : ℕ) (value : Option T) → value_in (get_or near (place mask serial) None) serial ≡ None
      → ((other : ℕ) → new other ≡ cond (nat_eq serial other) value (far other))
      → (other : ℕ) → in_parts near mask new other ≡ cond (nat_eq serial other) value (in_parts near mask far other)
  put_far far new serial value none puts other = elim (eq_cases serial other) [
    | inl e ↦ subst (λ k. in_parts near mask new k ≡ cond (nat_eq serial k) value (in_parts near mask far k)) e
        (ap (λ v. or_else v (new serial)) none ∙ puts serial ∙ ap (λ b. cond b value (far serial)) (agrees serial) ∙ sym (ap (λ b. cond b value (in_parts near mask far serial)) (agrees serial)))
    | inr ne ↦
        ap (or_else (value_in (get_or near (place mask other) None) other)) (puts other ∙ ap (λ b. cond b value (far other)) (differs serial other ne))
        ∙ sym (ap (λ b. cond b value (in_parts near mask far other)) (differs serial other ne))
  ]

  -- only a place that is there has an entry
  pub there : (serial : ℕ) (value : T) → value_in (get_or near (place mask serial) None) serial ≡ Some value → place mask serial < length near
  there serial value is = inside (inside_or_past (place mask serial) (length near))
    where
      inside_or_past : (a b : ℕ) → (a < b) ⊎ (b ≤ a)
      inside_or_past a b = grind arith

      inside : (place mask serial < length near) ⊎ (length near ≤ place mask serial) → place mask serial < length near
      inside (inl h) = h
      inside (inr h) = let q : None ≡ Some value = sym (ap (λ s. value_in s serial) (get_or_past near (place mask serial) None h)) ∙ is in cc

  pub value_of : (slot : Option (Entry T)) (serial other : ℕ) (value : T) → value_in slot serial ≡ Some value → serial ≢ other → value_in slot other ≡ None
  value_of None serial other value is ne = refl
  value_of (Some entry) serial other value is ne = elim (eq_cases entry.serial serial) [
    | inl e ↦ ap (λ b. cond b (Some entry.value) None) (differs entry.serial other (λ q. ne (sym e ∙ q)))
    | inr ne' ↦ let q : None ≡ Some value = sym (ap (λ b. cond b (Some entry.value) None) (differs entry.serial serial ne')) ∙ is in cc
  ]

  -- an entry leaves its place, and the map has nothing of its activity id
  pub take_near : (far new : ℕ → Option T) (serial : ℕ) (value : T) → value_in (get_or near (place mask serial) None) serial ≡ Some value
      → ((other : ℕ) → new other ≡ cond (nat_eq serial other) None (far other))
      → (other : ℕ) → in_parts (set near (place mask serial) None) mask new other ≡ cond (nat_eq serial other) None (in_parts near mask far other)
  take_near far new serial value is takes other = elim (eq_cases serial other) [
    | inl e ↦ subst (λ k. in_parts (set near at None) mask new k ≡ cond (nat_eq serial k) None (in_parts near mask far k)) e
        (at_place new None serial within ∙ takes serial ∙ ap (λ b. cond b None (far serial)) (agrees serial) ∙ sym (ap (λ b. cond b None (in_parts near mask far serial)) (agrees serial)))
    | inr ne ↦ elsewhere new None at other within refl (value_of (get_or near at None) serial other value is ne)
        ∙ ap (or_else (value_in (get_or near (place mask other) None) other)) (takes other ∙ ap (λ b. cond b None (far other)) (differs serial other ne))
        ∙ sym (ap (λ b. cond b None (in_parts near mask far other)) (differs serial other ne))
  ]
    where
      at : ℕ
      at = place mask serial

      within : place mask serial < length near
      within = there serial value is

  -- an entry replaces one of the same activity id
  pub replace_near : (far : ℕ → Option T) (serial : ℕ) (was value : T) → value_in (get_or near (place mask serial) None) serial ≡ Some was
      → (other : ℕ) → in_parts (set near (place mask serial) (Some (record { serial = serial; value = value }))) mask far other ≡ cond (nat_eq serial other) (Some value) (in_parts near mask far other)
  replace_near far serial was value is = put_near far serial value (there serial was is) (λ other h. value_of (get_or near (place mask serial) None) serial other was is (λ e. apart serial other h e))

-- no places
pub no_places : {T : Type 0} (near : List (Option (Entry T))) (mask : ℕ) (far : ℕ → Option T) (serial : ℕ) → ((at : ℕ) → get_or near at None ≡ None) → in_parts near mask far serial ≡ far serial
no_places near mask far serial none = ap (λ e. or_else (value_in e serial) (far serial)) (none (place mask serial))

-- what holds in any case holds if it went well
pub in_any_case : {A E P : Type 0} (result : Result A E) → P → OnOk result P
in_any_case (Ok x) p = p
in_any_case (Err e) p = tt
