-- A slot comes in front, or goes away.
use Rattle.std.proofs.Common.{◌≡◌, ◌≢◌, ℕ, zero, suc, ◌+◌, ◌⊎◌, inl, inr, true, true≢false, cond, ◌==◌, Option, None, Some, is_some, option_map, set, map, length, count_by, ◌<◌, ◌≤◌, le_trans, get_or-set_same, get_or-set_other, length-set, List, [], ◌∷◌, ◌++◌, get_or, replicate, refl, sym, ap, ap₂, subst, ◌∙◌, arith}
use Rattle.std.proofs.lemmas.List.{get_or-replicate, get_or_past, length-map, length-replicate}
use Rattle.sg_maxmin.specs.declared.uses.Use.{Use}
use Rattle.sg_maxmin.specs.Walk.{Leads, next_on, resource_of, user_of}
use Rattle.std.proofs.lemmas.List.Sums.{sum_by-set, sum_by-cons, count_by-le-length}
use Rattle.sg_maxmin.specs.Chained.{times, users_on, GainsUses}
use Rattle.sg_maxmin.specs.kept.Slots.{IsSmall, nothing}
use Rattle.sg_maxmin.specs.kept.Linked.{next_of, IsBehind, Linked, last_of, first_of, In, Distinct, with_prev, with_next, PointsFrom, IsList, AreLists, flow_in, user_in, use_of, uses_of, flow_part, SameBut, walked, users_of, GainsOne, LosesOne, AreGained}
use Rattle.sg_maxmin.specs.declared.slots.Slot.{Slot}

In-append_left : {X : Type 0} (xs ys : List X) (x : X) → In x xs → In x (xs ++ ys)
In-append_left [] ys x h = absurd h
In-append_left (z ∷ xs) ys x (inl e) = inl e
In-append_left (z ∷ xs) ys x (inr h) = inr (In-append_left xs ys x h)

In-append_right : {X : Type 0} (xs ys : List X) (x : X) → In x ys → In x (xs ++ ys)
In-append_right [] ys x h = h
In-append_right (z ∷ xs) ys x h = inr (In-append_right xs ys x h)

-- if its own slots stay, a list stays linked
pub linked_kept : (c : ℕ) (old new : List (Option Slot)) (prev : Option ℕ) (list : List ℕ) (at : Option ℕ) → ((j : ℕ) → In j list → get_or new j None ≡ get_or old j None) → Linked c old prev list at → Linked c new prev list at
linked_kept c old new prev [] at h l = l
linked_kept c old new prev (i ∷ list) at h l =
    let same = h i (inl refl) in (
      l.0,
      subst (λ o. IsBehind c prev o) (sym same) l.1,
      subst (λ o. Linked c new (Some i) list (next_of o)) (sym same) (linked_kept c old new (Some i) list (next_of (get_or old i None)) (λ j k. h j (inr k)) l.2),
    )

-- the first is another's: its slot gets a new prev
pub linked_behind : (c : ℕ) (old new : List (Option Slot)) (prev prev' : Option ℕ) (list : List ℕ) (at : Option ℕ) → Distinct list → Linked c old prev list at →
    ((i : ℕ) → first_of list ≡ Some i → get_or new i None ≡ option_map (with_prev prev') (get_or old i None)) →
    ((j : ℕ) → In j list → first_of list ≢ Some j → get_or new j None ≡ get_or old j None) → Linked c new prev' list at
linked_behind c old new prev prev' [] at d l head rest = l
linked_behind c old new prev prev' (i ∷ list) at d l head rest =
    let told = head i refl in (
      l.0,
      subst (λ o. IsBehind c prev' o) (sym told) (behind (get_or old i None) l.1),
      subst (λ o. Linked c new (Some i) list o) (sym (ap next_of told ∙ next_kept (get_or old i None)))
          (linked_kept c old new (Some i) list (next_of (get_or old i None)) (λ j k. rest j (inr k) (λ e. d.0 (subst (λ w. In w list) (sym (some_same i j e)) k))) l.2),
    )
  where
    behind : (o : Option Slot) → IsBehind c prev o → IsBehind c prev' (option_map (with_prev prev') o)
    behind None h = h
    behind (Some n) h = (h.0, refl)

    next_kept : (o : Option Slot) → next_of (option_map (with_prev prev') o) ≡ next_of o
    next_kept None = refl
    next_kept (Some n) = refl

    some_same : (a b : ℕ) → Some a ≡ Some b → a ≡ b
    some_same a b h = cc h

-- a new slot in front
pub linked_front : (c i : ℕ) (old new : List (Option Slot)) (list : List ℕ) (at : Option ℕ) (slot : Slot) → Distinct list → (In i list → ⊥) → Linked c old None list at →
    get_or new i None ≡ Some slot → slot.resource ≡ c → slot.prev_on ≡ None → slot.next_on ≡ at →
    ((j : ℕ) → first_of list ≡ Some j → get_or new j None ≡ option_map (with_prev (Some i)) (get_or old j None)) →
    ((j : ℕ) → In j list → first_of list ≢ Some j → get_or new j None ≡ get_or old j None) → Linked c new None (i ∷ list) (Some i)
linked_front c i old new list at slot d fresh l is resource prev next head rest = (
  refl,
  subst (λ o. IsBehind c None o) (sym is) (resource, prev),
  subst (λ o. Linked c new (Some i) list o) (sym (ap next_of is ∙ next)) (linked_behind c old new None (Some i) list at d l head rest),
)

-- where the slot i stands, after the last before it and before the first after it
pub linked_at : (c i : ℕ) (slots : List (Option Slot)) (prev : Option ℕ) (before after : List ℕ) (at : Option ℕ) → Linked c slots prev (before ++ i ∷ after) at →
    IsBehind c (last_of prev before) (get_or slots i None) × (next_of (get_or slots i None) ≡ first_of after)
linked_at c i slots prev [] [] at l = (l.1, l.2)
linked_at c i slots prev [] (b ∷ after) at l = (l.1, l.2.0)
linked_at c i slots prev (a ∷ before) after at l = linked_at c i slots (Some a) before after (next_of (get_or slots a None)) l.2

last_in : (a : ℕ) (list : List ℕ) → (x : ℕ) × In x (a ∷ list) × (last_of (Some a) list ≡ Some x)
last_in a [] = (a, inl refl, refl)
last_in a (b ∷ list) = let r = last_in b list in (r.0, inr r.1, r.2)

some_eq : (a b : ℕ) → Some a ≡ Some b → a ≡ b
some_eq a b h = cc h

distinct_tail : (before : List ℕ) (i : ℕ) (after : List ℕ) → Distinct (before ++ i ∷ after) → Distinct after × (In i after → ⊥) × ((j : ℕ) → In j before → In j after → ⊥)
distinct_tail [] i after d = (d.1, d.0, λ j h k. h)
distinct_tail (a ∷ before) i after d =
    let r = distinct_tail before i after d.1 in
    (r.0, r.1, λ j h k. elim h [ inl e ↦ d.0 (In-append_right before (i ∷ after) a (inr (subst (λ w. In w after) (sym e) k))) | inr m ↦ r.2 j m k ])

-- where the walk begins once i is gone
abbrev pub start_of : List ℕ → List ℕ → Option ℕ → Option ℕ
start_of [] after at = first_of after
start_of (a ∷ before) after at = at

-- the list without i
pub linked_without : (c i : ℕ) (old new : List (Option Slot)) (prev : Option ℕ) (before after : List ℕ) (at : Option ℕ) → Distinct (before ++ i ∷ after) → ((x : ℕ) → prev ≡ Some x → In x (before ++ i ∷ after) → ⊥) →
    Linked c old prev (before ++ i ∷ after) at →
    ((x : ℕ) → In x before → last_of prev before ≡ Some x → get_or new x None ≡ option_map (with_next (first_of after)) (get_or old x None)) →
    ((x : ℕ) → first_of after ≡ Some x → get_or new x None ≡ option_map (with_prev (last_of prev before)) (get_or old x None)) →
    ((x : ℕ) → In x (before ++ after) → last_of prev before ≢ Some x → first_of after ≢ Some x → get_or new x None ≡ get_or old x None) →
    Linked c new prev (before ++ after) (start_of before after at)
linked_without c i old new prev [] after at d out l p q rest =
    let tail = distinct_tail [] i after d in
    let here = linked_at c i old prev [] after at l in
    linked_behind c old new (Some i) prev after (first_of after) tail.0 (subst (λ o. Linked c old (Some i) after o) here.1 l.2)
    q (λ j k ne. rest j k (λ e. out j e (inr k)) ne)
linked_without c i old new prev (a ∷ []) after at d out l p q rest =
    let told = p a (inl refl) refl in
    let tail = distinct_tail [] i after d.1 in
    let here = linked_at c i old (Some a) [] after (next_of (get_or old a None)) l.2 in
    let behind = linked_behind c old new (Some i) (Some a) after (first_of after) tail.0 (subst (λ o. Linked c old (Some i) after o) here.1 l.2.2)
    q (λ j k ne. rest j (inr k) (λ e. d.0 (inr (subst (λ w. In w after) (sym (some_eq a j e)) k))) ne) in (
      l.0,
      subst (λ o. IsBehind c prev o) (sym told) (kept (get_or old a None) l.1),
      subst (λ o. Linked c new (Some a) after o) (sym (ap next_of told ∙ now (get_or old a None) l.1)) behind,
    )
  where
    kept : (o : Option Slot) → IsBehind c prev o → IsBehind c prev (option_map (with_next (first_of after)) o)
    kept None h = h
    kept (Some n) h = h

    now : (o : Option Slot) → IsBehind c prev o → next_of (option_map (with_next (first_of after)) o) ≡ first_of after
    now None h = absurd h
    now (Some n) h = refl
linked_without c i old new prev (a ∷ b ∷ before) after at d out l p q rest =
    let last = last_in b before in
    let away : last_of (Some b) before ≢ Some a = λ e. d.0 (In-append_left (b ∷ before) (i ∷ after) a (subst (λ w. In w (b ∷ before)) (some_eq last.0 a (sym last.2 ∙ e)) last.1)) in
    let not_first : first_of after ≢ Some a = λ e. d.0 (In-append_right (b ∷ before) (i ∷ after) a (inr (first_in after a e))) in
    let same = rest a (inl refl) away not_first in
    let more = linked_without c i old new (Some a) (b ∷ before) after (next_of (get_or old a None)) d.1 (λ x e k. d.0 (subst (λ w. In w ((b ∷ before) ++ i ∷ after)) (sym (some_eq a x e)) k)) l.2
    (λ x k e. p x (inr k) e) q (λ x k n m. rest x (inr k) n m) in (
      l.0,
      subst (λ o. IsBehind c prev o) (sym same) l.1,
      subst (λ o. Linked c new (Some a) ((b ∷ before) ++ after) (next_of o)) (sym same) more,
    )
  where
    first_in : (list : List ℕ) (x : ℕ) → first_of list ≡ Some x → In x list
    first_in [] x e = cc e
    first_in (y ∷ list) x e = inl (some_eq y x e)

not_in : (before : List ℕ) (i : ℕ) (after : List ℕ) → Distinct (before ++ i ∷ after) → (x : ℕ) → In x (before ++ after) → x ≢ i
not_in [] i after d x k e = d.0 (subst (λ w. In w after) e k)
not_in (a ∷ before) i after d x (inl z) e = d.0 (In-append_right before (i ∷ after) a (inl (sym (z ∙ e))))
not_in (a ∷ before) i after d x (inr k) e = not_in before i after d.1 x k e

first_in : (list : List ℕ) (x : ℕ) → first_of list ≡ Some x → In x list
first_in [] x e = cc e
first_in (y ∷ list) x e = inl (some_eq y x e)

last_some : (before : List ℕ) (x : ℕ) → last_of None before ≡ Some x → In x before
last_some [] x e = cc e
last_some (a ∷ before) x e = let r = last_in a before in subst (λ w. In w (a ∷ before)) (some_eq r.0 x (sym r.2 ∙ e)) r.1

start_is : (c : ℕ) (on on' : List (Option ℕ)) (slot : Slot) (before after : List ℕ) → slot.prev_on ≡ last_of None before → slot.next_on ≡ first_of after → c < length on → PointsFrom slot.prev_on (on' ≡ set on c slot.next_on) (on' ≡ on) → start_of before after (get_or on c None) ≡ get_or on' c None
start_is c on on' slot [] after prev next in' first =
    let e = subst (λ p. PointsFrom p (on' ≡ set on c slot.next_on) (on' ≡ on)) prev first in
    sym next ∙ sym (get_or-set_same on c slot.next_on None in') ∙ sym (ap (λ w. get_or w c None) e)
start_is c on on' slot (a ∷ before) after prev next in' first =
    let r = last_in a before in
    let e = subst (λ p. PointsFrom p (on' ≡ set on c slot.next_on) (on' ≡ on)) (prev ∙ r.2) first in
    sym (ap (λ w. get_or w c None) e)

-- what taking a slot out leaves of its list
pub unlinked : (c i : ℕ) (old one two new : List (Option Slot)) (on on' : List (Option ℕ)) (slot : Slot) (before after : List ℕ) → Distinct (before ++ i ∷ after) → get_or old i None ≡ Some slot → c < length on →
    ((j : ℕ) → j ≢ i → get_or one j None ≡ get_or old j None) →
    PointsFrom slot.prev_on (on' ≡ set on c slot.next_on) (on' ≡ on) →
    ((x : ℕ) → slot.prev_on ≡ Some x → get_or two x None ≡ option_map (with_next slot.next_on) (get_or one x None)) → ((x : ℕ) → slot.prev_on ≢ Some x → get_or two x None ≡ get_or one x None) →
    ((x : ℕ) → slot.next_on ≡ Some x → get_or new x None ≡ option_map (with_prev slot.prev_on) (get_or two x None)) → ((x : ℕ) → slot.next_on ≢ Some x → get_or new x None ≡ get_or two x None) →
    Linked c old None (before ++ i ∷ after) (get_or on c None) → Linked c new None (before ++ after) (get_or on' c None)
unlinked c i old one two new on on' slot before after d there in' removed first next_to next_not prev_to prev_not l =
    let at = linked_at c i old None before after (get_or on c None) l in
    let behind : IsBehind c (last_of None before) (Some slot) = subst (λ o. IsBehind c (last_of None before) o) there at.0 in
    let prev : slot.prev_on ≡ last_of None before = behind.1 in
    let next : slot.next_on ≡ first_of after = ap next_of (sym there) ∙ at.1 in
    let apart = (distinct_tail before i after d).2 in
    let one_is = λ (x : ℕ) (k : In x (before ++ after)). removed x (not_in before i after d x k) in
    let done = linked_without c i old new None before after (get_or on c None) d (λ x e k. cc e) l
    (λ x k e.
    prev_not x (λ z. apart x k (first_in after x (sym next ∙ z)))
    ∙ next_to x (prev ∙ e) ∙ ap (option_map (with_next slot.next_on)) (one_is x (In-append_left before after x k)) ∙ ap (λ q. option_map (with_next q) (get_or old x None)) next)
    (λ x e.
    prev_to x (next ∙ e)
    ∙ ap (option_map (with_prev slot.prev_on)) (next_not x (λ z. apart x (last_some before x (sym prev ∙ z)) (first_in after x e)) ∙ one_is x (In-append_right before after x (first_in after x e)))
    ∙ ap (λ q. option_map (with_prev q) (get_or old x None)) prev)
    (λ x k m n. prev_not x (λ z. n (sym next ∙ z)) ∙ next_not x (λ z. m (sym prev ∙ z)) ∙ one_is x k) in
    subst (λ w. Linked c new None (before ++ after) w) (start_is c on on' slot before after prev next in' first) done

in_split : (i : ℕ) (list : List ℕ) → In i list → (before : List ℕ) × (after : List ℕ) × (list ≡ before ++ i ∷ after)
in_split i [] k = absurd k
in_split i (j ∷ list) (inl e) = ([], list, ap (λ w. w ∷ list) e)
in_split i (j ∷ list) (inr k) = let r = in_split i list k in (j ∷ r.0, r.1, ap (λ w. j ∷ w) r.2)

eq_cases : (a b : ℕ) → (a ≡ b) ⊎ (a ≢ b)
eq_cases a b = grind arith

in_cases : (j : ℕ) (list : List ℕ) → In j list ⊎ (In j list → ⊥)
in_cases j [] = inr (λ k. k)
in_cases j (i ∷ list) =
    elim (eq_cases i j) [
      | inl e ↦ inl (inl e)
      | inr n ↦ elim (in_cases j list) [ inl k ↦ inl (inr k) | inr no' ↦ inr (λ k. elim k [ inl e ↦ n e | inr m ↦ no' m ]) ]
    ]

in_without : (before : List ℕ) (i : ℕ) (after : List ℕ) (j : ℕ) → In j (before ++ i ∷ after) → j ≢ i → In j (before ++ after)
in_without [] i after j (inl e) ne = absurd (ne (sym e))
in_without [] i after j (inr k) ne = k
in_without (a ∷ before) i after j (inl e) ne = inl e
in_without (a ∷ before) i after j (inr k) ne = inr (in_without before i after j k ne)

in_with : (before : List ℕ) (i : ℕ) (after : List ℕ) (j : ℕ) → In j (before ++ after) → In j (before ++ i ∷ after)
in_with [] i after j k = inr k
in_with (a ∷ before) i after j (inl e) = inl e
in_with (a ∷ before) i after j (inr k) = inr (in_with before i after j k)

distinct_without : (before : List ℕ) (i : ℕ) (after : List ℕ) → Distinct (before ++ i ∷ after) → Distinct (before ++ after)
distinct_without [] i after d = d.1
distinct_without (a ∷ before) i after d = (λ k. d.0 (in_with before i after a k), distinct_without before i after d.1)

-- a slot of a linked list is there, and of its resource
pub linked_in : (c : ℕ) (slots : List (Option Slot)) (prev : Option ℕ) (list : List ℕ) (at : Option ℕ) → Linked c slots prev list at → (j : ℕ) → In j list → (n : Slot) × (get_or slots j None ≡ Some n) × (n.resource ≡ c)
linked_in c slots prev [] at l j k = absurd k
linked_in c slots prev (i ∷ list) at l j (inl e) = subst (λ w. (n : Slot) × (get_or slots w None ≡ Some n) × (n.resource ≡ c)) e (there (get_or slots i None) refl l.1)
  where
    there : (o : Option Slot) → get_or slots i None ≡ o → IsBehind c prev o → (n : Slot) × (get_or slots i None ≡ Some n) × (n.resource ≡ c)
    there None z h = absurd h
    there (Some n) z h = (n, z, h.0)
linked_in c slots prev (i ∷ list) at l j (inr k) = linked_in c slots (Some i) list (next_of (get_or slots i None)) l.2 j k

-- what is elsewhere stays, as slots are taken out
pub unlinked_elsewhere : (c i : ℕ) (old one two new : List (Option Slot)) (slot : Slot) (before after : List ℕ) (at : Option ℕ) → get_or old i None ≡ Some slot →
    ((j : ℕ) → j ≢ i → get_or one j None ≡ get_or old j None) → ((x : ℕ) → slot.prev_on ≢ Some x → get_or two x None ≡ get_or one x None) → ((x : ℕ) → slot.next_on ≢ Some x → get_or new x None ≡ get_or two x None) →
    Linked c old None (before ++ i ∷ after) at → (j : ℕ) → (In j (before ++ i ∷ after) → ⊥) → get_or new j None ≡ get_or old j None
unlinked_elsewhere c i old one two new slot before after at there removed next_not prev_not l j away =
    let where' = linked_at c i old None before after at l in
    let behind : IsBehind c (last_of None before) (Some slot) = subst (λ o. IsBehind c (last_of None before) o) there where'.0 in
    let next : slot.next_on ≡ first_of after = ap next_of (sym there) ∙ where'.1 in
    prev_not j (λ z. away (In-append_right before (i ∷ after) j (inr (first_in after j (sym next ∙ z)))))
    ∙ next_not j (λ z. away (In-append_left before (i ∷ after) j (last_some before j (sym behind.1 ∙ z))))
    ∙ removed j (λ e. away (In-append_right before (i ∷ after) j (inl (sym e))))

lt_cases : (a b : ℕ) → (a < b) ⊎ (b ≤ a)
lt_cases a b = grind arith

-- ---- the flows on a resource
pub uses_at : (slots : List (Option Slot)) (i : ℕ) → get_or (uses_of slots) i None ≡ option_map use_of (get_or slots i None)
uses_at [] i = refl
uses_at (s ∷ slots) zero = refl
uses_at (s ∷ slots) (suc i) = uses_at slots i

some_within : (slots : List (Option Slot)) (i : ℕ) → is_some (get_or slots i None) ≡ true → i < length slots
some_within slots i some = elim (lt_cases i (length slots)) [ inl h ↦ h | inr h ↦ absurd (true≢false (sym some ∙ ap is_some (past h))) ]
  where
    past : length slots ≤ i → get_or slots i None ≡ None
    past h = grind (arith, get_or_past)

-- no more numbers of slots that are there than slots
pigeons : (slots : List (Option Slot)) (list : List ℕ) → Distinct list → ((j : ℕ) → In j list → is_some (get_or slots j None) ≡ true) → length list ≤ count_by is_some slots
pigeons slots [] d h = omega arith
pigeons slots (i ∷ list) d h =
    let here = h i (inl refl) in
    let within : i < length slots = some_within slots i here in
    let rest = pigeons (set slots i None) list d.1 (λ j k. ap is_some (get_or-set_other slots i j None None (λ e. d.0 (subst (λ w. In w list) e k))) ∙ h j (inr k)) in
    let one : ◌≡◌ {A = ℕ} (cond (is_some (get_or slots i None)) 1 0) 1 = ap {B = ℕ} (λ b. cond b 1 0) here in
    omega (arith, rest, one, sum_by-set (λ o. cond (is_some o) 1 0) slots i None None within)

some_in : (c : ℕ) (slots : List (Option Slot)) (list : List ℕ) (at : Option ℕ) → Linked c slots None list at → (j : ℕ) → In j list → is_some (get_or slots j None) ≡ true
some_in c slots list at l j k = ap is_some (linked_in c slots None list at l j k).1

pub few_linked : (c : ℕ) (slots : List (Option Slot)) (list : List ℕ) (at : Option ℕ) → Linked c slots None list at → Distinct list → length list ≤ length slots
few_linked c slots list at l d = le_trans (pigeons slots list d (some_in c slots list at l)) (count_by-le-length is_some slots)

walked_is : (n c : ℕ) (slots : List (Option Slot)) (prev : Option ℕ) (list : List ℕ) (at : Option ℕ) → Linked c slots prev list at → length list ≤ n → walked n slots at ≡ map (λ i. flow_in (get_or slots i None)) list
unfolding walked
walked_is zero c slots prev [] at l few = refl
walked_is zero c slots prev (i ∷ list) at l few = absurd (omega (arith, few))
walked_is (suc n) c slots prev [] at l few = ap (walked (suc n) slots) l
walked_is (suc n) c slots prev (i ∷ list) at l few = ap (walked (suc n) slots) l.0 ∙ ap (λ r. flow_in (get_or slots i None) ∷ r) (walked_is n c slots (Some i) list (next_of (get_or slots i None)) l.2 (omega (arith, few)))

pub users_from : (c : ℕ) (slots : List (Option Slot)) (list : List ℕ) (at : Option ℕ) → Linked c slots None list at → Distinct list → walked (length slots) slots at ≡ map (λ i. flow_in (get_or slots i None)) list
users_from c slots list at l d = walked_is (length slots) c slots None list at l (few_linked c slots list at l d)

pub walked_none : (n : ℕ) (slots : List (Option Slot)) → walked n slots None ≡ []
unfolding walked
walked_none zero slots = refl
walked_none (suc n) slots = refl

pub users_past : (slots : List (Option Slot)) (on : List (Option ℕ)) (c : ℕ) → length on ≤ c → users_of slots on c ≡ []
users_past slots on c h = ap (walked (length slots) slots) past ∙ walked_none (length slots) slots
  where
    past : get_or on c None ≡ None
    past = grind (arith, get_or_past)

part_flow : (o : Option Slot) → flow_in o ≡ user_in (option_map flow_part (option_map use_of o))
part_flow None = refl
part_flow (Some s) = refl

pub flow_same : (old new : List (Option Slot)) (i j : ℕ) → SameBut (uses_of old) (uses_of new) i → j ≢ i → flow_in (get_or new j None) ≡ flow_in (get_or old j None)
flow_same old new i j same away =
    part_flow (get_or new j None) ∙ ap (λ o. user_in (option_map flow_part o)) (sym (uses_at new j)) ∙ ap user_in (same j away)
    ∙ ap (λ o. user_in (option_map flow_part o)) (uses_at old j) ∙ sym (part_flow (get_or old j None))

map_same : (f g : ℕ → ℕ) (xs : List ℕ) → ((x : ℕ) → In x xs → f x ≡ g x) → map f xs ≡ map g xs
map_same f g [] h = refl
map_same f g (y ∷ xs) h = ap₂ (λ a b. a ∷ b) (h y (inl refl)) (map_same f g xs (λ x i. h x (inr i)))

flows_kept : (old new : List (Option Slot)) (i : ℕ) (list : List ℕ) → SameBut (uses_of old) (uses_of new) i → ((j : ℕ) → In j list → j ≢ i) → map (λ k. flow_in (get_or new k None)) list ≡ map (λ k. flow_in (get_or old k None)) list
flows_kept old new i list same away = map_same (λ k. flow_in (get_or new k None)) (λ k. flow_in (get_or old k None)) list (λ j k. flow_same old new i j same (away j k))

eq_turn : (a b : ℕ) → (a == b) ≡ (b == a)
eq_turn a b = grind arith

times_front : (other f : ℕ) (fs : List ℕ) → times other (f ∷ fs) ≡ times other fs + cond (other == f) 1 0
times_front other f fs = omega (arith, sum_by-cons (λ d. cond (d == other) 1 0) f fs, ap {B = ℕ} (λ b. cond b 1 0) (eq_turn f other))

times_taken : (other : ℕ) (f : ℕ → ℕ) (before : List ℕ) (i : ℕ) (after : List ℕ) → times other (map f (before ++ i ∷ after)) ≡ times other (map f (before ++ after)) + cond (other == f i) 1 0
times_taken other f [] i after = times_front other (f i) (map f after)
times_taken other f (a ∷ before) i after = omega (arith, times_front other (f a) (map f (before ++ i ∷ after)), times_front other (f a) (map f (before ++ after)), times_taken other f before i after)

-- all lists stay lists
pub lists_without : (i : ℕ) (old new : List (Option Slot)) (on on' : List (Option ℕ)) → AreLists old on → (slot : Slot) → get_or old i None ≡ Some slot → get_or new i None ≡ None → length on' ≡ length on →
    ((before after : List ℕ) → Distinct (before ++ i ∷ after) → Linked slot.resource old None (before ++ i ∷ after) (get_or on slot.resource None) → Linked slot.resource new None (before ++ after) (get_or on' slot.resource None)) →
    ((before after : List ℕ) → Linked slot.resource old None (before ++ i ∷ after) (get_or on slot.resource None) → (j : ℕ) → (In j (before ++ i ∷ after) → ⊥) → get_or new j None ≡ get_or old j None) →
    ((c : ℕ) → c ≢ slot.resource → get_or on' c None ≡ get_or on c None) → SameBut (uses_of old) (uses_of new) i → LosesOne old new on on' slot.resource slot.flow
lists_without i old new on on' are slot there gone len linked elsewhere firsts same_but =
    let c = slot.resource in
    let mine = are.lists c (are.in_range i slot there) in
    let cut = in_split i mine.list (mine.all i slot there refl) in
    let before = cut.0 in
    let after = cut.1 in
    let d = subst (λ w. Distinct w) cut.2 mine.once in
    let l = subst (λ w. Linked c old None w (get_or on c None)) cut.2 mine.linked in
    let l' = linked before after d l in
    let kept = elsewhere before after l in
    -- a slot that is left is of this resource and in the list, or as it was
    let each = λ (j : ℕ) (n : Slot) (e : get_or new j None ≡ Some n).
    let goal : ((n.resource ≡ c) × In j (before ++ after)) ⊎ (get_or old j None ≡ Some n) =
    elim (in_cases j (before ++ i ∷ after)) [
      | inl k ↦
          let ne : j ≢ i = λ z. cc (sym (ap (λ w. get_or new w None) z ∙ gone) ∙ e) in
          let m = in_without before i after j k ne in
          let r = linked_in c new None (before ++ after) (get_or on' c None) l' j m in
          inl (ap (λ w. w.resource) (some_node (sym e ∙ r.1)) ∙ r.2, m)
      | inr away ↦ inr (sym (kept j away) ∙ e)
    ] in goal in
    record {
      lists = record {
        lists = λ c2 in2.
            elim (eq_cases c2 c) [
              | inl e ↦ subst (λ w. IsList new on' w) (sym e) (record {
                list = before ++ after;
                linked = l';
                once = distinct_without before i after d;
                all = λ j n z same. elim (each j n z) [
                  | inl h ↦ h.1
                  | inr was ↦ in_without before i after j (subst (λ w. In j w) cut.2 (mine.all j n was same)) (λ y. cc (sym (ap (λ w. get_or new w None) y ∙ gone) ∙ z))
                ];
              })
              | inr ne ↦
                  let other = are.lists c2 (subst (λ k. c2 < k) len in2) in
                  let apart = λ (j : ℕ) (k : In j other.list).
                  let r = linked_in c2 old None other.list (get_or on c2 None) other.linked j k in
                  let goal : get_or new j None ≡ get_or old j None = kept j (λ m.
                  let r2 = linked_in c old None (before ++ i ∷ after) (get_or on c None) l j m in
                  ne (sym r.2 ∙ ap (λ w. w.resource) (some_node (sym r.1 ∙ r2.1)) ∙ r2.2)) in goal in
                  record {
                    list = other.list;
                    linked = subst (λ w. Linked c2 new None other.list w) (sym (firsts c2 ne)) (linked_kept c2 old new None other.list (get_or on c2 None) apart other.linked);
                    once = other.once;
                    all = λ j n z same. elim (each j n z) [ inl h ↦ absurd (ne (sym same ∙ h.0)) | inr was ↦ other.all j n was same ];
                  }
            ];
        in_range = λ j n z. elim (each j n z) [
          | inl h ↦ subst (λ k. n.resource < k) (sym len) (subst (λ k. k < length on) (sym h.0) (are.in_range i slot there))
          | inr was ↦ subst (λ k. n.resource < k) (sym len) (are.in_range j n was)
        ];
      };
      here = λ other.
          let was : users_of old on c ≡ map (λ k. flow_in (get_or old k None)) (before ++ i ∷ after) = users_from c old (before ++ i ∷ after) (get_or on c None) l d in
          let now : users_of new on' c ≡ map (λ k. flow_in (get_or new k None)) (before ++ after) = users_from c new (before ++ after) (get_or on' c None) l' (distinct_without before i after d) in
          let same : map (λ k. flow_in (get_or new k None)) (before ++ after) ≡ map (λ k. flow_in (get_or old k None)) (before ++ after) = flows_kept old new i (before ++ after) same_but (λ k m z. not_in before i after d k m z) in
          ap (λ us. times other us) was ∙ times_taken other (λ k. flow_in (get_or old k None)) before i after ∙ ap₂ (λ us f. times other us + cond (other == f) 1 0) (sym (now ∙ same)) (ap flow_in there);
      elsewhere = λ c2 ne. elim (lt_cases c2 (length on)) [
        | inl in2 ↦
            let other = are.lists c2 in2 in
            let away = λ (j : ℕ) (k : In j other.list).
            let r = linked_in c2 old None other.list (get_or on c2 None) other.linked j k in
            let goal : j ≢ i = λ z. ne (sym r.2 ∙ ap (λ w. w.resource) (some_node (sym r.1 ∙ ap (λ w. get_or old w None) z ∙ there))) in goal in
            let apart = λ (j : ℕ) (k : In j other.list).
            let r = linked_in c2 old None other.list (get_or on c2 None) other.linked j k in
            let goal : get_or new j None ≡ get_or old j None = kept j (λ m.
            let r2 = linked_in c old None (before ++ i ∷ after) (get_or on c None) l j m in
            ne (sym r.2 ∙ ap (λ w. w.resource) (some_node (sym r.1 ∙ r2.1)) ∙ r2.2)) in goal in
            let linked2 = subst (λ w. Linked c2 new None other.list w) (sym (firsts c2 ne)) (linked_kept c2 old new None other.list (get_or on c2 None) apart other.linked) in
            users_from c2 new other.list (get_or on' c2 None) linked2 other.once ∙ flows_kept old new i other.list same_but away ∙ sym (users_from c2 old other.list (get_or on c2 None) other.linked other.once)
        | inr past ↦ users_past new on' c2 (subst (λ n. n ≤ c2) (sym len) past) ∙ sym (users_past old on c2 past)
      ];
    }
  where
    some_node : {a b : Slot} → Some a ≡ Some b → a ≡ b
    some_node h = cc

pub first_kept : (d c : ℕ) (prev next : Option ℕ) (on on' : List (Option ℕ)) → d ≢ c → PointsFrom prev (on' ≡ set on c next) (on' ≡ on) → get_or on' d None ≡ get_or on d None
first_kept d c None next on on' ne e = ap (λ w. get_or w d None) e ∙ get_or-set_other on c d next None ne
first_kept d c (Some p) next on on' ne e = ap (λ w. get_or w d None) e

pub first_at : (c : ℕ) (slots : List (Option Slot)) (prev : Option ℕ) (list : List ℕ) (at : Option ℕ) → Linked c slots prev list at → at ≡ first_of list
first_at c slots prev [] at l = l
first_at c slots prev (i ∷ list) at l = l.0

-- a new slot in front of one list
pub lists_with : (i c : ℕ) (old one new : List (Option Slot)) (on : List (Option ℕ)) (slot : Slot) → AreLists old on → c < length on → get_or old i None ≡ None → slot.resource ≡ c → slot.next_on ≡ get_or on c None → slot.prev_on ≡ None →
    get_or one i None ≡ Some slot → ((j : ℕ) → j ≢ i → get_or one j None ≡ get_or old j None) →
    ((x : ℕ) → slot.next_on ≡ Some x → get_or new x None ≡ option_map (with_prev (Some i)) (get_or one x None)) → ((x : ℕ) → slot.next_on ≢ Some x → get_or new x None ≡ get_or one x None) →
    SameBut (uses_of old) (uses_of new) i → GainsOne old new on (set on c (Some i)) c slot.flow
lists_with i c old one new on slot are in' vacant res next prev made others to not' same_but =
    let mine = are.lists c in' in
    let at : get_or on c None ≡ first_of mine.list = first_at c old None mine.list (get_or on c None) mine.linked in
    let fresh = λ (c2 : ℕ) (in2 : c2 < length on) (k : In i (are.lists c2 in2).list).
    let r = linked_in c2 old None (are.lists c2 in2).list (get_or on c2 None) (are.lists c2 in2).linked i k in
    let goal : ⊥ = cc (sym vacant ∙ r.1) in goal in
    -- the first of the list is in the list, so it isn't the new slot
    let first_here = λ (x : ℕ) (e : slot.next_on ≡ Some x). first_in mine.list x (sym at ∙ sym next ∙ e) in
    let i_next : slot.next_on ≢ Some i = λ e. fresh c in' (first_here i e) in
    let new_i : get_or new i None ≡ Some slot = not' i i_next ∙ made in
    let other_is = λ (j : ℕ) (ne : j ≢ i) (no_next : slot.next_on ≢ Some j). not' j no_next ∙ others j ne in
    let front = linked_front c i old new mine.list (get_or on c None) slot mine.once (fresh c in') mine.linked new_i res prev next
    (λ j e. to j (next ∙ at ∙ e) ∙ ap (option_map (with_prev (Some i))) (others j (λ z. fresh c in' (subst (λ w. In w mine.list) z (first_in mine.list j e)))))
    (λ j k ne. other_is j (λ z. fresh c in' (subst (λ w. In w mine.list) z k)) (λ z. ne (sym at ∙ sym next ∙ z))) in
    -- a slot that is there now is the new one, or was there, of the same resource
    let each = λ (j : ℕ) (n : Slot) (e : get_or new j None ≡ Some n).
    let goal : ((j ≡ i) × (n.resource ≡ c)) ⊎ ((m : Slot) × (get_or old j None ≡ Some m) × (m.resource ≡ n.resource)) =
    elim (eq_cases j i) [
      | inl z ↦ inl (z, ap (λ w. w.resource) (some_node (sym e ∙ ap (λ w. get_or new w None) z ∙ new_i)) ∙ res)
      | inr ne ↦ elim (next_cases slot.next_on j) [
        | inl z ↦ inr (told (get_or old j None) (sym e ∙ to j z ∙ ap (option_map (with_prev (Some i))) (others j ne)))
        | inr no_next ↦ inr (n, sym (other_is j ne no_next) ∙ e, refl)
      ]
    ] in goal in
    record {
      lists = record {
        lists = λ c2 in2.
            let old2 = subst (λ k. c2 < k) (length-set on c (Some i)) in2 in
            elim (eq_cases c2 c) [
              | inl e ↦ subst (λ w. IsList new (set on c (Some i)) w) (sym e) (record {
                list = i ∷ mine.list;
                linked = subst (λ w. Linked c new None (i ∷ mine.list) w) (sym (get_or-set_same on c (Some i) None in')) front;
                once = (fresh c in', mine.once);
                all = λ j n z same. elim (each j n z) [ inl h ↦ inl (sym h.0) | inr m ↦ inr (mine.all j m.0 m.1 (m.2 ∙ same)) ];
              })
              | inr ne ↦
                  let other = are.lists c2 old2 in
                  record {
                    list = other.list;
                    linked = subst (λ w. Linked c2 new None other.list w) (sym (get_or-set_other on c c2 (Some i) None ne)) (linked_kept c2 old new None other.list (get_or on c2 None)
                        (λ j k. other_is j (λ z. fresh c2 old2 (subst (λ w. In w other.list) z k)) (λ z.
                        let a = linked_in c2 old None other.list (get_or on c2 None) other.linked j k in
                        let b = linked_in c old None mine.list (get_or on c None) mine.linked j (first_here j z) in
                        ne (sym a.2 ∙ ap (λ w. w.resource) (some_node (sym a.1 ∙ b.1)) ∙ b.2))) other.linked);
                    once = other.once;
                    all = λ j n z same. elim (each j n z) [ inl h ↦ absurd (ne (sym same ∙ h.1)) | inr m ↦ other.all j m.0 m.1 (m.2 ∙ same) ];
                  }
            ];
        in_range = λ j n z. rw (length-set on c (Some i)) (elim (each j n z) [ inl h ↦ subst (λ k. k < length on) (sym h.1) in' | inr m ↦ subst (λ k. k < length on) m.2 (are.in_range j m.0 m.1) ]);
      };
      here = λ other.
          let on' = set on c (Some i) in
          let first : get_or on' c None ≡ Some i = get_or-set_same on c (Some i) None in' in
          let was : users_of old on c ≡ map (λ k. flow_in (get_or old k None)) mine.list = users_from c old mine.list (get_or on c None) mine.linked mine.once in
          let now : users_of new on' c ≡ map (λ k. flow_in (get_or new k None)) (i ∷ mine.list) = users_from c new (i ∷ mine.list) (get_or on' c None) (subst (λ w. Linked c new None (i ∷ mine.list) w) (sym first) front) (fresh c in', mine.once) in
          let same : map (λ k. flow_in (get_or new k None)) mine.list ≡ map (λ k. flow_in (get_or old k None)) mine.list = flows_kept old new i mine.list same_but (λ k m z. fresh c in' (subst (λ w. In w mine.list) z m)) in
          ap (λ us. times other us) now ∙ times_front other (flow_in (get_or new i None)) (map (λ k. flow_in (get_or new k None)) mine.list)
          ∙ ap₂ (λ us f. times other us + cond (other == f) 1 0) (same ∙ sym was) (ap flow_in new_i);
      elsewhere = λ c2 ne.
          let other_on : get_or (set on c (Some i)) c2 None ≡ get_or on c2 None = get_or-set_other on c c2 (Some i) None ne in
          elim (lt_cases c2 (length on)) [
            | inl in2 ↦
                let other = are.lists c2 in2 in
                let linked2 = subst (λ w. Linked c2 new None other.list w) (sym other_on) (linked_kept c2 old new None other.list (get_or on c2 None)
                (λ j k. other_is j (λ z. fresh c2 in2 (subst (λ w. In w other.list) z k)) (λ z.
                let a = linked_in c2 old None other.list (get_or on c2 None) other.linked j k in
                let b = linked_in c old None mine.list (get_or on c None) mine.linked j (first_here j z) in
                ne (sym a.2 ∙ ap (λ w. w.resource) (some_node (sym a.1 ∙ b.1)) ∙ b.2))) other.linked) in
                users_from c2 new other.list (get_or (set on c (Some i)) c2 None) linked2 other.once ∙ flows_kept old new i other.list same_but (λ j k z. fresh c2 in2 (subst (λ w. In w other.list) z k))
                ∙ sym (users_from c2 old other.list (get_or on c2 None) other.linked other.once)
            | inr past ↦ users_past new (set on c (Some i)) c2 (subst (λ n. n ≤ c2) (sym (length-set on c (Some i))) past) ∙ sym (users_past old on c2 past)
          ];
    }
  where
    some_node : {a b : Slot} → Some a ≡ Some b → a ≡ b
    some_node h = cc

    told : (o : Option Slot) {n : Slot} → Some n ≡ option_map (with_prev (Some i)) o → (m : Slot) × (o ≡ Some m) × (m.resource ≡ n.resource)
    told None h = cc h
    told (Some m) h = (m, refl, sym (ap (λ w. w.resource) (some_node h)))

    next_cases : (o : Option ℕ) (j : ℕ) → (o ≡ Some j) ⊎ (o ≢ Some j)
    next_cases None j = inr (λ e. cc e)
    next_cases (Some x) j = elim (eq_cases x j) [ inl e ↦ inl (ap (λ w. Some w) e) | inr ne ↦ inr (λ e. ne (some_eq x j e)) ]

-- ---- what linking leaves of the uses of flows
abbrev shown : Option Slot → Option Use
shown o = option_map flow_part (option_map use_of o)

option_cases : (o : Option ℕ) (j : ℕ) → (o ≡ Some j) ⊎ (o ≢ Some j)
option_cases None j = inr (λ e. cc e)
option_cases (Some x) j = elim (eq_cases x j) [ inl e ↦ inl (ap (λ w. Some w) e) | inr ne ↦ inr (λ e. ne (some_eq x j e)) ]

prev_shown : (p : Option ℕ) (o : Option Slot) → shown (option_map (with_prev p) o) ≡ shown o
prev_shown p None = refl
prev_shown p (Some s) = refl

next_shown : (q : Option ℕ) (o : Option Slot) → shown (option_map (with_next q) o) ≡ shown o
next_shown q None = refl
next_shown q (Some s) = refl

prev_same : (one new : List (Option Slot)) (at p : Option ℕ) → ((x : ℕ) → at ≡ Some x → get_or new x None ≡ option_map (with_prev p) (get_or one x None)) → ((x : ℕ) → at ≢ Some x → get_or new x None ≡ get_or one x None) →
    (j : ℕ) → shown (get_or new j None) ≡ shown (get_or one j None)
prev_same one new at p to not' j = elim (option_cases at j) [ inl e ↦ ap shown (to j e) ∙ prev_shown p (get_or one j None) | inr ne ↦ ap shown (not' j ne) ]

next_same : (one new : List (Option Slot)) (at q : Option ℕ) → ((x : ℕ) → at ≡ Some x → get_or new x None ≡ option_map (with_next q) (get_or one x None)) → ((x : ℕ) → at ≢ Some x → get_or new x None ≡ get_or one x None) →
    (j : ℕ) → shown (get_or new j None) ≡ shown (get_or one j None)
next_same one new at q to not' j = elim (option_cases at j) [ inl e ↦ ap shown (to j e) ∙ next_shown q (get_or one j None) | inr ne ↦ ap shown (not' j ne) ]

pub link_same : (i : ℕ) (old one new : List (Option Slot)) (at p : Option ℕ) → ((j : ℕ) → j ≢ i → get_or one j None ≡ get_or old j None) →
    ((x : ℕ) → at ≡ Some x → get_or new x None ≡ option_map (with_prev p) (get_or one x None)) → ((x : ℕ) → at ≢ Some x → get_or new x None ≡ get_or one x None) → SameBut (uses_of old) (uses_of new) i
link_same i old one new at p others to not' = λ j away.
    ap (option_map flow_part) (uses_at new j) ∙ prev_same one new at p to not' j ∙ ap shown (others j away) ∙ sym (ap (option_map flow_part) (uses_at old j))

pub link_made : (i : ℕ) (one new : List (Option Slot)) (at p : Option ℕ) (slot : Slot) → get_or one i None ≡ Some slot →
    ((x : ℕ) → at ≡ Some x → get_or new x None ≡ option_map (with_prev p) (get_or one x None)) → ((x : ℕ) → at ≢ Some x → get_or new x None ≡ get_or one x None) →
    option_map flow_part (get_or (uses_of new) i None) ≡ Some (flow_part (use_of slot))
link_made i one new at p slot made to not' = ap (option_map flow_part) (uses_at new i) ∙ prev_same one new at p to not' i ∙ ap shown made

-- the slots after one was taken out: one neighbour gets its next, the other its prev
pub record Unlinks (i : ℕ) (old one two new : List (Option Slot)) (slot : Slot) : Type 0 where
  pub gone : get_or one i None ≡ None
  pub removed : (j : ℕ) → j ≢ i → get_or one j None ≡ get_or old j None
  pub next_to : (x : ℕ) → slot.prev_on ≡ Some x → get_or two x None ≡ option_map (with_next slot.next_on) (get_or one x None)
  pub next_not : (x : ℕ) → slot.prev_on ≢ Some x → get_or two x None ≡ get_or one x None
  pub prev_to : (x : ℕ) → slot.next_on ≡ Some x → get_or new x None ≡ option_map (with_prev slot.prev_on) (get_or two x None)
  pub prev_not : (x : ℕ) → slot.next_on ≢ Some x → get_or new x None ≡ get_or two x None

pub unlink_same : (i : ℕ) (old one two new : List (Option Slot)) (slot : Slot) → Unlinks i old one two new slot → SameBut (uses_of old) (uses_of new) i
unlink_same i old one two new slot u = λ j away.
    ap (option_map flow_part) (uses_at new j) ∙ prev_same two new slot.next_on slot.prev_on u.prev_to u.prev_not j ∙ next_same one two slot.prev_on slot.next_on u.next_to u.next_not j
    ∙ ap shown (u.removed j away) ∙ sym (ap (option_map flow_part) (uses_at old j))

unlink_gone : (i : ℕ) (old one two new : List (Option Slot)) (slot : Slot) → Unlinks i old one two new slot → get_or new i None ≡ None
unlink_gone i old one two new slot u =
    none (get_or new i None) (prev_same two new slot.next_on slot.prev_on u.prev_to u.prev_not i ∙ next_same one two slot.prev_on slot.next_on u.next_to u.next_not i ∙ ap shown u.gone)
  where
    none : (o : Option Slot) → shown o ≡ None → o ≡ None
    none None e = refl
    none (Some s) e = cc e

pub unlink_loses : (i : ℕ) (old one two new : List (Option Slot)) (on on' : List (Option ℕ)) (slot : Slot) → AreLists old on → get_or old i None ≡ Some slot → length on' ≡ length on →
    PointsFrom slot.prev_on (on' ≡ set on slot.resource slot.next_on) (on' ≡ on) → Unlinks i old one two new slot → LosesOne old new on on' slot.resource slot.flow
unlink_loses i old one two new on on' slot are there len first u =
    lists_without i old new on on' are slot there (unlink_gone i old one two new slot u) len
    (λ before after d l. unlinked slot.resource i old one two new on on' slot before after d there (are.in_range i slot there) u.removed first u.next_to u.next_not u.prev_to u.prev_not l)
    (λ before after l. unlinked_elsewhere slot.resource i old one two new slot before after (get_or on slot.resource None) there u.removed u.next_not u.prev_not l)
    (λ d ne. first_kept d slot.resource slot.prev_on slot.next_on on on' ne first)
    (unlink_same i old one two new slot u)

-- ---- what is seen of the lists
map_at : (f : Option ℕ → List ℕ) → f None ≡ [] → (on : List (Option ℕ)) (c : ℕ) → get_or (map f on) c [] ≡ f (get_or on c None)
map_at f e [] c = sym e
map_at f e (x ∷ on) zero = refl
map_at f e (x ∷ on) (suc c) = map_at f e on c

pub users_is : (slots : List (Option Slot)) (on : List (Option ℕ)) (c : ℕ) → users_on (map (walked (length slots) slots) on) c ≡ users_of slots on c
users_is slots on c = map_at (walked (length slots) slots) (walked_none (length slots) slots) on c

pub gains_shown : (fewer more : List (Option Slot)) (on on' : List (Option ℕ)) (flow : ℕ) (uses : List ℕ) → AreGained fewer more on on' flow uses →
    GainsUses (map (walked (length fewer) fewer) on) (map (walked (length more) more) on') flow uses
gains_shown fewer more on on' flow uses h = λ other c.
    ap (times other) (users_is more on' c) ∙ h other c ∙ ap (λ us. times other us + cond (other == flow) (times c uses) 0) (sym (users_is fewer on c))

-- the first slot of a resource leads to the flows on it
linked_leads : (c : ℕ) (slots : List (Option Slot)) (prev : Option ℕ) (list : List ℕ) (at : Option ℕ) → Linked c slots prev list at → Leads next_on user_of (uses_of slots) at (map (λ i. flow_in (get_or slots i None)) list)
unfolding Leads
linked_leads c slots prev [] at l = l
linked_leads c slots prev (i ∷ list) at l =
    let one = there (get_or slots i None) refl l.1 in
    let rest = linked_leads c slots (Some i) list (next_of (get_or slots i None)) l.2 in
    (i, use_of one.0, l.0, uses_at slots i ∙ ap (option_map use_of) one.1, sym (ap flow_in one.1), subst (λ o. Leads next_on user_of (uses_of slots) (next_of o) (map (λ k. flow_in (get_or slots k None)) list)) one.1 rest)
  where
    there : (o : Option Slot) → get_or slots i None ≡ o → IsBehind c prev o → (s : Slot) × (get_or slots i None ≡ Some s)
    there None z h = absurd h
    there (Some s) z h = (s, z)

-- and each slot after it is one of the resource
linked_stands : (c : ℕ) (slots : List (Option Slot)) (prev : Option ℕ) (list : List ℕ) (at : Option ℕ) → Linked c slots prev list at → Leads next_on resource_of (uses_of slots) at (replicate (length list) c)
unfolding Leads
linked_stands c slots prev [] at l = l
linked_stands c slots prev (i ∷ list) at l =
    let one = there (get_or slots i None) refl l.1 in
    let rest = linked_stands c slots (Some i) list (next_of (get_or slots i None)) l.2 in
    let on = subst (IsBehind c prev) one.1 l.1 in
    (i, use_of one.0, l.0, uses_at slots i ∙ ap (option_map use_of) one.1, on.0, subst (λ o. Leads next_on resource_of (uses_of slots) (next_of o) (replicate (length list) c)) one.1 rest)
  where
    there : (o : Option Slot) → get_or slots i None ≡ o → IsBehind c prev o → (s : Slot) × (get_or slots i None ≡ Some s)
    there None z h = absurd h
    there (Some s) z h = (s, z)

pub users_stand : (slots : List (Option Slot)) (on : List (Option ℕ)) (c : ℕ) → AreLists slots on → c < length on →
    Leads next_on resource_of (uses_of slots) (get_or on c None) (replicate (length (users_on (map (walked (length slots) slots) on) c)) c)
users_stand slots on c are in' =
    let mine = are.lists c in' in
    let long : length (users_on (map (walked (length slots) slots) on) c) ≡ length mine.list =
    ap length (users_is slots on c ∙ users_from c slots mine.list (get_or on c None) mine.linked mine.once) ∙ length-map mine.list (λ i. flow_in (get_or slots i None)) in
    subst (λ n. Leads next_on resource_of (uses_of slots) (get_or on c None) (replicate n c)) (sym long) (linked_stands c slots None mine.list (get_or on c None) mine.linked)

pub users_lead : (slots : List (Option Slot)) (on : List (Option ℕ)) (c : ℕ) → AreLists slots on → c < length on →
    Leads next_on user_of (uses_of slots) (get_or on c None) (users_on (map (walked (length slots) slots) on) c) × (length (users_on (map (walked (length slots) slots) on) c) ≤ length (uses_of slots))
users_lead slots on c are in' =
    let mine = are.lists c in' in
    let is : users_on (map (walked (length slots) slots) on) c ≡ map (λ i. flow_in (get_or slots i None)) mine.list = users_is slots on c ∙ users_from c slots mine.list (get_or on c None) mine.linked mine.once in (
      subst (λ us. Leads next_on user_of (uses_of slots) (get_or on c None) us) (sym is) (linked_leads c slots None mine.list (get_or on c None) mine.linked),
      omega (arith, ap length is, length-map mine.list (λ i. flow_in (get_or slots i None)), few_linked c slots mine.list (get_or on c None) mine.linked mine.once, length-map slots (option_map use_of)),
    )

-- nothing is linked if there is no slot
pub none_linked : (on : List (Option ℕ)) → ((c : ℕ) → get_or on c None ≡ None) → AreLists [] on
none_linked on none = record {
  lists = λ c in'. record { list = []; linked = none c; once = tt; all = λ i s e same. absurd (cc e) };
  in_range = λ i s e. absurd (cc e);
}

-- on resources of which none has a first slot there is nobody
pub nobody_on : (slots : List (Option Slot)) (on : List (Option ℕ)) → ((c : ℕ) → get_or on c None ≡ None) → (c : ℕ) → users_on (map (walked (length slots) slots) on) c ≡ []
nobody_on slots on none c = users_is slots on c ∙ ap (walked (length slots) slots) (none c) ∙ walked_none (length slots) slots

-- no resource of a new list has a first use
pub none_first : (n resource : ℕ) → get_or (replicate {A = Option ℕ} n None) resource None ≡ None
none_first n resource = elim (lt_cases resource n) [
  | inl less ↦ get_or-replicate {A = Option ℕ} n resource None None less
  | inr most ↦ get_or_past (replicate {A = Option ℕ} n None) resource None (omega (arith, most, length-replicate {A = Option ℕ} n None))
]

-- what leads to the first slot on a resource has a code
pub head_small : (slots : List (Option Slot)) (on : List (Option ℕ)) (resource : ℕ) → AreLists slots on → resource < length on → ((i : ℕ) → nothing ≤ i → get_or slots i None ≡ None) → IsSmall (get_or on resource None)
head_small slots on resource are within numbered =
    let row = are.lists resource within in
    by_list row.list row.linked
  where
    there : (i : ℕ) (o : Option Slot) → get_or slots i None ≡ o → IsBehind resource None o → i < nothing
    there i None e h = absurd h
    there i (Some slot) e h = elim (lt_cases i nothing) [
      | inl low ↦ low
      | inr far ↦ absurd (cc (sym e ∙ numbered i far))
    ]

    by_list : (list : List ℕ) → Linked resource slots None list (get_or on resource None) → IsSmall (get_or on resource None)
    by_list [] l = subst IsSmall (sym l) tt
    by_list (i ∷ list) l = subst IsSmall (sym l.0) (there i (get_or slots i None) refl l.1)
