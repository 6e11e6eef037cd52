-- The steps of a rate update.
use Rattle.std.proofs.Common.{◌≡◌, ◌≢◌, ℕ, zero, suc, ◌+◌, ◌<◌, ◌≤◌, ◌⊎◌, inl, inr, true, false, true≢false, Option, None, Some, IsSome, option_map, All, drop, take, List, [], ◌∷◌, length, get_or, set, get_or-set_same, get_or-set_other, slice_index, refl, sym, ap, subst, ◌∙◌, arith}
use Rattle.sg_base.specs.MarkSet.{is_in}
use Rattle.sg_maxmin.specs.Chained.{users_on}
use Rattle.sg_maxmin.specs.Fill.{Flow, bound_level}
use Rattle.sg_maxmin.specs.Sharing.{Sharing, IsSound, flow_at, uses_at}
use Rattle.sg_maxmin.proofs.Members.{In}
use Rattle.sg_maxmin.specs.Numbered.{all_uses, below_at, bound_of, flow_in, level_at, when_below}
use Rattle.sg_maxmin.specs.Held.{IsAtMost, IsCause, IsHold, IsUnder, by_bound, by_resource, IsSameRow}
use Rattle.sg_maxmin_levels.specs.Changes.{ChangesFrom, IsFrom}
use Rattle.sg_maxmin_levels.specs.Settling.{AreSettlingOn, HasCause, HeldSettles, SettlingEnds, at_bound, at_hold, is_active}
use Rattle.sg_maxmin.proofs.Listed.{bool_cases, eq_cases, none_some, part_next, same_in, some_same}
use Rattle.sg_maxmin.proofs.Users.{on_held, in_is, is_in_In, weighs, flow_in_is, flow_below, rows_exist}
use Rattle.sg_maxmin.proofs.HeldLevels.{waiting_some, users_of, exists_of}
use Rattle.sg_maxmin_levels.proofs.RowRise.{level_le}
use Rattle.sg_maxmin_levels.proofs.Changing.{hold_stays_lem}
use Rattle.sg_maxmin.proofs.OneHold.{hold_is_local_lem}

-- ---- the first of a list, or another
pub head_or : (id id' : ℕ) (todo : List ℕ) → is_in id' (id ∷ todo) ≡ true → (id' ≡ id) ⊎ (is_in id' todo ≡ true)
head_or id id' todo h = elim (is_in_In id' (id ∷ todo) h) [ inl e ↦ inl (sym e) | inr i ↦ inr (in_is id' todo i) ]

-- ---- what a step reads and writes
set_here : (levels : List (Option ℕ)) (id : ℕ) (v : Option ℕ) → id < length levels → level_at (set levels id v) id ≡ v
set_here levels id v h = get_or-set_same levels id v None h

set_other : (levels : List (Option ℕ)) (id other : ℕ) (v : Option ℕ) → other ≢ id → level_at (set levels id v) other ≡ level_at levels other
set_other levels id other v ne = get_or-set_other levels id other v None ne

pub user_uses : (s : Sharing) → IsSound s → (r id : ℕ) (flow : Flow) → flow_at s.slots id ≡ Some flow → is_in id (users_on s.users r) ≡ true → is_in r flow.uses ≡ true
user_uses s sound r id flow e i = let f = on_held s sound r id i in subst (λ g. is_in r g.uses ≡ true) (some_same f.0 flow (sym f.1 ∙ e)) f.2

pub uses_row : (s : Sharing) → IsSound s → (r id : ℕ) → is_in id (users_on s.users r) ≡ true → is_in r (uses_at s.slots id) ≡ true
uses_row s sound r id i = same_in id r (users_on s.users r) (uses_at s.slots id) (sound.both id r) i

off_row : (s : Sharing) (levels : List (Option ℕ)) (r id : ℕ) (v : Option ℕ) → is_in id (users_on s.users r) ≡ false → IsSameRow (users_on s.users r) s.slots s.slots levels (set levels id v)
off_row s levels r id v off other i = (refl, set_other levels id other v (λ e. true≢false (sym i ∙ ap (λ n. is_in n (users_on s.users r)) e ∙ off)))

from_under : (h : ℕ) (o : Option ℕ) → IsUnder h o → IsFrom h o
from_under h None u = tt
from_under h (Some x) u = omega (arith, u)

at_most_less : (h : ℕ) (o most : Option ℕ) → IsUnder h o → IsAtMost o most → IsAtMost (Some h) most
at_most_less h o None u m = tt
at_most_less h None (Some x) u m = absurd m
at_most_less h (Some y) (Some x) u m = omega (arith, u, m)

pub at_most_self : (o : Option ℕ) → IsAtMost o o
at_most_self None = tt
at_most_self (Some x) = omega arith

module _ (s : Sharing) (sound : IsSound s) (levels holds : List (Option ℕ)) where
  -- a user that needs no change
  pub skip_keeps : (active : List ℕ) (c : ℕ) (old : Option ℕ) (id : ℕ) (todo : List ℕ) (flow : Flow) → AreSettlingOn s levels holds active c old (id ∷ todo) → flow_at s.slots id ≡ Some flow →
      IsAtMost (level_at levels id) (level_at holds c) → (level_at levels id ≡ old → HasCause holds flow (level_at levels id)) → AreSettlingOn s levels holds active c old todo
  skip_keeps active c old id todo flow are e most cause = record {
    resources = are.resources;
    within = are.within;
    under = λ other r g q u d. elim (are.under other r g q u d) [
      | inl ok ↦ inl ok
      | inr t ↦ elim (head_or id other todo t.1) [
        | inl same ↦ inl (subst (λ n. IsAtMost (level_at levels n) (level_at holds r)) (sym same) (subst (λ n. IsAtMost (level_at levels id) (level_at holds n)) (sym t.0) most))
        | inr rest ↦ inr (t.0, rest)
      ]
    ];
    cause = λ other g q. elim (are.cause other g q) [
      | inl ok ↦ inl ok
      | inr t ↦ elim (head_or id other todo t.0) [
        | inl same ↦
            let flow_is : flow ≡ g = some_same flow g (sym e ∙ ap (flow_at s.slots) (sym same) ∙ q) in
            inl (subst (λ f. HasCause holds f (level_at levels other)) flow_is (subst (λ n. HasCause holds flow (level_at levels n)) (sym same) (cause (ap (level_at levels) (sym same) ∙ t.1))))
        | inr rest ↦ inr (rest, t.1)
      ]
    ];
  }

  -- a user's new level, if all its resources are active, except for c maybe
  changed : (active active' : List ℕ) (c : ℕ) (old : Option ℕ) (id : ℕ) (todo : List ℕ) (flow : Flow) (v : Option ℕ) → AreSettlingOn s levels holds active c old (id ∷ todo) → flow_at s.slots id ≡ Some flow → id < length levels →
      IsAtMost v (bound_of flow) → HasCause holds flow v →
      ((r : ℕ) → is_active active' r ≡ false → (is_active active r ≡ false) × (is_in r flow.uses ≡ true → (IsAtMost v (level_at holds r)) × (IsHold (slice_index s.capacities r) s.slots levels (users_on s.users r) (level_at holds r) → IsHold (slice_index s.capacities r) s.slots (set levels id v) (users_on s.users r) (level_at holds r)))) →
      AreSettlingOn s (set levels id v) holds active' c old todo
  changed active active' c old id todo flow v are e below within cause marks = record {
    resources = λ r l d.
        let m = marks r d in
        let before = are.resources r l m.0 in
        elim (bool_cases (is_in id (users_on s.users r))) [
          | inl on ↦ (m.1 (user_uses s sound r id flow e on)).1 before
          | inr off ↦ hold_is_local_lem (slice_index s.capacities r) s.slots s.slots levels (set levels id v) (users_on s.users r) (level_at holds r) (off_row s levels r id v off) before
        ];
    within = λ other g q. elim (eq_cases other id) [
      | inl same ↦
          let flow_is : flow ≡ g = some_same flow g (sym e ∙ ap (flow_at s.slots) (sym same) ∙ q) in
          subst (λ o. IsAtMost o (bound_of g)) (sym (ap (level_at (set levels id v)) same ∙ set_here levels id v below)) (subst (λ f. IsAtMost v (bound_of f)) flow_is within)
      | inr ne ↦ subst (λ o. IsAtMost o (bound_of g)) (sym (set_other levels id other v ne)) (are.within other g q)
    ];
    under = λ other r g q u d.
        let m = marks r d in
        elim (eq_cases other id) [
          | inl same ↦
              let flow_is : g ≡ flow = some_same g flow (sym q ∙ ap (flow_at s.slots) same ∙ e) in
              inl (subst (λ o. IsAtMost o (level_at holds r)) (sym (ap (level_at (set levels id v)) same ∙ set_here levels id v below)) (m.1 (subst (λ f. is_in r f.uses ≡ true) flow_is u)).0)
          | inr ne ↦ elim (are.under other r g q u m.0) [
            | inl ok ↦ inl (subst (λ o. IsAtMost o (level_at holds r)) (sym (set_other levels id other v ne)) ok)
            | inr t ↦ elim (head_or id other todo t.1) [ inl same ↦ absurd (ne same) | inr rest ↦ inr (t.0, rest) ]
          ]
        ];
    cause = λ other g q. elim (eq_cases other id) [
      | inl same ↦
          let flow_is : flow ≡ g = some_same flow g (sym e ∙ ap (flow_at s.slots) (sym same) ∙ q) in
          inl (subst (HasCause holds g) (sym (ap (level_at (set levels id v)) same ∙ set_here levels id v below)) (subst (λ f. HasCause holds f v) flow_is cause))
      | inr ne ↦ elim (are.cause other g q) [
        | inl ok ↦ inl (subst (HasCause holds g) (sym (set_other levels id other v ne)) ok)
        | inr t ↦ elim (head_or id other todo t.0) [ inl same ↦ absurd (ne same) | inr rest ↦ inr (rest, set_other levels id other v ne ∙ t.1) ]
      ]
    ];
  }

  -- a user above the hold comes down to it
  pub lower_keeps : (active active' : List ℕ) (c : ℕ) (old : Option ℕ) (id : ℕ) (todo : List ℕ) (flow : Flow) (h : ℕ) → AreSettlingOn s levels holds active c old (id ∷ todo) → flow_at s.slots id ≡ Some flow → id < length levels →
      is_in c flow.uses ≡ true → level_at holds c ≡ Some h → IsUnder h (level_at levels id) →
      ((r : ℕ) → is_active active' r ≡ false → (is_active active r ≡ false) × (is_in r flow.uses ≡ true → r ≡ c)) →
      AreSettlingOn s (set levels id (Some h)) holds active' c old todo
  lower_keeps active active' c old id todo flow h are e below used is over marks =
      changed active active' c old id todo flow (Some h) are e below (at_most_less h (level_at levels id) (bound_of flow) over (are.within id flow e)) (at_hold c used is)
      (λ r d. let m = marks r d in (
        m.0,
        λ u. subst (λ n. (IsAtMost (Some h) (level_at holds n)) × (IsHold (slice_index s.capacities n) s.slots levels (users_on s.users n) (level_at holds n) → IsHold (slice_index s.capacities n) s.slots (set levels id (Some h)) (users_on s.users n) (level_at holds n))) (sym (m.1 u)) (
          subst (IsAtMost (Some h)) (sym is) (at_most_self (Some h)),
          λ before. subst (IsHold (slice_index s.capacities c) s.slots (set levels id (Some h)) (users_on s.users c)) (sym is)
              (hold_stays_lem (slice_index s.capacities c) s.slots levels (set levels id (Some h)) (users_on s.users c) h changes (subst (IsHold (slice_index s.capacities c) s.slots levels (users_on s.users c)) is before)),
        ),
      ))
    where
      changes : ChangesFrom h (users_on s.users c) levels (set levels id (Some h))
      changes other i = elim (eq_cases other id) [
        | inl same ↦ inr (subst (λ n. IsFrom h (level_at levels n)) (sym same) (from_under h (level_at levels id) over), subst (IsFrom h) (sym (ap (level_at (set levels id (Some h))) same ∙ set_here levels id (Some h) below)) (omega arith))
        | inr ne ↦ inl (set_other levels id other (Some h) ne)
      ]

  -- a user that nothing holds goes up to its bound
  pub raise_keeps : (active active' : List ℕ) (c : ℕ) (old : Option ℕ) (id : ℕ) (todo : List ℕ) (flow : Flow) → AreSettlingOn s levels holds active c old (id ∷ todo) → flow_at s.slots id ≡ Some flow → id < length levels →
      ((r : ℕ) → is_active active' r ≡ false → (is_active active r ≡ false) × (is_in r flow.uses ≡ false)) →
      AreSettlingOn s (set levels id (bound_of flow)) holds active' c old todo
  raise_keeps active active' c old id todo flow are e below marks =
      changed active active' c old id todo flow (bound_of flow) are e below (at_most_self (bound_of flow)) (at_bound refl)
      (λ r d. let m = marks r d in (m.0, λ u. absurd (true≢false (sym u ∙ m.1))))

  -- what is written of a resource is its hold again, and its users are updated
  pub start_keeps : (active active' : List ℕ) (c' : ℕ) (old' : Option ℕ) (c : ℕ) (hold : Option ℕ) → AreSettlingOn s levels holds active c' old' [] → c < length holds → ((r : ℕ) → r ≢ c → is_active active' r ≡ is_active active r) → IsHold (slice_index s.capacities c) s.slots levels (users_on s.users c) hold →
      AreSettlingOn s levels (set holds c hold) active' c (level_at holds c) (users_on s.users c)
  start_keeps active active' c' old' c hold are below rests is = record {
    resources = λ r l d. elim (eq_cases r c) [
      | inl same ↦ subst (λ n. IsHold (slice_index s.capacities n) s.slots levels (users_on s.users n) (level_at (set holds c hold) n)) (sym same) (subst (IsHold (slice_index s.capacities c) s.slots levels (users_on s.users c)) (sym (set_here holds c hold below)) is)
      | inr ne ↦ subst (IsHold (slice_index s.capacities r) s.slots levels (users_on s.users r)) (sym (set_other holds c r hold ne)) (are.resources r l (sym (rests r ne) ∙ d))
    ];
    within = are.within;
    under = λ id r g q u d. elim (eq_cases r c) [
      | inl same ↦ inr (same, in_is id (users_on s.users c) (users_of s sound id c g q (is_in_In c g.uses (subst (λ n. is_in n g.uses ≡ true) same u))))
      | inr ne ↦ elim (are.under id r g q u (sym (rests r ne) ∙ d)) [
        | inl ok ↦ inl (subst (IsAtMost (level_at levels id)) (sym (set_other holds c r hold ne)) ok)
        | inr t ↦ absurd (true≢false (sym t.1))
      ]
    ];
    cause = λ id g q. elim (are.cause id g q) [
      | inl k ↦ again id g q k
      | inr t ↦ absurd (true≢false (sym t.0))
    ];
  }
    where
      again : (id : ℕ) (g : Flow) → flow_at s.slots id ≡ Some g → HasCause holds g (level_at levels id) → HasCause (set holds c hold) g (level_at levels id) ⊎ ((is_in id (users_on s.users c) ≡ true) × (level_at levels id ≡ level_at holds c))
      again id g q (at_bound k) = inl (at_bound k)
      again id g q (at_hold r u k) = elim (eq_cases r c) [
        | inl same ↦ inr (in_is id (users_on s.users c) (users_of s sound id c g q (is_in_In c g.uses (subst (λ n. is_in n g.uses ≡ true) same u))), sym k ∙ ap (level_at holds) same)
        | inr ne ↦ inl (at_hold r u (set_other holds c r hold ne ∙ k))
      ]

  -- what held none and holds none has no user to update
  pub rest_keeps : (active active' : List ℕ) (c' : ℕ) (old' : Option ℕ) (c : ℕ) → AreSettlingOn s levels holds active c' old' [] → ((r : ℕ) → r ≢ c → is_active active' r ≡ is_active active r) → level_at holds c ≡ None → IsHold (slice_index s.capacities c) s.slots levels (users_on s.users c) None → AreSettlingOn s levels holds active' c' old' []
  rest_keeps active active' c' old' c are rests none is = record {
    resources = λ r l d. elim (eq_cases r c) [
      | inl same ↦ subst (λ n. IsHold (slice_index s.capacities n) s.slots levels (users_on s.users n) (level_at holds n)) (sym same) (subst (IsHold (slice_index s.capacities c) s.slots levels (users_on s.users c)) (sym none) is)
      | inr ne ↦ are.resources r l (sym (rests r ne) ∙ d)
    ];
    within = are.within;
    under = λ id r g q u d. elim (eq_cases r c) [
      | inl same ↦ inl (subst (IsAtMost (level_at levels id)) (sym (ap (level_at holds) same ∙ none)) tt)
      | inr ne ↦ are.under id r g q u (sym (rests r ne) ∙ d)
    ];
    cause = are.cause;
  }

-- ---- the end
none_below : (x : ℕ) → when_below None x ≡ None
unfolding when_below
none_below x = refl

first_in : (xs : List ℕ) → (xs ≡ [] → ⊥) → (r : ℕ) × In r xs
first_in [] ne = absurd (ne refl)
first_in (x ∷ xs) ne = (x, inl refl)

pub settling_ends_lem : SettlingEnds
settling_ends_lem s levels holds active sound are clean = record {
  resources = λ c l. are.resources c l (clean c);
  within = are.within;
  under = λ id c g q u. elim (are.under id c g q u (clean c)) [ inl ok ↦ ok | inr t ↦ absurd (true≢false (sym t.1)) ];
  cause = λ id g q. elim (are.cause id g q) [
    | inl k ↦ level id g q k (level_at levels id) refl
    | inr t ↦ absurd (true≢false (sym t.0))
  ];
}
  where
    cause_at : (g : Flow) (x : ℕ) (o : Option ℕ) → o ≡ Some x → HasCause holds g o → IsCause (level_at holds) g x
    cause_at g x o e (at_bound k) = by_bound (k ∙ e)
    cause_at g x o e (at_hold r u k) = by_resource r u (k ∙ e)

    -- a flow without a level would wait at each level on one of its resources
    never : (id r : ℕ) (g : Flow) → flow_at s.slots id ≡ Some g → In r g.uses → level_at levels id ≡ None → (hold : Option ℕ) → level_at holds r ≡ hold → ⊥
    never id r g q i none (Some h) e = elim (are.under id r g q (in_is r g.uses i) (clean r)) [
      | inl most ↦ subst (λ o. IsAtMost None o) e (subst (λ o. IsAtMost o (level_at holds r)) none most)
      | inr t ↦ true≢false (sym t.1)
    ]
    never id r g q i none None e =
        let cap = slice_index s.capacities r in
        let row = users_on s.users r in
        let is = subst (IsHold cap s.slots levels row) e (are.resources r (exists_of s sound id r g q i) (clean r)) in
        let waits = waiting_some s.slots (below_at levels cap) row id (users_of s sound id r g q i) (weighs s sound id).0 (ap (λ o. when_below o cap) none ∙ none_below cap) in
        let most = level_le cap s.slots (below_at levels cap) row in
        omega (arith, is.above cap tt waits, most)

    no_bound : (g : Flow) (bound : Option ℕ) → g.bound ≡ bound → IsAtMost None (bound_of g) → g.bound ≡ None
    no_bound g None e most = e
    no_bound g (Some b) e most = absurd (subst (λ o. IsAtMost None (option_map (bound_level g.weight) o)) e most)

    level : (id : ℕ) (g : Flow) → flow_at s.slots id ≡ Some g → HasCause holds g (level_at levels id) → (o : Option ℕ) → level_at levels id ≡ o → (x : ℕ) × (level_at levels id ≡ Some x) × IsCause (level_at holds) g x
    level id g q k (Some x) e = (x, e, cause_at g x (level_at levels id) e k)
    level id g q k None e =
        let none = no_bound g g.bound refl (subst (λ o. IsAtMost o (bound_of g)) e (are.within id g q)) in
        let r = first_in g.uses (λ z. bounded g.bound none ((sound.flows id g q).limit.bounds z)) in
        absurd (never id r.0 g q r.1 e (level_at holds r.0) refl)
      where
        bounded : (o : Option ℕ) → o ≡ None → IsSome o → ⊥
        bounded None z some = cc some
        bounded (Some b) z some = none_some (sym z)

-- ---- of a user by its number
pub held_user : (s : Sharing) → IsSound s → (c id : ℕ) → is_in id (users_on s.users c) ≡ true → flow_at s.slots id ≡ Some (flow_in s.slots id)
held_user s sound c id i = let f = on_held s sound c id i in f.1 ∙ ap (λ x. Some x) (sym (flow_in_is s.slots id f.0 f.1))

pub user_below : (s : Sharing) → IsSound s → (c id n : ℕ) → is_in id (users_on s.users c) ≡ true → length s.slots ≤ n → id < n
user_below s sound c id n i most = omega (arith, flow_below s.slots id (flow_in s.slots id) (held_user s sound c id i), most)

pub rows_fit : (s : Sharing) → IsSound s → (id n : ℕ) → n ≡ length s.capacities → All (λ c. c < n) (uses_at s.slots id)
rows_fit s sound id n e = subst (λ m. All (λ c. c < m) (uses_at s.slots id)) (sym e) (rows_exist s sound id)

-- with no user left to update, it doesn't matter whose they were
pub any_end : (s : Sharing) (levels holds : List (Option ℕ)) (active : List ℕ) (c c' : ℕ) (old old' : Option ℕ) → AreSettlingOn s levels holds active c old [] → AreSettlingOn s levels holds active c' old' []
any_end s levels holds active c c' old old' are = record {
  resources = are.resources;
  within = are.within;
  under = λ id r g q u d. elim (are.under id r g q u d) [ inl ok ↦ inl ok | inr t ↦ absurd (true≢false (sym t.1)) ];
  cause = λ id g q. elim (are.cause id g q) [ inl ok ↦ inl ok | inr t ↦ absurd (true≢false (sym t.0)) ];
}

pub drop_step : (row : List ℕ) (k : ℕ) → k < length row → drop k row ≡ get_or row k 0 ∷ drop (suc k) row
drop_step [] k h = absurd (omega (arith, h))
drop_step (x ∷ row) zero h = refl
drop_step (x ∷ row) (suc k) h = drop_step row k (omega (arith, h))

pub drop_end : (row : List ℕ) (k : ℕ) → k ≡ length row → drop k row ≡ []
drop_end [] zero e = refl
drop_end [] (suc k) e = refl
drop_end (x ∷ row) zero e = absurd (omega (arith, e))
drop_end (x ∷ row) (suc k) e = drop_end row k (omega (arith, e))

pub uses_next : (slots : List (Option Flow)) (row : List ℕ) (k : ℕ) → k < length row → all_uses slots (take (suc k) row) ≡ all_uses slots (take k row) + length (uses_at slots (get_or row k 0))
uses_next slots row k h = ap (λ n. all_uses slots (take n row)) (sym (one k)) ∙ part_next (λ id. length (uses_at slots id)) row k h
  where
    one : (k : ℕ) → k + 1 ≡ suc k
    one k = omega arith

-- ---- and a beginning
caused : (holds : List (Option ℕ)) (flow : Flow) (x : ℕ) (o : Option ℕ) → o ≡ Some x → IsCause (level_at holds) flow x → HasCause holds flow o
caused holds flow x o e (by_bound k) = at_bound (k ∙ sym e)
caused holds flow x o e (by_resource r u k) = at_hold r u (k ∙ sym e)

pub held_settles_lem : HeldSettles
held_settles_lem s levels holds active are = record {
  resources = λ r l d. are.resources r l;
  within = are.within;
  under = λ id r flow e u d. inl (are.under id r flow e u);
  cause = λ id flow e. let k = are.cause id flow e in inl (caused holds flow k.0 (level_at levels id) k.1 k.2);
}
