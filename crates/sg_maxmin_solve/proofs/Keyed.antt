-- Keys of resources: whose they are, which comes first, and what a step does to them.
use Rattle.std.proofs.Common.{◌≡◌, ℕ, zero, suc, ◌*◌, ◌<◌, ◌≤◌, ◌⊎◌, inl, inr, Bool, true, false, true≢false, cond, eqb, eq-eqb, ne_eqb, is_none, is_some, Option, None, Some, IfNone, IsSome, List, [], ◌∷◌, length, get_or, set, sum_by, length-set, get_or-set_same, get_or-set_other, refl, sym, ap, ap₂, subst, ◌∙◌, arith}
use Rattle.std.proofs.lemmas.List.Sums.{sum_by-cons}
use Rattle.sg_base.specs.MarkSet.{MarkSet, is_in, with_mark}
use Rattle.sg_maxmin.specs.Chained.{times, users_on}
use Rattle.sg_heap.specs.Agenda.{Key, key_at, IsLeast as IsFirst}
use Rattle.sg_maxmin.specs.Sharing.{Sharing, uses_at}
use Rattle.sg_maxmin.proofs.Members.{In, In-from_contains, contains_from_In, In-flat_map, In-flat_map_back}
use Rattle.sg_maxmin_solve.specs.declared.filling.Filling.{Filling}
use Rattle.sg_maxmin_solve.specs.Dates.{AreDated, AreRenewed, AreRight, HaveKeys, HaveNone, IsIdle, StayDated, key_where}
use Rattle.sg_maxmin.specs.Numbered.{flow_in, weight_at}
use Rattle.sg_maxmin.specs.Step.{IsLeast}
use Rattle.sg_maxmin_solve.specs.Filling.{AreCounted, AreFixed, AreJoined, HasPlaces, MayStep, StepsPartly, fixed_at, limits_at, waited_levels, waits_with}
use Rattle.sg_maxmin_solve.proofs.Growing.{grows_mark, stays}
use Rattle.sg_maxmin_solve.proofs.Rows.{into}
use Rattle.sg_maxmin_solve.proofs.Fixing.{may_stay}
use Rattle.sg_maxmin_solve.proofs.Waited.{there_waits}
use Rattle.sg_maxmin.proofs.Listed.{bool_cases, eq_cases, in_at, mark_there, none_some, same_in, some_same}
use Rattle.sg_maxmin.proofs.Users.{is_in_In}

-- ---- keys
pub key_within : (keys : List (Option Key)) (c : ℕ) → IsSome (key_at keys c) → c < length keys
key_within [] c h = absurd (true≢false (sym h))
key_within (x ∷ xs) zero h = omega arith
key_within (x ∷ xs) (suc c) h = omega (arith, key_within xs c h)

abbrev pub at : ℕ → Key
at level = record { date = level; serial = 0 }

pub key_none : (waiting level : ℕ) → waiting ≡ 0 → key_where waiting level ≡ None
key_none waiting level z = ap (λ b. cond b None (Some (record { date = level; serial = 0 }))) (eq-eqb waiting 0 z)

key_there : (waiting level : ℕ) → (waiting ≡ 0 → ⊥) → key_where waiting level ≡ Some (at level)
key_there waiting level some = ap (λ b. cond b None (Some (record { date = level; serial = 0 }))) (ne_eqb waiting 0 some)

pub there_some : (keys : List (Option Key)) (c : ℕ) (key : Key) → key_at keys c ≡ Some key → IsSome (key_at keys c)
there_some keys c key e = subst IsSome (sym e) refl

-- a right key is written, and what was right stays so
pub set_right : (its : ℕ → Option Key) (keys : List (Option Key)) (n x : ℕ) → n < length keys → key_at keys x ≡ its x → key_at (set keys n (its n)) x ≡ its x
set_right its keys n x h e = elim (eq_cases x n) [
  | inl same ↦ ap (key_at (set keys n (its n))) same ∙ get_or-set_same keys n (its n) None h ∙ sym (ap its same)
  | inr other ↦ get_or-set_other keys n x (its n) None other ∙ e
]

pub cleared_none : (keys : List (Option Key)) (c n : ℕ) → c < length keys → key_at keys n ≡ None → key_at (set keys c None) n ≡ None
cleared_none keys c n h e = elim (eq_cases n c) [
  | inl same ↦ ap (key_at (set keys c None)) same ∙ get_or-set_same keys c None None h
  | inr other ↦ get_or-set_other keys c n None None other ∙ e
]

-- ---- keys of a part
pub no_keys : (keys : List (Option Key)) → HaveNone keys → HaveKeys keys → ⊥
no_keys keys none some = true≢false (sym some.1 ∙ ap is_some (none some.0))

pub are_right : (reached : List ℕ) (f : Filling) → AreDated reached f → HaveKeys f.agenda → AreRight f
are_right reached f dated some = elim dated.keys [
  | inl none ↦ absurd (no_keys f.agenda none some)
  | inr right ↦ right
]

module _ (reached : List ℕ) (f : Filling) (quiet : (c : ℕ) → is_in c reached ≡ false → get_or f.waiting.items c 0 ≡ 0) (right : AreRight f) where
  abbrev waits : ℕ → ℕ
  waits c = get_or f.waiting.items c 0

  abbrev level : ℕ → ℕ
  level c = get_or f.levels.items c 0

  pub has_key : (c : ℕ) → (get_or f.waiting.items c 0 ≡ 0 → ⊥) → key_at f.agenda c ≡ Some (at (get_or f.levels.items c 0))
  has_key c some = right c ∙ key_there (waits c) (level c) some

  -- a key is that of a reached resource on which a flow waits
  pub key_is : (c : ℕ) (key : Key) → key_at f.agenda c ≡ Some key → (is_in c reached ≡ true) × (get_or f.waiting.items c 0 ≡ 0 → ⊥) × (key ≡ at (get_or f.levels.items c 0))
  key_is c key h = elim (eq_cases (waits c) 0) [
    | inl z ↦ absurd (none_some (sym (right c ∙ key_none (waits c) (level c) z) ∙ h))
    | inr some ↦ (here some, some, some_same key (at (level c)) (sym h ∙ has_key c some))
  ]
    where
      here : (waits c ≡ 0 → ⊥) → is_in c reached ≡ true
      here some = elim (bool_cases (is_in c reached)) [ inl i ↦ i | inr o ↦ absurd (some (quiet c o)) ]

  abbrev levels_there : ℕ → List ℕ
  levels_there c = cond (eqb (waits c) 0) [] (level c ∷ [])

  abbrev list : List ℕ
  list = waited_levels f.waiting.items f.levels.items reached

  waited : (c x : ℕ) → In x (levels_there c) → (waits c ≡ 0 → ⊥) × (level c ≡ x)
  waited c x i = elim (eq_cases (waits c) 0) [
    | inl z ↦ absurd (subst (λ b. In x (cond b [] (level c ∷ []))) (eq-eqb (waits c) 0 z) i)
    | inr some ↦ (some, only (subst (λ b. In x (cond b [] (level c ∷ []))) (ne_eqb (waits c) 0 some) i))
  ]
    where
      only : {y : ℕ} → In x (y ∷ []) → y ≡ x
      only (inl e) = e
      only (inr i) = absurd i

  -- the first key has the least level
  pub first_least : (c : ℕ) (key : Key) → IsFirst f.agenda c key → IsLeast (Some (get_or f.levels.items c 0)) (waited_levels f.waiting.items f.levels.items reached)
  first_least c key first =
      let its = key_is c key first.there in (
        contains_from_In list (level c) (In-flat_map levels_there reached c (level c) (is_in_In c reached its.0) (subst (λ b. In (level c) (cond b [] (level c ∷ []))) (sym (ne_eqb (waits c) 0 its.1)) (inl refl))),
        λ x i. let b = In-flat_map_back levels_there reached x (In-from_contains list x i) in above (ap (λ (k : Key). k.date) its.2) x b.0 b.2,
      )
    where
      above : key.date ≡ level c → (x d : ℕ) → In x (levels_there d) → level c ≤ x
      above is x d i =
          let w = waited d x i in
          elim (first.least d (at (level d)) (has_key d w.0)) [
            | inl less ↦ omega (arith, less, is, w.1)
            | inr same ↦ omega (arith, same.0, is, w.1)
          ]

-- ---- a step
some_or : (o : Option ℕ) → (o ≡ None → ⊥) → IsSome o
some_or None h = absurd (h refl)
some_or (Some x) h = refl

-- if nobody waits, all flows are fixed
pub nobody_waits : (s : Sharing) (touched reached : List ℕ) (f : Filling) → AreJoined s touched reached → AreCounted s f.fixed.items touched f.left.items f.waiting.items (λ c. is_in c reached) → (c : ℕ) → is_in c reached ≡ true → get_or f.waiting.items c 0 ≡ 0 →
    AreFixed (users_on s.users c) f
nobody_waits s touched reached f joined counted c r z = λ i h.
    let row = users_on s.users c in
    let id = get_or row i 0 in
    let user = in_at id row i h refl in
    let there = into row touched id (joined.closed.covered c r) user in
    let used = same_in id c row (uses_at s.slots id) (joined.part.sound.both id c) user in
    some_or (fixed_at f.fixed.items id) (λ e. there_waits s f.fixed.items touched reached f.left.items f.waiting.items f.levels.items joined counted c id r (is_in_In id touched there) (ap is_none e) used z)

-- a key that is left is that of the start
pub key_left : {X : Type 0} (now was : Option Key) (key : Key) → (now ≡ was) ⊎ ((now ≡ None) × X) → now ≡ Some key → was ≡ Some key
key_left now was key (inl same) e = sym same ∙ e
key_left now was key (inr gone) e = absurd (none_some (sym gone.0 ∙ e))

pub none_of : {X : Type 0} (o : Option ℕ) → ((x : ℕ) → o ≡ Some x → ⊥) → IfNone o X → X
none_of None h x = x
none_of (Some n) h x = absurd (h n refl)

-- a key is taken
pub partly_cleared : (s : Sharing) (low c : ℕ) (a b : Filling) → HasPlaces s a → c < length a.agenda → b.fixed.items ≡ a.fixed.items → b.left.items ≡ a.left.items → b.waiting.items ≡ a.waiting.items → b.levels.items ≡ a.levels.items → b.holds.items ≡ a.holds.items →
    b.stale ≡ record a.stale { members = with_mark c a.stale.members } → b.agenda ≡ set a.agenda c None → StepsPartly s low a b
partly_cleared s low c a b places below fixed left waiting levels holds stale agenda = record {
  places = record {
    sound = places.sound;
    fixed_len = omega (arith, places.fixed_len, ap length fixed);
    holds_len = ap length holds ∙ places.holds_len;
    left_len = ap length left ∙ places.left_len;
    waiting_len = ap length waiting ∙ places.waiting_len;
    levels_len = ap length levels ∙ places.levels_len;
    stale_room = ap (λ (m : MarkSet). m.room) stale ∙ places.stale_room;
    slots = ap length agenda ∙ length-set a.agenda c None ∙ places.slots;
  };
  levels = levels;
  flows = λ id. subst (λ (xs : List (Option ℕ)). MayStep low (IsLeast (Some low) (limits_at s.slots a.levels.items id)) (fixed_at a.fixed.items id) (fixed_at xs id)) (sym fixed) (may_stay low (IsLeast (Some low) (limits_at s.slots a.levels.items id)) (fixed_at a.fixed.items id));
  stays = λ n h.
      let off : is_in n (with_mark c a.stale.members) ≡ false = sym (ap (λ (m : MarkSet). is_in n m.members) stale) ∙ h in
      record {
        fresh = elim (bool_cases (is_in n a.stale.members)) [ inr e ↦ e | inl e ↦ absurd (true≢false (sym (stays n a.stale.members (with_mark c a.stale.members) (grows_mark c a.stale.members) e) ∙ off)) ];
        left = ap (λ xs. get_or xs n 0) left;
        waiting = ap (λ xs. get_or xs n 0) waiting;
        key = ap (λ ks. key_at ks n) agenda ∙ get_or-set_other a.agenda c n None None (λ e. true≢false (sym (ap (λ m. is_in m (with_mark c a.stale.members)) e ∙ mark_there c a.stale.members) ∙ off));
      };
  fewer = λ n. omega (arith, ap (λ xs. get_or xs n 0) waiting);
  gone = λ n e. ap (λ ks. key_at ks n) agenda ∙ cleared_none a.agenda c n below e;
}

-- after a step the keys are right again
pub dated_on : (s : Sharing) (low : ℕ) (reached : List ℕ) (a b d : Filling) → AreDated reached a → StepsPartly s low a b → d.waiting.items ≡ b.waiting.items → ((c : ℕ) → is_in c b.stale.members ≡ false → get_or d.levels.items c 0 ≡ get_or b.levels.items c 0) →
    StayDated b.stale.members b.agenda d → AreDated reached d
dated_on s low reached a b d dated p waiting levels renewed = record {
  quiet = λ c off. omega (arith, ap (λ xs. get_or xs c 0) waiting, p.fewer c, dated.quiet c off);
  keys = elim renewed [
    | inl r ↦ elim dated.keys [
      | inl none ↦ absurd (no_keys b.agenda (λ c. p.gone c (none c)) r.0)
      | inr right ↦ inr (all right r.1)
    ]
    | inr r ↦ inl (λ c. ap (λ ks. key_at ks c) r.1 ∙ r.0 c)
  ];
}
  where
    all : AreRight a → AreRenewed b.stale.members b.agenda d → AreRight d
    all right r c = elim (bool_cases (is_in c b.stale.members)) [
      | inl i ↦ r.listed_are c i
      | inr o ↦
          let same = p.stays c o in
          r.others c o ∙ same.key ∙ right c
          ∙ ap₂ key_where (sym (ap (λ xs. get_or xs c 0) waiting ∙ same.waiting)) (sym (levels c o ∙ ap (λ xs. get_or xs c 0) p.levels))
    ]

-- the reached resources are given their keys
pub dated_late : (reached : List ℕ) (f : Filling) (keys : List (Option Key)) (late : Bool) → AreDated reached f → (late ≡ true → (c : ℕ) → is_in c reached ≡ true → key_at keys c ≡ key_where (get_or f.waiting.items c 0) (get_or f.levels.items c 0)) →
    ((c : ℕ) → is_in c reached ≡ false → key_at keys c ≡ key_at f.agenda c) → (late ≡ false → keys ≡ f.agenda) → AreDated reached (record f { agenda = keys })
dated_late reached f keys late dated listed others none = record { quiet = dated.quiet; keys = elim (bool_cases late) [ inl e ↦ inr (all e) | inr e ↦ same (none e) ] }
  where
    off : (c : ℕ) → is_in c reached ≡ false → key_at f.agenda c ≡ None
    off c o = elim dated.keys [
      | inl nil ↦ nil c
      | inr right ↦ right c ∙ key_none (get_or f.waiting.items c 0) (get_or f.levels.items c 0) (dated.quiet c o)
    ]

    all : late ≡ true → (c : ℕ) → key_at keys c ≡ key_where (get_or f.waiting.items c 0) (get_or f.levels.items c 0)
    all e c = elim (bool_cases (is_in c reached)) [
      | inl i ↦ listed e c i
      | inr o ↦ others c o ∙ off c o ∙ sym (key_none (get_or f.waiting.items c 0) (get_or f.levels.items c 0) (dated.quiet c o))
    ]

    same : keys ≡ f.agenda → HaveNone keys ⊎ AreRight (record f { agenda = keys })
    same e = elim dated.keys [
      | inl nil ↦ inl (λ c. ap (λ (ks : List (Option Key)). key_at ks c) e ∙ nil c)
      | inr right ↦ inr (λ c. ap (λ (ks : List (Option Key)). key_at ks c) e ∙ right c)
    ]

-- ---- a max-min solve
sum_none : (f : ℕ → ℕ) (xs : List ℕ) → ((i : ℕ) → i < length xs → f (get_or xs i 0) ≡ 0) → sum_by f xs ≡ 0
sum_none f [] h = refl
sum_none f (x ∷ xs) h = omega (arith, sum_by-cons f x xs, h 0 (omega arith), sum_none f xs (λ i k. h (suc i) (omega arith)))

-- once all touched flows are fixed, nobody waits
pub idle_then : (s : Sharing) (touched reached : List ℕ) (f : Filling) → AreCounted s f.fixed.items touched f.left.items f.waiting.items (λ c. is_in c reached) → AreDated reached f → ((i : ℕ) → i < length touched → IsSome (fixed_at f.fixed.items (get_or touched i 0))) → IsIdle f
idle_then s touched reached f counted dated all = record { waiting = none; keys = key }
  where
    nothing : (n : ℕ) → n * 0 ≡ 0
    nothing n = omega arith

    no_weight : (n w : ℕ) (o : Option ℕ) → IsSome o → n * cond (is_none o) w 0 ≡ 0
    no_weight n w None h = absurd (true≢false (sym h))
    no_weight n w (Some x) h = nothing n

    none : (c : ℕ) → get_or f.waiting.items c 0 ≡ 0
    none c = elim (bool_cases (is_in c reached)) [
      | inl r ↦ counted.waiting_is c r ∙ sum_none (λ id. times c (uses_at s.slots id) * waits_with (flow_in s.slots id) (fixed_at f.fixed.items id)) touched
          (λ i h. let id = get_or touched i 0 in no_weight (times c (uses_at s.slots id)) (weight_at s.slots id) (fixed_at f.fixed.items id) (all i h))
      | inr o ↦ dated.quiet c o
    ]

    key : (c : ℕ) → key_at f.agenda c ≡ None
    key c = elim dated.keys [
      | inl nil ↦ nil c
      | inr right ↦ right c ∙ key_none (get_or f.waiting.items c 0) (get_or f.levels.items c 0) (none c)
    ]
