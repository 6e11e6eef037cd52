-- A max-min solve continues from what is solved.
use Rattle.std.proofs.Common.{◌≡◌, ◌≢◌, ℕ, ◌+◌, ◌-◌, ◌*◌, ◌<◌, ◌≤◌, ◌⊎◌, inl, inr, Bool, true, false, true≢false, None, IsSome, is_some, List, ◌++◌, length, get_or, take, drop, All, AllPairs, ◌||◌, ltb, lt-ltb, le-ltb, Option, Some, [], ◌∷◌, set, slice_index, get_or-set_same, get_or-set_other, length-append, length-drop, refl, sym, ap, subst, ◌∙◌, arith}
use Rattle.std.proofs.lemmas.List.{get_or-drop, take_all}
use Rattle.std.proofs.lemmas.List.Elements.{All-get_or, All-from_get_or}
use Rattle.std.proofs.lemmas.List.Sums.{sum_by-append}
use Rattle.sg_base.specs.MarkSet.{MarkSet, is_in, with_mark}
use Rattle.sg_maxmin.specs.Chained.{users_on}
use Rattle.sg_maxmin.specs.Fill.{Flow, level_of}
use Rattle.sg_maxmin.specs.Sharing.{Sharing, IsSound, flow_at, held, uses_at}
use Rattle.sg_maxmin.specs.Held.{IsHold}
use Rattle.sg_maxmin.proofs.OneHold.{hold_is_local_lem}
use Rattle.sg_maxmin_solve.specs.declared.component.Component.{Component}
use Rattle.sg_maxmin_solve.specs.declared.filling.Filling.{Filling}
use Rattle.sg_maxmin_solve.specs.Component.{AllPass, AreIn, AreVisited, Grows, IsClosure, IsClosedBy, IsOpen, PassAlong, StaysWithin, lengths}
use Rattle.sg_maxmin_solve.specs.Dates.{IsIdle}
use Rattle.sg_maxmin.specs.Numbered.{flow_in, row_waiting}
use Rattle.sg_maxmin_solve.specs.Filling.{AreJoined, HasPlaces, fixed_at}
use Rattle.sg_maxmin_solve.specs.Holds.{IsEnded}
use Rattle.sg_maxmin_solve.specs.Parts.{FillsOn, IsFilled, part_looks}
use Rattle.sg_maxmin_solve.proofs.Apart.{came, came_closed, in_cases, in_one, in_right}
use Rattle.sg_maxmin_solve.proofs.Growing.{all_stay, grows_mark, grows_on, grows_same, mark_cases}
use Rattle.sg_maxmin_solve.proofs.Holding.{joined_hold, joined_level}
use Rattle.sg_maxmin_solve.proofs.Rows.{into}
use Rattle.sg_maxmin_solve.proofs.Twice.{counts_twice_lem}
use Rattle.sg_maxmin.proofs.Listed.{at_in, bool_cases, eq_cases, in_at, same_in}
use Rattle.sg_maxmin.proofs.Users.{on_held}

pub fills_none : (s : Sharing) (a : Component) (f : Filling) (x : ℕ) → IsFilled s a f → FillsOn s a a f x x
fills_none s a f x filled = record { filled = filled; touched = grows_same a.touched.members; reached = grows_same a.reached.members; looks = omega arith }

-- one more resource, that no flow uses
pub fills_free : (s : Sharing) (a b : Component) (f : Filling) (c x : ℕ) → IsFilled s b f → b.touched ≡ a.touched → b.reached ≡ record a.reached { members = with_mark c a.reached.members } → FillsOn s a b f x x
fills_free s a b f c x filled touched reached = record {
  filled = filled;
  touched = subst (λ (m : MarkSet). Grows a.touched.members m.members) (sym touched) (grows_same a.touched.members);
  reached = subst (λ (m : MarkSet). Grows a.reached.members m.members) (sym reached) (grows_mark c a.reached.members);
  looks = subst (λ (m : MarkSet). x + part_looks s a ≤ x + 6 * lengths (uses_at s.slots) m.members) (sym touched) (omega arith);
}

pub fills_on : (s : Sharing) (a b c : Component) (f f' : Filling) (x y z : ℕ) → FillsOn s a b f x y → FillsOn s b c f' y z → FillsOn s a c f' x z
fills_on s a b c f f' x y z one two = record {
  filled = two.filled;
  touched = grows_on a.touched.members b.touched.members c.touched.members one.touched two.touched;
  reached = grows_on a.reached.members b.reached.members c.reached.members one.reached two.reached;
  looks = omega (arith, one.looks, two.looks);
}

pub lengths_came : (rows : ℕ → List ℕ) (old new : List ℕ) → Grows old new → lengths rows new ≡ lengths rows old + lengths rows (drop (length old) new)
lengths_came rows old new g = ap (lengths rows) (sym (came old new g)) ∙ sum_by-append (λ n. length (rows n)) old (drop (length old) new)

pub length_came : (old new : List ℕ) → Grows old new → length new ≡ length old + length (drop (length old) new)
length_came old new g = ap length (sym (came old new g)) ∙ length-append old (drop (length old) new)

-- ---- what came is a part
pub rest_is : (n : ℕ) (xs : List ℕ) → take (length xs - n) (drop n xs) ≡ drop n xs
rest_is n xs = take_all (length xs - n) (drop n xs) (omega (arith, length-drop n xs))

once_drop : (n : ℕ) (xs : List ℕ) → AllPairs (λ a b. a ≢ b) xs → AllPairs (λ a b. a ≢ b) (drop n xs)
once_drop n xs once = λ i j d a b e. once (n + i) (n + j) d (omega (arith, a)) (omega (arith, b, length-drop n xs)) (sym (get_or-drop n xs i d) ∙ e ∙ get_or-drop n xs j d)

at_drop : (n : ℕ) (xs : List ℕ) (i : ℕ) → i < length (drop n xs) → is_in (get_or (drop n xs) i 0) xs ≡ true
at_drop n xs i h = in_at (get_or (drop n xs) i 0) xs (n + i) (omega (arith, h, length-drop n xs)) (sym (get_or-drop n xs i 0))

-- what was reached beyond the first has users
abbrev pub HaveUsers : Sharing → Component → Component → Type 0
HaveUsers s a z = (c : ℕ) → is_in c z.reached.members ≡ true → (is_in c a.reached.members ≡ true) ⊎ (0 < length (users_on s.users c))

module _ (s : Sharing) (sound : IsSound s) (a z : Component) (f : Filling) (old : IsFilled s a f) (gt : Grows a.touched.members z.touched.members) (gr : Grows a.reached.members z.reached.members) (closed : IsClosedBy s z) (live : AllPass (λ id. is_some (flow_at s.slots id)) z.touched.members) (once : AllPairs (λ a b. a ≢ b) z.touched.members) (distinct : AllPairs (λ a b. a ≢ b) z.reached.members) where
  abbrev part : List ℕ
  part = drop (length a.touched.members) z.touched.members

  abbrev resources : List ℕ
  resources = drop (length a.reached.members) z.reached.members

  abbrev t_is : a.touched.members ++ part ≡ z.touched.members
  t_is = came a.touched.members z.touched.members gt

  abbrev r_is : a.reached.members ++ resources ≡ z.reached.members
  r_is = came a.reached.members z.reached.members gr

  whole : IsClosure (uses_at s.slots) (users_on s.users) (a.touched.members ++ part) (a.reached.members ++ resources)
  whole = subst (λ xs. IsClosure (uses_at s.slots) (users_on s.users) xs (a.reached.members ++ resources)) (sym t_is) (subst (λ xs. IsClosure (uses_at s.slots) (users_on s.users) z.touched.members xs) (sym r_is) closed)

  whole_once : AllPairs (λ a b. a ≢ b) (a.touched.members ++ part)
  whole_once = subst (AllPairs (λ a b. a ≢ b)) (sym t_is) once

  whole_distinct : AllPairs (λ a b. a ≢ b) (a.reached.members ++ resources)
  whole_distinct = subst (AllPairs (λ a b. a ≢ b)) (sym r_is) distinct

  part_closed : IsClosure (uses_at s.slots) (users_on s.users) part resources
  part_closed = came_closed s sound a.touched.members part a.reached.members resources old.closed whole whole_once whole_distinct

  off_part : (id : ℕ) → is_in id a.touched.members ≡ true → is_in id part ≡ false
  off_part id k = elim (bool_cases (is_in id part)) [ inl j ↦ absurd (in_one id a.touched.members part whole_once k j) | inr j ↦ j ]

  off_resources : (c : ℕ) → is_in c a.reached.members ≡ true → is_in c resources ≡ false
  off_resources c k = elim (bool_cases (is_in c resources)) [ inl j ↦ absurd (in_one c a.reached.members resources whole_distinct k j) | inr j ↦ j ]

  pub part_joined : All (λ c. c < length s.capacities) z.reached.members → HaveUsers s a z → AreJoined s part resources
  part_joined exist used = record {
    part = record { sound = sound; held = All-from_get_or (λ id. IsSome (flow_at s.slots id)) part 0 (λ i h. live (get_or part i 0) (at_drop (length a.touched.members) z.touched.members i h)) };
    once = once_drop (length a.touched.members) z.touched.members once;
    closed = part_closed;
    distinct = once_drop (length a.reached.members) z.reached.members distinct;
    exist = All-from_get_or (λ c. c < length s.capacities) resources 0 (λ i h.
        let n = length a.reached.members in
        subst (λ c. c < length s.capacities) (sym (get_or-drop n z.reached.members i 0)) (All-get_or (λ c. c < length s.capacities) z.reached.members (n + i) 0 (omega (arith, h, length-drop n z.reached.members)) exist));
    used = λ c r. elim (used c (subst (λ xs. is_in c xs ≡ true) r_is (in_right c a.reached.members resources r))) [
      | inl k ↦ absurd (in_one c a.reached.members resources whole_distinct k r)
      | inr some ↦ some
    ];
  }

  pub part_twice : lengths (users_on s.users) resources ≤ lengths (uses_at s.slots) part
  part_twice = counts_twice_lem (uses_at s.slots) (users_on s.users) part resources sound.both (once_drop (length a.reached.members) z.reached.members distinct) part_closed.covered

  pub filled_on : (f' : Filling) → IsOpen s z → All (λ c. c < length s.capacities) z.reached.members → HaveUsers s a z → IsEnded s part resources f f' → IsFilled s z f'
  filled_on f' ready exist used ended = record {
    ready = ready;
    closed = closed;
    held = live;
    exist = exist;
    places = ended.places;
    idle = ended.idle;
    levels = λ id i. elim (in_cases id a.touched.members part (subst (λ xs. is_in id xs ≡ true) (sym t_is) i)) [
      | inl k ↦ same id k
      | inr k ↦ joined_level s part resources f' (part_joined exist used) ended.fixed id k
    ];
    holds = λ c r. elim (in_cases c a.reached.members resources (subst (λ xs. is_in c xs ≡ true) (sym r_is) r)) [
      | inl k ↦
          let row = users_on s.users c in
          subst (IsHold (slice_index s.capacities c) s.slots f'.fixed.items row) (sym (ended.holds_kept c (off_resources c k)))
          (hold_is_local_lem (slice_index s.capacities c) s.slots s.slots f.fixed.items f'.fixed.items row (fixed_at f.holds.items c)
          (λ id u. let t = into row a.touched.members id (old.closed.covered c k) u in (refl, same id t ∙ sym (old.levels id t))) (old.holds c k))
      | inr k ↦ joined_hold s part resources f' (part_joined exist used) ended.fixed ended.noted c k
    ];
  }
    where
      same : (id : ℕ) → is_in id a.touched.members ≡ true → fixed_at f'.fixed.items id ≡ Some (level_of s.capacities (held s.slots) (flow_in s.slots id))
      same id k = ended.kept id (level_of s.capacities (held s.slots) (flow_in s.slots id)) (off_part id k) (old.levels id k)

-- ---- what is touched is held
-- from a start, whatever tests pass along and hold of it
abbrev pub Leads : Sharing → ((ℕ → Bool) → (ℕ → Bool) → Type 0) → Component → Component → Type 0
Leads s Start a z = (p q : ℕ → Bool) → PassAlong s p q → Start p q → StaysWithin p q a z

pub part_live : (s : Sharing) → IsSound s → (Start : (ℕ → Bool) → (ℕ → Bool) → Type 0) (a z : Component) → Leads s Start a z → Start (λ id. is_some (flow_at s.slots id)) (λ c. true) → AllPass (λ id. is_some (flow_at s.slots id)) a.touched.members →
    AllPass (λ id. is_some (flow_at s.slots id)) z.touched.members
part_live s sound Start a z leads start were =
    let p : ℕ → Bool = λ id. is_some (flow_at s.slots id) in
    let q : ℕ → Bool = λ c. true in
    let along : PassAlong s p q = record {
      uses = λ id h i k. refl;
      users = λ c i k h.
          let id = get_or (users_on s.users c) k 0 in
          let u = on_held s sound c id (in_at id (users_on s.users c) k h refl) in
          ap {B = Bool} (λ o. is_some o) u.1;
    } in
    (leads p q along start were (λ c e. refl)).0

-- ---- what is reached has users
pub or_left : (x y : Bool) → x ≡ true → (x || y) ≡ true
or_left x y e = rw e refl

pub or_right : (x y : Bool) → y ≡ true → (x || y) ≡ true
or_right true y e = refl
or_right false y e = e

pub or_cases : (x y : Bool) → (x || y) ≡ true → (x ≡ true) ⊎ (y ≡ true)
or_cases true y e = inl refl
or_cases false y e = inr e

some_length : (xs : List ℕ) (x : ℕ) → is_in x xs ≡ true → ltb 0 (length xs) ≡ true
some_length xs x i = let at = at_in x xs i in lt-ltb 0 (length xs) (omega (arith, at.1))

pos_of : (n : ℕ) → ltb 0 n ≡ true → 0 < n
pos_of n e = elim (eq_cases n 0) [ inl z ↦ absurd (true≢false (sym e ∙ le-ltb 0 n (omega (arith, z)))) | inr some ↦ omega (arith, some) ]

-- the resources that were reached, and those with users
abbrev pub or_used : Sharing → Component → ℕ → Bool
or_used s a c = is_in c a.reached.members || ltb 0 (length (users_on s.users c))

pub part_used : (s : Sharing) → IsSound s → (Start : (ℕ → Bool) → (ℕ → Bool) → Type 0) (a z : Component) → Leads s Start a z → Start (λ id. true) (or_used s a) → HaveUsers s a z
part_used s sound Start a z leads start c r =
    let p : ℕ → Bool = λ id. true in
    let q : ℕ → Bool = or_used s a in
    let along : PassAlong s p q = record {
      uses = λ id h k l.
          let n = get_or (uses_at s.slots id) k 0 in
          or_right (is_in n a.reached.members) (ltb 0 (length (users_on s.users n)))
          (some_length (users_on s.users n) id (same_in n id (uses_at s.slots id) (users_on s.users n) (sym (sound.both id n)) (in_at n (uses_at s.slots id) k l refl)));
      users = λ n i k h. refl;
    } in
    let passed = (leads p q along start (λ id e. refl) (λ n e. or_left (is_in n a.reached.members) (ltb 0 (length (users_on s.users n))) e)).1 c r in
    elim (or_cases (is_in c a.reached.members) (ltb 0 (length (users_on s.users c))) passed) [
      | inl k ↦ inl k
      | inr some ↦ inr (pos_of (length (users_on s.users c)) some)
    ]

pub start_used : (s : Sharing) (a : Component) (c : ℕ) → 0 < length (users_on s.users c) → or_used s a c ≡ true
start_used s a c some = or_right (is_in c a.reached.members) (ltb 0 (length (users_on s.users c))) (lt-ltb 0 (length (users_on s.users c)) some)

-- a test that holds of the members holds of one more
pub marked_pass : (test : ℕ → Bool) (c : ℕ) (old new : List ℕ) → new ≡ with_mark c old → test c ≡ true → AllPass test old → AllPass test new
marked_pass test c old new e here all x h = elim (mark_cases x c old (subst (λ xs. is_in x xs ≡ true) e h)) [
  | inl k ↦ all x k
  | inr q ↦ ap test q ∙ here
]

-- all flows on what was reached are touched
pub visited_on : (s : Sharing) (a b : Component) → IsClosedBy s a → Grows a.touched.members b.touched.members → Grows a.reached.members b.reached.members → AreVisited s (length a.reached.members) b
visited_on s a b closed gt gr = record {
  within = gr.longer;
  touched = λ i h.
      let n = get_or a.reached.members i 0 in
      all_stay (users_on s.users (get_or b.reached.members i 0)) a.touched.members b.touched.members gt
      (subst (λ m. AreIn (users_on s.users m) a.touched.members) (sym (gr.same i h)) (closed.covered n (in_at n a.reached.members i h refl)));
}

none_holds : (cap : ℕ) (slots : List (Option Flow)) (levels : List (Option ℕ)) (row : List ℕ) → length row ≡ 0 → IsHold cap slots levels row None
unfolding row_waiting
none_holds cap slots levels [] z = record { above = λ x u pos. absurd (omega (arith, pos)); met = tt }
none_holds cap slots levels (y ∷ row) z = absurd (omega (arith, z))

All-marked : (n c : ℕ) (xs : List ℕ) → c < n → All (λ x. x < n) xs → All (λ x. x < n) (with_mark c xs)
All-marked n c xs below all = All-from_get_or (λ x. x < n) (with_mark c xs) 0 (λ i h.
    let x = get_or (with_mark c xs) i 0 in
    elim (mark_cases x c xs (in_at x (with_mark c xs) i h refl)) [
      | inl k ↦ let at = at_in x xs k in subst (λ y. y < n) at.2 (All-get_or (λ y. y < n) xs at.0 0 at.1 all)
      | inr q ↦ subst (λ y. y < n) (sym q) below
    ])

-- a resource that no flow uses is a part by itself, which holds none
pub reached_more : (s : Sharing) (a : Component) (f f' : Filling) (c : ℕ) (r : MarkSet) → IsFilled s a f → c < length s.capacities → length (users_on s.users c) ≡ 0 → r ≡ record a.reached { members = with_mark c a.reached.members } →
    HasPlaces s f' → IsIdle f' → f'.fixed.items ≡ f.fixed.items → f'.holds.items ≡ set f.holds.items c None → IsFilled s (record { touched = a.touched; reached = r }) f'
reached_more s a f f' c r old below none e places idle fixed holds =
    let members = ap (λ (m : MarkSet). m.members) e in
    let grows : Grows a.reached.members r.members = subst (Grows a.reached.members) (sym members) (grows_mark c a.reached.members) in
    let cases = λ (x : ℕ) (h : is_in x r.members ≡ true). mark_cases x c a.reached.members (subst (λ xs. is_in x xs ≡ true) members h) in
    let here : fixed_at f'.holds.items c ≡ None = ap (λ hs. fixed_at hs c) holds ∙ get_or-set_same f.holds.items c None None (omega (arith, below, old.places.holds_len)) in
    record {
      ready = record {
        sound = old.ready.sound;
        touched_room = old.ready.touched_room;
        reached_room = ap (λ (m : MarkSet). m.room) e ∙ old.ready.reached_room;
        covers = λ id h. all_stay (uses_at s.slots id) a.reached.members r.members grows (old.ready.covers id h);
      };
      closed = record {
        covers = λ id h. all_stay (uses_at s.slots id) a.reached.members r.members grows (old.closed.covers id h);
        covered = λ x h. elim (cases x h) [
          | inl k ↦ old.closed.covered x k
          | inr q ↦ λ i l. absurd (omega (arith, l, ap (λ n. length (users_on s.users n)) q, none))
        ];
      };
      held = old.held;
      exist = subst (All (λ x. x < length s.capacities)) (sym members) (All-marked (length s.capacities) c a.reached.members below old.exist);
      places = places;
      idle = idle;
      levels = λ id i. ap (λ xs. fixed_at xs id) fixed ∙ old.levels id i;
      holds = λ x h. elim (eq_cases x c) [
        | inl q ↦
            let no_row : length (users_on s.users x) ≡ 0 = ap (λ n. length (users_on s.users n)) q ∙ none in
            subst (IsHold (slice_index s.capacities x) s.slots f'.fixed.items (users_on s.users x)) (sym (ap (fixed_at f'.holds.items) q ∙ here)) (none_holds (slice_index s.capacities x) s.slots f'.fixed.items (users_on s.users x) no_row)
        | inr ne ↦ elim (cases x h) [
          | inr q ↦ absurd (ne q)
          | inl k ↦
              let hold = ap (λ hs. fixed_at hs x) holds ∙ get_or-set_other f.holds.items c x None None ne in
              subst (λ o. IsHold (slice_index s.capacities x) s.slots f'.fixed.items (users_on s.users x) o) (sym hold) (subst (λ xs. IsHold (slice_index s.capacities x) s.slots xs (users_on s.users x) (fixed_at f.holds.items x)) (sym fixed) (old.holds x k))
        ]
      ];
    }
