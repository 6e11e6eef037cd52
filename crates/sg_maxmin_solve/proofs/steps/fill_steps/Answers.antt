use Rattle.std.proofs.Common.{◌≡◌, ℕ, zero, suc, ◌+◌, ◌*◌, ◌<◌, ◌≤◌, ◌⊎◌, inl, inr, Bool, true, false, true≢false, is_none, cond, Option, None, Some, IsSome, List, [], ◌∷◌, length, get_or, sum_by, refl, sym, ap, ap₂, subst, ◌∙◌, arith}
use Rattle.std.proofs.lemmas.List.{length-map}
use Rattle.std.proofs.lemmas.List.Sums.{count_by-le-length, sum_by-cons}
use Rattle.sg_base.specs.MarkSet.{is_in}
use Rattle.sg_maxmin.specs.Chained.{users_on}
use Rattle.sg_maxmin.specs.Fill.{level_of}
use Rattle.sg_maxmin.specs.Fixing.{Fixed, steps_from, unfixed}
use Rattle.sg_maxmin.specs.Sharing.{Sharing, uses_at}
use Rattle.sg_maxmin.proofs.Members.{In, In-map, In-flat_map, In-from_contains}
use Rattle.sg_maxmin.proofs.Leveled.{all_fixed}
use Rattle.sg_maxmin.proofs.Proved.{level_fixed, limited_from, steps-next}
use Rattle.sg_maxmin_solve.specs.Component.{Covers, lengths}
use Rattle.sg_heap.specs.Agenda.{Key}
use Rattle.sg_maxmin_solve.specs.Dates.{AreDated, key_where}
use Rattle.sg_maxmin.specs.Numbered.{flow_in}
use Rattle.sg_maxmin_solve.specs.declared.filling.Filling.{Filling}
use Rattle.sg_maxmin_solve.specs.declared.limits.Low.{Low}
use Rattle.sg_maxmin.specs.Step.{IsLeast, IsStepped}
use Rattle.sg_maxmin_solve.specs.Filling.{AreCounted, AreJoined, AreLevels, AreTaken, HasPlaces, IsLow, fixed_at, flows_at, limits_at, unfixed_bounds, unfixed_limits, unfixed_uses}
use Rattle.sg_maxmin_solve.specs.Holds.{AreNoted, AreUnder, IsAtLevel, NotesHolds, untaken}
use Rattle.sg_maxmin_solve.proofs.Floors.{floor_fewer, floor_zero}
use Rattle.sg_maxmin_solve.proofs.Joined.{user_there}
use Rattle.sg_maxmin_solve.proofs.Keyed.{dated_late, idle_then}
use Rattle.sg_maxmin_solve.proofs.Last.{rest_steps}
use Rattle.sg_maxmin_solve.proofs.Noted.{above_least, fresh_at, noted_next, under_next}
use Rattle.sg_maxmin_solve.proofs.Notes.{untaken_few}
use Rattle.sg_maxmin_solve.proofs.Rows.{into}
use Rattle.sg_maxmin_solve.proofs.Starts.{part_limits}
use Rattle.sg_maxmin_solve.proofs.Stepped.{limits_are, next_fixed}
use Rattle.sg_maxmin_solve.proofs.Twice.{counts_twice_lem}
use Rattle.sg_maxmin.proofs.Listed.{at_in, none_some}
use Rattle.sg_maxmin.proofs.Users.{in_is, rows_once}
use Rattle.sg_maxmin_solve.proofs.steps.fill_steps.Goals as goal

at_index : (xs : List ℕ) (x : ℕ) → In x xs → (i : ℕ) × (i < length xs) × (get_or xs i 0 ≡ x)
at_index [] x h = absurd h
at_index (y ∷ xs) x (inl e) = (zero, omega arith, e)
at_index (y ∷ xs) x (inr h) = let r = at_index xs x h in let s : suc r.0 < length (y ∷ xs) = omega (arith, r.1) in (suc r.0, s, r.2)

in_index : (xs : List ℕ) (i : ℕ) → i < length xs → In (get_or xs i 0) xs
in_index [] i h = absurd (omega arith)
in_index (x ∷ xs) zero h = inl refl
in_index (x ∷ xs) (suc i) h = inr (in_index xs i (omega arith))

-- what holds at each place holds of each member
of_each : (P : ℕ → Type 0) (xs : List ℕ) → ((i : ℕ) → i < length xs → P (get_or xs i 0)) → (x : ℕ) → In x xs → P x
of_each P xs h x i = let r = at_index xs x i in subst P r.2 (h r.0 r.1)

fixed_cases : (o : Option ℕ) → (o ≡ None) ⊎ ((x : ℕ) × (o ≡ Some x))
fixed_cases None = inl refl
fixed_cases (Some x) = inr (x, refl)

level_at : (s : Sharing) (fixed : List (Option ℕ)) (touched : List ℕ) (n f : ℕ) → n ≤ length touched → steps_from n s.capacities (flows_at s.slots touched) unfixed (flow_in s.slots f) ≡ fixed_at fixed f → (fixed_at fixed f ≡ None → ⊥) →
    fixed_at fixed f ≡ Some (level_of s.capacities (flows_at s.slots touched) (flow_in s.slots f))
level_at s fixed touched n f few are some = elim (fixed_cases (fixed_at fixed f)) [
  | inl z ↦ absurd (some z)
  | inr k ↦ k.1 ∙ ap Some (sym (level_fixed n s.capacities (flows_at s.slots touched) (flow_in s.slots f) k.0 (subst (λ m. n ≤ m) (sym (length-map touched (flow_in s.slots))) few) (are ∙ k.1)))
]

covers_in : (rows : ℕ → List ℕ) (touched reached : List ℕ) → Covers rows touched reached → (f x : ℕ) → In f touched → In x (rows f) → is_in x reached ≡ true
covers_in rows touched reached h f x i k = into (rows f) reached x (h f (in_is f touched i)) (in_is x (rows f) k)

-- the unfixed flows have no more uses than all
few_unfixed : (rows : ℕ → List ℕ) (fixed : List (Option ℕ)) (xs : List ℕ) → sum_by (λ id. cond (is_none (fixed_at fixed id)) (length (rows id)) 0) xs ≤ lengths rows xs
few_unfixed rows fixed [] = omega arith
few_unfixed rows fixed (x ∷ xs) = omega (arith, sum_by-cons (λ id. cond (is_none (fixed_at fixed id)) (length (rows id)) 0) x xs, sum_by-cons (λ id. length (rows id)) x xs, few_unfixed rows fixed xs, at_most (is_none (fixed_at fixed x)) (length (rows x)))
  where
    at_most : (b : Bool) (n : ℕ) → cond b n 0 ≤ n
    at_most true n = omega arith
    at_most false n = omega arith

-- what is unfixed after a step was so before
unfixed_before : (low : ℕ) (at : Type 0) (old new : Option ℕ) → IsStepped low at old new → new ≡ None → old ≡ None
unfixed_before low at None new h e = refl
unfixed_before low at (Some x) new h e = sym h ∙ e

pub loop-n-init : goal.loop-n-init
unfolding steps_from
loop-n-init g c =
    let begun = c.requires.begun in
    let s = c.args.system.now in
    let f = c.args.filling.now in
    let touched = c.args.touched.now in
    let reached = c.args.reached.now in
    let unfixed = λ (id : ℕ) (i : is_in id touched ≡ true). let at = at_in id touched i in subst (λ n. fixed_at f.fixed.items n ≡ None) at.2 (begun.unfixed at.0 at.1) in
    let unnoted = λ (x : ℕ) (r : is_in x reached ≡ true). let at = at_in x reached r in subst (λ n. fixed_at f.holds.items n ≡ None) at.2 (begun.unnoted at.0 at.1) in
    record {
      places = c.requires.places;
      kept = λ id x e. e;
      holds_kept = λ x off. refl;
      noted = λ x r. record {
        user = λ y h. absurd (none_some (sym (unnoted x r) ∙ h));
        met = λ y h. absurd (none_some (sym (unnoted x r) ∙ h));
        told = λ id y i e full. absurd (none_some (sym (unfixed id (user_there s touched reached c.requires.joined x id r i)) ∙ e));
        done = λ some id i. absurd (true≢false (sym (subst IsSome (unnoted x r) some)));
      };
      under = λ id x limit i e k. absurd (none_some (sym (unfixed id i) ∙ e));
      fixed_are = λ i h. sym (begun.unfixed i h);
      counted = begun.counted;
      levels = begun.levels;
      dated = begun.dated;
      floor = floor_zero _;
      looks = omega arith;
    }

-- with its keys dated, a max-min solve is at the level of its next step
at_low : (s : Sharing) (touched reached : List ℕ) → AreJoined s touched reached → (f : Filling) (keys : List (Option Key)) (n : ℕ) (low : Low) → HasPlaces s f → length keys ≡ length f.agenda →
    ((i : ℕ) → i < length touched → steps_from n s.capacities (flows_at s.slots touched) unfixed (flow_in s.slots (get_or touched i 0)) ≡ fixed_at f.fixed.items (get_or touched i 0)) → AreCounted s f.fixed.items touched f.left.items f.waiting.items (λ c. is_in c reached) → AreLevels reached f →
    AreDated reached (record f { agenda = keys }) → AreUnder s touched f → AreNoted s reached f → IsLow (Some low) (unfixed_limits s.slots f.fixed.items f.levels.items touched) (unfixed_bounds s.slots f.fixed.items touched) → AreTaken reached low (record f { agenda = keys }) → IsAtLevel s touched reached low (record f { agenda = keys })
at_low s touched reached joined f keys n low p same fixed_are counted levels dated under noted least taken =
    let state = steps_from n s.capacities (flows_at s.slots touched) unfixed in
    let are = of_each (λ id. state (flow_in s.slots id) ≡ fixed_at f.fixed.items id) touched fixed_are in
    record {
      joined = joined;
      places = record {
        sound = p.sound;
        fixed_len = p.fixed_len;
        holds_len = p.holds_len;
        left_len = p.left_len;
        waiting_len = p.waiting_len;
        levels_len = p.levels_len;
        stale_room = p.stale_room;
        slots = same ∙ p.slots;
      };
      above = λ id i none x k. above_least s f.fixed.items f.levels.items touched low.level least.0 id i none x (In-from_contains (limits_at s.slots f.levels.items id) x k);
      floor = least.1;
      taken = taken;
      counted = counted;
      dated = dated;
      fresh = fresh_at s touched reached joined f low.level state are counted levels least.0 under noted;
    }

pub is_last-requires : goal.is_last-requires
is_last-requires g c =
    let reached = c.args.reached.now in
    let f = c.loop-n.filling in
    let inv = c.loop-n.invariant in
    let out = c.date_all.ensures in
    at_low c.args.system.now c.args.touched.now reached c.requires.joined f c.date_all.new.agenda c.loop-n.n c.in-Some.low inv.places out.slots inv.fixed_are inv.counted inv.levels
    (dated_late reached f c.date_all.new.agenda c.is_late.result inv.dated
    (λ e x r. out.listed e x r ∙ ap₂ (λ (ws ls : List ℕ). key_where (get_or ws x 0) (get_or ls x 0)) c.deref.ensures.value c.deref-in-loop-n.ensures.value) out.others out.none)
    inv.under inv.noted c.in-Some.ensures.low c.in-Some.ensures.at

pub step-requires : goal.step-requires
step-requires g c =
    let reached = c.args.reached.now in
    let f = c.loop-n.filling in
    let inv = c.loop-n.invariant in
    let out = c.date_all.ensures in
    record {
      at =
          at_low c.args.system.now c.args.touched.now reached c.requires.joined f c.date_all.new.agenda c.loop-n.n c.in-Some.low inv.places out.slots inv.fixed_are inv.counted inv.levels
          (dated_late reached f c.date_all.new.agenda c.is_late.result inv.dated
          (λ e x r. out.listed e x r ∙ ap₂ (λ (ws ls : List ℕ). key_where (get_or ws x 0) (get_or ls x 0)) c.deref.ensures.value c.deref-in-loop-n.ensures.value) out.others out.none)
          inv.under inv.noted c.in-Some.ensures.low c.in-Some.ensures.at;
      levels = inv.levels;
    }

pub loop-n-preserved : goal.loop-n-preserved
loop-n-preserved g c =
    let s = c.args.system.now in
    let touched = c.args.touched.now in
    let reached = c.args.reached.now in
    let joined = c.requires.joined in
    let flows = flows_at s.slots touched in
    let f = c.loop-n.filling in
    let old = f.fixed.items in
    let new = c.step.new.filling in
    let levels = f.levels.items in
    let inv = c.loop-n.invariant in
    let low = c.in-Some.low.level in
    let stepped = of_each (λ f. IsStepped low (IsLeast (Some low) (limits_at s.slots levels f)) (fixed_at old f) (fixed_at new.fixed.items f)) touched c.step.ensures.stepped in
    let next = next_fixed s old touched (steps_from c.loop-n.n s.capacities flows unfixed) (λ f i. rows_once s joined.part.sound f)
    (of_each (λ f. steps_from c.loop-n.n s.capacities flows unfixed (flow_in s.slots f) ≡ fixed_at old f) touched inv.fixed_are) f.left.items f.waiting.items levels (λ x. is_in x reached) inv.counted
    inv.levels (covers_in (uses_at s.slots) touched reached joined.closed.covers) new.fixed.items low c.in-Some.ensures.low.0 stepped in
    let state = steps_from c.loop-n.n s.capacities flows unfixed in
    let are = of_each (λ f. state (flow_in s.slots f) ≡ fixed_at old f) touched inv.fixed_are in
    let out = c.step.ensures.count in
    let counted = out.counted (λ x. is_in x reached) inv.counted in
    let told = c.step.ensures.noted in
    let notes : NotesHolds reached low f new = record { others = told.others; may = told.may; taken = told.taken } in
    record {
      places = c.step.ensures.places;
      kept = λ id x e. c.step.ensures.kept id x (inv.kept id x e);
      holds_kept = λ x off. told.others x off ∙ inv.holds_kept x off;
      noted = noted_next s touched reached joined f low state are inv.counted inv.levels c.in-Some.ensures.low.0 inv.under new stepped inv.noted notes;
      under = under_next s touched reached joined f low state are inv.counted inv.levels c.in-Some.ensures.low.0 inv.under new stepped next counted c.step.ensures.levels;
      fixed_are = λ i h. ap (λ (k : Fixed). k (flow_in s.slots (get_or touched i 0))) (steps-next c.loop-n.n s.capacities flows unfixed) ∙ next (get_or touched i 0) (in_index touched i h);
      counted = counted;
      levels = c.step.ensures.levels;
      dated = c.step.ensures.dated;
      floor = floor_fewer c.in-Some.low.floor s old new.fixed.items touched (λ f i e. unfixed_before low (IsLeast (Some low) (limits_at s.slots levels f)) (fixed_at old f) (fixed_at new.fixed.items f) (stepped f i) e) c.in-Some.ensures.low.1;
      looks = omega (arith, inv.looks, out.looks);
    }

pub returns-in-None-clause-fixed : goal.returns-in-None-clause-fixed
returns-in-None-clause-fixed g c = λ i h.
    let s = c.args.system.now in
    let touched = c.args.touched.now in
    let reached = c.args.reached.now in
    let joined = c.requires.joined in
    let flows = flows_at s.slots touched in
    let f = c.loop-n.filling in
    let old = f.fixed.items in
    let levels = f.levels.items in
    let inv = c.loop-n.invariant in
    let none_left : unfixed_limits s.slots old levels touched ≡ [] = c.in-None.ensures.low in
    let id = get_or touched i 0 in
    let state = steps_from c.loop-n.n s.capacities flows unfixed in
    level_at s old touched c.loop-n.n id (omega arith) (inv.fixed_are i h) (λ none.
    let limit = (limited_from s.capacities flows (part_limits s touched joined.part) (flow_in s.slots id) (In-map (flow_in s.slots) touched id (in_index touched i h))).1 state in
    let same = limits_are s old touched state (λ f i. rows_once s joined.part.sound f) (of_each (λ f. state (flow_in s.slots f) ≡ fixed_at old f) touched inv.fixed_are) f.left.items f.waiting.items levels (λ x. is_in x reached) inv.counted
    inv.levels (covers_in (uses_at s.slots) touched reached joined.closed.covers) id (in_index touched i h) in
    let its : In limit.0 (limits_at s.slots levels id) = subst (In limit.0) same limit.1 in
    let part : In limit.0 (cond (is_none (fixed_at old id)) (limits_at s.slots levels id) []) = subst (λ (o : Option ℕ). In limit.0 (cond (is_none o) (limits_at s.slots levels id) [])) (sym none) its in
    subst (In limit.0) none_left (In-flat_map (λ f. cond (is_none (fixed_at old f)) (limits_at s.slots levels f) []) touched id limit.0 (in_index touched i h) part))

pub returns-clause-fixed : goal.returns-clause-fixed
returns-clause-fixed g c = λ i h.
    let s = c.args.system.now in
    let touched = c.args.touched.now in
    let flows = flows_at s.slots touched in
    let old = c.loop-n.filling.fixed.items in
    let id = get_or touched i 0 in
    let all : c.loop-n.n ≡ length flows = omega (arith, length-map touched (flow_in s.slots)) in
    level_at s old touched c.loop-n.n id (omega arith) (c.loop-n.invariant.fixed_are i h) (λ none.
    all_fixed (length flows) s.capacities flows unfixed (limited_from s.capacities flows (part_limits s touched c.requires.joined.part)) (count_by-le-length (λ f. true) flows) (flow_in s.slots id) (In-map (flow_in s.slots) touched id (in_index touched i h))
    (ap (λ k. steps_from k s.capacities flows unfixed (flow_in s.slots id)) (sym all) ∙ c.loop-n.invariant.fixed_are i h ∙ none))

pub lowest-requires : goal.lowest-requires
lowest-requires g c =
    let inv = c.loop-n.invariant in
    let p = inv.places in
    let out = c.date_all.ensures in
    record {
      joined = c.requires.joined;
      places = record {
        sound = p.sound;
        fixed_len = p.fixed_len;
        holds_len = p.holds_len;
        left_len = p.left_len;
        waiting_len = p.waiting_len;
        levels_len = p.levels_len;
        stale_room = p.stale_room;
        slots = out.slots ∙ p.slots;
      };
      counted = record { left_is = inv.counted.left_is; waiting_is = inv.counted.waiting_is };
      dated = dated_late c.args.reached.now c.loop-n.filling c.date_all.new.agenda c.is_late.result inv.dated
          (λ e x r. out.listed e x r ∙ ap₂ (λ (ws ls : List ℕ). key_where (get_or ws x 0) (get_or ls x 0)) c.deref.ensures.value c.deref-in-loop-n.ensures.value) out.others out.none;
      floor_is = inv.floor;
    }

pub returns-in-None-clause-idle : goal.returns-in-None-clause-idle
returns-in-None-clause-idle g c =
    let inv = c.loop-n.invariant in
    let out = c.date_all.ensures in
    let f = c.loop-n.filling in
    idle_then c.args.system.now c.args.touched.now c.args.reached.now (record f { agenda = c.date_all.new.agenda }) inv.counted
    (dated_late c.args.reached.now f c.date_all.new.agenda c.is_late.result inv.dated
    (λ e x r. out.listed e x r ∙ ap₂ (λ (ws ls : List ℕ). key_where (get_or ws x 0) (get_or ls x 0)) c.deref.ensures.value c.deref-in-loop-n.ensures.value) out.others out.none)
    (λ i h. subst IsSome (sym (returns-in-None-clause-fixed g c i h)) refl)

pub returns-clause-idle : goal.returns-clause-idle
returns-clause-idle g c =
    let inv = c.loop-n.invariant in
    idle_then c.args.system.now c.args.touched.now c.args.reached.now c.loop-n.filling inv.counted inv.dated (λ i h. subst IsSome (sym (returns-clause-fixed g c i h)) refl)

-- all visits are those of the beginning, and each row of a resource holds no more than those of its flows
all_looks : (s : Sharing) (touched reached : List ℕ) → AreJoined s touched reached → (f : Filling) (x y : ℕ) → y ≤ x + 2 * unfixed_uses s.slots f.fixed.items touched + untaken s reached f → y ≤ x + 3 * lengths (uses_at s.slots) touched
all_looks s touched reached joined f x y h =
    omega (arith, h, few_unfixed (uses_at s.slots) f.fixed.items touched, untaken_few s reached f, counts_twice_lem (uses_at s.slots) (users_on s.users) touched reached joined.part.sound.both joined.distinct joined.closed.covered)

pub returns-in-None-clause-looks : goal.returns-in-None-clause-looks
returns-in-None-clause-looks g c = all_looks c.args.system.now c.args.touched.now c.args.reached.now c.requires.joined c.args.filling.now c.args.steps.now c.loop-n.steps (omega (arith, c.loop-n.invariant.looks))

pub returns-clause-looks : goal.returns-clause-looks
returns-clause-looks g c = all_looks c.args.system.now c.args.touched.now c.args.reached.now c.requires.joined c.args.filling.now c.args.steps.now c.loop-n.steps (omega (arith, c.loop-n.invariant.looks))

-- ---- the last step is the next one, and leaves no flow unfixed
pub returns-then-is_last-clause-fixed : goal.returns-then-is_last-clause-fixed
returns-then-is_last-clause-fixed g c = λ i h.
    let s = c.args.system.now in
    let touched = c.args.touched.now in
    let reached = c.args.reached.now in
    let joined = c.requires.joined in
    let flows = flows_at s.slots touched in
    let f = c.loop-n.filling in
    let new = c.fix_rest.new.filling in
    let inv = c.loop-n.invariant in
    let low = c.in-Some.low.level in
    let state = steps_from c.loop-n.n s.capacities flows unfixed in
    let stepped = rest_steps s touched reached low (record f { agenda = c.date_all.new.agenda }) new (c.is_last.ensures c.if-is_last.true) c.fix_rest.ensures in
    let next = next_fixed s f.fixed.items touched state (λ f i. rows_once s joined.part.sound f)
    (of_each (λ f. state (flow_in s.slots f) ≡ fixed_at c.loop-n.filling.fixed.items f) touched inv.fixed_are) f.left.items f.waiting.items f.levels.items (λ x. is_in x reached) inv.counted
    inv.levels (covers_in (uses_at s.slots) touched reached joined.closed.covers) new.fixed.items low c.in-Some.ensures.low.0 (λ id i. stepped id (in_is id touched i)) in
    let id = get_or touched i 0 in
    level_at s new.fixed.items touched (c.loop-n.n + 1) id (omega (arith, c.loop-n-test.true))
    (ap (λ (k : Fixed). k (flow_in s.slots id)) (steps-next c.loop-n.n s.capacities flows unfixed) ∙ next id (in_index touched i h))
    (λ none. none_some (sym none ∙ c.fix_rest.ensures.fixed id (in_is id touched (in_index touched i h))))

pub returns-then-is_last-clause-noted : goal.returns-then-is_last-clause-noted
returns-then-is_last-clause-noted g c =
    let s = c.args.system.now in
    let touched = c.args.touched.now in
    let reached = c.args.reached.now in
    let joined = c.requires.joined in
    let f = c.loop-n.filling in
    let new = c.fix_rest.new.filling in
    let inv = c.loop-n.invariant in
    let low = c.in-Some.low.level in
    let state = steps_from c.loop-n.n s.capacities (flows_at s.slots touched) unfixed in
    let are = of_each (λ f. state (flow_in s.slots f) ≡ fixed_at c.loop-n.filling.fixed.items f) touched inv.fixed_are in
    let stepped = rest_steps s touched reached low (record f { agenda = c.date_all.new.agenda }) new (c.is_last.ensures c.if-is_last.true) c.fix_rest.ensures in
    let told = c.fix_rest.ensures.noted in
    let notes : NotesHolds reached low f new = record { others = told.others; may = told.may; taken = told.taken } in
    noted_next s touched reached joined f low state are inv.counted inv.levels c.in-Some.ensures.low.0 inv.under new (λ id i. stepped id (in_is id touched i)) inv.noted notes

pub returns-then-is_last-clause-looks : goal.returns-then-is_last-clause-looks
returns-then-is_last-clause-looks g c = all_looks c.args.system.now c.args.touched.now c.args.reached.now c.requires.joined c.args.filling.now c.args.steps.now c.loop-n.steps (omega (arith, c.loop-n.invariant.looks))
