-- After a rate update each flow has its share of the whole.
use Rattle.std.proofs.Common.{◌≡◌, ℕ, zero, suc, ◌<◌, ◌^◌, ◌⊎◌, inl, inr, Bool, true, false, true≢false, cond, ◌||◌, ◌&&◌, not, eqb, eq-eqb, Option, None, Some, IsSome, is_some, option_map, List, [], ◌∷◌, length, get_or, refl, sym, ap, ap₂, subst, ◌∙◌, arith}
use Rattle.sg_base.specs.MarkSet.{is_in}
use Rattle.sg_maxmin.specs.Fill.{Flow, share_of}
use Rattle.sg_maxmin.specs.Sharing.{Sharing, IsSound, flow_at, held}
use Rattle.sg_maxmin.proofs.Held.{held_in}
use Rattle.sg_maxmin_levels.specs.declared.levels.Levels.{Levels}
use Rattle.sg_maxmin.specs.Held.{AreFilled}
use Rattle.sg_maxmin_levels.specs.Kept.{IsWithin, NotesChanged}
use Rattle.sg_maxmin.specs.Found.{PassAlong}
use Rattle.sg_maxmin.specs.Numbered.{bound_at}
use Rattle.sg_maxmin.proofs.HeldLevels.{held_limits}
use Rattle.sg_maxmin_solve.proofs.Starts.{share_fits}
use Rattle.sg_lazy.specs.RunningFlow.{RunningFlow, running_at, flows_in}
use Rattle.sg_lazy.specs.declared.settle.Pending.{Pending}
use Rattle.sg_lazy.specs.kept.Changes.{WritesRates, did_change, is_changed}
use Rattle.sg_lazy.specs.kept.Held.{IsRefilled, IsWithout, listed, running_of, running_in}
use Rattle.sg_lazy.specs.kept.Leveled.{AreLeveled, rate_at, rate_of}
use Rattle.sg_lazy.specs.kept.Solving.{AreMarkedWithin}
use Rattle.sg_lazy.proofs.Joining.{or_left, or_parts, or_right}
use Rattle.sg_lazy.proofs.Leveled.{flow_is, off_before, rate_same}
use Rattle.sg_lazy.proofs.Listed.{at_listed}
use Rattle.sg_lazy.proofs.Starting.{is_here}
use Rattle.sg_maxmin.proofs.Listed.{bool_cases, some_of, none_some, some_same}
use Rattle.sg_maxmin.proofs.Users.{flow_below, on_held}

-- what runs is the flow that is held, whatever its rate
pub flow_of_running : (slots : List (Option Flow)) (rates began marked ended : List ℕ) (id : ℕ) → option_map (λ (r : RunningFlow). r.flow) (running_of slots rates began marked ended id) ≡ cond (is_in id ended) None (flow_at slots id)
flow_of_running slots rates began marked ended id = from (is_in id ended) (flow_at slots id)
  where
    from : (b : Bool) (o : Option Flow) → option_map (λ (r : RunningFlow). r.flow) (cond b None (option_map (λ held. record { flow = held; rate = get_or rates id 0; began = is_in id began; marked = is_in id marked }) o)) ≡ cond b None o
    from true o = refl
    from false None = refl
    from false (Some flow) = refl

front : (a : Option RunningFlow) (o : Option Flow) (xs : List (Option RunningFlow)) (slots : List (Option Flow)) → option_map (λ (r : RunningFlow). r.flow) a ≡ o → flows_in xs ≡ held slots → flows_in (a ∷ xs) ≡ held (o ∷ slots)
front None None xs slots h r = r
front (Some a) (Some f) xs slots h r = ap₂ (λ f fs. f ∷ fs) (some_same a.flow f h) r
front None (Some f) xs slots h r = absurd (none_some h)
front (Some a) None xs slots h r = absurd (none_some (sym h))

flows_held : (n : ℕ) (f : ℕ → Option RunningFlow) (slots : List (Option Flow)) → length slots ≡ n → ((i : ℕ) → i < n → option_map (λ (r : RunningFlow). r.flow) (f i) ≡ flow_at slots i) → flows_in (listed n f) ≡ held slots
unfolding listed
flows_held zero f [] e h = refl
flows_held zero f (o ∷ slots) e h = absurd (omega (arith, e))
flows_held (suc n) f [] e h = absurd (omega (arith, e))
flows_held (suc n) f (o ∷ slots) e h = front (f 0) o (listed n (λ i. f (suc i))) slots (h 0 (omega arith)) (flows_held n (λ i. f (suc i)) slots (omega (arith, e)) (λ i l. h (suc i) (omega (arith, l))))

-- ---- a rate update: the flows that ended are gone
module _ (s t : Sharing) (rates began marked ended : List ℕ) (without : IsWithout s t ended) (sound : IsSound t) where
  abbrev running : List (Option RunningFlow)
  running = running_in s.slots rates began marked ended

  abbrev all : List Flow
  all = flows_in running

  -- what is held now is what ran before
  pub held_before : (id : ℕ) (flow : Flow) → flow_at t.slots id ≡ Some flow → (is_in id ended ≡ false) × (flow_at s.slots id ≡ Some flow)
  held_before id flow e = elim (bool_cases (is_in id ended)) [
    | inl q ↦ absurd (none_some (sym (without.slots id ∙ ap (λ b. cond b None (flow_at s.slots id)) q) ∙ e))
    | inr q ↦ (q, sym (without.slots id ∙ ap (λ b. cond b None (flow_at s.slots id)) q) ∙ e)
  ]

  pub held_runs : (id : ℕ) (flow : Flow) → flow_at t.slots id ≡ Some flow → running_at running id ≡ Some (record { flow = flow; rate = get_or rates id 0; began = is_in id began; marked = is_in id marked })
  held_runs id flow e =
      let b = held_before id flow e in
      at_listed (length s.slots) (running_of s.slots rates began marked ended) id None (flow_below s.slots id flow b.1) ∙ rw (b.0, b.1) refl

  pub runs_held : (id : ℕ) (r : RunningFlow) → running_at running id ≡ Some r → flow_at t.slots id ≡ Some r.flow
  runs_held id r at =
      let here = is_here s.slots rates began marked ended id r at in
      without.slots id ∙ ap (λ b. cond b None (flow_at s.slots id)) here.off ∙ here.held

  -- what runs is what is held now
  pub all_held : all ≡ held t.slots
  all_held = flows_held (length s.slots) (running_of s.slots rates began marked ended) t.slots without.slots_len (λ i h. flow_of_running s.slots rates began marked ended i ∙ sym (without.slots i))

  -- what moved is held, or ended
  pub moved_cases : ((id : ℕ) → is_in id marked ≡ true → IsSome (flow_at s.slots id)) → (pending : Pending) → pending.marked.members ≡ marked → (z : Levels) → ((p q : ℕ → Bool) → PassAlong t p q → AreMarkedWithin p q pending → IsWithin p q z) →
      (id : ℕ) → is_in id z.moved.members ≡ true → (IsSome (flow_at t.slots id)) ⊎ (is_in id ended ≡ true)
  moved_cases marked_are pending same z within id on =
      let p : ℕ → Bool = λ k. is_some (flow_at t.slots k) || is_in k ended in
      let q : ℕ → Bool = λ r. true in
      let around : PassAlong t p q = record {
        uses = λ k r h i. refl;
        users = λ r k h i. let u = on_held t sound r k i in or_left (is_some (flow_at t.slots k)) (is_in k ended) (ap {B = Bool} is_some u.1);
      } in
      let w : IsWithin p q z = within p q around (record {
        flows = λ k m. elim (bool_cases (is_in k ended)) [
          | inl e ↦ or_right (is_some (flow_at t.slots k)) (is_in k ended) e
          | inr off ↦ or_left (is_some (flow_at t.slots k)) (is_in k ended) (subst IsSome (sym (without.slots k ∙ ap (λ b. cond b None (flow_at s.slots k)) off)) (marked_are k (subst (λ xs. is_in k xs ≡ true) same m)))
        ];
        resources = λ r m. refl;
      }) in
      or_parts (is_some (flow_at t.slots id)) (is_in id ended) (w.moved id on)

  pub moved_held : (id : ℕ) → (IsSome (flow_at t.slots id)) ⊎ (is_in id ended ≡ true) → is_in id ended ≡ false → IsSome (flow_at t.slots id)
  moved_held id (inl some) off = some
  moved_held id (inr e) off = absurd (true≢false (sym e ∙ off))

  module _ (z : Levels) (filled : AreFilled t z.levels.items) where
    level_gives : (id : ℕ) (flow : Flow) → flow_at t.slots id ≡ Some flow → rate_at t.slots z.levels.items id ≡ share_of t.capacities (held t.slots) flow
    level_gives id flow e = ap₂ rate_of (flow_is t.slots id flow e) (filled id flow e)

    pub rate_fits : ((c : ℕ) → get_or t.capacities c 0 < 2 ^ 64) → (id : ℕ) → IsSome (flow_at t.slots id) → bound_at t.slots id ≡ None → rate_at t.slots z.levels.items id < 2 ^ 64
    rate_fits fit id some free =
        let f = some_of (flow_at t.slots id) some in
        let bound : f.0.bound ≡ None = sym (ap (λ (x : Flow). x.bound) (flow_is t.slots id f.0 f.1)) ∙ free in
        subst (λ n. n < 2 ^ 64) (sym (level_gives id f.0 f.1)) (share_fits t.capacities (held t.slots) f.0 (held_limits t sound) (held_in t.slots id f.0 f.1) bound (λ c i. fit c))

    module _ (a : Levels) (resources rates' changed : List ℕ) (was : AreLeveled s a rates began marked resources) (notes : NotesChanged s t a z) (written : WritesRates z.moved.members began ended (rate_at t.slots z.levels.items) rates rates' changed) (there : (id : ℕ) → is_in id z.moved.members ≡ true → is_in id ended ≡ false → IsSome (flow_at t.slots id)) where
      -- each rate is that of the flow's level
      pub rate_is : (id : ℕ) (flow : Flow) → flow_at t.slots id ≡ Some flow → get_or rates' id 0 ≡ rate_at t.slots z.levels.items id
      rate_is id flow e = elim (bool_cases (is_in id z.moved.members)) [
        | inl on ↦ written.rates id on (held_before id flow e).0
        | inr off ↦
            let k = notes.same id flow e off in
            written.others id off ∙ was.rates_are id flow k.0 (off_before id a.moved.members z.moved.members (notes.grows id) off) ∙ sym (rate_same s.slots t.slots a.levels.items z.levels.items id (e ∙ sym k.0) k.1)
      ]

      pub refilled : IsRefilled s t began marked ended rates rates' changed
      refilled = record {
        without = without;
        sound = sound;
        rates_are = λ id flow e. rate_is id flow e ∙ level_gives id flow e ∙ ap (λ caps. share_of caps (held t.slots) flow) without.capacities ∙ ap (λ fs. share_of s.capacities fs flow) (sym all_held);
        changed_are = λ id flow e. elim (bool_cases (is_in id z.moved.members)) [
          | inl on ↦
              let off = (held_before id flow e).0 in
              written.changed_are id ∙ ap (λ b. b && is_changed began ended rates (rate_at t.slots z.levels.items) id) on ∙ ap (λ b. not b && did_change began rates (rate_at t.slots z.levels.items) id) off ∙ ap (λ r. is_in id began || not (eqb (get_or rates id 0) r)) (sym (written.rates id on off))
          | inr off ↦
              let begun = off_before id began z.moved.members (λ b. notes.grows id (was.begun id b)) off in
              written.changed_are id ∙ ap (λ b. b && is_changed began ended rates (rate_at t.slots z.levels.items) id) off ∙ sym (ap (λ b. b || not (eqb (get_or rates id 0) (get_or rates' id 0))) begun ∙ ap not (eq-eqb (get_or rates id 0) (get_or rates' id 0) (sym (written.others id off))))
        ];
        unchanged = λ id none. written.changed_are id ∙ elim (bool_cases (is_in id z.moved.members)) [
          | inr off ↦ ap (λ b. b && is_changed began ended rates (rate_at t.slots z.levels.items) id) off
          | inl on ↦ ap (λ b. b && is_changed began ended rates (rate_at t.slots z.levels.items) id) on ∙ elim (bool_cases (is_in id ended)) [
            | inl gone ↦ ap (λ b. not b && did_change began rates (rate_at t.slots z.levels.items) id) gone
            | inr off ↦ let f = some_of (flow_at t.slots id) (there id on off) in absurd (none_some (sym none ∙ f.1))
          ]
        ];
        once = written.once;
      }
