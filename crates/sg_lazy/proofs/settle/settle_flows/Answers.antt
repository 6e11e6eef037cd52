use Rattle.std.proofs.Common.{◌≡◌, ℕ, ◌+◌, ◌<◌, ◌^◌, inl, inr, Bool, true, false, true≢false, cond, None, Some, IsSome, List, [], length, get_or, refl, sym, ap, subst, ◌∙◌, arith}
use Rattle.std.specs.Vec.{with_items}
use Rattle.std.proofs.lemmas.List.{with_items_is}
use Rattle.sg_base.specs.MarkSet.{MarkSet, is_in}
use Rattle.sg_maxmin.specs.Fill.{Flow}
use Rattle.sg_maxmin.specs.Sharing.{uses_at, flow_at}
use Rattle.sg_maxmin_levels.specs.Kept.{IsWithin}
use Rattle.sg_maxmin_solve.specs.Component.{lengths}
use Rattle.sg_lazy.specs.kept.Changes.{WritesRates}
use Rattle.sg_lazy.specs.kept.Held.{IsWithout}
use Rattle.sg_lazy.specs.kept.Leveled.{RowsPass, rate_at}
use Rattle.sg_lazy.proofs.Idle.{leveled_none, refilled_none}
use Rattle.sg_lazy.proofs.Leveled.{notes_on, pending_within, ready_on, still_leveled}
use Rattle.sg_lazy.proofs.Looks.{along, close, marked_within, passes, within_work}
use Rattle.sg_lazy.proofs.Settled.{moved_cases, moved_held, rate_fits, rate_is, refilled}
use Rattle.sg_maxmin.proofs.Users.{held_below}
use Rattle.sg_lazy.proofs.settle.settle_flows.Goals as goal

pub end_all-requires-clause-between : goal.end_all-requires-clause-between
end_all-requires-clause-between g c = c.requires.leveled.between

pub solve-requires : goal.solve-requires
solve-requires g c =
    let s = c.args.system.now in
    let t = c.end_all.new.system in
    let pending = c.args.pending.now in
    let ended = pending.ended.members in
    let without : IsWithout s t ended = subst (λ (e : List ℕ). IsWithout s t e) c.members.ensures.members c.end_all.ensures.without in
    let caps = ap length without.capacities in
    record {
      between = c.end_all.ensures.between;
      ready = ready_on c.args.solver.now.parts (length s.slots) (length s.capacities) (length t.slots) (length t.capacities) without.slots_len caps c.requires.room.ready;
      ended_room = omega (arith, c.requires.room.ended, without.slots_len);
      below = λ id m. let h = held_below s.slots id (c.requires.lazy.marked_are id m) in omega (arith, h, without.slots_len);
      held = λ id m off. subst IsSome (sym (without.slots id ∙ ap (λ b. cond b None (flow_at s.slots id)) off)) (c.requires.lazy.marked_are id m);
      gone = λ id e. without.slots id ∙ ap (λ b. cond b None (flow_at s.slots id)) e;
      resources = c.mark_active.ensures.room ∙ c.requires.room.resources ∙ sym caps;
      within = λ p q around all. pending_within c.args.solver.now.levels c.end_all.new.levels pending.marked.members pending.resources.members c.mark_active.new.resources.members p q c.requires.leveled.within (λ p q pass. c.end_all.ensures.within p q (λ i h r on. pass r)) c.mark_active.ensures.marked all.flows all.resources;
    }

pub write_rates-requires-clause-ratable : goal.write_rates-requires-clause-ratable
write_rates-requires-clause-ratable g c = λ id on.
    let s = c.args.system.now in
    let t = c.end_all.new.system in
    let pending = c.args.pending.now in
    let rates = c.args.rated.now.rates.items in
    let began = pending.began.members in
    let marked = pending.marked.members in
    let ended = pending.ended.members in
    let resources = pending.resources.members in
    let without : IsWithout s t ended = subst (λ (e : List ℕ). IsWithout s t e) c.members.ensures.members c.end_all.ensures.without in
    let sound = c.is_sound.ensures in
    let a = c.args.solver.now.levels in
    let z = c.solve.new.solver.levels in
    let out = c.solve.ensures.solved in
    let cases = moved_cases s t rates began marked ended without sound c.requires.lazy.marked_are (record pending { resources = c.mark_active.new.resources }) refl z out.within in
    let held : is_in id ended ≡ false → IsSome (flow_at t.slots id) = moved_held s t rates began marked ended without sound id (cases id on) in
    let fit : (k : ℕ) → get_or t.capacities k 0 < 2 ^ 64 = λ k. subst (λ caps. get_or caps k 0 < 2 ^ 64) (sym without.capacities) (c.requires.leveled.fit k) in
    record {
      below = elim (cases id on) [
        | inl some ↦ held_below t.slots id some
        | inr e ↦ let h = held_below s.slots id (c.requires.lazy.ended_are id e) in omega (arith, h, without.slots_len)
      ];
      began = omega (arith, c.requires.room.began, without.slots_len);
      ended = omega (arith, c.requires.room.ended, without.slots_len);
      places = out.between.kept.places.levels;
      held = held;
      fits = λ off free. rate_fits s t rates began marked ended without sound z out.filled fit id (held off) free;
    }

pub returns-clause-refilled : goal.returns-clause-refilled
returns-clause-refilled g c =
    let s = c.args.system.now in
    let t = c.end_all.new.system in
    let pending = c.args.pending.now in
    let rates = c.args.rated.now.rates.items in
    let began = pending.began.members in
    let marked = pending.marked.members in
    let ended = pending.ended.members in
    let resources = pending.resources.members in
    let without : IsWithout s t ended = subst (λ (e : List ℕ). IsWithout s t e) c.members.ensures.members c.end_all.ensures.without in
    let sound = c.is_sound.ensures in
    let a = c.args.solver.now.levels in
    let z = c.solve.new.solver.levels in
    let out = c.solve.ensures.solved in
    let cases = moved_cases s t rates began marked ended without sound c.requires.lazy.marked_are (record pending { resources = c.mark_active.new.resources }) refl z out.within in
    let rates' = (with_items c.args.rated.now.rates c.write_rates.new.rates).items in
    let kept : rates' ≡ c.write_rates.new.rates = with_items_is c.args.rated.now.rates c.write_rates.new.rates (c.write_rates.auto.rates ∙ c.deref_mut.ensures.len) in
    let changed = c.write_rates.new.changed.members in
    let given : ℕ → ℕ = rate_at t.slots z.levels.items in
    let written : WritesRates z.moved.members began ended given rates rates' changed =
    subst (λ (rs : List ℕ). WritesRates z.moved.members began ended given rates rs changed) (sym kept)
    (subst (λ (rs : List ℕ). WritesRates z.moved.members began ended given rs c.write_rates.new.rates changed) c.deref_mut.ensures.value c.write_rates.ensures.written) in
    let notes = notes_on s t t a c.end_all.new.levels z c.end_all.ensures.changed out.changed in
    let there : (id : ℕ) → is_in id z.moved.members ≡ true → is_in id ended ≡ false → IsSome (flow_at t.slots id) = λ id on off. moved_held s t rates began marked ended without sound id (cases id on) off in
    refilled s t rates began marked ended without sound z out.filled a resources rates' changed c.requires.leveled notes written there

pub returns-clause-leveled : goal.returns-clause-leveled
returns-clause-leveled g c =
    let s = c.args.system.now in
    let t = c.end_all.new.system in
    let pending = c.args.pending.now in
    let rates = c.args.rated.now.rates.items in
    let began = pending.began.members in
    let marked = pending.marked.members in
    let ended = pending.ended.members in
    let resources = pending.resources.members in
    let without : IsWithout s t ended = subst (λ (e : List ℕ). IsWithout s t e) c.members.ensures.members c.end_all.ensures.without in
    let sound = c.is_sound.ensures in
    let a = c.args.solver.now.levels in
    let z = c.solve.new.solver.levels in
    let out = c.solve.ensures.solved in
    let cases = moved_cases s t rates began marked ended without sound c.requires.lazy.marked_are (record pending { resources = c.mark_active.new.resources }) refl z out.within in
    let rates' = (with_items c.args.rated.now.rates c.write_rates.new.rates).items in
    let kept : rates' ≡ c.write_rates.new.rates = with_items_is c.args.rated.now.rates c.write_rates.new.rates (c.write_rates.auto.rates ∙ c.deref_mut.ensures.len) in
    let changed = c.write_rates.new.changed.members in
    let given : ℕ → ℕ = rate_at t.slots z.levels.items in
    let written : WritesRates z.moved.members began ended given rates rates' changed =
    subst (λ (rs : List ℕ). WritesRates z.moved.members began ended given rates rs changed) (sym kept)
    (subst (λ (rs : List ℕ). WritesRates z.moved.members began ended given rs c.write_rates.new.rates changed) c.deref_mut.ensures.value c.write_rates.ensures.written) in
    let notes = notes_on s t t a c.end_all.new.levels z c.end_all.ensures.changed out.changed in
    let there : (id : ℕ) → is_in id z.moved.members ≡ true → is_in id ended ≡ false → IsSome (flow_at t.slots id) = λ id on off. moved_held s t rates began marked ended without sound id (cases id on) off in
    let forgot = c.forget_moved.ensures in
    let end = c.forget_moved.new.self in
    let rated : (id : ℕ) (f : Flow) → flow_at t.slots id ≡ Some f → get_or rates' id 0 ≡ rate_at t.slots end.levels.items id = λ id f e. rate_is s t rates began marked ended without sound z out.filled a resources rates' changed c.requires.leveled notes written there id f e ∙ ap (λ ls. rate_at t.slots ls id) (sym forgot.levels) in
    let nothing : (p q : ℕ → Bool) → IsWithin p q end = λ p q. record {
      active = λ r e. absurd (true≢false (sym e ∙ ap (λ (m : MarkSet). is_in r m.members) forgot.active ∙ out.quiet r));
      moved = λ id e. absurd (true≢false (sym e ∙ ap (is_in id) forgot.none));
      stale = λ id e. absurd (true≢false (sym e ∙ ap (λ (m : MarkSet). is_in id m.members) forgot.stale ∙ ap (is_in id) out.none_stale));
    } in
    still_leveled t end rates' [] [] [] (forgot.between t out.between) nothing rated (λ k. subst (λ caps. get_or caps k 0 < 2 ^ 64) (sym without.capacities) (c.requires.leveled.fit k)) refl refl refl

pub returns-clause-looks : goal.returns-clause-looks
returns-clause-looks g c =
    let s = c.args.system.now in
    let t = c.end_all.new.system in
    let pending = c.args.pending.now in
    let rates = c.args.rated.now.rates.items in
    let began = pending.began.members in
    let marked = pending.marked.members in
    let ended = pending.ended.members in
    let resources = pending.resources.members in
    let without : IsWithout s t ended = subst (λ (e : List ℕ). IsWithout s t e) c.members.ensures.members c.end_all.ensures.without in
    let sound = c.is_sound.ensures in
    let are = c.requires.lazy.ended_are in
    let stays : (p q : ℕ → Bool) → RowsPass q (uses_at s.slots) ended → IsWithin p q c.args.solver.now.levels → IsWithin p q c.end_all.new.levels = subst (λ (e : List ℕ). (p q : ℕ → Bool) → RowsPass q (uses_at s.slots) e → IsWithin p q c.args.solver.now.levels → IsWithin p q c.end_all.new.levels) c.members.ensures.members c.end_all.ensures.within in
    let p = passes s t rates began marked ended resources without sound are in
    let q = close s t rates began marked ended resources without sound are in
    let all = marked_within s t rates began marked ended resources without sound are c.requires.lazy.marked_are c.args.solver.now.levels c.end_all.new.levels _ pending.resources c.requires.leveled stays refl c.mark_active.ensures refl in
    within_work s t rates began marked ended resources without sound are c.args.steps.now c.end_all.new.steps c.solve.new.steps (c.end_all.ensures.looks ∙ ap (λ e. c.args.steps.now + lengths (uses_at s.slots) e) c.members.ensures.members)
    (c.solve.ensures.looks p q (along s t rates began marked ended resources without sound are) all)

-- ---- nothing changed
pub returns-then-is_settled-clause-refilled : goal.returns-then-is_settled-clause-refilled
returns-then-is_settled-clause-refilled g c =
    let pending = c.args.pending.now in
    let none = c.is_settled.ensures c.if-is_settled.true in
    refilled_none c.args.system.now c.args.rated.now.rates.items pending.began.members pending.marked.members pending.ended.members pending.resources.members c.clear.new.self.members none.began none.marked none.ended none.changed (ap (λ (m : MarkSet). m.members) c.clear.ensures) c.requires.lazy

pub returns-then-is_settled-clause-leveled : goal.returns-then-is_settled-clause-leveled
returns-then-is_settled-clause-leveled g c =
    let pending = c.args.pending.now in
    let none = c.is_settled.ensures c.if-is_settled.true in
    leveled_none c.args.system.now c.args.solver.now.levels c.args.rated.now.rates.items pending.began.members pending.marked.members pending.resources.members none.began none.marked none.changed c.requires.leveled
