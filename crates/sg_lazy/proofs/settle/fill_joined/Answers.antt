use Rattle.std.proofs.Common.{◌≡◌, ◌≢◌, ℕ, ◌+◌, ◌<◌, ◌≤◌, ◌||◌, inl, inr, true, Option, IsSome, is_none, List, length, get_or, All, AllPairs, refl, ap, subst, sym, arith}
use Rattle.std.proofs.lemmas.List.Elements.{All-get_or}
use Rattle.sg_base.specs.MarkSet.{is_in}
use Rattle.sg_maxmin.specs.Sharing.{flow_at, uses_at}
use Rattle.sg_maxmin_levels.specs.Kept.{FlowsStayWithin, IsWithin}
use Rattle.sg_maxmin.specs.Found.{IsFound, PassAlong}
use Rattle.sg_maxmin.specs.Numbered.{all_uses}
use Rattle.sg_maxmin_solve.proofs.Notes.{few_looks}
use Rattle.sg_lazy.proofs.Joining.{along_all, count_le, or_left, or_right, refilled, uses_le}
use Rattle.sg_maxmin.proofs.Listed.{in_at, bool_cases}
use Rattle.sg_lazy.proofs.settle.fill_joined.Goals as goal

pub fill-requires-clause-marked : goal.fill-requires-clause-marked
fill-requires-clause-marked g c =
    let list = c.members.result.now in
    let on : (i : ℕ) → i < length list → is_in (get_or list i 0) c.args.pending.now.marked.members ≡ true = λ i h. subst (λ xs. is_in (get_or list i 0) xs ≡ true) c.members.ensures.members (in_at (get_or list i 0) list i h refl) in
    record {
      room = c.requires.ended_room;
      below = λ i h. c.requires.below (get_or list i 0) (on i h);
      held = λ i h off. c.requires.held (get_or list i 0) (on i h) off;
    }

pub fill-requires-clause-resources : goal.fill-requires-clause-resources
fill-requires-clause-resources g c = subst (λ (n : ℕ). All (λ x. x < n) c.members-2.result.now) c.requires.resources c.members-2.ensures.in_range

pub refill-requires-clause-joined : goal.refill-requires-clause-joined
refill-requires-clause-joined g c =
    let s = c.args.system.now in
    subst (λ (xs : List ℕ). PassAlong s (λ id. is_in id xs) (λ r. is_in r c.filled.result.resources.now)) (sym c.filled.ensures.flows)
    (subst (λ (ys : List ℕ). PassAlong s (λ id. is_in id c.fill.new.self.component.touched.members) (λ r. is_in r ys)) (sym c.filled.ensures.resources) c.fill.ensures.joined.along)

pub refill-requires-clause-within : goal.refill-requires-clause-within
refill-requires-clause-within g c =
    let s = c.args.system.now in
    let pending = c.args.pending.now in
    let joined = c.fill.ensures.joined in
    let touched = c.fill.new.self.component.touched.members in
    let reached = c.fill.new.self.component.reached.members in
    let levels = c.args.solver.now.levels in
    let p : ℕ → _ = λ id. is_in id touched || is_none (flow_at s.slots id) in
    let q : ℕ → _ = λ r. is_in r reached in
    let w : IsWithin p q levels = c.requires.within p q (along_all s (λ id. is_in id touched) q joined.along) (record {
      flows = λ id m. elim (bool_cases (is_in id pending.ended.members)) [
        | inl e ↦ or_right (is_in id touched) (is_none (flow_at s.slots id)) (ap is_none (c.requires.gone id e))
        | inr off ↦ or_left (is_in id touched) (is_none (flow_at s.slots id)) (joined.flows_there id (subst (λ xs. is_in id xs ≡ true) (sym c.members.ensures.members) m) off)
      ];
      resources = λ r m. joined.resources_there r (subst (λ xs. is_in r xs ≡ true) (sym c.members-2.ensures.members) m);
    }) in
    subst (λ (xs : List ℕ). IsWithin (λ id. is_in id xs || is_none (flow_at s.slots id)) (λ r. is_in r c.filled.result.resources.now) levels) (sym c.filled.ensures.flows)
    (subst (λ (ys : List ℕ). IsWithin p (λ r. is_in r ys) levels) (sym c.filled.ensures.resources) w)

pub refill-requires-clause-found : goal.refill-requires-clause-found
refill-requires-clause-found g c =
    let s = c.args.system.now in
    let z = c.fill.new.self in
    let f = c.filled.ensures in
    subst (λ (xs : List ℕ). IsFound s xs c.filled.result.resources.now c.filled.result.levels.now c.filled.result.holds.now) (sym f.flows)
    (subst (λ (ys : List ℕ). IsFound s z.component.touched.members ys c.filled.result.levels.now c.filled.result.holds.now) (sym f.resources)
    (subst (λ (ls : List (Option ℕ)). IsFound s z.component.touched.members z.component.reached.members ls c.filled.result.holds.now) (sym f.levels)
    (subst (λ (hs : List (Option ℕ)). IsFound s z.component.touched.members z.component.reached.members z.filling.fixed.items hs) (sym f.holds) c.fill.ensures.found)))

pub returns-clause-solved : goal.returns-clause-solved
returns-clause-solved g c =
    let s = c.args.system.now in
    let out = c.refill.ensures in
    let touched = c.fill.new.self.component.touched.members in
    let least = c.fill.ensures.joined.least in
    let within : FlowsStayWithin s touched c.args.solver.now.levels c.refill.new.self = subst (λ (xs : List ℕ). FlowsStayWithin s xs c.args.solver.now.levels c.refill.new.self) c.filled.ensures.flows out.within in
    record {
      between = out.between;
      filled = out.levels;
      quiet = out.none_active;
      none_stale = out.none_stale;
      changed = record { grows = out.moved.grows; same = λ id f e off. (e, out.moved.kept id off) };
      within = λ p q along marked.
          let pass = least p q along (λ id m off. marked.flows id (subst (λ xs. is_in id xs ≡ true) c.members.ensures.members m)) (λ r m. marked.resources r (subst (λ xs. is_in r xs ≡ true) c.members-2.ensures.members m)) in
          within p q along (λ id i. pass.0 id i) (c.requires.within p q along marked);
      ready = c.fill.ensures.ready;
    }

pub returns-clause-looks : goal.returns-clause-looks
returns-clause-looks g c = λ p q along marked.
    let s = c.args.system.now in
    let touched = c.fill.new.self.component.touched.members in
    let found = c.fill.ensures.found in
    let pass = c.fill.ensures.joined.least p q along (λ id m off. marked.flows id (subst (λ xs. is_in id xs ≡ true) c.members.ensures.members m)) (λ r m. marked.resources r (subst (λ xs. is_in r xs ≡ true) c.members-2.ensures.members m)) in
    let each : (i : ℕ) → i < length touched → IsSome (flow_at s.slots (get_or touched i 0)) × (p (get_or touched i 0) ≡ true) = λ i h. (All-get_or (λ id. IsSome (flow_at s.slots id)) touched i 0 h found.flows_held, pass.0 (get_or touched i 0) (in_at (get_or touched i 0) touched i h refl)) in
    let once : AllPairs (λ a b. a ≢ b) touched = subst (AllPairs (λ a b. a ≢ b)) c.touched.ensures.members c.touched.ensures.once in
    let spent : c.refill.new.steps ≤ c.fill.new.steps + all_uses s.slots touched = omega (arith, c.refill.ensures.looks, ap (all_uses s.slots) c.filled.ensures.flows) in
    refilled (length touched) _ (all_uses s.slots touched) _ c.args.steps.now c.fill.new.steps c.refill.new.steps (count_le s.slots p touched once each) (uses_le s.slots p touched once each) (omega (arith, c.fill.ensures.looks, few_looks (uses_at s.slots) touched)) spent
