-- A connected component is a part of the whole: its flows have by themselves the levels that they have among all
-- flows.
use Rattle.std.proofs.Common.{◌≡◌, ◌≢◌, ℕ, ◌-◌, ◌*◌, ◌/◌, inl, inr, Bool, true, false, cond, ◌&&◌, is_none, IsSome, List, length, get_or, sum_by, AllPairs, slice_index, refl, sym, ap, ap₂, subst, ◌∙◌, arith}
use Rattle.std.proofs.lemmas.List.Elements.{All-get_or}
use Rattle.sg_base.specs.MarkSet.{is_in}
use Rattle.sg_maxmin.specs.Chained.{times, users_on}
use Rattle.sg_maxmin.specs.Fill.{Flow, is_on, level_of}
use Rattle.sg_maxmin.specs.Fixing.{Fixed, resource_level, flow_limits, share_of_fixed, taken, waiting}
use Rattle.sg_maxmin.specs.Sharing.{Sharing, flow_at, held, uses_at}
use Rattle.sg_maxmin.proofs.Held.{held_in}
use Rattle.sg_maxmin.proofs.Leveled.{IsLeveled, Limited, below, share_of_leveled}
use Rattle.sg_maxmin.proofs.Members.{In, In-map, In-map_back}
use Rattle.sg_maxmin.proofs.OneStep.{limit_bound, limit_cases, limit_level}
use Rattle.sg_maxmin.proofs.Proved.{limited_from}
use Rattle.sg_maxmin.proofs.Same.{IsPart, leveled_same}
use Rattle.sg_maxmin.proofs.Sums.{sum_by_same}
use Rattle.sg_maxmin.specs.Numbered.{flow_in, row_level}
use Rattle.sg_maxmin.proofs.HeldLevels.{held_limits}
use Rattle.sg_maxmin.proofs.OnRow.{by_row, row_tells_lem, sum_weighed}
use Rattle.sg_maxmin_solve.specs.Filling.{AreJoined, flows_at}
use Rattle.sg_maxmin_solve.proofs.Rows.{into, uses_in_row}
use Rattle.sg_maxmin_solve.proofs.Starts.{part_limits}
use Rattle.sg_maxmin_solve.proofs.Stepped.{sum_by-map}
use Rattle.sg_maxmin.proofs.Listed.{at_in, bool_cases, same_in, some_of, times-once}
use Rattle.sg_maxmin.proofs.Users.{flow_in_is, held_below, in_is, is_in_In, on_below, on_held, rows_once}

-- ---- in a part a flow has the level that it has in the whole
and_cond : (a b : Bool) (n : ℕ) → cond (a && b) n 0 ≡ cond a (cond b n 0) 0
and_cond true b n = refl
and_cond false b n = refl

level_part : (caps : List ℕ) (part whole : List Flow) → IsPart part whole → (a : Fixed) (f : Flow) (c : ℕ) → In f part → In c f.uses → resource_level caps part a c ≡ resource_level caps whole a c
unfolding resource_level taken waiting
level_part caps part whole is a f c i u =
    ap₂ (λ t w. (slice_index caps c - t) / w)
    (is.alone f i c u (λ g. share_of_fixed g (a g)))
    (simp and_cond (is.alone f i c u (λ g. cond (is_none (a g)) g.weight 0)))

limits_part : (caps : List ℕ) (part whole : List Flow) → IsPart part whole → (a : Fixed) (f : Flow) (l : ℕ) → In f part → In l (flow_limits caps whole a f) → In l (flow_limits caps part a f)
limits_part caps part whole is a f l i m =
    elim (limit_cases caps whole a f l m) [
      | inl e ↦ subst (λ w. In w (flow_limits caps part a f)) e.2 (limit_bound caps part a f e.0 e.1)
      | inr r ↦ subst (λ w. In w (flow_limits caps part a f)) (level_part caps part whole is a f r.0 i r.1 ∙ r.2) (limit_level caps part a f r.0 r.1)
    ]

limits_whole : (caps : List ℕ) (part whole : List Flow) → IsPart part whole → (a : Fixed) (f : Flow) (l : ℕ) → In f part → In l (flow_limits caps part a f) → In l (flow_limits caps whole a f)
limits_whole caps part whole is a f l i m =
    elim (limit_cases caps part a f l m) [
      | inl e ↦ subst (λ w. In w (flow_limits caps whole a f)) e.2 (limit_bound caps whole a f e.0 e.1)
      | inr r ↦ subst (λ w. In w (flow_limits caps whole a f)) (sym (level_part caps part whole is a f r.0 i r.1) ∙ r.2) (limit_level caps whole a f r.0 r.1)
    ]

leveled_part : (caps : List ℕ) (part whole : List Flow) → IsPart part whole → (p : Flow → ℕ) → IsLeveled caps whole p → IsLeveled caps part p
leveled_part caps part whole is p lp = record {
  met = λ f i. limits_part caps part whole is (below (p f) p) f (p f) i (lp.met f (is.inside f i));
  above = λ f i t under l m. lp.above f (is.inside f i) t under l (limits_whole caps part whole is (below t p) f l i m);
}

level_of_part : (caps : List ℕ) (part whole : List Flow) → Limited caps part → Limited caps whole → IsPart part whole → (f : Flow) → In f part → level_of caps part f ≡ level_of caps whole f
level_of_part caps part whole few many is f i =
    leveled_same caps part (level_of caps part) (level_of caps whole) (share_of_leveled caps part few) (leveled_part caps part whole is (level_of caps whole) (share_of_leveled caps whole many)) f i

none_times : (a b k : ℕ) → k ≡ 0 → a * k ≡ b * k
none_times a b k z = rw z (omega arith)

one_time : (xs : List ℕ) (x : ℕ) → AllPairs (λ a b. a ≢ b) xs → is_in x xs ≡ true → times x xs ≡ 1
one_time xs x once i = times-once xs x once ∙ ap {B = ℕ} (λ b. cond b 1 0) i

module _ (s : Sharing) (touched reached : List ℕ) (joined : AreJoined s touched reached) where
  -- the users of a reached resource are touched
  pub user_there : (c id : ℕ) → is_in c reached ≡ true → is_in id (users_on s.users c) ≡ true → is_in id touched ≡ true
  user_there c id r i = into (users_on s.users c) touched id (joined.closed.covered c r) i

  pub touched_held : (id : ℕ) → is_in id touched ≡ true → IsSome (flow_at s.slots id)
  touched_held id i = let at = at_in id touched i in subst (λ n. IsSome (flow_at s.slots n)) at.2 (All-get_or (λ id. IsSome (flow_at s.slots id)) touched at.0 0 at.1 joined.part.held)

  weighed : (h : Flow → ℕ) (c : ℕ) → is_in c reached ≡ true → (id : ℕ) →
      times id touched * cond (is_on c (flow_in s.slots id)) (h (flow_in s.slots id)) 0 ≡ times id (users_on s.users c) * cond (is_on c (flow_in s.slots id)) (h (flow_in s.slots id)) 0
  weighed h c r id =
      let on = is_on c (flow_in s.slots id) in
      let k = cond on (h (flow_in s.slots id)) 0 in
      elim (bool_cases on) [
        | inr e ↦ none_times (times id touched) (times id (users_on s.users c)) k (ap (λ b. cond b (h (flow_in s.slots id)) 0) e)
        | inl e ↦
            let user = same_in c id (uses_at s.slots id) (users_on s.users c) (sym (joined.part.sound.both id c)) e in
            ap (λ n. n * k) (one_time touched id joined.once (user_there c id r user) ∙ sym (joined.part.sound.both id c ∙ one_time (uses_at s.slots id) c (rows_once s joined.part.sound id) e))
      ]

  -- whatever is summed up on a reached resource, the touched flows have all of it
  sum_touched : (h : Flow → ℕ) (c : ℕ) → is_in c reached ≡ true → sum_by (λ g. cond (is_on c g) (h g) 0) (flows_at s.slots touched) ≡ sum_by (λ g. cond (is_on c g) (h g) 0) (held s.slots)
  sum_touched h c r =
      let sound = joined.part.sound in
      let row = users_on s.users c in
      let k : ℕ → ℕ = λ id. cond (is_on c (flow_in s.slots id)) (h (flow_in s.slots id)) 0 in
      sum_by-map (λ g. cond (is_on c g) (h g) 0) (flow_in s.slots) touched
      ∙ sum_weighed (length s.slots) k row touched (on_below s sound c) (λ i l. held_below s.slots (get_or touched i 0) (All-get_or (λ id. IsSome (flow_at s.slots id)) touched i 0 l joined.part.held)) (weighed h c r)
      ∙ sum_by_same k (λ id. h (flow_in s.slots id)) row
      (λ id i.
      let f = on_held s sound c id (in_is id row i) in
      ap (λ b. cond b (h (flow_in s.slots id)) 0) (uses_in_row s.slots id c f.0 f.1 f.2))
      ∙ sym (by_row s sound h c)

  reached_by : (id c : ℕ) → In id touched → In c (uses_at s.slots id) → is_in c reached ≡ true
  reached_by id c i u = into (uses_at s.slots id) reached c (joined.closed.covers id (in_is id touched i)) (in_is c (uses_at s.slots id) u)

  is_part : IsPart (flows_at s.slots touched) (held s.slots)
  is_part = record {
    inside = λ f i.
        let b = In-map_back (flow_in s.slots) touched f i in
        let k = some_of (flow_at s.slots b.0) (touched_held b.0 (in_is b.0 touched b.1)) in
        subst (λ g. In g (held s.slots)) (sym (flow_in_is s.slots b.0 k.0 k.1) ∙ b.2) (held_in s.slots b.0 k.0 k.1);
    alone = λ f i c u h.
        let b = In-map_back (flow_in s.slots) touched f i in
        sum_touched h c (reached_by b.0 c b.1 (subst (λ (g : Flow). In c g.uses) (sym b.2) u));
  }

  -- the level among the touched flows is that in the whole
  pub level_whole : (id : ℕ) → is_in id touched ≡ true → level_of s.capacities (flows_at s.slots touched) (flow_in s.slots id) ≡ level_of s.capacities (held s.slots) (flow_in s.slots id)
  level_whole id i =
      level_of_part s.capacities (flows_at s.slots touched) (held s.slots) (limited_from s.capacities (flows_at s.slots touched) (part_limits s touched joined.part))
      (limited_from s.capacities (held s.slots) (held_limits s joined.part.sound)) is_part (flow_in s.slots id) (In-map (flow_in s.slots) touched id (is_in_In id touched i))

  -- a reached resource is at its level among the touched flows
  pub row_is : (state : Fixed) (c : ℕ) → is_in c reached ≡ true → row_level (slice_index s.capacities c) s.slots (λ id. state (flow_in s.slots id)) (users_on s.users c) ≡ resource_level s.capacities (flows_at s.slots touched) state c
  unfolding resource_level taken waiting
  row_is state c r =
      sym (row_tells_lem s state c joined.part.sound)
      ∙ sym (ap₂ (λ t w. (slice_index s.capacities c - t) / w) (sum_touched (λ g. share_of_fixed g (state g)) c r) (simp and_cond (sum_touched (λ g. cond (is_none (state g)) g.weight 0) c r)))
