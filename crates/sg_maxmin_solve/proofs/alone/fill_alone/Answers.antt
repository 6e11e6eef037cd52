use Rattle.std.proofs.Common.{◌≡◌, ◌/◌, ℕ, zero, suc, ◌<◌, false, true≢false, cond, eqb, Option, None, Some, List, [], ◌∷◌, length, length-set, get_or, get_or-set_same, get_or-set_other, set, sym, ap, subst, ◌∙◌, arith}
use Rattle.std.specs.Vec.{with_items}
use Rattle.std.proofs.lemmas.List.{with_items_is}
use Rattle.sg_base.specs.MarkSet.{is_in}
use Rattle.sg_maxmin.specs.Fill.{level_of}
use Rattle.sg_maxmin.specs.Numbered.{flow_in, weight_at}
use Rattle.sg_maxmin_solve.specs.Filling.{fixed_at, flows_at}
use Rattle.sg_maxmin_solve.proofs.OneFlow.{alone_level, alone_noted, is_here}
use Rattle.sg_maxmin_solve.proofs.Joined.{touched_held}
use Rattle.sg_maxmin.proofs.Listed.{at_in}
use Rattle.sg_maxmin.proofs.Users.{held_below, weight_is}
use Rattle.sg_maxmin_solve.proofs.alone.fill_alone.Goals as goal

-- what holds of the one holds of each
of_one : (P : ℕ → Type 0) (x i : ℕ) → i < 1 → P x → P (get_or (x ∷ []) i 0)
of_one P x zero h p = p
of_one P x (suc i) h p = absurd (omega arith)

pub returns : goal.returns
returns c =
    let s = c.args.system.now in
    let f = c.args.filling.now in
    let flow = c.args.flow in
    let low = c.args.low in
    let reached = c.args.reached.now in
    let joined = c.requires.can.joined in
    let alone = c.requires.alone in
    let p = c.requires.can.places in
    let out = c.note_alone in
    let held = touched_held s (flow ∷ []) reached joined flow (is_here flow) in
    let weight : c.weight.result ≡ weight_at s.slots flow = weight_is s.slots flow c.weight.result held c.weight.ensures in
    let holds : (with_items f.holds out.new.holds).items ≡ out.new.holds = with_items_is f.holds out.new.holds (out.auto.holds ∙ c.deref_mut.ensures.len) in
    let below : flow < length f.fixed.items = omega (arith, held_below s.slots flow held, p.fixed_len) in
    let its : fixed_at (set f.fixed.items flow (Some low)) flow ≡ Some low = get_or-set_same f.fixed.items flow (Some low) None below in
    record {
      places = record {
        sound = p.sound;
        fixed_len = omega (arith, p.fixed_len, length-set f.fixed.items flow (Some low));
        holds_len = omega (arith, ap length holds, out.auto.holds, c.deref_mut.ensures.len, p.holds_len);
        left_len = p.left_len;
        waiting_len = p.waiting_len;
        levels_len = p.levels_len;
        stale_room = p.stale_room;
        slots = p.slots;
      };
      idle = record { waiting = c.requires.can.idle.waiting; keys = c.requires.can.idle.keys };
      kept = λ id x off e. get_or-set_other f.fixed.items flow id (Some low) None (λ q. true≢false (sym (is_here flow) ∙ subst (λ n. is_in n (flow ∷ []) ≡ false) q off)) ∙ e;
      holds_kept = λ x off. ap (λ xs. fixed_at xs x) holds ∙ out.ensures.others x off ∙ ap (λ (xs : List (Option ℕ)). fixed_at xs x) c.deref_mut.ensures.value;
      fixed = λ i h. of_one (λ n. fixed_at (set f.fixed.items flow (Some low)) n ≡ Some (level_of s.capacities (flows_at s.slots (flow ∷ [])) (flow_in s.slots n))) flow i (omega (arith, h))
          (its ∙ ap (λ x. Some x) (sym (alone_level s flow low reached joined alone)));
      noted = λ x r.
          let at = at_in x reached r in
          alone_noted s flow low reached joined alone (set f.fixed.items flow (Some low)) x r its (fixed_at (with_items f.holds out.new.holds).items x)
          (ap (λ xs. fixed_at xs x) holds ∙ subst (λ n. fixed_at out.new.holds n ≡ cond (eqb (get_or s.capacities n 0 / c.weight.result) low) (Some low) None) at.2 (out.ensures.noted at.0 at.1)
          ∙ ap (λ w. cond (eqb (get_or s.capacities x 0 / w) low) (Some low) None) weight);
    }
