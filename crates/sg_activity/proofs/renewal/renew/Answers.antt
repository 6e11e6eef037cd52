use Rattle.std.proofs.Common.{◌≡◌, ◌<◌, ◌+◌, ℕ, None, cond, length, length-set, get_or, take, subst, sym, ap, ◌∙◌, arith}
use Rattle.sg_base.specs.MarkSet.{is_in}
use Rattle.sg_heap.specs.Agenda.{key_at}
use Rattle.sg_activity_table.specs.Pool.{slot_at}
use Rattle.sg_activity.specs.kept.Renewal.{date_in}
use Rattle.sg_activity.specs.kept.State.{date_of}
use Rattle.sg_activity.proofs.Renewed.{dated_next}
use Rattle.sg_activity.proofs.renewal.renew.Goals as goal
use Rattle.sg_activity.proofs.renewal.renew.Goals.{in-Some, in-None}

pub date_anew-requires-clause-small : goal.date_anew-requires-clause-small
date_anew-requires-clause-small c = c.requires.small (get_or c.args.keys.now c.loop-key.key-index 0) c.in-Some.live (sym c.get.ensures ∙ c.in-Some.is)

pub loop-key-preserved : goal.loop-key-preserved
loop-key-preserved c =
    let inv = c.loop-key.invariant in
    let i = c.loop-key.key-index in
    let keys = c.args.keys.now in
    let slots = c.args.lives.now.slots in
    let key = get_or keys i 0 in
    let below : key < length slots = c.requires.below i 0 c.loop-key-test.true in
    let long : key < length c.loop-key.agenda = omega (arith, below, c.requires.agenda, inv.long) in
    elim c.match-get.branch [
      | in-Some w ↦
          let is : date_of w.in-Some.live ≡ date_in (slot_at slots key) = sym (ap date_in (sym c.get.ensures ∙ w.in-Some.is)) in
          let new = w.agenda-is ∙ w.date_anew.ensures in
          record {
            dates = subst (λ l. (k : ℕ) → key_at l k ≡ cond (is_in k (take (i + 1) keys)) (date_in (slot_at slots k)) (key_at c.args.agenda.now k)) (sym new) (dated_next c.args.agenda.now c.loop-key.agenda slots keys i (date_of w.in-Some.live) c.loop-key-test.true long is inv.dates);
            long = ap length new ∙ length-set c.loop-key.agenda key (date_of w.in-Some.live) ∙ inv.long;
          }
      | in-None w ↦
          let is : None ≡ date_in (slot_at slots key) = sym (ap date_in (sym c.get.ensures ∙ w.in-None.is)) in
          let new = w.agenda-is ∙ w.clear.ensures in
          record {
            dates = subst (λ l. (k : ℕ) → key_at l k ≡ cond (is_in k (take (i + 1) keys)) (date_in (slot_at slots k)) (key_at c.args.agenda.now k)) (sym new) (dated_next c.args.agenda.now c.loop-key.agenda slots keys i None c.loop-key-test.true long is inv.dates);
            long = ap length new ∙ length-set c.loop-key.agenda key None ∙ inv.long;
          }
    ]
