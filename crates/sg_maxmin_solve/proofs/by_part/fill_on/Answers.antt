use Rattle.std.proofs.Common.{◌≡◌, ℕ, true, ap, ◌∙◌, subst, sym}
use Rattle.sg_base.specs.MarkSet.{MarkSet, is_in}
use Rattle.sg_maxmin.specs.Chained.{users_on}
use Rattle.sg_maxmin.specs.Walk.{next_on, user_of}
use Rattle.sg_maxmin_solve.proofs.Filled.{fills_free, fills_none, marked_pass}
use Rattle.sg_maxmin.proofs.Walked.{goes, walk_from, walked}
use Rattle.sg_maxmin.proofs.Listed.{mark_there, none_some}
use Rattle.sg_maxmin_solve.proofs.by_part.fill_on.Goals as goal

pub reach_free-requires-clause-free : goal.reach_free-requires-clause-free
reach_free-requires-clause-free g c =
    let s = c.args.system.now in
    let row = users_on s.users c.args.resource in
    let walk = walk_from next_on user_of s.uses row c.first_on.result c.first_on.ensures.leads c.first_on.ensures.few in
    sym (walked next_on user_of s.uses row 0 c.first_on.result walk (λ i e. none_some (sym c.in-None.is ∙ e)))

pub returns-then-contains : goal.returns-then-contains
returns-then-contains g c = record {
  on = fills_none c.args.system.now c.args.component.now c.args.filling.now c.args.steps.now c.requires.filled;
  there = sym c.contains.ensures ∙ c.if-contains.true;
  least = λ p q along start t r. (t, r);
}

pub returns-in-None : goal.returns-in-None
returns-in-None g c =
    let out = c.reach_free.ensures in
    let new = c.reach_free.new.component in
    let old = c.args.component.now in
    record {
      on = fills_free c.args.system.now old new c.reach_free.new.filling c.args.resource c.args.steps.now out.filled out.touched out.reached;
      there = ap (λ (m : MarkSet). is_in c.args.resource m.members) out.reached ∙ mark_there c.args.resource old.reached.members;
      least = λ p q along start t r. (
        subst (λ (m : MarkSet). (x : ℕ) → is_in x m.members ≡ true → p x ≡ true) (sym out.touched) t,
        marked_pass q c.args.resource old.reached.members new.reached.members (ap (λ (m : MarkSet). m.members) out.reached) start r,
      );
    }

pub fill_from-requires-clause-used : goal.fill_from-requires-clause-used
fill_from-requires-clause-used g c =
    let s = c.args.system.now in
    (goes next_on user_of s.uses (users_on s.users c.args.resource) 0 c.in-Some.field-0 c.first_on.result c.in-Some.is c.first_on.ensures.leads).1.less
