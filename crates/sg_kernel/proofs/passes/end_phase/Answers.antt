use Rattle.std.proofs.Common.{◌≡◌, ◌-◌, ◌*◌, Some, ap, set, subst, sym, ◌∙◌, arith, rules}
use Rattle.std.proofs.lemmas.Grind.{common_steps}
use Rattle.sg_activity.specs.Doing.{Doing, ended_first}
use Rattle.sg_activity.specs.Task.{next_phase, phase_after}
use Rattle.sg_activity_table.specs.declared.kinds.PhaseKind.TheVariants as phase
use Rattle.sg_mailbox.specs.declared.owners.How.TheVariants as how
use Rattle.sg_mailbox.specs.Owners.{Owned}
use Rattle.sg_kernel_calls.proofs.Meets.{AreBusy, busy_set}
use Rattle.sg_kernel_calls.proofs.PostsKept.{last_phase, meeting_gone}
use Rattle.sg_kernel.proofs.passes.end_phase.Goals as goal

pub answer_owners-requires-clause-able : goal.answer_owners-requires-clause-able
answer_owners-requires-clause-able c = record { sound = grind (arith, common_steps); small = search rules }

pub returns-in-Latency : goal.returns-in-Latency
returns-in-Latency c = record {
  known = search rules;
  passing =
      let old = c.args.fields.now in
      let due = c.requires.due in
      let place = c.args.phase.serial.0 - 1 in
      let m = c.requires.passing.meeting in
      let flow = record due.task { kind = phase.Flow; left = due.task.bytes * 1000000000 } in
      let next : phase_after (Some due.task) ≡ Some flow = ap (λ kind. next_phase kind due.task) (due.kind ∙ c.in-Latency.is) in
      let tasks : c.finish.new.self.under.tasks ≡ set old.doing.under.tasks place (Some flow) = ap (λ (d : Doing). d.under.tasks) c.finish.ensures ∙ ap (λ l. (ended_first l old.doing).under.tasks) due.first ∙ ap (set old.doing.under.tasks place) (ap phase_after due.at ∙ next) in
      record {
        sound = grind (arith, common_steps);
        roomy = grind (arith, common_steps);
        timely = search rules;
        limited = grind (arith, common_steps);
        meeting = record {
          posts = m.posts;
          idle = search rules;
          busy = subst (AreBusy old.whose.whose) (sym tasks) (busy_set old.whose.whose old.doing.under.tasks place flow (omega (arith, due.from, due.to)) m.busy);
          asked = m.asked;
          awaited = m.awaited;
        };
        held = search rules;
        passing = search rules;
        small = search rules;
      };
  due = search rules;
  date = search rules;
  events = search rules;
}

pub returns-in_default : goal.returns-in_default
returns-in_default c = record {
  known = search rules;
  passing =
      let old = c.args.fields.now in
      let due = c.requires.due in
      let place = c.args.phase.serial.0 - 1 in
      let last = last_phase due.task (λ e. c.in_default.not-Latency (sym due.kind ∙ e)) in
      let over = ap (λ (d : Doing). d.under.tasks) c.finish.ensures ∙ ap (λ l. (ended_first l old.doing).under.tasks) due.first ∙ ap (set old.doing.under.tasks place) (ap phase_after due.at ∙ last) in
      let m = c.requires.passing.meeting in
      c.answer_owners.ensures.keeps.passing (record {
        sound = grind (arith, common_steps);
        roomy = grind (arith, common_steps);
        timely = search rules;
        limited = grind (arith, common_steps);
        meeting = meeting_gone old c.take-whose.new.self c.finish.new.self how.Done place due.task due.at (ap (λ (o : Owned). o.whose) c.take-whose.ensures.is) over m;
        held = search rules;
        passing = search rules;
        small = search rules;
      });
  due = search rules;
  date = search rules;
  events = search rules;
}
