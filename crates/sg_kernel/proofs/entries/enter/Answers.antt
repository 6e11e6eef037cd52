use Rattle.std.proofs.Common.{◌<◌, ◌^◌, length, sym, subst, rules}
use Rattle.std.specs.Option.{IsSomeAnd}
use Rattle.sg_profile.specs.Profiles.{IsEntry}
use Rattle.sg_platform_rows.specs.declared.network.Network.{Network}
use Rattle.sg_kernel.specs.kept.Coming.{IsApplied}
use Rattle.sg_kernel.proofs.Entering.{entered_known, entered_passing, entered_rows, set_keeps, with_entry}
use Rattle.sg_kernel.proofs.Leaving.{leaves_same}
use Rattle.sg_kernel.proofs.entries.enter.Goals as goal

pub apply-requires-clause-entry : goal.apply-requires-clause-entry
apply-requires-clause-entry c =
    let fields = c.args.fields.now in
    let sound = c.requires.passing.sound in
    subst (λ n. IsEntry n (length fields.doing.under.capacities.links) c.args.entry) (sym sound.hosts_counted) (subst (λ n. IsEntry fields.setup.hosts n c.args.entry) (sym sound.links_counted) c.requires.due.exists)

pub step-requires : goal.step-requires
step-requires c = subst (λ o. IsSomeAnd o (λ date. date < 10 ^ 33)) (sym c.requires.due.next.date_is) c.requires.passing.small

pub returns-clause-enters : goal.returns-clause-enters
returns-clause-enters c =
    let fields = c.args.fields.now in
    let applied = subst (λ (n : Network). IsApplied n c.args.entry fields.doing c.apply.new.doing) c.network.ensures.value c.apply.ensures in
    record {
      known = entered_known fields c.apply.new.doing c.step.new.self c.args.entry c.requires.due applied c.step.ensures;
      passing = entered_passing fields c.apply.new.doing c.step.new.self c.args.entry c.requires.due applied c.step.ensures c.requires.passing;
      due =
          let keeps = set_keeps fields.setup.network c.args.entry fields.doing c.apply.new.doing applied in
          leaves_same fields (with_entry fields c.apply.new.doing c.step.new.self) keeps.date keeps.tasks c.apply.ensures.due;
      events = search rules;
    }

pub returns-clause-rows : goal.returns-clause-rows
returns-clause-rows c =
    let fields = c.args.fields.now in
    let keeps = set_keeps c.network.result c.args.entry fields.doing c.apply.new.doing c.apply.ensures in
    entered_rows fields c.apply.new.doing c.step.new.self c.args.entry c.requires.due keeps.date c.step.ensures c.requires.passing.timely
