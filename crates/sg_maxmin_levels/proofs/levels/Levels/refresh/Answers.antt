use Rattle.std.proofs.Common.{◌+◌, ◌≤◌, length, max, refl, sym, subst, arith}
use Rattle.sg_maxmin.specs.Chained.{users_on}
use Rattle.sg_maxmin_levels.specs.Kept.{IsLevelAbove, WaitFrom}
use Rattle.sg_maxmin.specs.Numbered.{flow_in}
use Rattle.sg_maxmin_levels.proofs.Demand.{demand_holds_none_lem, parts_demand}
use Rattle.sg_maxmin_levels.proofs.Steps.{held_user}
use Rattle.sg_maxmin_levels.specs.Joined.{spare_looks}
use Rattle.sg_maxmin_levels.proofs.Joined.{first_fits, spare_known}
use Rattle.sg_maxmin_levels.proofs.levels.Levels.refresh.Goals as goal

pub has_slack-requires : goal.has_slack-requires
has_slack-requires g c = record { places = c.requires.at.settling.kept.places; resource = c.requires.at.resource }

pub put_to_rest-requires-clause-none : goal.put_to_rest-requires-clause-none
put_to_rest-requires-clause-none g c =
    let s = c.args.system.now in
    let n = c.args.resource in
    let kept = c.args.self.now in
    let sound = c.is_sound.ensures in
    let told = c.has_slack.ensures c.if-has_slack.true in
    let settling = c.requires.at.settling in
    record {
      at = c.requires.at;
      hold_is = demand_holds_none_lem s kept.levels.items n sound (λ id i. settling.written.within id (flow_in s.slots id) (held_user s sound n id i)) told.1
          (omega (arith, told.0, settling.kept.demands n, parts_demand s sound kept.parts.items kept.levels.items (λ id held. settling.parts id held refl) n));
    }

pub look_at-requires-clause-first : goal.look_at-requires-clause-first
look_at-requires-clause-first g c = record {
  level_is = subst (λ ls. IsLevelAbove c.args.system.now c.args.resource ls 0 c.in_ok-first.first.level) c.deref.ensures.value c.in_ok-first.ensures.level;
  least_is = subst (λ ls. WaitFrom ls 0 (users_on c.args.system.now.users c.args.resource) c.in_ok-first.first.least) c.deref.ensures.value c.in_ok-first.ensures.least;
  pass = record { all = c.in_ok-first.ensures.users.all; few = c.in_ok-looks.ensures.pass };
}

pub returns-then-has_slack-clause-looks : goal.returns-then-has_slack-clause-looks
returns-then-has_slack-clause-looks g c =
    let given = c.args.given in
    omega (arith, spare_known given.known given.row (length (users_on c.args.system.now.users c.args.resource)) given.ended given.spent c.requires.given)

pub returns-in_err-before-clause-looks : goal.returns-in_err-before-clause-looks
returns-in_err-before-clause-looks g c =
    let given = c.args.given in
    omega (arith, spare_known given.known given.row (length (users_on c.args.system.now.users c.args.resource)) given.ended given.spent c.requires.given)

pub returns-in_err-looks-clause-looks : goal.returns-in_err-looks-clause-looks
returns-in_err-looks-clause-looks g c =
    let given = c.args.given in
    let users = c.in_ok-first.ensures.users.all in
    omega (arith, first_fits given.known given.row (length (users_on c.args.system.now.users c.args.resource)) given.ended given.spent c.requires.given (omega (arith, c.in_ok-before.ensures.few, c.in_ok-before.ensures.pass)), c.in_ok-first.ensures.spent, users)

pub returns-clause-looks : goal.returns-clause-looks
returns-clause-looks g c =
    let given = c.args.given in
    let few = subst (λ u. given.spent + c.in_ok-looks.looks ≤ spare_looks (max given.known u) (max given.row u) given.ended) c.in_ok-first.ensures.users.all c.in_ok-looks.ensures.few in
    omega (arith, few, c.look_at.ensures.looks, c.in_ok-first.ensures.spent)

pub returns-in_err-left-clause-looks : goal.returns-in_err-left-clause-looks
returns-in_err-left-clause-looks g c =
    let given = c.args.given in
    let few = subst (λ u. given.spent + c.in_ok-looks.looks ≤ spare_looks (max given.known u) (max given.row u) given.ended) c.in_ok-first.ensures.users.all c.in_ok-looks.ensures.few in
    omega (arith, few, c.look_at.ensures.looks, c.in_ok-first.ensures.spent)

pub returns-clause-spent : goal.returns-clause-spent
returns-clause-spent g c =
    let given = c.args.given in
    let next = c.with_row.result in
    let few : next.spent ≤ spare_looks (max given.known c.in_ok-first.first.users) (max given.row c.in_ok-first.first.users) given.ended = omega (arith, c.in_ok-looks.ensures.few, c.with_row.ensures.spent, c.saturating_sub.ensures) in
    let a = subst (λ k. next.spent ≤ spare_looks k (max given.row c.in_ok-first.first.users) given.ended) (sym c.with_row.ensures.known) few in
    let b = subst (λ r. next.spent ≤ spare_looks next.known r given.ended) (sym c.with_row.ensures.row) a in
    record {
      told = omega (arith, c.with_row.ensures.spent, c.saturating_sub.ensures, c.in_ok-left.ensures.spent, c.in_ok-first.ensures.spent);
      few = subst (λ m. next.spent ≤ spare_looks next.known next.row m) (sym c.with_row.ensures.ended) b;
    }

pub returns-clause-known : goal.returns-clause-known
returns-clause-known g c =
    let users = c.in_ok-first.ensures.users.all in
    record {
      flows = omega (arith, c.with_row.ensures.known, users);
      row = omega (arith, c.with_row.ensures.row, users);
      ended = c.with_row.ensures.ended;
    }
