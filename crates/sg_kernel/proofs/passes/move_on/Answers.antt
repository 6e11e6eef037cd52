use Rattle.std.proofs.Common.{◌≡◌, ◌-◌, cond, Err, sym, ap, ◌∙◌, arith}
use Rattle.sg_activity.specs.Doing.{Doing}
use Rattle.sg_activity.specs.Underway.{is_running}
use Rattle.sg_actor_states.specs.States.{ActorStates}
use Rattle.sg_kernel_calls.specs.declared.simulation_state.Fields.{Fields}
use Rattle.sg_kernel_calls.specs.declared.stop.Stop.TheVariants.{Budget, Deadlock, Starved}
use Rattle.sg_kernel_calls.specs.Known.{after}
use Rattle.sg_kernel_calls.specs.Steps.{Step, all_of, result_of}
use Rattle.sg_kernel.specs.kept.Coming.{coming}
use Rattle.sg_kernel_calls.specs.kept.Sound.{core_of, known_of, setup_in}
use Rattle.sg_kernel_calls.proofs.Each.{after_stop}
use Rattle.sg_kernel_calls.proofs.Replied.{used_err}
use Rattle.sg_kernel.proofs.Nexts.{some_moved, up_to_phases}
use Rattle.sg_kernel.proofs.Passed.{pass_goes, pass_none, pass_used, passing_began, whole_passed}
use Rattle.sg_kernel.proofs.passes.move_on.Goals as goal

pub returns-in_default-clause-known : goal.returns-in_default-clause-known
returns-in_default-clause-known c =
    let fields = c.args.fields.now in
    let known = known_of fields in
    sym (ap (λ s. after s known) (pass_none (setup_in fields) (core_of fields) c.in_default.ensures) ∙ after_stop known (cond (is_running fields.doing.under) Starved Deadlock))

pub returns-in_default-clause-result : goal.returns-in_default-clause-result
returns-in_default-clause-result c =
    let fields = c.args.fields.now in
    ap Err c.none_next.ensures ∙ sym (ap (λ (s : Step). result_of s.stop) (pass_none (setup_in fields) (core_of fields) c.in_default.ensures))

pub returns-in_err-check_budget-clause-known : goal.returns-in_err-check_budget-clause-known
returns-in_err-check_budget-clause-known c =
    let fields = c.args.fields.now in
    let known = known_of fields in
    sym (ap (λ s. after s known) (pass_used (setup_in fields) (core_of fields) (c.in-Some.date - fields.doing.under.date) c.in-Some.ensures.in_time c.in_err-check_budget.ensures.used) ∙ after_stop known Budget)

pub returns-in_err-check_budget-clause-result : goal.returns-in_err-check_budget-clause-result
returns-in_err-check_budget-clause-result c =
    let fields = c.args.fields.now in
    used_err fields c.in_err-check_budget.field-0.0 c.from_residual.result c.from_residual.ensures.1 c.in_err-check_budget.ensures
    ∙ sym (ap (λ (s : Step). result_of s.stop) (pass_used (setup_in fields) (core_of fields) (c.in-Some.date - fields.doing.under.date) c.in-Some.ensures.in_time c.in_err-check_budget.ensures.used))

pub advance_to-requires-clause-from : goal.advance_to-requires-clause-from
advance_to-requires-clause-from c = c.in-Some.ensures.from

pub advance_to-requires-clause-to : goal.advance_to-requires-clause-to
advance_to-requires-clause-to c = up_to_phases c.args.fields.now c.in-Some.date c.in-Some.ensures

pub advance_to-requires-clause-small : goal.advance_to-requires-clause-small
advance_to-requires-clause-small c =
    let sound = c.requires.whole.sound in
    omega (arith, c.in-Some.ensures.soon, sound.within, sound.budgeted, (c.in_ok-check_budget.ensures {u = tt}))

pub come-stopped-requires : goal.come-stopped-requires
come-stopped-requires c = record {
  passing = passing_began c.args.fields.now c.advance_to.new.self c.begin_pass.new.self c.in-Some.date c.in-Some.ensures c.advance_to.ensures c.begin_pass.ensures (c.in_ok-check_budget.ensures {u = tt}) c.requires.whole;
  some = some_moved c.args.fields.now c.advance_to.new.self c.begin_pass.new.self c.in-Some.date c.requires.whole.timely c.in-Some.ensures c.advance_to.ensures;
  budget = (c.in_ok-check_budget.ensures {u = tt});
}

pub returns-clause-known : goal.returns-clause-known
returns-clause-known c =
    let fields = c.args.fields.now in
    let span = c.in-Some.date - fields.doing.under.date in
    let stopped = c.come-stopped.new.fields in
    let mid : ActorStates → Fields = λ states. record fields { doing = c.advance_to.new.self; states = states } in
    let moved : Doing → Fields = λ doing. record fields { doing = doing } in
    ap (λ (s : ActorStates). known_of (record stopped { states = s })) c.end_pass.ensures
    ∙ c.come-stopped.ensures.passes.known
    ∙ ap (λ (s : ActorStates). after (all_of (coming (mid s)) (core_of (mid s))) (known_of (mid s))) c.begin_pass.ensures
    ∙ ap (λ (d : Doing). after (all_of (coming (moved d)) (core_of (moved d))) (known_of (moved d))) c.advance_to.ensures
    ∙ ap (λ s. after s (known_of fields)) (sym (pass_goes (setup_in fields) (core_of fields) span c.in-Some.ensures.in_time (c.in_ok-check_budget.ensures {u = tt})))

pub returns-clause-result : goal.returns-clause-result
returns-clause-result c =
    let fields = c.args.fields.now in
    let span = c.in-Some.date - fields.doing.under.date in
    let mid : ActorStates → Fields = λ states. record fields { doing = c.advance_to.new.self; states = states } in
    let moved : Doing → Fields = λ doing. record fields { doing = doing } in
    c.come-stopped.ensures.passes.result
    ∙ ap (λ (s : ActorStates). result_of (all_of (coming (mid s)) (core_of (mid s))).stop) c.begin_pass.ensures
    ∙ ap (λ (d : Doing). result_of (all_of (coming (moved d)) (core_of (moved d))).stop) c.advance_to.ensures
    ∙ ap (λ (s : Step). result_of s.stop) (sym (pass_goes (setup_in fields) (core_of fields) span c.in-Some.ensures.in_time (c.in_ok-check_budget.ensures {u = tt})))

pub returns-clause-whole : goal.returns-clause-whole
returns-clause-whole c =
    let fields = c.args.fields.now in
    let stopped = c.come-stopped.new.fields in
    let made = c.come-stopped.ensures in
    let at : stopped.doing.under.date ≡ c.in-Some.date = omega (arith, made.passes.date, ap (λ (d : Doing). d.under.date) c.advance_to.ensures, c.in-Some.ensures.from) in
    whole_passed fields stopped c.end_pass.new.self c.in-Some.date c.in-Some.ensures at made.events c.end_pass.ensures made.passes.passing
