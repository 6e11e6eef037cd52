use Rattle.std.proofs.Common.{◌≡◌, ◌-◌, ◌∙◌, ap, arith, cond, false, None, Some, refl, sym, true}
use Rattle.std.specs.Prelude.{◌&&◌, is_ok}
use Rattle.sg_kernel_calls.specs.Calls.{answered}
use Rattle.sg_kernel_calls.specs.World.{Core, state_of}
use Rattle.sg_script.proofs.Chains.{reads_none}
use Rattle.sg_actor_states.specs.Actors.{is_ended}
use Rattle.sg_engine.specs.Roles.{firsts_of}
use Rattle.sg_engine.specs.Run.{ask_step, at_world, created_by, in_world, is_ask, scene, ended_by}
use Rattle.sg_engine.specs.kept.Moments.{ending}
use Rattle.sg_engine.proofs.Calls.{broken_scripted, fits_scripted, not_unscripted, script_answers, scripted_fits, stepped}
use Rattle.sg_engine.proofs.Creating.{as_answered, as_asked, as_created, as_killed, free_ended}
use Rattle.sg_engine.proofs.Leaving.{answered_fits, answered_others}
use Rattle.sg_engine.proofs.Reaching.{matched_as, reached_as, reached_none}
use Rattle.sg_engine.proofs.Uncut.{exit_is, goes_so, stop_uncut, stops_so}
use Rattle.sg_engine.proofs.answers.answer_one.Goals as goal

pub returns-then-not-alive-clause-step : goal.returns-then-not-alive-clause-step
returns-then-not-alive-clause-step g c = λ taken world stands.
    let over : is_ended (state_of world.core c.args.made.actor.0) ≡ true =
    ap (λ (core : Core). is_ended (state_of core c.args.made.actor.0)) (sym stands.core) ∙ free_ended (state_of c.args.sim.now.kernel.core c.args.made.actor.0) c.requires.caller.free (sym c.alive.ensures ∙ c.if-not-alive.true) in
    reached_as _ (λ answers. at_world None world) _ (ending None) taken _ _ _ (λ answers. as_killed _ answers c.args.made.actor.0 c.args.made.call world over)
    (reached_none _ (ending None) taken _ _ world (reads_none _ c.requires.can.fits.begun) stands)

pub returns-in-Create-clause-step : goal.returns-in-Create-clause-step
returns-in-Create-clause-step g c = λ taken world stands.
    matched_as world.work c.answer_create.result _ _ _ taken _ _ _ (λ answers. as_created _ answers c.args.made.actor.0 c.args.made.call c.in-Create.target c.args.sim.now.kernel.core world stands.core (sym c.alive.ensures ∙ c.if-not-alive.false) c.in-Create.is)
    (c.answer_create.ensures.step _ c.requires.can.fits.begun taken world stands)

-- ---- the script answers
pub answer_ask-requires-clause-fits : goal.answer_ask-requires-clause-fits
answer_ask-requires-clause-fits g c = scripted_fits c.args.plan.now.script _ _ c.args.sim.now.script c.args.sim.now.kernel c.if-plan.true c.requires.can.fits

pub returns-in-Ask-clause-step : goal.returns-in-Ask-clause-step
returns-in-Ask-clause-step g c = λ taken world stands.
    let old = c.args.sim.now.kernel in
    let at = scene c.args.router.now old.setup (firsts_of c.args.plan.now.deployment.now) c.args.plan.now.script in
    script_answers c.args.plan.now.script _ (λ answers. ask_step old.setup answers c.args.made.actor.0 world) _ taken _ world _ _ c.args.sim.now.script c.answer_ask.new.script old c.answer_ask.new.kernel c.answer_ask.result c.if-plan.true
    (λ answers. as_asked at answers c.args.made.actor.0 c.args.made.call old.core world stands.core (sym c.alive.ensures ∙ c.if-not-alive.false) c.if-plan.true c.in-Ask.is)
    (c.answer_ask.ensures.step _ taken world) stands

pub returns-in-Ask-clause-fits : goal.returns-in-Ask-clause-fits
returns-in-Ask-clause-fits g c = fits_scripted c.args.plan.now.script _ _ c.answer_ask.new.script c.answer_ask.new.kernel c.if-plan.true c.answer_ask.ensures.fits

pub returns-in-Ask-clause-script : goal.returns-in-Ask-clause-script
returns-in-Ask-clause-script g c = record {
  reads = record { others = c.answer_ask.ensures.script.others; unscripted = λ isnt. not_unscripted c.args.plan.now.script c.if-plan.true isnt };
  roads = refl;
  unwritten = c.answer_ask.ensures.script.unwritten;
  cause = λ is. broken_scripted c.args.plan.now.script _ c.if-plan.true (c.answer_ask.ensures.script.cause is);
}

-- ---- the kernel answers, or stops
pub returns-in_err-answer-in_default-clause-step : goal.returns-in_err-answer-in_default-clause-step
returns-in_err-answer-in_default-clause-step g c = λ taken world stands.
    let old = c.args.sim.now.kernel in
    let at = scene c.args.router.now old.setup (firsts_of c.args.plan.now.deployment.now) c.args.plan.now.script in
    let none : created_by c.args.made.call ≡ None = grind arith in
    let other : (c.args.plan.now.script && is_ask c.args.made.call) ≡ false = grind arith in
    rw (exit_is (ended_by c.in_err-answer-in_default.field-0.0) c.from_residual.result c.from_residual.ensures.1, stop_uncut c.in_err-answer-in_default.field-0.0) (reached_as _ (λ answers. in_world world (answered c.args.router.now old.setup world.core c.args.made.actor.0 c.args.made.call)) _ (ending (Some (ended_by c.in_err-answer-in_default.field-0.0))) taken _ _ _
    (λ answers. as_answered at answers c.args.made.actor.0 c.args.made.call old.core world stands.core (sym c.alive.ensures ∙ c.if-not-alive.false) none other)
    (stepped _ taken _ _ _ old c.answer.new.self (old.room - cond (is_ok c.answer.result) 1 0) world (λ core. answered c.args.router.now old.setup core c.args.made.actor.0 c.args.made.call) (Some (ended_by c.in_err-answer-in_default.field-0.0)) c.requires.can.fits.begun stands c.answer.ensures.step
    (stops_so c.in_err-answer-in_default.field-0.0 (answered c.args.router.now old.setup old.core c.args.made.actor.0 c.args.made.call).stop c.in_err-answer-in_default.ensures.result)))

pub returns-in_err-answer-in_default-clause-fits : goal.returns-in_err-answer-in_default-clause-fits
returns-in_err-answer-in_default-clause-fits g c = answered_fits _ _ _ c.args.router.now c.args.sim.now.kernel c.answer.new.self c.args.made.actor.0 c.args.made.call _ c.requires.caller.is.from c.answer.ensures.step c.requires.can.fits

pub returns-in_err-answer-in_default-clause-others : goal.returns-in_err-answer-in_default-clause-others
returns-in_err-answer-in_default-clause-others g c = rw (exit_is (ended_by c.in_err-answer-in_default.field-0.0) c.from_residual.result c.from_residual.ensures.1, stop_uncut c.in_err-answer-in_default.field-0.0) (answered_others _ c.args.router.now c.args.sim.now c.answer.new.self c.args.made.actor.0 c.args.made.call _ c.requires.caller.is.from c.requires.can.manned c.answer.ensures.step)

pub returns-in_ok-answer-in_default-clause-step : goal.returns-in_ok-answer-in_default-clause-step
returns-in_ok-answer-in_default-clause-step g c = λ taken world stands.
    let old = c.args.sim.now.kernel in
    let at = scene c.args.router.now old.setup (firsts_of c.args.plan.now.deployment.now) c.args.plan.now.script in
    let none : created_by c.args.made.call ≡ None = grind arith in
    let other : (c.args.plan.now.script && is_ask c.args.made.call) ≡ false = grind arith in
    (reached_as _ (λ answers. in_world world (answered c.args.router.now old.setup world.core c.args.made.actor.0 c.args.made.call)) _ (ending (None)) taken _ _ _
    (λ answers. as_answered at answers c.args.made.actor.0 c.args.made.call old.core world stands.core (sym c.alive.ensures ∙ c.if-not-alive.false) none other)
    (stepped _ taken _ _ _ old c.answer.new.self (old.room - cond (is_ok c.answer.result) 1 0) world (λ core. answered c.args.router.now old.setup core c.args.made.actor.0 c.args.made.call) (None) c.requires.can.fits.begun stands c.answer.ensures.step
    (goes_so c.in_ok-answer-in_default.field-0 (answered c.args.router.now old.setup old.core c.args.made.actor.0 c.args.made.call).stop (c.in_ok-answer-in_default.ensures {u = tt}).result)))

pub returns-in_ok-answer-in_default-clause-fits : goal.returns-in_ok-answer-in_default-clause-fits
returns-in_ok-answer-in_default-clause-fits g c = answered_fits _ _ _ c.args.router.now c.args.sim.now.kernel c.answer.new.self c.args.made.actor.0 c.args.made.call _ c.requires.caller.is.from c.answer.ensures.step c.requires.can.fits

pub returns-in_ok-answer-in_default-clause-others : goal.returns-in_ok-answer-in_default-clause-others
returns-in_ok-answer-in_default-clause-others g c = (answered_others _ c.args.router.now c.args.sim.now c.answer.new.self c.args.made.actor.0 c.args.made.call _ c.requires.caller.is.from c.requires.can.manned c.answer.ensures.step)
