use Rattle.std.specs.Prelude.{is_ok}
use Rattle.std.proofs.Common.{◌<◌, sym, ap, subst, ◌∙◌}
use Rattle.sg_base.specs.Limits.{IsCall}
use Rattle.sg_kernel_calls.specs.Calls.{answered}
use Rattle.sg_kernel_calls.specs.Known.{Known, after_call}
use Rattle.sg_kernel_calls.specs.Roads.{AreOver}
use Rattle.sg_kernel_calls.specs.Steps.{Step, result_of}
use Rattle.sg_kernel_calls.specs.World.{extent, MayCall}
use Rattle.sg_kernel_calls.specs.kept.Sound.{core_of, known_of}
use Rattle.sg_kernel.proofs.Unprofiled.{answered_same}
use Rattle.sg_kernel.proofs.kernel.Kernel.answer.Goals as goal

pub answer_call-requires-clause-roads : goal.answer_call-requires-clause-roads
answer_call-requires-clause-roads c = subst (λ (k : Known). AreOver k.setup.links c.args.router.now) (sym c.self.view_is) c.requires.roads

pub answer_call-requires-clause-answers : goal.answer_call-requires-clause-answers
answer_call-requires-clause-answers c = record {
  caller = subst (λ (k : Known). MayCall k.core c.args.actor.0) (sym c.self.view_is) c.requires.caller;
  call = subst (λ (k : Known). IsCall (extent k.setup) c.args.call) (sym c.self.view_is) c.requires.call;
  room = subst (λ (k : Known). 0 < k.room) (sym c.self.view_is) c.requires.room;
  whole = c.self.invariant;
}

pub returns-clause-step : goal.returns-clause-step
returns-clause-step c =
    let fields = c.self.inside.fields in
    c.answer_call.ensures.replies.known
    ∙ ap (λ (s : Step). after_call (is_ok c.answer_call.result) s (known_of fields)) (sym (answered_same fields.setup fields.profiles.profiles c.args.router.now (core_of fields) c.args.actor.0 c.args.call))
    ∙ ap (λ (k : Known). after_call (is_ok c.answer_call.result) (answered c.args.router.now k.setup k.core c.args.actor.0 c.args.call) k) c.self.view_is

pub returns-clause-result : goal.returns-clause-result
returns-clause-result c =
    let fields = c.self.inside.fields in
    c.answer_call.ensures.replies.result
    ∙ ap (λ (s : Step). result_of s.stop) (sym (answered_same fields.setup fields.profiles.profiles c.args.router.now (core_of fields) c.args.actor.0 c.args.call))
    ∙ ap (λ (k : Known). result_of (answered c.args.router.now k.setup k.core c.args.actor.0 c.args.call).stop) c.self.view_is
