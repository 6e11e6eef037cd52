use Rattle.std.proofs.Common.{◌≡◌, ◌++◌, ◌∷◌, [], get_or, rules, ap, sym, subst, ◌∙◌}
use Rattle.sg_actor.specs.Roles.{actor_number}
use Rattle.sg_actor.specs.kept.Tape.{FitActorsFrom}
use Rattle.sg_actor.proofs.Tapes.{words_more, fit_more}
use Rattle.sg_actor.proofs.tape_context.push_actors.Goals as goal

pub loop-actor-preserved : goal.loop-actor-preserved
loop-actor-preserved c =
    let actor = get_or c.args.actors.now c.loop-actor.actor-index (record { 0 = 0 }) in
    let pushed : c.push.new.self.items ≡ c.loop-actor.words.items ++ actor_number actor ∷ [] = search rules in
    record {
      all = pushed ∙ (ap (λ l. l ++ actor_number actor ∷ []) c.loop-actor.invariant.all ∙ words_more c.args.words.now.items c.args.actors.now c.loop-actor.actor-index (record { 0 = 0 }) (search rules));
      fit = subst (FitActorsFrom _) (sym pushed) (fit_more _ c.loop-actor.words.items (actor_number actor) c.loop-actor.invariant.fit (search rules));
    }
