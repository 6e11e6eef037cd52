use Rattle.std.proofs.Common.{◌≡◌, ◌+◌, ◌∙◌, sym, ap, ℕ, List, take, None, Ok}
use Rattle.sg_script.specs.Answer.{judgement_of}
use Rattle.sg_script.specs.Line.{Judgement}
use Rattle.sg_script.specs.Known.{known_in}
use Rattle.sg_script.specs.Stands.{kept_of}
use Rattle.sg_script.proofs.Taking.{passed_tells}
use Rattle.sg_script.proofs.script.Script.answer_by_line.Goals as goal

pub returns-in-Ok-None-clause-line : goal.returns-in-Ok-None-clause-line
returns-in-Ok-None-clause-line c =
    let known = known_in c.args.deployment.now in
    let said : List ℕ → Judgement = λ bytes. judgement_of known (c.args.self.now.before + 1) (take c.args.len bytes) in
    let none : said c.args.self.now.pending ≡ Ok None = ap said (sym c.bytes.ensures.value) ∙ (sym c.judge.ensures.said ∙ (c.in-Ok-None.is ∙ ap Ok c.in-Ok-None.field-0-is)) in
    passed_tells known (said c.args.self.now.pending) c.args.end c.args.actor.0 (kept_of c.args.self.now) (kept_of c.pass.new.self) none c.requires.idle.empty
    record { queued = c.pass.ensures.queues; lines = c.pass.ensures.lines; pending = c.pass.ensures.pending }
