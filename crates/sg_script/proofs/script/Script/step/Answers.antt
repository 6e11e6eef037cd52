use Rattle.sg_edge.specs.declared.files.Part.TheVariants.{Script as ScriptPart}
use Rattle.sg_script.specs.Known.{known_in}
use Rattle.sg_script.specs.Stands.{kept_of}
use Rattle.sg_script.proofs.Steps.{broken_steps, end_steps, line_steps, piece_steps}
use Rattle.sg_script.proofs.script.Script.step.Goals as goal

pub answer_by_line-requires-clause-front : goal.answer_by_line-requires-clause-front
answer_by_line-requires-clause-front g c =
    let front = rw (c.stage.ensures, c.bytes.ensures.value) at c.in-Line.ensures.front in
    record { within = front.0; pending = front.1; unbroken = rw c.bytes.ensures.value at c.in-Line.ensures.unbroken }

pub returns-in-Line-clause-step : goal.returns-in-Line-clause-step
returns-in-Line-clause-step g c =
    let front = rw (c.stage.ensures, c.bytes.ensures.value) at c.in-Line.ensures.front in
    line_steps (known_in c.args.deployment.now) (g.F.Files.shows c.args.files.now ScriptPart) (kept_of c.args.self.now) (kept_of c.answer_by_line.new.self) c.in-Line.len c.in-Line.end c.args.actor.0 c.answer_by_line.result c.requires.begun front.1 (front.3 (known_in c.args.deployment.now)) c.requires.idle.empty c.answer_by_line.ensures.line

pub returns-in-Unread-clause-step : goal.returns-in-Unread-clause-step
returns-in-Unread-clause-step g c =
    let front = rw (c.stage.ensures, c.bytes.ensures.value) at c.in-Unread.ensures.front in
    piece_steps (known_in c.args.deployment.now) (g.F.Files.shows c.args.files.now ScriptPart) (g.F.Files.shows c.read_piece.new.files ScriptPart) (kept_of c.args.self.now) (kept_of c.read_piece.new.self) c.args.actor.0 front.1 c.args.self.now.few c.requires.idle.empty c.read_piece.ensures.read

pub returns-in-End-clause-step : goal.returns-in-End-clause-step
returns-in-End-clause-step g c =
    let front = rw (c.stage.ensures, c.bytes.ensures.value) at c.in-End.ensures.front in
    end_steps (known_in c.args.deployment.now) (g.F.Files.shows c.args.files.now ScriptPart) (kept_of c.args.self.now) c.args.actor.0 front.0 front.1 c.requires.idle.empty c.requires.begun

pub returns-in-Broken-clause-step : goal.returns-in-Broken-clause-step
returns-in-Broken-clause-step g c =
    let front = rw (c.stage.ensures, c.bytes.ensures.value) at c.in-Broken.ensures.front in
    broken_steps (known_in c.args.deployment.now) (g.F.Files.shows c.args.files.now ScriptPart) (kept_of c.args.self.now) c.args.actor.0 front.0 front.1 c.requires.idle.empty c.requires.begun
