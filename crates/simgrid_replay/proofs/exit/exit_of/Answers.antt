use Rattle.simgrid_replay.proofs.exit.exit_of.Goals as goal

pub returns : goal.returns
returns g c =
    let call = c.simgrid.ensures in (
      c.simgrid.result,
      c.exit_code.ensures,
      record {
        output = call.output;
        takes = call.takes;
        parts = call.parts;
        seats = call.crew;
        refused = call.refused;
        invalid = call.words;
        rest = call.rest;
        unseated = call.unseated;
        broken_text = call.broken_text;
        front = call.front;
        cause = call.cause;
      },
    )
