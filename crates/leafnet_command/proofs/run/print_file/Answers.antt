-- The file that was opened.
use mathlib.Core.Logic.{inr}
use Rattle.leafnet_command.proofs.run.print_file.Goals as goal

pub returns-in-Ok : goal.returns-in-Ok
returns-in-Ok g c =
    inr (record {
      file = c.in-Ok.file;
      rest = g.F.File.ReadEnd.remaining c.print_answer.new.reader;
      is_opened = c.in-Ok.ensures.opened;
      prints = c.print_answer.ensures;
    })
