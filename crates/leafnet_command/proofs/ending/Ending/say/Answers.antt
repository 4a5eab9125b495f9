-- The system's words are those that were written.
use Rattle.leafnet_command.proofs.OnOk.{on_ok}
use Rattle.leafnet_command.proofs.ending.Ending.say.Goals as goal

pub returns-in-Unwritten : goal.returns-in-Unwritten
returns-in-Unwritten g c =
    let w = c.writeln-in-Unwritten in
    rw c.in-Unwritten.is (on_ok w.result (λ said. (c.system_words-words.result.bytes, said)) w.ensures.bytes)
