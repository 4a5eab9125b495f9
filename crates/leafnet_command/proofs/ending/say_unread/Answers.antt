-- The system's words are those that were written.
use Rattle.std.proofs.Common.{append_assoc}
use Rattle.leafnet_command.proofs.OnOk.{on_ok}
use Rattle.leafnet_command.proofs.ending.say_unread.Goals as goal

pub returns-in-StandardInput : goal.returns-in-StandardInput
returns-in-StandardInput g c =
    let w = c.writeln in
    rw c.in-StandardInput.is (on_ok w.result (λ said. (c.system_words-words.result.bytes, said)) w.ensures.bytes)

pub returns-in-File : goal.returns-in-File
returns-in-File g c =
    let w = c.writeln-in-File in
    rw c.in-File.is (on_ok w.result (λ said. (c.system_words-words.result.bytes, simp append_assoc said)) w.ensures.bytes)
