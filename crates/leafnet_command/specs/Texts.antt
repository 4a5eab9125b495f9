-- The texts of the command's own.
use Rattle.std.specs.Prelude.{ℕ, List, ◌++◌, codes}
use Rattle.leafnet_text.specs.Lines.{ended}

abbrev pub usage_text : List ℕ
usage_text =
    ended (codes "usage: leafnet [FILE]")
    ++ (ended (codes "       leafnet --help | --version")
    ++ (ended (codes "Prints the mesh and the net of the board record in FILE, or on standard input")
    ++ (ended (codes "where FILE is - or left out. Ends with 0; with 1 where the record is refused, or")
    ++ (ended (codes "where it can't be read or the text can't be written; with 2 where it is called in")
    ++ ended (codes "another way.")))))

abbrev pub version_text : List ℕ
version_text = codes "leafnet 0.11.0\n"
