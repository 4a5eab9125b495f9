-- Parts written one behind the other.
use Rattle.std.proofs.Common.{◌≡◌, ℕ, ◌+◌, List, ◌++◌, length, arith, ◌∙◌, ap, sym}
use Rattle.fields.specs.declared.writer.Writer.{Writer}
use Rattle.fields.specs.Written.{Writes}
use Rattle.fields.proofs.Stores.{sets_then}

pub writes_then : {m n : ℕ} {p q : List ℕ} {a b c : Writer} → length p ≡ m → Writes m p a b → Writes n q b c → Writes (m + n) (p ++ q) a c
writes_then {m} {n} {p} {q} {a} {b} {c} long first second = record {
  next = omega (arith, first.next, second.next);
  stored = sets_then a.bytes.now a.at b.at p q (first.next ∙ ap (λ k. a.at + k) (sym long)) first.stored second.stored;
  row_length = second.row_length ∙ first.row_length;
  same_reference = second.same_reference ∙ first.same_reference;
}
