use Rattle.std.proofs.Common.{rules, refl, ◌≡◌, sym, ap, ◌∙◌, true, length, eqb, eqb-true, le-leb}
use Rattle.std.proofs.lemmas.List.Edits.{sets}
use Rattle.fields.proofs.Writing.{writes_then}
use Rattle.record.specs.Lent.{lent_rows}
use Rattle.record.specs.Writing.{is_shaped, is_countable, size_of, write_leaves}
use Rattle.record.proofs.Turns.{and_both}
use Rattle.record.proofs.Records.{record_is}
use Rattle.record.proofs.writing.write.Goals as goal

pub returns-clause-left : goal.returns-clause-left
returns-clause-left c =
    let out = c.args.out.now in
    let r = lent_rows c.args.rows.now in
    let s = c.args.settings in
    let same = eqb (length r.polygons) (length r.sheets) in
    let e : is_shaped r ≡ true = sym c.is_shaped.ensures ∙ c.if-not-is_shaped.false in
    let f : is_countable r ≡ true = sym c.is_countable.ensures ∙ c.if-not-is_countable.false in
    let g = le-leb (size_of r) (length out) c.if-out-size.false in
    let w = and_both same _ e in
    let h = eqb-true _ _ w.0 in
    let both = writes_then refl c.put_settings.ensures c.put_lists.ensures in
    let stored = rw (c.new-writer.ensures.bytes, c.new-writer.ensures.at_the_start) at both.stored in
    let whole : c.put_lists.new.writer.bytes.now ≡ write_leaves s r out = rw (e, f, g) (stored ∙ ap (sets out 0) (record_is s r h w.1)) in
    search (rules, whole)
