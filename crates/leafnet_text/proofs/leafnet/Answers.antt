-- Of the bytes that were read, and so of all that there were.
use Rattle.std.proofs.Common.{ℕ, ◌≡◌, ◌∙◌, subst, List, length, take, drop, Some, rules}
use Rattle.std.specs.Prelude.{IfSome}
use Rattle.std.specs.Io.KnownBytes.{Appends}
use Rattle.leafnet_text.specs.Fronts.{AppendsFront}
use Rattle.leafnet_text.specs.Output.{output_text, printed, Tells}
use Rattle.leafnet_text.proofs.Unread.{by-all}
use Rattle.leafnet_text.proofs.leafnet.Goals as goal

pub returns-in-Ok-write_text-clause-answered : goal.returns-in-Ok-write_text-clause-answered
returns-in-Ok-write_text-clause-answered g c =
    let s : List ℕ = take c.in-Ok.count c.read_front.new.room in
    let room : length c.read_front.new.room ≡ 16385 = search rules in
    let all : IfSome (g.R.ReadEnd.remaining c.args.reader.now) (λ input. s ≡ take 16385 input) = rw room at c.in-Ok.ensures.all in
    let text : c.as_bytes.result.now ≡ output_text s = c.as_bytes.ensures.value ∙ c.as_str.ensures.value ∙ c.answer_to-refusal.ensures.text in
    let held = g.W.WriteEnd.contents c.args.writer.now in
    let after = g.W.WriteEnd.contents c.write_text.new.writer in
    (s, (c.in-Ok.ensures.bytes, all), subst (Appends held after) text c.in-Ok-write_text.ensures.whole, c.answer_to-refusal.ensures.refusal)

pub returns-in-Ok-write_text-clause-refusal : goal.returns-in-Ok-write_text-clause-refusal
returns-in-Ok-write_text-clause-refusal g c =
    let s : List ℕ = take c.in-Ok.count c.read_front.new.room in
    let room : length c.read_front.new.room ≡ 16385 = search rules in
    let all : IfSome (g.R.ReadEnd.remaining c.args.reader.now) (λ input. s ≡ take 16385 input) = rw room at c.in-Ok.ensures.all in
    by-all (Tells c.answer_to-refusal.result) (g.R.ReadEnd.remaining c.args.reader.now) s all c.answer_to-refusal.ensures.refusal

pub returns-in-Ok-write_text-clause-text : goal.returns-in-Ok-write_text-clause-text
returns-in-Ok-write_text-clause-text g c =
    let s : List ℕ = take c.in-Ok.count c.read_front.new.room in
    let room : length c.read_front.new.room ≡ 16385 = search rules in
    let all : IfSome (g.R.ReadEnd.remaining c.args.reader.now) (λ input. s ≡ take 16385 input) = rw room at c.in-Ok.ensures.all in
    let text : c.as_bytes.result.now ≡ output_text s = c.as_bytes.ensures.value ∙ c.as_str.ensures.value ∙ c.answer_to-refusal.ensures.text in
    let held = g.W.WriteEnd.contents c.args.writer.now in
    let after = g.W.WriteEnd.contents c.write_text.new.writer in
    by-all (λ said. Appends held after (printed said)) (g.R.ReadEnd.remaining c.args.reader.now) s all (subst (Appends held after) text c.in-Ok-write_text.ensures.whole)

pub returns-in-Ok-write_text-clause-front : goal.returns-in-Ok-write_text-clause-front
returns-in-Ok-write_text-clause-front g c =
    let s : List ℕ = take c.in-Ok.count c.read_front.new.room in
    let room : length c.read_front.new.room ≡ 16385 = search rules in
    let all : IfSome (g.R.ReadEnd.remaining c.args.reader.now) (λ input. s ≡ take 16385 input) = rw room at c.in-Ok.ensures.all in
    let text : c.as_bytes.result.now ≡ output_text s = c.as_bytes.ensures.value ∙ c.as_str.ensures.value ∙ c.answer_to-refusal.ensures.text in
    let held = g.W.WriteEnd.contents c.args.writer.now in
    let after = g.W.WriteEnd.contents c.write_text.new.writer in
    by-all (λ said. AppendsFront held after (printed said)) (g.R.ReadEnd.remaining c.args.reader.now) s all (subst (AppendsFront held after) text c.in-Ok-write_text.ensures.front)

pub returns-in-Ok-write_text-clause-left : goal.returns-in-Ok-write_text-clause-left
returns-in-Ok-write_text-clause-left g c =
    let room : length c.read_front.new.room ≡ 16385 = search rules in
    rw room at c.in-Ok.ensures.left

pub returns-in-Err-write_text-clause-failed : goal.returns-in-Err-write_text-clause-failed
returns-in-Err-write_text-clause-failed g c =
    let s : List ℕ = take c.in-Ok.count c.read_front.new.room in
    let room : length c.read_front.new.room ≡ 16385 = search rules in
    let all : IfSome (g.R.ReadEnd.remaining c.args.reader.now) (λ input. s ≡ take 16385 input) = rw room at c.in-Ok.ensures.all in
    let text : c.as_bytes.result.now ≡ output_text s = c.as_bytes.ensures.value ∙ c.as_str.ensures.value ∙ c.answer_to-refusal.ensures.text in
    let held = g.W.WriteEnd.contents c.args.writer.now in
    let after = g.W.WriteEnd.contents c.write_text.new.writer in
    (c.in-Err-write_text.ensures.failed, (s, (c.in-Ok.ensures.bytes, all), subst (AppendsFront held after) text c.in-Err-write_text.ensures.front))

pub returns-in-Err-write_text-clause-front : goal.returns-in-Err-write_text-clause-front
returns-in-Err-write_text-clause-front g c =
    let s : List ℕ = take c.in-Ok.count c.read_front.new.room in
    let room : length c.read_front.new.room ≡ 16385 = search rules in
    let all : IfSome (g.R.ReadEnd.remaining c.args.reader.now) (λ input. s ≡ take 16385 input) = rw room at c.in-Ok.ensures.all in
    let text : c.as_bytes.result.now ≡ output_text s = c.as_bytes.ensures.value ∙ c.as_str.ensures.value ∙ c.answer_to-refusal.ensures.text in
    let held = g.W.WriteEnd.contents c.args.writer.now in
    let after = g.W.WriteEnd.contents c.write_text.new.writer in
    by-all (λ said. AppendsFront held after (printed said)) (g.R.ReadEnd.remaining c.args.reader.now) s all (subst (AppendsFront held after) text c.in-Err-write_text.ensures.front)
