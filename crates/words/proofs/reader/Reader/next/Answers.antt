use Rattle.std.proofs.Common.{◌≡◌, ◌+◌, drop, Ok, Err, sym, refl, ap, ◌∙◌}
use Rattle.std.proofs.lemmas.List.{take_rest}
use Rattle.words.specs.Reading.{placed}
use Rattle.words.specs.Signs.{said}
use Rattle.words.specs.Stream.{head_of, tail_of, lexeme, stream}
use Rattle.words.proofs.Fetched.{short-word}
use Rattle.words.proofs.Streams.{read_end, read_one, read_none}
use Rattle.words.proofs.reader.Reader.next.Goals as goal

pub returns-then-place-text : goal.returns-then-place-text
returns-then-place-text c =
    let r = c.args.self.now in
    let e = read_end r.text.now r.at c.past_blanks-place.result c.past_blanks-place.ensures c.if-place-text.true in
    record { head = ap (head_of r.source) (sym e); tail = e ∙ ap tail_of (sym e); source = refl; short = tt }

pub returns-in-Ok : goal.returns-in-Ok
returns-in-Ok c =
    let r = c.args.self.now in
    let text = r.text.now in
    let place = c.past_blanks-place.result in
    let w = c.in-Ok.word in
    let g : Ok (said w) ≡ placed place (lexeme (drop place text) place) =
    c.in-Ok.ensures ∙ ap (λ bs. placed place (lexeme bs place)) (take_rest text place) in
    let e = read_one text r.at place c.past_blanks-place.ensures (said w) c.if-place-text.false g in
    record {
      head = ap (head_of r.source) (sym e);
      tail = ap (λ n. stream (drop (place + n) text) 0 (place + n)) c.len.ensures ∙ ap tail_of (sym e);
      source = refl;
      short = short-word text place w c.if-place-text.false g;
    }

pub returns-in-Err : goal.returns-in-Err
returns-in-Err c =
    let r = c.args.self.now in
    let text = r.text.now in
    let place = c.past_blanks-place.result in
    let n = c.in-Err.len in
    let g : Err n ≡ placed place (lexeme (drop place text) place) =
    c.in-Err.ensures ∙ ap (λ bs. placed place (lexeme bs place)) (take_rest text place) in
    let e = read_none text r.at place c.past_blanks-place.ensures n c.if-place-text.false g in
    record { head = ap (head_of r.source) (sym e); tail = e ∙ ap tail_of (sym e); source = refl; short = tt }
