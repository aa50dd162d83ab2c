-- A fetched name is not empty.
use Rattle.std.proofs.Common.{◌≡◌, ◌≤◌, drop, IfOk, Ok, Err, Result, sym, subst}
use Rattle.words.specs.declared.fault.Source.{Source}
use Rattle.words.specs.declared.fault.WordFault.{WordFault}
use Rattle.words.specs.declared.reader.Reader.{Reader}
use Rattle.words.specs.declared.word.Word.{Word as CodeWord}
use Rattle.words.specs.Signs.{Sign, Word, size_of, said}
use Rattle.words.specs.Signs as s
use Rattle.words.specs.Stream.{Stream, stop, bad, word, head_of, WellPlaced}
use Rattle.words.specs.Reading.{rest, said_ok}
use Rattle.words.proofs.Streams.{stream_well_placed}
use Rattle.grammar.specs.Sizes.{Sized}

pub placed : (r : Reader) → WellPlaced (rest r)
placed r = stream_well_placed (drop r.at r.text.now) 0 r.at

sized : (x : Sign) → 1 ≤ size_of x → Sized x
sized (s.Key x) h = tt
sized (s.Mark x) h = tt
sized (s.Name n) h = h
sized (s.Number n) h = tt
sized s.End h = tt

head_sized : (from : Source) (s : Stream) → WellPlaced s → IfOk (head_of from s) (λ w. Sized w.sign)
head_sized from (stop p) h = tt
head_sized from (bad p n) h = tt
head_sized from (word w r) h = sized w.sign h.2

made_said : (P : Word → Type 0) (r : Result CodeWord WordFault) (o : Result Word WordFault) → said_ok r ≡ o → IfOk o P → IfOk r (λ w. P (said w))
made_said P (Ok w) o e h = subst (λ x. IfOk x P) (sym e) h
made_said P (Err f) o e h = tt

pub fetch_sized : (r : Result CodeWord WordFault) (from : Source) (a : Reader) → said_ok r ≡ head_of from (rest a) → IfOk r (λ w. Sized (said w).sign)
fetch_sized r from a e = made_said (λ w. Sized w.sign) r (head_of from (rest a)) e (head_sized from (rest a) (placed a))
