-- What a reader has still to read.
--   rest r        the words that are left
--   source_of r    which text it reads
--   said_ok r      what a fetched word says
--   Short r       a fetched name has at most 16 bytes
--   too_large s   the fault of a text of more than 4,096 bytes
--   word_or r      what a word says, or how many bytes begin no word
--   placed p l    the same of what begins at the place p
use Rattle.std.specs.Prelude.{ℕ, ◌≤◌, length, drop, Ok, Err, Result}
use Rattle.words.specs.declared.fault.Source.{Source}
use Rattle.words.specs.declared.fault.WordFault.{WordFault}
use Rattle.words.specs.declared.fault.WordFault.TheVariants.{TooLarge}
use Rattle.words.specs.declared.reader.Reader.{Reader}
use Rattle.words.specs.declared.word.Word.{Word as CodeWord}
use Rattle.words.specs.declared.word.Word.TheVariants as c
use Rattle.words.specs.Signs.{Word, said}
use Rattle.words.specs.Stream.{Stream, stream, Lexeme, one, none}

abbrev pub rest : Reader → Stream
rest r = stream (drop r.at r.text.now) 0 r.at

abbrev pub source_of : Reader → Source
source_of r = r.source

abbrev pub said_ok : Result CodeWord WordFault → Result Word WordFault
said_ok (Ok w) = Ok (said w)
said_ok (Err f) = Err f

abbrev pub ShortName : CodeWord → Type 0
ShortName (c.Keyword p x) = Unit {0}
ShortName (c.Mark p x) = Unit {0}
ShortName (c.Name p bs) = length bs.now ≤ 16
ShortName (c.Number p bs) = Unit {0}
ShortName (c.End p) = Unit {0}

abbrev pub Short : Result CodeWord WordFault → Type 0
Short (Ok w) = ShortName w
Short (Err f) = Unit {0}

abbrev pub too_large : Source → WordFault
too_large from = TooLarge (record { source = from; place = 4096; len = 0 })

abbrev pub word_or : Result CodeWord ℕ → Result Word ℕ
word_or (Ok w) = Ok (said w)
word_or (Err n) = Err n

abbrev pub placed : ℕ → Lexeme → Result Word ℕ
placed p (one x) = Ok (record { place = p; sign = x })
placed p (none n) = Err n
