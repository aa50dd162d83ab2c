-- What a word says.
--   padded n bs      bs with zeros behind, n bytes in all
--   name_of bs        the name with the bytes bs
--   spelling k       the bytes of a reserved word
--   Numeral          a number as it stands in a text
--   Sign             what a word says, its bytes in place of where they lie
--   Word             what a word says, with its place
--   mark_size m       how many bytes a mark has
--   size_of x         how many bytes a word has that says x
--   said w           what a word of the reader says
use Rattle.std.specs.Prelude.{ℕ, ◌-◌, List, ◌++◌, length, replicate, codes}
use Rattle.words.specs.declared.name.Name.{Name as NameBytes}
use Rattle.words.specs.declared.name.Ident.{Ident}
use Rattle.words.specs.declared.word.Keyword.{Keyword}
use Rattle.words.specs.declared.word.Keyword.TheVariants as k
use Rattle.words.specs.declared.word.Mark.{Mark as MarkWord}
use Rattle.words.specs.declared.word.Mark.TheVariants as m
use Rattle.words.specs.declared.word.Word.{Word as CodeWord}
use Rattle.words.specs.declared.word.Word.TheVariants as c

abbrev pub padded : ℕ → List ℕ → List ℕ
padded n bs = bs ++ replicate (n - length bs) 0

abbrev pub name_of : List ℕ → NameBytes
name_of bs = record { len = length bs; bytes = padded 16 bs }

abbrev pub spelling : Keyword → List ℕ
spelling k.Contract = codes "contract"
spelling k.Out = codes "out"
spelling k.In = codes "in"
spelling k.Block = codes "block"
spelling k.Exp = codes "exp"
spelling k.Imp = codes "imp"
spelling k.State = codes "state"
spelling k.Process = codes "process"
spelling k.New = codes "new"
spelling k.Put = codes "put"
spelling k.Free = codes "free"
spelling k.Open = codes "open"
spelling k.Close = codes "close"
spelling k.Send = codes "send"
spelling k.Pass = codes "pass"
spelling k.Receive = codes "receive"
spelling k.Case = codes "case"
spelling k.Lost = codes "lost"
spelling k.Jump = codes "jump"
spelling k.End = codes "end"

pub record Numeral : Type 0 where
  pub place : ℕ
  pub bytes : List ℕ

pub data Sign : Type 0 where
  Key : Keyword → Sign
  Mark : MarkWord → Sign
  Name : Ident → Sign
  Number : Numeral → Sign
  End : Sign

pub record Word : Type 0 where
  pub place : ℕ
  pub sign : Sign

abbrev pub mark_size : MarkWord → ℕ
mark_size m.OpenBrace = 1
mark_size m.CloseBrace = 1
mark_size m.Semicolon = 1
mark_size m.Bang = 1
mark_size m.Question = 1
mark_size m.Arrow = 2

abbrev pub size_of : Sign → ℕ
size_of (Key x) = length (spelling x)
size_of (Mark x) = mark_size x
size_of (Name n) = n.name.len
size_of (Number n) = length n.bytes
size_of End = 0

abbrev pub said : CodeWord → Word
said (c.Keyword p x) = record { place = p; sign = Key x }
said (c.Mark p x) = record { place = p; sign = Mark x }
said (c.Name p bs) = record { place = p; sign = Name (record { place = p; name = name_of bs.now }) }
said (c.Number p bs) = record { place = p; sign = Number (record { place = p; bytes = bs.now }) }
said (c.End p) = record { place = p; sign = End }
