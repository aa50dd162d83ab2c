-- The words of a text, in the order in which they are fetched.
--   keywords          the reserved words
--   reserved bs       the reserved word with the bytes bs, if one has them
--   Lexeme            what begins at a byte that is no blank: a word, or none, with how many bytes are at fault
--   lexeme bs p       what begins at the place p, where the text goes on with bs
--   Stream            words, one after the other, up to the text's end or to the first byte that begins no word
--   stream bs k p     the words of bs, which begins at the place p, after its first k bytes
--   words_of text      the words of a text
--   head_of, tail_of    what is fetched first, and what is then left
--   size s            how many words s has
--   bytes_in s         how many bytes the words of s have
--   Proper s          names say their own place, and no word is empty
--   WellPlaced s      numbers too say their own place
use Rattle.std.specs.Prelude.{◌≡◌, ℕ, ◌+◌, ◌-◌, ◌≤◌, cond, List, [], ◌∷◌, take, drop, Some, None, Ok, Err, Option, Result, ◌==◌, nat_lt, find, slice_index}
use Rattle.std.specs.List.{prefix_len}
use Rattle.std.specs.Str.{bytes_eq}
use Rattle.words.specs.declared.name.Ident.{Ident}
use Rattle.words.specs.declared.word.Keyword.{Keyword}
use Rattle.words.specs.declared.word.Keyword.TheVariants as k
use Rattle.words.specs.declared.word.Mark.TheVariants as m
use Rattle.words.specs.declared.fault.Source.{Source}
use Rattle.words.specs.declared.fault.WordFault.{WordFault}
use Rattle.words.specs.declared.fault.WordFault.TheVariants.{NoWord}
use Rattle.words.specs.Signs.{Sign, Word, Numeral, name_of, spelling, size_of}
use Rattle.words.specs.Signs as s
use Rattle.words.specs.Runs.{blank, letter, digit, in_name}

abbrev pub keywords : List Keyword
keywords =
    k.Contract ∷ k.Out ∷ k.In ∷ k.Block ∷ k.Exp ∷ k.Imp ∷ k.State ∷ k.Process ∷ k.New ∷ k.Put ∷ k.Free ∷ k.Open ∷ k.Close ∷ k.Send
    ∷ k.Pass ∷ k.Receive ∷ k.Case ∷ k.Lost ∷ k.Jump ∷ k.End ∷ []

abbrev pub reserved : List ℕ → Option Keyword
reserved bs = find (λ x. bytes_eq bs (spelling x)) keywords

pub data Lexeme : Type 0 where
  one : Sign → Lexeme
  none : ℕ → Lexeme

-- a run of name bytes is a reserved word or a name
abbrev pub key_or_name : Option Keyword → List ℕ → ℕ → Sign
key_or_name (Some x) bs p = s.Key x
key_or_name None bs p = s.Name (record { place = p; name = name_of bs })

-- the first n bytes, which are a run of name bytes
abbrev pub name_lexeme : List ℕ → ℕ → ℕ → Lexeme
name_lexeme bs n p = cond (nat_lt 16 n) (none n) (one (key_or_name (reserved (take n bs)) (take n bs) p))

-- a minus or none (minus is 1 or 0), then a run of digits
abbrev pub number_lexeme : List ℕ → ℕ → ℕ → ℕ → Lexeme
number_lexeme bs minus digits p =
    cond (nat_lt 3 digits) (none (minus + digits)) (one (s.Number (record { place = p; bytes = take (minus + digits) bs })))

-- what begins at a minus
abbrev pub minus_lexeme : List ℕ → ℕ → Lexeme
minus_lexeme bs p =
    cond (slice_index bs 1 == 62) (one (s.Mark m.Arrow))
    (cond (digit (slice_index bs 1)) (number_lexeme bs 1 (prefix_len digit (drop 1 bs)) p) (none 1))

-- what begins at any other byte than a letter, a digit or a minus
abbrev pub mark_lexeme : ℕ → Lexeme
mark_lexeme b =
    cond (b == 123) (one (s.Mark m.OpenBrace))
    (cond (b == 125) (one (s.Mark m.CloseBrace))
    (cond (b == 59) (one (s.Mark m.Semicolon)) (cond (b == 33) (one (s.Mark m.Bang)) (cond (b == 63) (one (s.Mark m.Question)) (none 1)))))

abbrev pub lexeme : List ℕ → ℕ → Lexeme
lexeme bs p =
    cond (letter (slice_index bs 0)) (name_lexeme bs (prefix_len in_name bs) p)
    (cond (digit (slice_index bs 0)) (number_lexeme bs 0 (prefix_len digit bs) p)
    (cond (slice_index bs 0 == 45) (minus_lexeme bs p) (mark_lexeme (slice_index bs 0))))

pub data Stream : Type 0 where
  stop : ℕ → Stream
  bad : ℕ → ℕ → Stream
  word : Word → Stream → Stream

-- what begins at the place p, and onward from there after so many bytes
abbrev pub fetched : Lexeme → ℕ → (ℕ → Stream) → Stream
fetched (one x) p onward = word (record { place = p; sign = x }) (onward (size_of x))
fetched (none n) p onward = bad p n

abbrev pub stream : List ℕ → ℕ → ℕ → Stream
stream [] k p = stop p
stream (b ∷ bs) k p =
    cond (nat_lt 0 k) (stream bs (k - 1) (p + 1))
    (cond (blank b) (stream bs 0 (p + 1)) (fetched (lexeme (b ∷ bs) p) p (λ n. stream bs (n - 1) (p + 1))))

abbrev pub words_of : List ℕ → Stream
words_of text = stream text 0 0

abbrev pub head_of : Source → Stream → Result Word WordFault
head_of from (stop p) = Ok (record { place = p; sign = s.End })
head_of from (bad p n) = Err (NoWord (record { source = from; place = p; len = n }))
head_of from (word w r) = Ok w

abbrev pub tail_of : Stream → Stream
tail_of (stop p) = stop p
tail_of (bad p n) = bad p n
tail_of (word w r) = r

abbrev pub size : Stream → ℕ
size (stop p) = 0
size (bad p n) = 0
size (word w r) = size r + 1

abbrev pub bytes_in : Stream → ℕ
bytes_in (stop p) = 0
bytes_in (bad p n) = 0
bytes_in (word w r) = size_of w.sign + bytes_in r

-- names say their own word's place, no word is empty, and the end is no word
abbrev pub Proper : Stream → Type 0
Proper (stop p) = Unit {0}
Proper (bad p n) = Unit {0}
Proper (word w r) = ((n : Ident) → w.sign ≡ s.Name n → n.place ≡ w.place) × (1 ≤ size_of w.sign) × Proper r

-- names and numbers say their own word's place, no word is empty, and the end is no word
abbrev pub WellPlaced : Stream → Type 0
WellPlaced (stop p) = Unit {0}
WellPlaced (bad p n) = Unit {0}
WellPlaced (word w r) =
    ((n : Ident) → w.sign ≡ s.Name n → n.place ≡ w.place) × ((n : Numeral) → w.sign ≡ s.Number n → n.place ≡ w.place)
    × (1 ≤ size_of w.sign) × WellPlaced r
