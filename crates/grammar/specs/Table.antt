-- A grammar as a table: which words may stand next, and what each leads to. Q is how far a text has been read, R what it is in the end.
--   key_code, mark_code      a number for each reserved word and each mark
--   is_key, is_mark, is_end, in_name, in_number     whether a word is this one; the name or the number that it says
--   same_name, known n ns   whether two names are the same; whether n stands among ns
--   Check                  what is found of an allowed word: fine, a name too many or there before, a number out of range, an entry too many
--   admission limit ns n   the check of the name n in a family that has the names ns and room for limit
--   Turn                   what an allowed word leads to: on, on by a word that is checked, or to the end
--   Alt                    a word that may stand next: a reserved word, one of several, a mark, any name, any number, the end
--   in_keys f x             what f reads off the word x, if it is a reserved word
--   tried, among alts x    what x leads to, if it is one of alts
--   judged, resume, after  what becomes of a text by a check, by a turn, by a word
--   refused from w         the fault that the word w is not allowed where it stands
--   run ask from q s       what becomes of the text whose words s are left at q
--   picked from f h        what f reads off a fetched word h, or the fault
--   Goes o r onward        a part was read: the text comes out as o, and so it does from where the part ends
use Rattle.std.specs.Prelude.{◌≡◌, ℕ, Bool, true, false, cond, ◌&&◌, List, [], ◌∷◌, length, Some, None, Ok, Err, Option, Result, ◌==◌, nat_le}
use Rattle.std.specs.List.{list_any}
use Rattle.std.specs.Str.{bytes_eq}
use Rattle.words.specs.declared.name.Name.{Name as NameBytes}
use Rattle.words.specs.declared.name.Ident.{Ident}
use Rattle.words.specs.declared.word.Keyword.{Keyword}
use Rattle.words.specs.declared.word.Keyword.TheVariants as k
use Rattle.words.specs.declared.word.Mark.{Mark as MarkWord}
use Rattle.words.specs.declared.word.Mark.TheVariants as m
use Rattle.words.specs.declared.fault.Source.{Source}
use Rattle.words.specs.declared.fault.WordFault.{WordFault}
use Rattle.words.specs.declared.fault.WordFault.TheVariants.{NoWord}
use Rattle.words.specs.Signs.{Sign, Word, Numeral, size_of}
use Rattle.words.specs.Signs as s
use Rattle.words.specs.Stream.{Stream, stop, bad, word}
use Rattle.grammar.specs.declared.fault.GrammarFault.{GrammarFault}
use Rattle.grammar.specs.declared.fault.GrammarFault.TheVariants as fault

abbrev pub key_code : Keyword → ℕ
key_code k.Contract = 0
key_code k.Out = 1
key_code k.In = 2
key_code k.Block = 3
key_code k.Exp = 4
key_code k.Imp = 5
key_code k.State = 6
key_code k.Process = 7
key_code k.New = 8
key_code k.Put = 9
key_code k.Free = 10
key_code k.Open = 11
key_code k.Close = 12
key_code k.Send = 13
key_code k.Pass = 14
key_code k.Receive = 15
key_code k.Case = 16
key_code k.Lost = 17
key_code k.Jump = 18
key_code k.End = 19

abbrev pub mark_code : MarkWord → ℕ
mark_code m.OpenBrace = 0
mark_code m.CloseBrace = 1
mark_code m.Semicolon = 2
mark_code m.Bang = 3
mark_code m.Question = 4
mark_code m.Arrow = 5

abbrev pub is_key : Keyword → Sign → Bool
is_key x (s.Key y) = key_code x == key_code y
is_key x (s.Mark y) = false
is_key x (s.Name n) = false
is_key x (s.Number n) = false
is_key x s.End = false

abbrev pub is_mark : MarkWord → Sign → Bool
is_mark x (s.Key y) = false
is_mark x (s.Mark y) = mark_code x == mark_code y
is_mark x (s.Name n) = false
is_mark x (s.Number n) = false
is_mark x s.End = false

abbrev pub is_end : Sign → Bool
is_end (s.Key y) = false
is_end (s.Mark y) = false
is_end (s.Name n) = false
is_end (s.Number n) = false
is_end s.End = true

abbrev pub in_name : Sign → Option Ident
in_name (s.Key y) = None
in_name (s.Mark y) = None
in_name (s.Name n) = Some n
in_name (s.Number n) = None
in_name s.End = None

abbrev pub in_number : Sign → Option Numeral
in_number (s.Key y) = None
in_number (s.Mark y) = None
in_number (s.Name n) = None
in_number (s.Number n) = Some n
in_number s.End = None

abbrev pub same_name : NameBytes → NameBytes → Bool
same_name a b = a.len == b.len && bytes_eq a.bytes b.bytes

abbrev pub known : Ident → List Ident → Bool
known n ns = list_any (λ x. same_name x.name n.name) ns

pub data Check : Type 0 where
  fine : Check
  too_many : Ident → Check
  repeated : Ident → Check
  out_of_range : Numeral → Check
  crowded : Check

abbrev pub admission : ℕ → List Ident → Ident → Check
admission limit ns n = cond (nat_le limit (length ns)) (too_many n) (cond (known n ns) (repeated n) fine)

pub data Turn (Q R : Type 0) : Type 0 where
  go : Q → Turn Q R
  new : Q → Check → Turn Q R
  accept : R → Turn Q R

pub data Alt (Q R : Type 0) : Type 0 where
  key : Keyword → Turn Q R → Alt Q R
  keys : (Keyword → Option (Turn Q R)) → Alt Q R
  mark : MarkWord → Turn Q R → Alt Q R
  name : (Ident → Turn Q R) → Alt Q R
  number : (Numeral → Turn Q R) → Alt Q R
  end : Turn Q R → Alt Q R

abbrev pub opt : {X Y : Type 0} → (X → Y) → Option X → Option Y
opt f (Some x) = Some (f x)
opt f None = None

-- what a reserved word leads to
abbrev pub in_keys : {X : Type 0} → (Keyword → Option X) → Sign → Option X
in_keys f (s.Key y) = f y
in_keys f (s.Mark y) = None
in_keys f (s.Name n) = None
in_keys f (s.Number n) = None
in_keys f s.End = None

abbrev pub tried : {Q R : Type 0} → Alt Q R → Sign → Option (Turn Q R)
tried (key y t) x = cond (is_key y x) (Some t) None
tried (keys f) x = in_keys f x
tried (mark y t) x = cond (is_mark y x) (Some t) None
tried (name f) x = opt f (in_name x)
tried (number f) x = opt f (in_number x)
tried (end t) x = cond (is_end x) (Some t) None

abbrev pub first_of : {X : Type 0} → Option X → Option X → Option X
first_of (Some t) o = Some t
first_of None o = o

abbrev pub among : {Q R : Type 0} → List (Alt Q R) → Sign → Option (Turn Q R)
among [] x = None
among (a ∷ l) x = first_of (tried a x) (among l x)

abbrev pub judged : {R : Type 0} → Source → Word → Check → Result R GrammarFault → Result R GrammarFault
judged from w fine o = o
judged from w (too_many n) o = Err (fault.TooMany (record { source = from; place = n.place; len = n.name.len }))
judged from w (repeated n) o = Err (fault.Repeated (record { source = from; place = n.place; len = n.name.len }))
judged from w (out_of_range n) o = Err (fault.OutOfRange (record { source = from; place = n.place; len = length n.bytes }))
judged from w crowded o = Err (fault.TooMany (record { source = from; place = w.place; len = size_of w.sign }))

abbrev pub resume : {Q R : Type 0} → Source → Word → Turn Q R → (Q → Result R GrammarFault) → Result R GrammarFault
resume from w (go q) onward = onward q
resume from w (new q c) onward = judged from w c (onward q)
resume from w (accept x) onward = Ok x

-- a word that may not stand where it stands
abbrev pub refused : Source → Word → GrammarFault
refused from w = fault.Unexpected (record { source = from; place = w.place; len = size_of w.sign })

abbrev pub after : {Q R : Type 0} → Source → Option (Turn Q R) → Word → (Q → Result R GrammarFault) → Result R GrammarFault
after from (Some t) w onward = resume from w t onward
after from None w onward = Err (refused from w)

abbrev pub run : {Q R : Type 0} → (Q → List (Alt Q R)) → Source → Q → Stream → Result R GrammarFault
run ask from q (stop p) =
    after from (among (ask q) s.End) (record { place = p; sign = s.End }) (λ _. Err (refused from (record { place = p; sign = s.End })))
run ask from q (bad p n) = Err (fault.Word (NoWord (record { source = from; place = p; len = n })))
run ask from q (word w r) = after from (among (ask q) w.sign) w (λ q'. run ask from q' r)

abbrev pub or_refused : {X : Type 0} → Source → Option X → Word → Result X GrammarFault
or_refused from (Some x) w = Ok x
or_refused from None w = Err (refused from w)

abbrev pub picked : {X : Type 0} → Source → (Sign → Option X) → Result Word WordFault → Result X GrammarFault
picked from f (Ok w) = or_refused from (f w.sign) w
picked from f (Err e) = Err (fault.Word e)

abbrev pub Goes : {X R : Type 0} → Result R GrammarFault → Result X GrammarFault → (X → Result R GrammarFault) → Type 0
Goes o (Ok x) onward = o ≡ onward x
Goes o (Err f) onward = o ≡ Err f
