-- What the grammar of script files reads off a fetched word.
--   in_statement x            the instruction that the word x begins, or none where x ends a process
--   looked f from             what f reads off the next word of a feed, which f may refuse by itself
--   statement_in full from w   the instruction of the word w, where there is room for one; none where the process ends
--   number_in low high from w  the number that the word w says, if it is one from low to high
--   ok f r                    f of what is in r
--   Counts f low high a r b   r is f of the number that the next word of the feed a says, or the fault; b is a after that word
use Rattle.std.specs.Prelude.{◌≡◌, ◌≤◌, Bool, cond, length, ℤ, Some, None, Ok, Err, Option, Result}
use Rattle.words.specs.declared.fault.Source.{Source}
use Rattle.words.specs.declared.fault.WordFault.{WordFault}
use Rattle.words.specs.declared.word.Mark.TheVariants as m
use Rattle.words.specs.Signs.{Sign, Word, Numeral}
use Rattle.words.specs.Stream.{head_of, bytes_in}
use Rattle.grammar.specs.declared.fault.GrammarFault.{GrammarFault}
use Rattle.grammar.specs.declared.fault.GrammarFault.TheVariants as fault
use Rattle.grammar.specs.declared.feed.Feed.{Feed}
use Rattle.grammar.specs.Feeds.{left, source_in, Moved}
use Rattle.grammar.specs.Laws.{span_of}
use Rattle.grammar.specs.Table.{is_mark, in_keys, in_number, opt, first_of, refused}
use Rattle.script_syntax.specs.declared.opcode.Opcode.{Opcode}
use Rattle.script_syntax.specs.Numbers.{value_of, is_in_range}
use Rattle.script_syntax.specs.Opcodes.{opcode_of}

abbrev pub in_statement : Sign → Option (Option Opcode)
in_statement x = first_of (in_keys (λ y. opt Some (opcode_of y)) x) (cond (is_mark m.CloseBrace x) (Some None) None)

abbrev pub looked_at : {X : Type 0} → (Word → Result X GrammarFault) → Result Word WordFault → Result X GrammarFault
looked_at f (Ok w) = f w
looked_at f (Err e) = Err (fault.Word e)

abbrev pub looked : {X : Type 0} → (Source → Word → Result X GrammarFault) → Feed → Result X GrammarFault
looked f from = looked_at (f (source_in from)) (head_of (source_in from) (left from))

abbrev pub roomed : Bool → Source → Word → Option (Option Opcode) → Result (Option Opcode) GrammarFault
roomed full from w None = Err (refused from w)
roomed full from w (Some None) = Ok None
roomed full from w (Some (Some op)) = cond full (Err (fault.TooMany (span_of from w))) (Ok (Some op))

abbrev pub statement_in : Bool → Source → Word → Result (Option Opcode) GrammarFault
statement_in full from w = roomed full from w (in_statement w.sign)

abbrev pub ranged : ℤ → ℤ → Source → Word → Option Numeral → Result Numeral GrammarFault
ranged low high from w None = Err (refused from w)
ranged low high from w (Some n) =
    cond (is_in_range low high (value_of n.bytes)) (Ok n) (Err (fault.OutOfRange (record { source = from; place = n.place; len = length n.bytes })))

abbrev pub number_in : ℤ → ℤ → Source → Word → Result Numeral GrammarFault
number_in low high from w = ranged low high from w (in_number w.sign)

abbrev pub ok : {X Y : Type 0} → (X → Y) → Result X GrammarFault → Result Y GrammarFault
ok f (Ok x) = Ok (f x)
ok f (Err e) = Err e

pub record Counts {X : Type 0} (f : Numeral → X) (low high : ℤ) (a : Feed) (r : Result X GrammarFault) (b : Feed) : Type 0 where
  pub head : r ≡ ok f (looked (number_in low high) a)
  pub rest : Moved a b
  pub fewer : bytes_in (left b) ≤ bytes_in (left a)
