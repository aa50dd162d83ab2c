-- What is read off a fetched word.
--   in_mark y x           whether the word x is the mark y
--   in_keyword k x        whether the word x is the reserved word k
--   in_keyword_or_end k x       whether the word x is k, and not the end, if it is one of these
--   in_keyword_or_mark k y x    whether the word x is k, and not the mark y, if it is one of these
--   in_name_or y x         the name that the word x says, or none where it is the mark y
--   left from            the words that a feed has left
--   source_in from        which text a feed reads
--   fetched f from       what f reads off the next word of a feed, or the fault
--   Moved a b            the feed b is the feed a after one word
--   Fetches n f a r b    r is what f reads off the next word of the feed a, of at least n bytes, or the fault; b is a after that word
--   admitted from n full seen     whether the name n may join its family
--   admitted_to from n limit ns   whether the name n may join a family that has the names ns and room for limit
use Rattle.std.specs.Prelude.{◌≡◌, ℕ, ◌+◌, ◌≤◌, Bool, true, false, cond, List, length, Some, None, OnOk, Ok, Err, Option, Result, nat_le}
use Rattle.words.specs.declared.name.Ident.{Ident}
use Rattle.words.specs.declared.word.Keyword.{Keyword}
use Rattle.words.specs.declared.word.Mark.{Mark}
use Rattle.words.specs.declared.fault.Source.{Source}
use Rattle.words.specs.Signs.{Sign}
use Rattle.words.specs.Stream.{Stream, head_of, tail_of, bytes_in}
use Rattle.words.specs.Reading.{rest, source_of}
use Rattle.grammar.specs.declared.fault.GrammarFault.{GrammarFault}
use Rattle.grammar.specs.declared.fault.GrammarFault.TheVariants as fault
use Rattle.grammar.specs.declared.feed.Feed.{Feed}
use Rattle.grammar.specs.Table.{is_key, is_mark, is_end, in_name, known, opt, first_of, picked}

abbrev pub in_mark : Mark → Sign → Option (Unit {0})
in_mark y x = cond (is_mark y x) (Some tt) None

abbrev pub in_keyword : Keyword → Sign → Option (Unit {0})
in_keyword k x = cond (is_key k x) (Some tt) None

abbrev pub in_keyword_or_end : Keyword → Sign → Option Bool
in_keyword_or_end k x = cond (is_key k x) (Some true) (cond (is_end x) (Some false) None)

abbrev pub in_keyword_or_mark : Keyword → Mark → Sign → Option Bool
in_keyword_or_mark k y x = cond (is_key k x) (Some true) (cond (is_mark y x) (Some false) None)

abbrev pub in_name_or : Mark → Sign → Option (Option Ident)
in_name_or y x = first_of (opt Some (in_name x)) (cond (is_mark y x) (Some None) None)

abbrev pub left : Feed → Stream
left from = rest from.reader

abbrev pub source_in : Feed → Source
source_in from = source_of from.reader

abbrev pub fetched : {X : Type 0} → (Sign → Option X) → Feed → Result X GrammarFault
fetched f from = picked (source_in from) f (head_of (source_in from) (left from))

pub record Moved (a b : Feed) : Type 0 where
  pub tail : left b ≡ tail_of (left a)
  pub source : source_in b ≡ source_in a

pub record Fetches {X : Type 0} (n : ℕ) (f : Sign → Option X) (a : Feed) (r : Result X GrammarFault) (b : Feed) : Type 0 where
  pub head : r ≡ fetched f a
  pub rest : Moved a b
  pub spent : OnOk r (n + bytes_in (left b) ≤ bytes_in (left a))
  pub fewer : bytes_in (left b) ≤ bytes_in (left a)

abbrev pub admitted : Source → Ident → Bool → Bool → Result (Unit {0}) GrammarFault
admitted from n full seen =
    cond full (Err (fault.TooMany (record { source = from; place = n.place; len = n.name.len })))
    (cond seen (Err (fault.Repeated (record { source = from; place = n.place; len = n.name.len }))) (Ok tt))

abbrev pub admitted_to : Source → Ident → ℕ → List Ident → Result (Unit {0}) GrammarFault
admitted_to from n limit ns = admitted from n (nat_le limit (length ns)) (known n ns)
