-- An operand that is read leads on to the operands behind it.
use Rattle.std.proofs.Common.{◌≡◌, Bool, true, false, cond, List, [], ◌∷◌, ◌++◌, length, ℤ, Ok, Err, Result, sym, refl, ap, ◌∙◌}
use Rattle.words.specs.declared.fault.Source.{Source}
use Rattle.words.specs.declared.name.Ident.{Ident}
use Rattle.words.specs.Signs.{Sign, Word, Numeral}
use Rattle.words.specs.Signs as s
use Rattle.words.specs.Stream.{Stream, stop, bad, word, head_of, tail_of}
use Rattle.grammar.specs.declared.fault.GrammarFault.{GrammarFault}
use Rattle.grammar.specs.declared.fault.GrammarFault.TheVariants as fault
use Rattle.grammar.specs.declared.feed.Feed.{Feed}
use Rattle.grammar.specs.Feeds.{left, source_in, Fetches, Moved}
use Rattle.grammar.specs.Table.{run, after, among, in_name, picked}
use Rattle.script_syntax.specs.declared.opcode.Opcode.{Opcode}
use Rattle.script_syntax.specs.Numbers.{value_of, is_in_range}
use Rattle.script_syntax.specs.Opcodes.{Kind}
use Rattle.script_syntax.specs.Opcodes as j
use Rattle.script_syntax.specs.Grammar.{typed}
use Rattle.script_syntax.specs.Picks.{Counts, looked_at, looked, number_in, ok}
use Rattle.script_syntax.specs.Machine.{At, Progress, ask, reading}
use Rattle.script_syntax.specs.Machine as q

-- what stands in an answer
within : {X Y : Type 0} (f : X → Y) (y : Y) (o : Result X GrammarFault) → Ok y ≡ ok f o → (x : X) × (o ≡ Ok x) × (y ≡ f x)
within f y (Ok x) e = (x, refl, cc)
within f y (Err g) e = absurd (cc)

module _ (from : Source) (p : Progress) (op : Opcode) (xs : List Sign) (ks : List Kind) where
  abbrev Onward : Kind → Sign → Stream → Type 0
  Onward i x t = run ask from (q.operands p op xs (i ∷ ks)) t ≡ run ask from (q.operands p op (xs ++ x ∷ []) ks) (tail_of t)

  named : (n : Ident) (t : Stream) → Ok n ≡ picked from in_name (head_of from t) → Onward j.name (s.Name n) t
  named n (stop i) e = absurd (cc)
  named n (bad i m) e = absurd (cc)
  named n (word w r) e = at_sign w.sign refl
    where
      at_sign : (x : Sign) → w.sign ≡ x → Onward j.name (s.Name n) (word w r)
      at_sign (s.Key y) d = absurd (cc)
      at_sign (s.Mark y) d = absurd (cc)
      at_sign (s.Name m) d =
          let f : Ok n ≡ Ok m = e ∙ ap (λ v. picked from in_name (Ok (record { place = w.place; sign = v }))) d in
          let g : n ≡ m = cc in
          ap (λ v. after from (among (ask (q.operands p op xs (j.name ∷ ks))) v) w (λ b. run ask from b r)) d
          ∙ ap (λ v. run ask from (q.operands p op (xs ++ s.Name v ∷ []) ks) r) (sym g)
      at_sign (s.Number m) d = absurd (cc)
      at_sign s.End d = absurd (cc)

  abbrev outside : Numeral → GrammarFault
  outside m = fault.OutOfRange (record { source = from; place = m.place; len = length m.bytes })

  abbrev Numbered : ℤ → ℤ → Word → Sign → Result Numeral GrammarFault
  Numbered low high w v = number_in low high from (record { place = w.place; sign = v })

  numbered : (low high : ℤ) (n : Numeral) (t : Stream) → looked_at (number_in low high from) (head_of from t) ≡ Ok n → Onward (j.number low high) (s.Number n) t
  numbered low high n (stop i) e = absurd (cc)
  numbered low high n (bad i m) e = absurd (cc)
  numbered low high n (word w r) e = at_sign w.sign refl
    where
      in_range_lem : (m : Numeral) (b : Bool) → is_in_range low high (value_of m.bytes) ≡ b → w.sign ≡ s.Number m → Onward (j.number low high) (s.Number n) (word w r)
      in_range_lem m true g d =
          let f : Numbered low high w w.sign ≡ Ok m = ap (Numbered low high w) d ∙ ap (λ v. cond v (Ok m) (Err (outside m))) g in
          let h : m ≡ n = cc in
          ap (λ v. after from (among (ask (q.operands p op xs (j.number low high ∷ ks))) v) w (λ b. run ask from b r)) d
          ∙ rw g refl ∙ ap (λ v. run ask from (q.operands p op (xs ++ s.Number v ∷ []) ks) r) h
      in_range_lem m false g d =
          let f : Numbered low high w w.sign ≡ Err (outside m) = ap (Numbered low high w) d ∙ ap (λ v. cond v (Ok m) (Err (outside m))) g in
          absurd (cc)

      at_sign : (x : Sign) → w.sign ≡ x → Onward (j.number low high) (s.Number n) (word w r)
      at_sign (s.Key y) d = absurd (cc)
      at_sign (s.Mark y) d = absurd (cc)
      at_sign (s.Name m) d = absurd (cc)
      at_sign (s.Number m) d = in_range_lem m (is_in_range low high (value_of m.bytes)) refl d
      at_sign s.End d = absurd (cc)

pub moved : (a b : Feed) → Moved a b → (r : At) → run ask (source_in a) r (tail_of (left a)) ≡ reading r b
moved a b m r = ap (λ t. run ask (source_in a) r t) (sym m.tail) ∙ ap (λ f. run ask f r (left b)) (sym m.source)

-- an operand of the kind i that says x leads from a to b
pub record Step (i : Kind) (x : Sign) (a b : Feed) : Type 0 where
  pub goes : (p : Progress) (op : Opcode) (xs : List Sign) (ks : List Kind) → reading (q.operands p op xs (i ∷ ks)) a ≡ reading (q.operands p op (xs ++ x ∷ []) ks) b

-- a name that was read
pub by_name : {a b : Feed} {n : Ident} → Fetches 1 in_name a (Ok n) b → Step j.name (s.Name n) a b
by_name {a} {b} {n} f = record { goes = λ p op xs ks. named (source_in a) p op xs ks n (left a) f.head ∙ moved a b f.rest _ }

-- a number that was read, of which x is kept
pub record Counted {X : Type 0} (f : Numeral → X) (low high : ℤ) (x : X) (a b : Feed) : Type 0 where
  pub n : Numeral
  pub is : x ≡ f n
  pub step : Step (j.number low high) (s.Number n) a b

pub by_number : {X : Type 0} {f : Numeral → X} {low high : ℤ} {x : X} {a b : Feed} → Counts f low high a (Ok x) b → Counted f low high x a b
by_number {X} {f} {low} {high} {x} {a} {b} c =
    let w = within f x (looked (number_in low high) a) c.head in
    record { n = w.0; is = w.2; step = record { goes = λ p op xs ks. numbered (source_in a) p op xs ks low high w.0 (left a) w.1 ∙ moved a b c.rest _ } }

-- all operands were read
pub closes : (a : Feed) (p : Progress) (op : Opcode) (xs : List Sign) → reading (q.operands p op xs []) a ≡ reading (q.closing p (typed op xs)) a
closes a p op xs = at-stream (left a)
  where
    at-stream : (t : Stream) → run ask (source_in a) (q.operands p op xs []) t ≡ run ask (source_in a) (q.closing p (typed op xs)) t
    at-stream (stop i) = refl
    at-stream (bad i n) = refl
    at-stream (word w r) = refl
