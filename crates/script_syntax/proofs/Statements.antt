-- An instruction word that is read leads on to its operands.
use Rattle.std.proofs.Common.{◌≡◌, ℕ, Bool, true, false, cond, leb, [], length, Some, Ok, Err, Option, Result, sym, refl, ap, ◌∙◌, subst}
use Rattle.words.specs.declared.fault.Source.{Source}
use Rattle.words.specs.declared.word.Keyword.TheVariants as k
use Rattle.words.specs.declared.word.Mark.TheVariants as m
use Rattle.words.specs.Signs.{Sign, Word}
use Rattle.words.specs.Signs as s
use Rattle.words.specs.Stream.{Stream, stop, bad, word, head_of, tail_of}
use Rattle.grammar.specs.declared.fault.GrammarFault.{GrammarFault}
use Rattle.grammar.specs.declared.fault.GrammarFault.TheVariants as fault
use Rattle.grammar.specs.declared.feed.Feed.{Feed}
use Rattle.grammar.specs.Feeds.{left, source_in, Moved}
use Rattle.grammar.specs.Laws.{span_of}
use Rattle.grammar.specs.Table.{Goes, judged, fine, crowded, run}
use Rattle.script_syntax.specs.declared.opcode.Opcode.{Opcode}
use Rattle.script_syntax.specs.declared.opcode.Opcode.TheVariants as o
use Rattle.script_syntax.specs.Opcodes.{kinds}
use Rattle.script_syntax.specs.Picks.{looked_at, looked, statement_in}
use Rattle.script_syntax.specs.Machine.{At, Progress, ask, reading, spare, turned}
use Rattle.script_syntax.specs.Machine as q
use Rattle.script_syntax.proofs.Operands.{moved}

module _ (from : Source) (p : Progress) (full : Bool) (r : Stream) where
  abbrev Onward : Word → Type 0
  Onward w = Goes (run ask from (q.body p) (word w r)) (statement_in full from w) (λ x. run ask from (turned p x) r)

  -- an instruction word, which leads on where there is room
  keyed : (w : Word) (op : Opcode) (b : Bool) → leb 64 (length p.statements) ≡ b
      → Goes (judged from w (spare p) (run ask from (q.operands p op [] (kinds op)) r)) (cond b (Err (fault.TooMany (span_of from w))) (Ok (Some op))) (λ x. run ask from (turned p x) r)
  keyed w op true f = ap (λ b. judged from w (cond b crowded fine) (run ask from (q.operands p op [] (kinds op)) r)) f
  keyed w op false f = ap (λ b. judged from w (cond b crowded fine) (run ask from (q.operands p op [] (kinds op)) r)) f

  at-word : (i : ℕ) (v : Sign) → leb 64 (length p.statements) ≡ full → Onward (record { place = i; sign = v })
  at-word i (s.Key k.Contract) f = refl
  at-word i (s.Key k.Out) f = refl
  at-word i (s.Key k.In) f = refl
  at-word i (s.Key k.Block) f = refl
  at-word i (s.Key k.Exp) f = refl
  at-word i (s.Key k.Imp) f = refl
  at-word i (s.Key k.State) f = refl
  at-word i (s.Key k.Process) f = refl
  at-word i (s.Key k.New) f = keyed (record { place = i; sign = s.Key k.New }) o.New full f
  at-word i (s.Key k.Put) f = keyed (record { place = i; sign = s.Key k.Put }) o.Put full f
  at-word i (s.Key k.Free) f = keyed (record { place = i; sign = s.Key k.Free }) o.Free full f
  at-word i (s.Key k.Open) f = keyed (record { place = i; sign = s.Key k.Open }) o.Open full f
  at-word i (s.Key k.Close) f = keyed (record { place = i; sign = s.Key k.Close }) o.Close full f
  at-word i (s.Key k.Send) f = keyed (record { place = i; sign = s.Key k.Send }) o.Send full f
  at-word i (s.Key k.Pass) f = keyed (record { place = i; sign = s.Key k.Pass }) o.Pass full f
  at-word i (s.Key k.Receive) f = keyed (record { place = i; sign = s.Key k.Receive }) o.Receive full f
  at-word i (s.Key k.Case) f = keyed (record { place = i; sign = s.Key k.Case }) o.Case full f
  at-word i (s.Key k.Lost) f = keyed (record { place = i; sign = s.Key k.Lost }) o.Lost full f
  at-word i (s.Key k.Jump) f = keyed (record { place = i; sign = s.Key k.Jump }) o.Jump full f
  at-word i (s.Key k.End) f = keyed (record { place = i; sign = s.Key k.End }) o.End full f
  at-word i (s.Mark m.OpenBrace) f = refl
  at-word i (s.Mark m.CloseBrace) f = refl
  at-word i (s.Mark m.Semicolon) f = refl
  at-word i (s.Mark m.Bang) f = refl
  at-word i (s.Mark m.Question) f = refl
  at-word i (s.Mark m.Arrow) f = refl
  at-word i (s.Name n) f = refl
  at-word i (s.Number n) f = refl
  at-word i s.End f = refl

at-stream : (from : Source) (p : Progress) (full : Bool) → leb 64 (length p.statements) ≡ full → (t : Stream)
    → Goes (run ask from (q.body p) t) (looked_at (statement_in full from) (head_of from t)) (λ x. run ask from (turned p x) (tail_of t))
at-stream from p full f (stop i) = refl
at-stream from p full f (bad i n) = refl
at-stream from p full f (word w r) = at-word from p full r w.place w.sign f

onward : {X R : Type 0} (o : Result R GrammarFault) (r : Result X GrammarFault) (f g : X → Result R GrammarFault) → ((x : X) → f x ≡ g x) → Goes o r f → Goes o r g
onward o (Ok x) f g h e = e ∙ h x
onward o (Err d) f g h e = e

pub by_statement : (a b : Feed) (o : Result (Option Opcode) GrammarFault) (p : Progress) (full : Bool) → o ≡ looked (statement_in full) a → leb 64 (length p.statements) ≡ full → Moved a b
    → Goes (reading (q.body p) a) o (λ x. reading (turned p x) b)
by_statement a b o p full e f mv =
    subst (λ v. Goes (reading (q.body p) a) v (λ x. reading (turned p x) b)) (sym e)
    (onward (reading (q.body p) a) (looked (statement_in full) a) _ _ (λ x. moved a b mv (turned p x)) (at-stream (source_in a) p full f (left a)))
