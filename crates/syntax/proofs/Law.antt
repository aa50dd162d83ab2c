-- The table of contract files keeps to their grammar, so it is right about every text.
use Rattle.std.proofs.Common.{◌≡◌, None, Result, sym, refl, ◌∙◌}
use Rattle.words.specs.declared.fault.Source.TheVariants.{Contracts}
use Rattle.words.specs.Signs.{Numeral}
use Rattle.words.specs.Signs as s
use Rattle.words.specs.Stream.{Stream, stop, bad, word, Proper}
use Rattle.grammar.specs.declared.fault.GrammarFault.{GrammarFault}
use Rattle.grammar.specs.Table.{among, run}
use Rattle.grammar.proofs.Tables.{none-some}
use Rattle.grammar.proofs.Grammars.{Tabled}
use Rattle.grammar.proofs.Law.{Placed}
use Rattle.grammar.proofs.Law as law
use Rattle.grammar.proofs.Exact as exactly
use Rattle.syntax.specs.Trees.{Parts, parts_of}
use Rattle.syntax.specs.Grammar.{Spells}
use Rattle.syntax.specs.Laws.{Held, Right, Exact}
use Rattle.syntax.specs.Machine.{At, ask}
use Rattle.syntax.specs.Machine as q
use Rattle.syntax.proofs.Trails.{start, spelled, at}
use Rattle.syntax.proofs.Steps.{edges}
use Rattle.syntax.proofs.Fill.{fill}
use Rattle.syntax.proofs.Back.{origin, spells_whole}
use Rattle.syntax.proofs.Spots.{held}

tabled : Tabled Spells Held parts_of at spelled ask
tabled = record {
  origin = start;
  none = refl;
  edges = edges;
  fill = fill;
  last = λ cs. q.more (parts_of cs);
  whole = spells_whole;
  ends = λ cs. refl;
  held = λ ws a x l led h. held ws a led x l h;
}

-- nowhere may a number stand
no_number : (a : At) (n : Numeral) → among (ask a) (s.Number n) ≡ None
no_number (q.start p) n = refl
no_number (q.heading p) n = refl
no_number (q.opening p i) n = refl
no_number (q.messages p) n = refl
no_number (q.message p way) n = refl
no_number (q.called p way i) n = refl
no_number (q.carrying p way i role) n = refl
no_number (q.stating p way i role c) n = refl
no_number (q.closing p x) n = refl
no_number (q.state p) n = refl
no_number (q.entering p) n = refl
no_number (q.moves p) n = refl
no_number (q.move p i) n = refl
no_number (q.marked p i way) n = refl
no_number (q.aiming p i way) n = refl
no_number (q.aimed p v) n = refl
no_number (q.states p) n = refl
no_number (q.more p) n = refl

placed : (t : Stream) → Proper t → Placed ask t
placed (stop p) h = tt
placed (bad p n) h = tt
placed (word w r) h = (h.0, λ n e a b m o. absurd (none-some _ (sym (no_number a n) ∙ o)), h.1, placed r h.2)

pub right : (t : Stream) → Proper t → Right t (run ask Contracts origin t)
unfolding tabled
right t h = law.right_placed Spells Held parts_of at spelled ask Contracts tabled t (placed t h)

pub exact : (t : Stream) (o : Result Parts GrammarFault) → Right t o → Exact t o
exact t o r = exactly.exact Spells Held parts_of at spelled ask tabled Contracts t o r
