-- The table of script files keeps to their grammar, so it is right about every text.
use Rattle.std.proofs.Common.{List, Result, refl}
use Rattle.words.specs.declared.fault.Source.TheVariants.{Scripts}
use Rattle.words.specs.Stream.{Stream, WellPlaced}
use Rattle.grammar.specs.declared.fault.GrammarFault.{GrammarFault}
use Rattle.grammar.specs.Table.{run}
use Rattle.grammar.proofs.Grammars.{Tabled}
use Rattle.grammar.proofs.Law as law
use Rattle.grammar.proofs.Exact as exactly
use Rattle.script_syntax.specs.Trees.{ProcessParts}
use Rattle.script_syntax.specs.Grammar.{Spells, parts_of}
use Rattle.script_syntax.specs.Laws.{Held, Right, Exact}
use Rattle.script_syntax.specs.Machine.{ask}
use Rattle.script_syntax.specs.Machine as q
use Rattle.script_syntax.proofs.Trails.{start, spelled, at}
use Rattle.script_syntax.proofs.Steps.{edges}
use Rattle.script_syntax.proofs.Fill.{fill}
use Rattle.script_syntax.proofs.Back.{origin, spells_whole}
use Rattle.script_syntax.proofs.Spots.{held}

tabled : Tabled Spells Held parts_of at spelled ask
tabled = record {
  origin = start;
  none = refl;
  edges = edges;
  fill = fill;
  last = λ ps. q.more (parts_of ps);
  whole = spells_whole;
  ends = λ ps. refl;
  held = λ ws a x l led h. held ws a led x l h;
}

pub right : (t : Stream) → WellPlaced t → Right t (run ask Scripts origin t)
unfolding tabled
right t h = law.right Spells Held parts_of at spelled ask Scripts tabled t h

pub exact : (t : Stream) (o : Result (List ProcessParts) GrammarFault) → Right t o → Exact t o
exact t o r = exactly.exact Spells Held parts_of at spelled ask tabled Scripts t o r
