-- From the table's answer to the laws.
use Rattle.std.proofs.Common.{◌≡◌, ℕ, List, [], IfOk, Ok, Err, Result, sym, ap, ◌∙◌, subst}
use Rattle.words.specs.declared.fault.Source.TheVariants.{Contracts}
use Rattle.words.specs.Stream.{Stream, words_of}
use Rattle.words.proofs.Streams.{stream-proper}
use Rattle.grammar.specs.declared.fault.GrammarFault.{GrammarFault}
use Rattle.grammar.specs.Laws.{signs}
use Rattle.grammar.specs.Table.{run}
use Rattle.syntax.specs.declared.tree.Tree.{Tree}
use Rattle.syntax.specs.Trees.{parts_of, parts, Ranged}
use Rattle.syntax.specs.Laws.{Right, Exact, outcome}
use Rattle.syntax.specs.Machine.{ask, start}
use Rattle.syntax.proofs.Law.{right, exact}
use Rattle.syntax.proofs.Ranges.{ranged}

ranged_if : (ws : Stream) (r : Result Tree GrammarFault) → Right ws (outcome r) → IfOk r (λ t. Ranged (parts t))
ranged_if ws (Ok t) h = subst Ranged (sym h.6) (ranged (signs h.0) h.2 h.5 h.4)
ranged_if ws (Err f) h = tt

module _ (text : List ℕ) (ws : Stream) (r : Result Tree GrammarFault) (e : outcome r ≡ run ask Contracts (start (parts_of [])) ws) (f : ws ≡ words_of text) where
  pub right_of : Right (words_of text) (outcome r)
  right_of = subst (λ o. Right (words_of text) o) (sym (e ∙ ap (run ask Contracts (start (parts_of []))) f)) (right (words_of text) (stream-proper text 0 0))

  pub exact_of : Exact (words_of text) (outcome r)
  exact_of = exact (words_of text) (outcome r) right_of

  pub ranged_of : IfOk r (λ t. Ranged (parts t))
  ranged_of = ranged_if (words_of text) r right_of
