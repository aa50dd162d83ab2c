-- From what was read of a text to what the checker answers.
--   short_of        a text of which a file was read is not too large
--   refused_of      a text of which no file was read is refused
--   spelt           a judgement of what was read is the answer to the text
use Rattle.std.proofs.Common.{◌≡◌, ℕ, ◌<◌, ◌≤◌, List, length, Ok, Err, Result, refl, ap, subst, inl, inr}
use Rattle.std.proofs.lemmas.Bool.{cases_lt}
use Rattle.words.specs.declared.fault.Source.TheVariants.{Scripts}
use Rattle.words.specs.Reading.{too_large}
use Rattle.words.specs.Stream.{words_of}
use Rattle.grammar.specs.declared.fault.GrammarFault.{GrammarFault}
use Rattle.grammar.specs.declared.fault.GrammarFault.TheVariants as g
use Rattle.grammar.specs.declared.row.Row.{Row}
use Rattle.contracts.specs.declared.table.Table.{Table}
use Rattle.script_syntax.specs.declared.tree.Tree.{Tree}
use Rattle.script_syntax.specs.Laws.{Right}
use Rattle.script_syntax.specs.Trees.{ProcessParts}
use Rattle.scripts.specs.declared.fault.ScriptFault.{ScriptFault}
use Rattle.scripts.specs.declared.fault.ScriptFault.TheVariants as f
use Rattle.scripts.specs.declared.script.Script.{Script}
use Rattle.scripts.specs.Checks.{ReadAs, Refused, large, unread, ruled, Spelt}
use Rattle.scripts.specs.Judgement.{Judged}

module _ (text : List ℕ) (ts : List Table) where
  pub short_of : (t : Tree) (e : GrammarFault) → (4096 < length text → ◌≡◌ {A = Result Tree GrammarFault} (Ok t) (Err e)) → length text ≤ 4096
  short_of t e h = elim (cases_lt 4096 (length text)) [ inl l ↦ (let e = h l in absurd (cc)) | inr l ↦ l ]

  pub refused_of : (e : GrammarFault) → (4096 < length text → ◌≡◌ {A = Result Tree GrammarFault} (Err e) (Err (g.Word (too_large Scripts))))
      → (length text ≤ 4096 → Right (words_of text) (Err e)) → Refused text ts (f.Grammar e)
  refused_of e h r =
      elim (cases_lt 4096 (length text)) [
        | inl l ↦ (let q = h l in let z : e ≡ g.Word (too_large Scripts) = cc in large l (ap f.Grammar z))
        | inr l ↦ unread l e (r l) refl
      ]

module _ (text : List ℕ) (ts : List Table) (short : length text ≤ 4096) (p : List ProcessParts) (r : Right (words_of text) (Ok p)) where
  read_as : ReadAs text r.2
  read_as = record { short = short; words = r.0; end = r.1; stands = r.3; clean = r.4; spells = r.5 }

  pub spelt : (a : Result (Row Script 8) ScriptFault) → Judged ts p a → Spelt text ts a
  spelt (Ok row) h = (r.2, read_as, subst (λ q. Judged ts q (Ok row)) r.6 h)
  spelt (Err fault) h = ruled r.2 read_as (subst (λ q. Judged ts q (Err fault)) r.6 h)
