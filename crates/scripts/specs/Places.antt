-- Rules on the statements of a script file, and the first statement in the order of the text that breaks one.
--   Rule                  a rule says of a statement, the i-th of n, at which part of the text it breaks it
--   KeptIn R xs           no statement of xs breaks R
--   FirstIn R xs s        the first statement of xs that breaks R does so at s
--   statements_of ps p     the statements of process p
--   KeptBy R ps           no statement of the processes ps breaks R
--   Earliest R ps s       the first statement of the processes ps that breaks R does so at s
use Rattle.std.specs.Prelude.{ℕ, ◌<◌, List, length, get_or, slice_index_or}
use Rattle.words.specs.declared.fault.Span.{Span}
use Rattle.script_syntax.specs.declared.tree.Statement.{Statement}
use Rattle.script_syntax.specs.declared.tree.Statement.TheVariants.{End}
use Rattle.script_syntax.specs.Trees.{ProcessParts, no_process}

abbrev pub Rule : Type 1
Rule = ℕ → ℕ → Statement → Span → Type 0

abbrev pub KeptIn : Rule → List Statement → Type 0
KeptIn R xs = (i : ℕ) → i < length xs → (s : Span) → R (length xs) i (slice_index_or xs i End) s → ⊥

pub record FirstIn (R : Rule) (xs : List Statement) (s : Span) : Type 0 where
  pub index : ℕ
  pub within : index < length xs
  pub breaks : R (length xs) index (slice_index_or xs index End) s
  pub before : (j : ℕ) → j < index → (o : Span) → R (length xs) j (slice_index_or xs j End) o → ⊥

abbrev pub statements_of : List ProcessParts → ℕ → List Statement
statements_of ps p = (get_or ps p no_process).statements

abbrev pub KeptBy : Rule → List ProcessParts → Type 0
KeptBy R ps = (p : ℕ) → p < length ps → KeptIn R (statements_of ps p)

pub record Earliest (R : Rule) (ps : List ProcessParts) (s : Span) : Type 0 where
  pub process : ℕ
  pub within : process < length ps
  pub first : FirstIn R (statements_of ps process) s
  pub before : (q : ℕ) → q < process → KeptIn R (statements_of ps q)
