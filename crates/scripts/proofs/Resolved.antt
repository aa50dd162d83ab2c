-- Statements with numbers in place of names.
--   first-once        a name stands for one number
--   declared-from     what has numbers in place of its names has no name that is not declared
--   kept_from         so it is with statements in a row
--   all-declared      so it is with the processes of a file
--   scripts-more      one script more
use Rattle.std.proofs.Common.{◌≡◌, ℕ, ◌+◌, List, [], ◌∷◌, ◌++◌, get_or, ap, ◌∙◌, subst, inl, inr, arith}
use Rattle.std.proofs.lemmas.List.{map-append}
use Rattle.std.proofs.lemmas.Bool.{cases_lt}
use Rattle.words.specs.declared.fault.Span.{Span}
use Rattle.words.specs.declared.name.Ident.{Ident}
use Rattle.contracts.specs.declared.table.Table.{Table}
use Rattle.contracts.specs.Rules.{First}
use Rattle.contracts.proofs.Numbered.{EachBelow, pushed}
use Rattle.script_syntax.specs.declared.tree.Statement.{Statement}
use Rattle.script_syntax.specs.declared.tree.Statement.TheVariants as s
use Rattle.script_syntax.specs.Trees.{ProcessParts}
use Rattle.scripts.specs.declared.instruction.Instruction.{Instruction}
use Rattle.scripts.specs.declared.script.Script.{Script}
use Rattle.scripts.specs.Names.{MessageNamed, NoPair, PairOf, Resolves, Undeclared}
use Rattle.scripts.specs.Places.{KeptBy, KeptIn}
use Rattle.scripts.specs.Scripts.{InstructionsAs, no_script, ScriptParts, ScriptsAs, script_of, scripts_of}

pub first-once : (P : ℕ → Type 0) (i j : ℕ) → First P i → First P j → i ≡ j
first-once P i j p q =
    elim (cases_lt i j) [
      | inl l ↦ absurd (q.1 i l p.0)
      | inr l ↦ elim (cases_lt j i) [ inl m ↦ absurd (p.1 j m q.0) | inr m ↦ omega arith ]
    ]

no_pair : (ts : List Table) (c m : Ident) (k n : ℕ) → PairOf ts c m k n → (sp : Span) → NoPair ts c m sp → ⊥
no_pair ts c m k n of sp (inl none) = none.1 k of.0.0
no_pair ts c m k n of sp (inr (j, first, none)) =
    none.1 n (subst (λ i. MessageNamed ts i m.name n) (first-once _ k j of.0 first) of.1.0)

pub declared-from : (ts : List Table) (x : Statement) (y : Instruction) → Resolves ts x y → (sp : Span) → Undeclared ts x sp → ⊥
declared-from ts s.End y h sp u = u
declared-from ts (s.New r) y h sp u = u
declared-from ts (s.Put r k b) y h sp u = u
declared-from ts (s.Free r) y h sp u = u
declared-from ts (s.Open c r t) y h sp u = u.1 h.0 h.2.0
declared-from ts (s.Close r) y h sp u = u
declared-from ts (s.Send e c m) y h sp u = no_pair ts c m h.0 h.1 h.3 sp u
declared-from ts (s.Pass e c m t) y h sp u = no_pair ts c m h.0 h.1 h.3 sp u
declared-from ts (s.Receive e t) y h sp u = u
declared-from ts (s.Case c m d) y h sp u = no_pair ts c m h.0 h.1 h.3 sp u
declared-from ts (s.Lost d) y h sp u = u
declared-from ts (s.Jump d) y h sp u = u

pub kept_from : (ts : List Table) (xs : List Statement) (ys : List Instruction) → InstructionsAs ts xs ys → KeptIn (λ n i. Undeclared ts) xs
kept_from ts xs ys all i l sp u = declared-from ts (get_or xs i s.End) _ (all.each i l) sp u

pub all-declared : (ts : List Table) (ps : List ProcessParts) (ss : List ScriptParts) → ScriptsAs ts ps ss → KeptBy (λ n i. Undeclared ts) ps
all-declared ts ps ss all p l = kept_from ts _ _ (all.each p l).instructions

pub scripts-more : (P : ℕ → ScriptParts → Type 0) (ss rs : List Script) (made : Script) (n : ℕ) → EachBelow P no_script (scripts_of ss) n → rs ≡ ss ++ made ∷ [] → P n (script_of made)
    → EachBelow P no_script (scripts_of rs) (n + 1)
scripts-more P ss rs made n each e here = pushed P no_script (scripts_of ss) (scripts_of rs) (script_of made) n each (ap scripts_of e ∙ map-append script_of ss (made ∷ [])) here
