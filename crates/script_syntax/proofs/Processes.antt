-- The processes of a file, as the code reads them.
--   idents_of      the names of the processes are those that the code reads
--   process_at     process i of a file is the one that the code reads at i
--   read_at        so it is with one that was read
use Rattle.std.proofs.Common.{◌≡◌, ℕ, ◌<◌, List, [], ◌∷◌, map, length, get_or, refl, sym, ap, ◌∙◌, arith}
use Rattle.std.proofs.lemmas.List.{get_or_read}
use lib.ListN.{get_or-map}
use Rattle.grammar.specs.Families.{no_ident}
use Rattle.script_syntax.specs.declared.tree.Process.{Process}
use Rattle.script_syntax.specs.Trees.{no_process, process_of, processes_of}

-- what stands past the last process
abbrev pub blank : Process
blank = record { ident = no_ident; statements = record { items = []; len = 0; few = omega arith } }

pub process_at : (ps : List Process) (i : ℕ) → get_or (processes_of ps) i no_process ≡ process_of (get_or ps i blank)
process_at ps i = get_or-map process_of ps i blank

-- a process that was read at a place
pub read_at : (ps : List Process) (i : ℕ) (x : Process) → i < length ps → x ≡ get_or ps i x → get_or (processes_of ps) i no_process ≡ process_of x
read_at ps i x l e = process_at ps i ∙ sym (ap process_of (get_or_read ps i x l e blank))

pub idents_of : (ps : List Process) → map (λ x. x.ident) (processes_of ps) ≡ map (λ x. x.ident) ps
idents_of [] = refl
idents_of (x ∷ ps) = ap (λ l. x.ident ∷ l) (idents_of ps)
