-- Processes of a set by their names.
--   found      what a search for the first script with a name says of the processes
--   only       where each process has a name of its own, it is the one with that name
use Rattle.std.proofs.Common.{◌≡◌, ℕ, ◌<◌, List, [], length, get_or, Some, None, Option, sym, ap, ◌∙◌, arith, MatchOption}
use lib.ListN.{length-map, get_or-map}
use Rattle.std.specs.List.{AllWithin, HoldsAt}
use Rattle.words.specs.declared.name.Name.{Name}
use Rattle.contracts.specs.Numbers.{no_name}
use Rattle.contracts.specs.Rules.{Never}
use Rattle.scripts.specs.declared.script.Script.{Script}
use Rattle.scripts.specs.Runnable.{OneName}
use Rattle.scripts.specs.Scripts.{script_at, script_of, ScriptParts, scripts_of}
use Rattle.scripts.specs.View.{ProcessNamed}

abbrev pub Bears : Name → Script → Type 0
Bears n s = s.name ≡ n

-- what stands past the last script
abbrev blank : Script
blank = record { name = no_name; instructions = record { items = []; len = 0; few = omega arith } }

module _ (n : Name) (xs : List Script) (ss : List ScriptParts) (read : scripts_of xs ≡ ss) where
  name_at : (i : ℕ) → (script_at ss i).name ≡ (get_or xs i blank).name
  name_at i = ap (λ l. (script_at l i).name) (sym read) ∙ ap (λ s. s.name) (get_or-map script_of xs i blank)

  counts : length ss ≡ length xs
  counts = ap length (sym read) ∙ length-map xs script_of

  abbrev First : Option ℕ → Type 0
  First r = MatchOption r (AllWithin (λ x. Bears n x → ⊥) xs 0 (length xs)) (λ i. (i < length xs) × HoldsAt (Bears n) xs i × AllWithin (λ x. Bears n x → ⊥) xs 0 i)

  pub found : (r : Option ℕ) → First r → MatchOption r (Never (ProcessNamed ss n)) (ProcessNamed ss n)
  found None none = λ i named. none i blank (omega arith) (omega (arith, counts, named.0)) (sym (name_at i) ∙ named.1)
  found (Some i) (l, bears, before) = (omega (arith, counts), name_at i ∙ bears blank)

  pub only : (r : Option ℕ) → First r → OneName ss → (p : ℕ) → ProcessNamed ss n p → r ≡ Some p
  only None none one p named = absurd (found None none p named)
  only (Some i) h one p named =
      let here = found (Some i) h in
      ap Some (one (record { one = i; other = p; first = here.0; second = named.0; named = here.1 ∙ sym named.1 }))
