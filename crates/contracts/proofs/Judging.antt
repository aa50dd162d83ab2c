-- From a file by numbers to its judgement.
--   numbers-at     numbers, as the code reads them
--   resolved       a file by numbers is one that rules 9 to 14 can be tried on
--   within         what breaks a rule is a part of the file
--   mapped         what holds of either result of a call holds of it with another error
use Rattle.std.proofs.Common.{◌≡◌, ℕ, ◌<◌, List, length, ap, arith, Ok, Err, Result, sym, subst, MatchResult}
use Rattle.std.specs.Result.{IsErrAnd}
use Rattle.syntax.specs.Trees.{Parts, Ranged}
use Rattle.contracts.specs.declared.broken.Broken.{Broken}
use Rattle.contracts.specs.declared.broken.Broken.TheVariants as b
use Rattle.contracts.specs.declared.declaration.Declaration.{Declaration}
use Rattle.contracts.specs.declared.declaration.Written.{Written}
use Rattle.contracts.specs.declared.table.Table.{Table}
use Rattle.contracts.specs.Names.{head_at}
use Rattle.contracts.specs.Numbers.{messages_in, Numbers, states_in}
use Rattle.contracts.specs.Written.{Resolved}
use Rattle.contracts.specs.Tables.{table_at, messages, states}
use Rattle.contracts.specs.Acceptance.{Breaks, Tabled}
use Rattle.contracts.specs.Judgement.{Inhabited, Within}
use Rattle.contracts.proofs.Ranges.{few-contracts, few_messages, few_states, proper}

pub numbers-at : (p : Parts) (ds ds' : List Declaration) (ws ws' : List Written) → ds' ≡ ds → ws' ≡ ws → Numbers p ds ws → Numbers p ds' ws'
numbers-at p ds ds' ws ws' e f n = rw (e, f) n

module _ (p : Parts) (ds : List Declaration) (ws : List Written) (n : Numbers p ds ws) where
  pub resolved : Ranged p → Inhabited p → Resolved ds ws
  resolved r i = record {
    some = omega (arith, n.declared.count, i.some);
    few = few-contracts p ds ws r n;
    few_messages = few_messages p ds ws r n;
    some_states = λ k l. let j : k < length p.heads = omega (arith, n.declared.count) in omega (arith, (n.declared.each k l).state_count, i.stated k j);
    few_states = few_states p ds ws r n;
    proper = proper p ds ws r n;
  }

  of_move : (i : ℕ) → i < length ws → i < length p.moves
  of_move i l = omega (arith, n.moved.count)

  module _ (tables : List Table) (t : Tabled ds ws tables) (k : ℕ) (l : k < length tables) where
    own : k < length ds
    own = omega (arith, t.count)

    of_contract : k < length p.heads
    of_contract = omega (arith, own, n.declared.count)

    of_state : (s : ℕ) → s < states (table_at tables k) → s < length (head_at p.heads k).states
    of_state s h = omega (arith, h, ap (λ d. length (states_in d)) (t.each k l).declaration, (n.declared.each k own).state_count)

    of_message : (m : ℕ) → m < messages (table_at tables k) → m < length (head_at p.heads k).messages
    of_message m h = omega (arith, h, ap (λ d. length (messages_in d)) (t.each k l).declaration, (n.declared.each k own).message_count)

  pub within : (rule : Broken) → Breaks ds ws rule → Within p rule
  within (b.WrongMark i) h = of_move i h.0.0
  within (b.SecondMove i) h = of_move i h.1.0.0
  within (b.MixedMarks i) h = of_move i h.2.0.0
  within (b.Unreachable k s) h = let e = h.1.2 in (of_contract h.1.0 h.1.1 k e.0, of_state h.1.0 h.1.1 k e.0 s e.1.0.0)
  within (b.OneWayCycle k s) h = let e = h.1.2.1 in (of_contract h.1.0 h.1.1 k e.0, of_state h.1.0 h.1.1 k e.0 s e.1.0.0)
  within (b.SilentEnd k m) h = let e = h.1.2.2 in (of_contract h.1.0 h.1.1 k e.0, of_message h.1.0 h.1.1 k e.0 m e.1.0.0)

-- what holds of either result of a call holds of it with another error in the place of its own
pub mapped : {A B C : Type 0} (r : Result A B) (s : Result A C) (P : A → Type 0) (Q : B → Type 0) (T : B → C → Type 0) (J : Result A C → Type 0)
    → MatchResult r (λ x. s ≡ Ok x) (λ e. IsErrAnd s (T e)) → MatchResult r P Q → ((x : A) → P x → J (Ok x)) → ((e : B) (f : C) → Q e → T e f → J (Err f)) → J s
mapped (Ok x) s P Q T J h p kept changed = subst J (sym h) (kept x p)
mapped (Err e) (Ok y) P Q T J h p kept changed = absurd h
mapped (Err e) (Err f) P Q T J h p kept changed = changed e f p h

-- the same, where the result is known: its value is the call's, and its error comes of one of the call's
pub mapped_ok : {A B : Type 0} (C : Type 0) (r : Result A B) (x : A) (P : A → Type 0) (Q : B → Type 0) → MatchResult r (λ y. ◌≡◌ {A = Result A C} (Ok x) (Ok y)) (λ e. ⊥) → MatchResult r P Q → P x
mapped_ok C (Ok y) x P Q h p = let e : y ≡ x = cc in subst P e p
mapped_ok C (Err e) x P Q h p = absurd h

pub mapped_err : {A B C : Type 0} (r : Result A B) (f : C) (P : A → Type 0) (Q T : B → Type 0) (J : Type 0)
    → MatchResult r (λ x. ◌≡◌ {A = Result A C} (Err f) (Ok x)) T → MatchResult r P Q → ((e : B) → Q e → T e → J) → J
mapped_err (Ok x) f P Q T J h p changed = let z : ◌≡◌ {A = ℕ} 0 1 = cc in absurd (omega arith)
mapped_err (Err e) f P Q T J h p changed = changed e p h
