-- Looking a name up among those that are declared.
--   head_at_lem        what contract k declares, as the code reads it
--   contract-named, state-named    a name that the code reads is one of the file
--   contract_read, state_read      a name of the file is one that the code reads
--   few_states                     a contract has at most 16 states
--   head_read, messages_read, states_read    what the code reads of a contract of a tree is what it declares
--   named_or                       a name that is found, or else the one that was looked for
use Rattle.std.proofs.Common.{◌≡◌, ℕ, zero, suc, ◌<◌, ◌≤◌, List, [], ◌∷◌, map, length, get_or, sym, refl, ap, ◌∙◌, subst, arith, Some, None, Option, Result, MatchOption, MatchResult}
use Rattle.std.specs.Option.{ok_or}
use Rattle.std.proofs.lemmas.List.{get_or_read, length-map}
use Rattle.words.specs.declared.name.Name.{Name}
use Rattle.words.specs.declared.name.Ident.{Ident}
use Rattle.syntax.specs.declared.tree.Message.{Message}
use Rattle.grammar.specs.Rows.{row_items}
use Rattle.syntax.specs.declared.tree.Tree.{Tree}
use Rattle.syntax.specs.declared.tree.Head.{Head}
use Rattle.grammar.specs.Families.{no_ident}
use Rattle.syntax.specs.Trees.{declares, HeadTree, parts}
use Rattle.contracts.proofs.Targets.{row_small}
use Rattle.contracts.specs.Names.{ContractNamed, head_at, StateIn, StateNamed}

-- what the code reads past the last contract
abbrev pub blank : Head
blank = record { ident = no_ident; messages = record { items = []; len = 0; few = omega arith }; states = record { items = []; len = 0; few = omega arith } }

pub head_at_lem : (hs : List Head) (k : ℕ) → head_at (map declares hs) k ≡ declares (get_or hs k blank)
head_at_lem [] k = refl
head_at_lem (h ∷ hs) zero = refl
head_at_lem (h ∷ hs) (suc k) = head_at_lem hs k

pub contract-named : (hs : List Head) (k : ℕ) (n : Name) → k < length hs → (get_or hs k blank).ident.name ≡ n → ContractNamed (map declares hs) n k
contract-named hs k n l e = (simp length-map l, ap (λ h. h.ident.name) (head_at_lem hs k) ∙ e)

pub contract_read : (hs : List Head) (k : ℕ) (n : Name) → ContractNamed (map declares hs) n k → (k < length hs) × ((get_or hs k blank).ident.name ≡ n)
contract_read hs k n h = (simp length-map at h.0, sym (ap (λ h. h.ident.name) (head_at_lem hs k)) ∙ h.1)

pub state-named : (hs : List Head) (k : ℕ) (ss : List Ident) (n : Name) (s : ℕ) → ss ≡ (declares (get_or hs k blank)).states → StateIn ss n s → StateNamed (map declares hs) k n s
state-named hs k ss n s e h = let P : List Ident → Type 0 = λ xs. StateIn xs n s in subst P (e ∙ sym (ap (λ h. h.states) (head_at_lem hs k))) h

pub state_read : (hs : List Head) (k : ℕ) (ss : List Ident) (n : Name) (s : ℕ) → ss ≡ (declares (get_or hs k blank)).states → StateNamed (map declares hs) k n s → StateIn ss n s
state_read hs k ss n s e h = let P : List Ident → Type 0 = λ xs. StateIn xs n s in subst P (ap (λ h. h.states) (head_at_lem hs k) ∙ sym e) h

-- a contract of a tree has at most 16 states
pub few_states : (hs : List Head) (k : ℕ) → length (head_at (map declares hs) k).states ≤ 16
few_states hs k = subst (λ (h : HeadTree). length h.states ≤ 16) (sym (head_at_lem hs k)) (row_small (get_or hs k blank).states)

-- what the code reads of contract k of a tree: hs are the tree's contracts, and h is the one at k
module _ (t : Tree) (hs : List Head) (k : ℕ) (h : Head) (all : hs ≡ row_items t.heads) (read : h ≡ get_or hs k h) where
  pub inside : k < length (parts t).heads → k < length hs
  inside l = omega (arith, length-map (row_items t.heads) declares, ap length all)

  pub head_read : k < length (parts t).heads → declares h ≡ head_at (parts t).heads k
  head_read l = ap declares (get_or_read hs k h (inside l) read blank) ∙ sym (head_at_lem hs k) ∙ ap (λ xs. head_at (map declares xs) k) all

  pub messages_read : (ms : List Message) → k < length (parts t).heads → ms ≡ row_items h.messages → ms ≡ (head_at (parts t).heads k).messages
  messages_read ms l e = e ∙ ap (λ x. x.messages) (head_read l)

  pub states_read : (ss : List Ident) → k < length (parts t).heads → ss ≡ row_items h.states → ss ≡ (head_at (parts t).heads k).states
  states_read ss l e = e ∙ ap (λ x. x.states) (head_read l)

-- a name that is found, or else the one that was looked for
pub named_or : {X : Type 0} (N : Type 0) (S : ℕ → Type 0) (o : Option ℕ) (r : Result ℕ X) (x : X) → r ≡ ok_or o x → MatchOption o N S → MatchResult r S (λ d. (x ≡ d) × N)
named_or N S None r x e h = subst (λ r. MatchResult r S (λ d. (x ≡ d) × N)) (sym e) (refl, h)
named_or N S (Some n) r x e h = subst (λ r. MatchResult r S (λ d. (x ≡ d) × N)) (sym e) h
