-- From what was read of a text to what the checker answers.
--   inhabited_of    a file has a contract, and each contract a state
--   read_as         what was read of a text is what it spells
--   short_of        a text of which a file was read is not too large
--   refused_of      a text of which no file was read is refused
--   checked         a judgement of what was read is the answer to the text
--   never_unread    of a text that spells a file a file is read
--   accepted_of     a text that spells a file which keeps every rule is accepted
use Rattle.std.proofs.Common.{◌≡◌, ℕ, zero, suc, ◌<◌, ◌≤◌, true, List, [], ◌∷◌, map, length, is_ok, Ok, Err, Result, sym, refl, ap, subst, inl, inr, arith}
use lib.ListN.{length-map}
use Rattle.std.proofs.lemmas.Bool.{cases_lt}
use Rattle.words.specs.declared.fault.Source.TheVariants.{Contracts}
use Rattle.words.specs.Reading.{too_large}
use Rattle.words.specs.Stream.{words_of}
use Rattle.grammar.specs.declared.fault.GrammarFault.{GrammarFault}
use Rattle.grammar.specs.declared.fault.GrammarFault.TheVariants as g
use Rattle.syntax.specs.declared.tree.Tree.{Tree}
use Rattle.syntax.specs.Grammar.{Stated}
use Rattle.grammar.specs.Laws.{signs}
use Rattle.syntax.specs.Laws.{Exact, Right}
use Rattle.syntax.specs.Trees.{ContractTree, Parts, StateTree, head_tree, parts_of}
use Rattle.syntax.proofs.Distinct.{distinct}
use Rattle.contracts.specs.declared.fault.RuleFault.{RuleFault}
use Rattle.contracts.specs.declared.fault.RuleFault.TheVariants as f
use Rattle.contracts.specs.declared.set.ContractSet.{ContractSet}
use Rattle.contracts.specs.Checks.{Checked, ReadAs, Refused, large, unread, ruled}
use Rattle.contracts.specs.Judgement.{Inhabited, Judged, Keeps}
use Rattle.contracts.specs.Names.{head_at}
use Rattle.contracts.proofs.Unique.{lawful-accepted}

not_empty : {X : Type 0} (xs : List X) → (xs ≡ [] → ⊥) → 0 < length xs
not_empty [] h = absurd (h refl)
not_empty (x ∷ xs) h = omega arith

has_state : (cs : List ContractTree) → Stated cs → (k : ℕ) → k < length cs → 0 < length (head_at (map head_tree cs) k).states
has_state [] h k l = absurd (omega arith)
has_state (c ∷ cs) h zero l = let e = length-map c.states (λ (x : StateTree). x.ident) in omega (arith, e, not_empty c.states h.0)
has_state (c ∷ cs) h (suc k) l = has_state cs h.1 k (omega arith)

pub inhabited_of : (cs : List ContractTree) → (cs ≡ [] → ⊥) → Stated cs → Inhabited (parts_of cs)
inhabited_of cs some stated = record {
  some = let e = length-map cs head_tree in omega (arith, e, not_empty cs some);
  stated = λ k l. has_state cs stated k (let e = length-map cs head_tree in omega (arith, e, l));
}

module _ (text : List ℕ) where
  pub short_of : (t : Tree) (e : GrammarFault) → (4096 < length text → ◌≡◌ {A = Result Tree GrammarFault} (Ok t) (Err e)) → length text ≤ 4096
  short_of t e h = elim (cases_lt 4096 (length text)) [ inl l ↦ (let e = h l in let z : ◌≡◌ {A = ℕ} 0 1 = cc in absurd (omega arith)) | inr l ↦ l ]

  pub refused_of : (e : GrammarFault) → (4096 < length text → ◌≡◌ {A = Result Tree GrammarFault} (Err e) (Err (g.Word (too_large Contracts))))
      → (length text ≤ 4096 → Right (words_of text) (Err e)) → Refused text (f.Grammar e)
  refused_of e h r =
      elim (cases_lt 4096 (length text)) [
        | inl l ↦ (let q = h l in let z : e ≡ g.Word (too_large Contracts) = cc in large l (ap f.Grammar z))
        | inr l ↦ unread l e (r l) refl
      ]

module _ (text : List ℕ) (short : length text ≤ 4096) (p : Parts) (r : Right (words_of text) (Ok p)) where
  pub read_as : ReadAs text r.2
  read_as = record { short = short; words = r.0; end = r.1; stands = r.3; clean = r.4; spells = r.5 }

  pub inhabited : Inhabited p
  inhabited = subst Inhabited (sym r.6) (inhabited_of r.2 r.5.some r.5.stated)

  pub checked : (a : Result ContractSet RuleFault) → Judged p a → Checked text a
  checked (Ok set) h = (r.2, read_as, subst (λ q. Judged q (Ok set)) r.6 h)
  checked (Err fault) h = ruled r.2 read_as (subst (λ q. Judged q (Err fault)) r.6 h)

module _ (text : List ℕ) (cs : List ContractTree) (read : ReadAs text cs) where
  spelt : (o : Result Parts GrammarFault) → (length text ≤ 4096 → Exact (words_of text) o) → o ≡ Ok (parts_of cs)
  spelt o exact = exact read.short read.words read.end cs read.stands read.clean read.spells

  pub never_unread : (e : GrammarFault) → (length text ≤ 4096 → Exact (words_of text) (Err e)) → ⊥
  never_unread e exact = let q = spelt (Err e) exact in let z : ◌≡◌ {A = ℕ} 0 1 = cc in omega arith

  pub accepted_of : (p : Parts) → (length text ≤ 4096 → Exact (words_of text) (Ok p)) → Keeps (parts_of cs) → (a : Result ContractSet RuleFault) → Judged p a → is_ok a ≡ true
  accepted_of p exact keeps a h =
      let q = spelt (Ok p) exact in
      let same : p ≡ parts_of cs = cc in
      lawful-accepted (parts_of cs) (distinct (signs read.words) cs read.spells read.clean) keeps a (subst (λ x. Judged x a) same h)
