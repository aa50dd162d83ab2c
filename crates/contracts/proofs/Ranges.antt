-- The numbers of a file are in range.
--   few-contracts, few_messages, few_states    counts
--   proper          a move has its contract's, its states' and its message's number
--   payload-end     an end that a message carries has the number of a contract and of its state
--   end-declared    the same, of a declaration
--   all-declared    a file by numbers has no unresolved name
use Rattle.std.proofs.Common.{◌≡◌, ℕ, ◌<◌, ◌≤◌, List, length, get_or, None, Ok, refl, subst, inl, inr, arith}
use Rattle.words.specs.declared.name.Ident.{Ident}
use Rattle.syntax.specs.declared.tree.Role.{Role}
use Rattle.syntax.specs.declared.tree.Payload.{Payload as PayloadTree}
use Rattle.syntax.specs.declared.tree.Payload.TheVariants as t
use Rattle.syntax.specs.Trees.{HeadTree, no_move, Parts, Ranged}
use Rattle.contracts.specs.declared.declaration.Payload.{Payload}
use Rattle.contracts.specs.declared.declaration.Payload.TheVariants.{End}
use Rattle.contracts.specs.declared.declaration.Declaration.{Declaration}
use Rattle.contracts.specs.declared.declaration.Written.{Written}
use Rattle.contracts.specs.Names.{head_at, Unresolved}
use Rattle.contracts.specs.Numbers.{declaration_at, messages_in, states_in, Numbers, PayloadAs, quiet, written_at}
use Rattle.contracts.proofs.Firsts.{payload-first}
use Rattle.contracts.proofs.Targets.{row_small}

pub payload-end : (hs : List HeadTree) (x : PayloadTree) (y : Payload) (role : Role) (k u : ℕ) → PayloadAs hs x y → y ≡ End role k u → (k < length hs) × (u < length (head_at hs k).states)
payload-end hs t.Nothing y role k u h e = let z : ◌≡◌ {A = ℕ} 0 1 = cc in absurd (omega arith)
payload-end hs t.Block y role k u h e = let z : ◌≡◌ {A = ℕ} 0 1 = cc in absurd (omega arith)
payload-end hs (t.End role' c s) y role k u h e =
    let p : h.0 ≡ k = cc in let q : h.1 ≡ u = cc
    in subst (λ n. (n < length hs) × (u < length (head_at hs n).states)) p (subst (λ v. (h.0 < length hs) × (v < length (head_at hs h.0).states)) q (h.3.0.0, h.3.1.0))

module _ (p : Parts) (ds : List Declaration) (ws : List Written) (r : Ranged p) (n : Numbers p ds ws) where
  pub few-contracts : length ds ≤ 8
  few-contracts = omega (arith, r.contracts, n.declared.count)

  pub few_messages : (k : ℕ) → k < length ds → length (messages_in (declaration_at ds k)) ≤ 16
  few_messages k l = row_small (declaration_at ds k).messages

  pub few_states : (k : ℕ) → k < length ds → length (states_in (declaration_at ds k)) ≤ 16
  few_states k l = row_small (declaration_at ds k).states

  pub end-declared : (k m : ℕ) (role : Role) (c s : ℕ) → k < length ds → m < length (messages_in (declaration_at ds k))
      → (get_or (messages_in (declaration_at ds k)) m quiet).payload ≡ End role c s → (c < length ds) × (s < length (states_in (declaration_at ds c)))
  end-declared k m role c s l b e =
      let d = n.declared.each k l
      in let i : m < length (head_at p.heads k).messages = omega (arith, d.message_count)
      in let w = payload-end p.heads _ _ role c s (d.messages m i).payload e
      in let j : c < length ds = omega (arith, w.0, n.declared.count)
      in (j, omega (arith, w.1, (n.declared.each c j).state_count))

  pub proper : (i : ℕ) → i < length ws → ((written_at ws i).contract < length ds)
      × ((written_at ws i).state < length (states_in (declaration_at ds (written_at ws i).contract)))
      × ((written_at ws i).message < length (messages_in (declaration_at ds (written_at ws i).contract)))
      × ((written_at ws i).target < length (states_in (declaration_at ds (written_at ws i).contract)))
  proper i l =
      let w = n.moved.each i l
      in let j : i < length p.moves = omega (arith, n.moved.count)
      in let o = r.owners i j
      in let k : (get_or p.moves i no_move).contract < length ds = omega (arith, o.0, n.declared.count)
      in let d = n.declared.each (get_or p.moves i no_move).contract k
      in rw w.contract (k, omega (arith, w.state, o.1, d.state_count), omega (arith, w.message.0, d.message_count), omega (arith, w.target.0, d.state_count))

module _ (p : Parts) (ds : List Declaration) (ws : List Written) (n : Numbers p ds ws) where
  pub all-declared : (d : Ident) → Unresolved p d → ⊥
  all-declared d (inl (k, l, (m, b, h))) =
      let j : k < length ds = omega (arith, n.declared.count)
      in payload-first p.heads _ (Ok _) None ((n.declared.each k j).messages m b).payload refl d h
  all-declared d (inr (i, l, h)) =
      let j : i < length ws = omega (arith, n.moved.count)
      in elim h [ inl x ↦ x.1 (written_at ws i).message (n.moved.each i j).message | inr x ↦ x.1 (written_at ws i).target (n.moved.each i j).target ]
