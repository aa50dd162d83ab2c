-- What the table of a contract keeps of the moves as they are written.
use Rattle.std.proofs.Common.{◌≡◌, ℕ, ◌<◌, List, length, get_or, sym, ap, ◌∙◌, subst, arith}
use Rattle.syntax.specs.declared.tree.Mark.{Mark}
use Rattle.syntax.specs.declared.tree.Mark.TheVariants.{Out, In}
use Rattle.contracts.specs.declared.declaration.Declaration.{Declaration}
use Rattle.contracts.specs.declared.declaration.Written.{Written}
use Rattle.contracts.specs.declared.table.Table.{Table}
use Rattle.contracts.specs.Acceptance.{Each, Marked, Tabled}
use Rattle.contracts.specs.Numbers.{declaration_at, messages_in, states_in, quiet, written_at}
use Rattle.contracts.specs.Rules.{Never, Positional}
use Rattle.contracts.specs.Tables.{mark_of, states, table_at}
use Rattle.contracts.specs.Written.{Holds, Listed, MixedMarks, Resolved, SecondMove, WrongMark}
use Rattle.contracts.proofs.Alike.{mark-same, one-mark, out_in}

-- the numbers of a move are those that its contract declares
pub declared-at : (ds : List Declaration) (ws : List Written) → Resolved ds ws → (c s m u : ℕ) → Listed ws (length ws) c s m u
    → (s < length (states_in (declaration_at ds c))) × (m < length (messages_in (declaration_at ds c))) × (u < length (states_in (declaration_at ds c)))
declared-at ds ws resolved c s m u (i, l, o, x, y, z) =
    let (a, b, d, e) = resolved.proper i l in
    let states : length (states_in (declaration_at ds (written_at ws i).contract)) ≡ length (states_in (declaration_at ds c)) = ap (λ k. length (states_in (declaration_at ds k))) o in
    let messages : length (messages_in (declaration_at ds (written_at ws i).contract)) ≡ length (messages_in (declaration_at ds c)) = ap (λ k. length (messages_in (declaration_at ds k))) o in
    omega arith

-- and so they are below sixteen
pub small_at : (ds : List Declaration) (ws : List Written) → Resolved ds ws → (i : ℕ) → i < length ws → ((written_at ws i).state < 16) × ((written_at ws i).message < 16)
small_at ds ws resolved i l =
    let (a, b, d, e) = resolved.proper i l in
    let few = resolved.few_states (written_at ws i).contract a in
    let few-too = resolved.few_messages (written_at ws i).contract a in
    omega arith

module _ (ds : List Declaration) (ws : List Written) (c : ℕ) (t : Table) (holds : Holds t ds ws c) (marked : Marked ds ws) where
  -- a move as written has its message's mark
  right_mark : {s m u : ℕ} (d : Mark) → (h : Listed ws (length ws) c s m u) → mark_of t m ≡ d → (written_at ws h.0).mark ≡ d
  right_mark {m = m} d (i, l, o, x, y, z) e =
      mark-same _ _ (λ unlike. marked.right_marks i (l, unlike))
      ∙ ap (λ k. (get_or (messages_in (declaration_at ds k)) (written_at ws i).message quiet).mark) o
      ∙ ap (λ n. (get_or (messages_in (declaration_at ds c)) n quiet).mark) y
      ∙ ap (λ (x : Declaration). (get_or (messages_in x) m quiet).mark) (sym holds.declaration) ∙ e

  -- the moves of a state have one mark
  pub positional-from : Positional t
  positional-from s out in' =
      let h = holds.listed s out.1.0 out.0 out.1.2 in
      let k = holds.listed s in'.1.0 in'.0 in'.1.2 in
      out_in
      (sym (right_mark Out h out.1.1)
      ∙ one-mark ws marked.positional h.0 k.0 h.1 k.1 (h.2 ∙ sym k.2, h.3 ∙ sym k.3)
      ∙ right_mark In k in'.1.1)

-- the rules on moves, where no move breaks one
pub marked_from : (ds : List Declaration) (ws : List Written) → Never (WrongMark ds ws) → Never (SecondMove ws) → Never (MixedMarks ws) → Marked ds ws
marked_from ds ws right single alike = record { right_marks = right; deterministic = single; positional = alike }

-- each of them has a state, and the moves of each state have one mark
module _ (ds : List Declaration) (ws : List Written) (resolved : Resolved ds ws) (marked : Marked ds ws) (ts : List Table) (tabled : Tabled ds ws ts) where
  pub each-inhabited : Each (λ t. 0 < states t) ts
  each-inhabited k l =
      let within : k < length ds = omega (arith, tabled.count) in
      subst (λ (x : Declaration). 0 < length (states_in x)) (sym (tabled.each k l).declaration) (resolved.some_states k within)

  pub each-positional : Each Positional ts
  each-positional k l = positional-from ds ws k (table_at ts k) (tabled.each k l) marked
