-- The numbers of a file are the only ones, and so a file that keeps every rule breaks none.
--   same-moves         two ways to number the moves of a file are one
--   agree              two ways to number what a file declares agree on all that it declares
--   same_tables        the tables of what agrees are alike
--   none-broken        where every rule is kept none is broken
--   lawful-accepted    a file that keeps every rule is accepted
use Rattle.std.proofs.Common.{◌≡◌, ℕ, ◌<◌, true, List, map, length, get_or, is_ok, Some, None, Ok, Err, Option, Result, sym, refl, ap, ◌∙◌, subst, inl, inr, arith}
use mathlib.Core.HLevel.{⊥_prop}
use mathlib.Core.Logic.{∥∥₁_elim}
use Rattle.std.proofs.lemmas.List.{get_or_default, get_or-map, get_or_past, length-map, same_lists}
use Rattle.std.proofs.lemmas.Bool.{cases_lt}
use Rattle.words.specs.declared.name.Ident.{Ident}
use Rattle.words.specs.declared.name.Name.{Name}
use Rattle.syntax.specs.declared.tree.Mark.{Mark}
use Rattle.syntax.specs.declared.tree.Payload.{Payload as PayloadTree}
use Rattle.syntax.specs.declared.tree.Payload.TheVariants as t
use Rattle.syntax.specs.declared.tree.Message.{Message as MessageTree}
use Rattle.grammar.specs.Families.{no_ident, Once}
use Rattle.syntax.specs.Trees.{Distinct, HeadTree, no_head, no_move, Parts}
use Rattle.contracts.specs.declared.broken.Broken.{Broken}
use Rattle.contracts.specs.declared.broken.Broken.TheVariants as b
use Rattle.contracts.specs.declared.declaration.Declaration.{Declaration}
use Rattle.contracts.specs.declared.declaration.Message.{Message}
use Rattle.contracts.specs.declared.declaration.Payload.{Payload}
use Rattle.contracts.specs.declared.declaration.Payload.TheVariants.{Nothing, Block, End}
use Rattle.contracts.specs.declared.declaration.Written.{Written}
use Rattle.contracts.specs.declared.fault.RuleFault.{RuleFault}
use Rattle.contracts.specs.declared.set.ContractSet.{ContractSet}
use Rattle.contracts.specs.declared.table.Table.{Table}
use Rattle.contracts.specs.Acceptance.{Accepted, Breaks, Tabled}
use Rattle.contracts.specs.Judgement.{broken, Faulty, Judged, Keeps, undeclared}
use Rattle.contracts.specs.Moves.{Goes}
use Rattle.contracts.specs.Names.{ContractNamed, head_at, MessageNamed, no_message, StateNamed}
use Rattle.contracts.specs.Numbers.{declaration_at, messages_in, states_in, MessageAs, Numbers, PayloadAs, quiet, unwritten, written_at, WrittenAs}
use Rattle.contracts.specs.Paths.{Path, stay, step}
use Rattle.contracts.specs.Rules.{Along, Among, Unreached, Cycling}
use Rattle.contracts.specs.Tables.{message_at, messages, states, table_at}
use Rattle.syntax.specs.Roles.{sends}
use Rattle.contracts.specs.Transfers.{Sendable, SilentEnd}
use Rattle.contracts.proofs.Ranges.{all-declared}

-- a name of a family has one number
one_number : {X : Type 0} (f : X → Ident) (d : X) (xs : List X) → Once (map f xs) → (n : Name) (i j : ℕ)
    → i < length xs → (f (get_or xs i d)).name ≡ n → j < length xs → (f (get_or xs j d)).name ≡ n → i ≡ j
one_number f d xs once n i j li ei lj ej =
    once i j (let l = length-map xs f in omega arith) (let l = length-map xs f in omega arith)
    (ap (λ x. x.name) (get_or-map f xs i d no_ident li) ∙ ei ∙ sym ej ∙ sym (ap (λ x. x.name) (get_or-map f xs j d no_ident lj)))

-- what declares something is a contract
declaring : {X : Type 0} (f : HeadTree → List X) (hs : List HeadTree) (k m : ℕ) → length (f no_head) ≡ 0 → m < length (f (head_at hs k)) → k < length hs
declaring f hs k m none l =
    elim (cases_lt k (length hs)) [
      | inl h ↦ h
      | inr h ↦ absurd (let e = ap (λ x. length (f x)) (get_or_past hs k no_head h) in omega arith)
    ]

module _ (p : Parts) (distinct : Distinct p) where
  one-contract : (n : Name) (k j : ℕ) → ContractNamed p.heads n k → ContractNamed p.heads n j → k ≡ j
  one-contract n k j g h = one_number (λ (x : HeadTree). x.ident) no_head p.heads distinct.contracts n k j g.0 g.1 h.0 h.1

  one-message : (k : ℕ) (n : Name) (m j : ℕ) → MessageNamed p.heads k n m → MessageNamed p.heads k n j → m ≡ j
  one-message k n m j g h = one_number (λ (x : MessageTree). x.ident) no_message (head_at p.heads k).messages (distinct.messages k) n m j g.0 g.1 h.0 h.1

  one_state : (k : ℕ) (n : Name) (s j : ℕ) → StateNamed p.heads k n s → StateNamed p.heads k n j → s ≡ j
  one_state k n s j g h = distinct.states k s j g.0 h.0 (g.1 ∙ sym h.1)

  one-payload : (x : PayloadTree) (y z : Payload) → PayloadAs p.heads x y → PayloadAs p.heads x z → y ≡ z
  one-payload t.Nothing y z g h = g ∙ sym h
  one-payload t.Block y z g h = g ∙ sym h
  one-payload (t.End role c s) y z (k, u, e, (named, stands)) (j, v, f, (called, stays)) =
      let same = one-contract c.name k j named called in
      let state = one_state k s.name u v stands (subst (λ i. StateNamed p.heads i s.name v) (sym same) stays) in
      e ∙ ap (λ i. End role i u) same ∙ ap (λ i. End role j i) state ∙ sym f

  one_message_as : (x : MessageTree) (y z : Message) → MessageAs p.heads x y → MessageAs p.heads x z → y ≡ z
  one_message_as x y z g h = of_parts y.name z.name y.mark z.mark y.payload z.payload (g.name ∙ sym h.name) (g.mark ∙ sym h.mark) (one-payload x.payload y.payload z.payload g.payload h.payload)
    where
      of_parts : (n n' : Name) (d d' : Mark) (q q' : Payload) → n ≡ n' → d ≡ d' → q ≡ q' → ◌≡◌ {A = Message} (record { name = n; mark = d; payload = q }) (record { name = n'; mark = d'; payload = q' })
      of_parts n n' d d' q q' a b c = cc

  one_written : (v w : Written) (i : ℕ) → WrittenAs p.heads (get_or p.moves i no_move) v → WrittenAs p.heads (get_or p.moves i no_move) w → v ≡ w
  one_written v w i g h =
      of_parts v.contract w.contract v.state w.state v.message w.message v.mark w.mark v.target w.target
      (g.contract ∙ sym h.contract) (g.state ∙ sym h.state) (one-message _ _ v.message w.message g.message h.message) (g.mark ∙ sym h.mark) (one_state _ _ v.target w.target g.target h.target)
    where
      of_parts : (c c' s s' m m' : ℕ) (d d' : Mark) (u u' : ℕ) → c ≡ c' → s ≡ s' → m ≡ m' → d ≡ d' → u ≡ u'
          → ◌≡◌ {A = Written} (record { contract = c; state = s; message = m; mark = d; target = u }) (record { contract = c'; state = s'; message = m'; mark = d'; target = u' })
      of_parts c c' s s' m m' d d' u u' e f g h i = cc

  same-moves : (ds ds' : List Declaration) (ws ws' : List Written) → Numbers p ds ws → Numbers p ds' ws' → ws ≡ ws'
  same-moves ds ds' ws ws' n n' = same_lists ws ws' (n.moved.count ∙ sym n'.moved.count) each
    where
      each : (i : ℕ) (d : Written) → i < length ws → get_or ws i d ≡ get_or ws' i d
      each i d l =
          let l' : i < length ws' = omega (arith, n.moved.count, n'.moved.count) in
          get_or_default ws i d unwritten l ∙ one_written (written_at ws i) (written_at ws' i) i (n.moved.each i l) (n'.moved.each i l') ∙ get_or_default ws' i unwritten d l'

-- two lists of declarations agree on all that they declare but names
record Agree (ds ds' : List Declaration) : Type 0 where
  pub count : length ds ≡ length ds'
  pub message_count : (k : ℕ) → k < length ds → length (messages_in (declaration_at ds k)) ≡ length (messages_in (declaration_at ds' k))
  pub state_count : (k : ℕ) → k < length ds → length (states_in (declaration_at ds k)) ≡ length (states_in (declaration_at ds' k))
  pub message : (k m : ℕ) → k < length ds → m < length (messages_in (declaration_at ds k)) → get_or (messages_in (declaration_at ds k)) m quiet ≡ get_or (messages_in (declaration_at ds' k)) m quiet

agree : (p : Parts) → Distinct p → (ds ds' : List Declaration) (ws ws' : List Written) → Numbers p ds ws → Numbers p ds' ws' → Agree ds ds'
agree p distinct ds ds' ws ws' n n' = record {
  count = n.declared.count ∙ sym n'.declared.count;
  message_count = λ k l. (n.declared.each k l).message_count ∙ sym (n'.declared.each k (other k l)).message_count;
  state_count = λ k l. (n.declared.each k l).state_count ∙ sym (n'.declared.each k (other k l)).state_count;
  message = λ k m l b.
      let w : m < length (head_at p.heads k).messages = omega (arith, (n.declared.each k l).message_count) in
      one_message_as p distinct _ _ _ ((n.declared.each k l).messages m w) ((n'.declared.each k (other k l)).messages m w);
}
  where
    other : (k : ℕ) → k < length ds → k < length ds'
    other k l = omega (arith, n.declared.count, n'.declared.count)

-- all that one table has, the other has too
record SameTable (t t' : Table) : Type 0 where
  pub message_count : messages t ≡ messages t'
  pub state_count : states t ≡ states t'
  pub message : (m : ℕ) → m < messages t → message_at t m ≡ message_at t' m
  pub goes : (s m u : ℕ) → Goes t.moves s m u → Goes t'.moves s m u

module _ (ds ds' : List Declaration) (ws : List Written) (tables tables' : List Table) (same : Agree ds ds') (made : Tabled ds ws tables) (made' : Tabled ds' ws tables') where
  same_count : length tables ≡ length tables'
  same_count = made.count ∙ same.count ∙ sym made'.count

  same_tables : (k : ℕ) → k < length tables → SameTable (table_at tables k) (table_at tables' k)
  same_tables k l = record {
    message_count = ap (λ d. length (messages_in d)) here ∙ same.message_count k own ∙ sym (ap (λ d. length (messages_in d)) there);
    state_count = ap (λ d. length (states_in d)) here ∙ same.state_count k own ∙ sym (ap (λ d. length (states_in d)) there);
    message = λ m b.
        let w : m < length (messages_in (declaration_at ds k)) = omega (arith, ap (λ d. length (messages_in d)) here) in
        ap (λ d. get_or (messages_in d) m quiet) here ∙ same.message k m own w ∙ sym (ap (λ d. get_or (messages_in d) m quiet) there);
    goes = λ s m u h. (made'.each k away).goes s m u ((made.each k l).listed s m u h);
  }
    where
      own : k < length ds
      own = omega (arith, made.count)

      away : k < length tables'
      away = omega (arith, same_count)

      here : (table_at tables k).declaration ≡ declaration_at ds k
      here = (made.each k l).declaration

      there : (table_at tables' k).declaration ≡ declaration_at ds' k
      there = (made'.each k away).declaration

module _ (t t' : Table) (same : SameTable t t') where
  along : (w : Option Mark) (s u : ℕ) → Along t w s u → Along t' w s u
  along w s u (m, among, goes) =
      let l : m < messages t = (t.declared (record { from = s; by = m; to = u; goes = goes })).1 in
      (m, subst (λ (x : Message). Among w x.mark) (same.message m l) among, same.goes s m u goes)

  path : (w : Option Mark) {s u n : ℕ} → Path (Along t w) s u n → Path (Along t' w) s u n
  path w stay = stay
  path w (step {s = s} {t = v} e q) = step (along w s v e) (path w q)

sendable : (tables tables' : List Table) → length tables ≡ length tables' → ((k : ℕ) → k < length tables → SameTable (table_at tables k) (table_at tables' k))
    → (x : Payload) → Sendable tables x → Sendable tables' x
sendable tables tables' count same Nothing h = tt
sendable tables tables' count same Block h = tt
sendable tables tables' count same (End role c s) (l, b, (u, h)) =
    (omega arith, (let e = (same c l).state_count in omega arith), (u, along (table_at tables c) (table_at tables' c) (same c l) (Some (sends role)) s u h))

module _ (p : Parts) (ds ds' : List Declaration) (ws : List Written) (tables : List Table) (n : Numbers p ds ws) (same : Agree ds ds') (same' : Agree ds' ds) (kept : Accepted ds ws tables) where
  right_mark : (i : ℕ) → i < length ws → get_or (messages_in (declaration_at ds (written_at ws i).contract)) (written_at ws i).message quiet ≡ get_or (messages_in (declaration_at ds' (written_at ws i).contract)) (written_at ws i).message quiet
  right_mark i l =
      let w = n.moved.each i l in
      let named : (written_at ws i).message < length (head_at p.heads (written_at ws i).contract).messages = rw w.contract w.message.0 in
      let k = declaring (λ x. x.messages) p.heads (written_at ws i).contract (written_at ws i).message refl named in
      let own : (written_at ws i).contract < length ds = omega (arith, n.declared.count) in
      same.message (written_at ws i).contract (written_at ws i).message own (omega (arith, (n.declared.each (written_at ws i).contract own).message_count))

  module _ (tables' : List Table) (made' : Tabled ds' ws tables') (k : ℕ) (l : k < length tables') where
    there : (j : ℕ) → j < length tables → SameTable (table_at tables j) (table_at tables' j)
    there = same_tables ds ds' ws tables tables' same kept.tabled made'

    back : SameTable (table_at tables' k) (table_at tables k)
    back = same_tables ds' ds ws tables' tables same' made' kept.tabled k l

    count : length tables ≡ length tables'
    count = same_count ds ds' ws tables tables' same kept.tabled made'

    own : k < length tables
    own = omega (arith, count)

    none_unreached : (s : ℕ) → Unreached (table_at tables' k) s → ⊥
    none_unreached s (b, h) =
        ∥∥₁_elim (kept.gathered.reachable k own s (let e = back.state_count in omega arith)) ⊥_prop
        (λ q. h (q.0, path (table_at tables k) (table_at tables' k) (there k own) None q.1))

    none_cycling : (s : ℕ) → Cycling (table_at tables' k) s → ⊥
    none_cycling s (b, (d, q)) = kept.gathered.synchronising k own d s (q.0, path (table_at tables' k) (table_at tables k) back (Some d) q.1)

    none_silent : (m : ℕ) → SilentEnd tables' (table_at tables' k) m → ⊥
    none_silent m (b, h) =
        ∥∥₁_elim (kept.gathered.lawful k own m (let e = back.message_count in omega arith)) ⊥_prop
        (λ q. h (sendable tables tables' count there _ (subst (λ (x : Message). Sendable tables x.payload) (sym (back.message m b)) q)))

  none-broken : (rule : Broken) → Breaks ds' ws rule → ⊥
  none-broken (b.WrongMark i) h = kept.marked.right_marks i (h.0.0, λ e. h.0.1 (e ∙ ap (λ x. x.mark) (right_mark i h.0.0)))
  none-broken (b.SecondMove i) h = kept.marked.deterministic i h.1.0
  none-broken (b.MixedMarks i) h = kept.marked.positional i h.2.0
  none-broken (b.Unreachable k s) h = let e = h.1.2 in none_unreached h.1.0 h.1.1 k e.0 s e.1.0
  none-broken (b.OneWayCycle k s) h = let e = h.1.2.1 in none_cycling h.1.0 h.1.1 k e.0 s e.1.0
  none-broken (b.SilentEnd k m) h = let e = h.1.2.2 in none_silent h.1.0 h.1.1 k e.0 m e.1.0

module _ (p : Parts) (distinct : Distinct p) (keeps : Keeps p) where
  not_faulty : (fault : RuleFault) → Faulty p fault → ⊥
  not_faulty fault (undeclared d first e) = all-declared p keeps.declarations keeps.moves keeps.numbers d first.0
  not_faulty fault (broken ds ws rule n breaks e) =
      none-broken p keeps.declarations ds keeps.moves keeps.tables keeps.numbers
      (agree p distinct _ ds keeps.moves ws keeps.numbers n) (agree p distinct ds _ ws keeps.moves n keeps.numbers) keeps.accepted rule
      (subst (λ v. Breaks ds v rule) (same-moves p distinct ds keeps.declarations ws keeps.moves n keeps.numbers) breaks)

  pub lawful-accepted : (a : Result ContractSet RuleFault) → Judged p a → is_ok a ≡ true
  lawful-accepted (Ok set) h = refl
  lawful-accepted (Err fault) h = absurd (not_faulty fault h)
