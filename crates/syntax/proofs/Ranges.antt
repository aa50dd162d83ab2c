-- A file with no word at fault keeps the limits, and each of its moves is a move of a state that it declares.
use Rattle.std.proofs.Common.{◌≡◌, ℕ, zero, suc, ◌+◌, ◌<◌, ◌≤◌, List, [], ◌∷◌, ◌++◌, map, length, get_or, sym, refl, ap, ◌∙◌, subst, append_assoc, le_of_suc-le-suc, arith, length-append}
use lib.ListN.{length-map}
use lib.Seq.{get_or_at}
use Rattle.std.proofs.lemmas.List.{map-append, length_push}
use Rattle.words.specs.declared.name.Ident.{Ident}
use Rattle.words.specs.declared.word.Keyword.TheVariants as k
use Rattle.words.specs.declared.word.Mark.TheVariants as m
use Rattle.words.specs.Signs.{Sign}
use Rattle.words.specs.Signs as s
use Rattle.grammar.specs.Laws.{room, once, Passed}
use Rattle.grammar.specs.Spelling.{each}
use Rattle.grammar.proofs.Admissions.{Admitted}
use Rattle.grammar.proofs.Exact.{clean_at}
use Rattle.grammar.proofs.Spelled.{each_append, each_mapped, few, second}
use Rattle.syntax.specs.declared.tree.Message.{Message}
use Rattle.syntax.specs.declared.tree.Move.{Move}
use Rattle.syntax.specs.declared.tree.MoveEntry.{MoveEntry}
use Rattle.syntax.specs.Trees.{StateTree, ContractTree, HeadTree, parts_of, head_tree, numbered, entries_of, move_entries, no_head, no_move, Ranged}
use Rattle.syntax.specs.Grammar.{way_word, payload_words, message_words, move_words, state_words, contract_words, file_words, Stated, Spells}
use Rattle.syntax.specs.Laws.{Family, contracts, messages, states, head_words, Held, Clean}

stated-before : (pre post : List ContractTree) → Stated (pre ++ post) → Stated pre
stated-before [] post h = tt
stated-before (c ∷ pre) post h = (h.0, stated-before pre post h.1)

admitted : (ws : List Sign) (n : Ident) (rest all : List Sign) → all ≡ ws ++ s.Name n ∷ rest → Clean [] all → (ns : List Ident) (limit : ℕ) → Family ws ns limit → Admitted n ns limit
admitted ws n rest all e clean ns limit f = record {
  room = below (λ b. passed.kept room (n, ns, limit, refl, f, b));
  fresh = λ h. passed.kept once (n, ns, limit, refl, f, h);
}
  where
    passed : Passed Spells Held ws (s.Name n)
    passed = clean_at Spells Held [] ws (s.Name n) rest (subst (λ l. Clean [] l) e clean)

    below : (limit ≤ length ns → ⊥) → length ns < limit
    below h = omega arith

module _ (pre : List ContractTree) (c : ContractTree) (post : List ContractTree) (st : Stated (pre ++ c ∷ post)) (clean : Clean [] (file_words (pre ++ c ∷ post))) where
  pub contract-admitted : Admitted c.ident (map (λ x. x.ident) pre) 8
  contract-admitted =
      admitted (file_words pre ++ s.Key k.Contract ∷ []) c.ident _ _ (each_append contract_words pre (c ∷ post) ∙ sym (append_assoc (file_words pre) (s.Key k.Contract ∷ []) _)) clean
      (map (λ x. x.ident) pre) 8 (contracts pre (stated-before pre (c ∷ post) st) refl refl refl)

  in_contract_lem : (xs ys : List Sign) → contract_words c ≡ xs ++ ys → file_words (pre ++ c ∷ post) ≡ (file_words pre ++ xs) ++ (ys ++ file_words post)
  in_contract_lem xs ys e =
      each_append contract_words pre (c ∷ post) ∙ ap (λ l. file_words pre ++ (l ++ file_words post)) e
      ∙ ap (λ l. file_words pre ++ l) (append_assoc xs ys (file_words post)) ∙ sym (append_assoc (file_words pre) xs (ys ++ file_words post))

  pub message-admitted : (us : List Message) (x : Message) (vs : List Message) → c.messages ≡ us ++ x ∷ vs → Admitted x.ident (map (λ y. y.ident) us) 16
  message-admitted us x vs e =
      let w : contract_words c ≡ (head_words c.ident us ++ way_word x.mark ∷ []) ++ s.Name x.ident ∷ (((payload_words x.payload ++ s.Mark m.Semicolon ∷ []) ++ each message_words vs) ++ (each state_words c.states ++ s.Mark m.CloseBrace ∷ [])) =
      ap (λ l. s.Key k.Contract ∷ s.Name c.ident ∷ s.Mark m.OpenBrace ∷ (l ++ (each state_words c.states ++ s.Mark m.CloseBrace ∷ []))) (ap (each message_words) e ∙ each_append message_words us (x ∷ vs))
      ∙ ap (λ l. s.Key k.Contract ∷ s.Name c.ident ∷ s.Mark m.OpenBrace ∷ l) (second (each message_words us) _ _ _ _) in
      admitted (file_words pre ++ (head_words c.ident us ++ way_word x.mark ∷ [])) x.ident _ _ (in_contract_lem _ _ w) clean
      (map (λ y. y.ident) us) 16 (messages pre c.ident us x.mark (stated-before pre (c ∷ post) st) refl refl refl)

  pub state-admitted : (us : List StateTree) (x : StateTree) (vs : List StateTree) → c.states ≡ us ++ x ∷ vs → Admitted x.ident (map (λ y. y.ident) us) 16
  state-admitted us x vs e =
      let w : contract_words c ≡ (head_words c.ident c.messages ++ (each state_words us ++ s.Key k.State ∷ [])) ++ s.Name x.ident ∷ ((s.Mark m.OpenBrace ∷ (each move_words x.moves ++ s.Mark m.CloseBrace ∷ []) ++ each state_words vs) ++ s.Mark m.CloseBrace ∷ []) =
      ap (λ l. head_words c.ident c.messages ++ (l ++ s.Mark m.CloseBrace ∷ [])) (ap (each state_words) e ∙ each_append state_words us (x ∷ vs))
      ∙ ap (λ l. head_words c.ident c.messages ++ l) (second (each state_words us) _ _ _ _)
      ∙ sym (append_assoc (head_words c.ident c.messages) (each state_words us ++ s.Key k.State ∷ []) _) in
      admitted (file_words pre ++ (head_words c.ident c.messages ++ (each state_words us ++ s.Key k.State ∷ []))) x.ident _ _ (in_contract_lem _ _ w) clean
      (map (λ y. y.ident) us) 16 (states pre c.ident c.messages us (stated-before pre (c ∷ post) st) refl refl refl)

Small : HeadTree → Type 0
Small h = (length h.messages ≤ 16) × (length h.states ≤ 16)

-- what holds of each element
abbrev Each : {X : Type 0} → (X → Type 0) → List X → Type 0
Each P [] = Unit {0}
Each P (x ∷ xs) = P x × Each P xs

each_at : {X : Type 0} (P : X → Type 0) (xs : List X) (i : ℕ) (d : X) → Each P xs → i < length xs → P (get_or xs i d)
each_at P [] i d h l = absurd (omega arith)
each_at P (x ∷ xs) zero d h l = h.0
each_at P (x ∷ xs) (suc i) d h l = each_at P xs i d h.1 (le_of_suc-le-suc l)

each_join : {X : Type 0} (P : X → Type 0) (xs ys : List X) → Each P xs → Each P ys → Each P (xs ++ ys)
each_join P [] ys h g = g
each_join P (x ∷ xs) ys h g = (h.0, each_join P xs ys h.1 g)

module _ (P : MoveEntry → Type 0) (k : ℕ) where
  each_step : (j : ℕ) (vs : List Move) → ((v : Move) → P (record { contract = k; state = j; step = v })) → Each P (map (λ v. record { contract = k; state = j; step = v }) vs)
  each_step j [] h = tt
  each_step j (v ∷ vs) h = (h v, each_step j vs h)

  each_entry : (j : ℕ) (ss : List StateTree) → ((i : ℕ) (v : Move) → i < j + length ss → P (record { contract = k; state = i; step = v })) → Each P (numbered (entries_of k) j ss)
  each_entry j [] h = tt
  each_entry j (x ∷ ss) h =
      each_join P (entries_of k j x) (numbered (entries_of k) (j + 1) ss) (each_step j x.moves (λ v. h j v (omega arith)))
      (each_entry (j + 1) ss (λ i v l. h i v (omega arith)))

Owned : List HeadTree → MoveEntry → Type 0
Owned hs e = (e.contract < length hs) × (e.state < length (get_or hs e.contract no_head).states)

owned : (pre cs : List ContractTree) (j : ℕ) → length pre ≡ j → Each (Owned (map head_tree (pre ++ cs))) (numbered move_entries j cs)
unfolding Owned
owned pre [] j e = tt
owned pre (c ∷ cs) j e =
    each_join (Owned hs) (move_entries j c) (numbered move_entries (j + 1) cs) (each_entry (Owned hs) j 0 c.states (λ i v l. (inside, subst (λ h. i < length h.states) (sym this) (state i l))))
    (subst (λ l. Each (Owned (map head_tree l)) (numbered move_entries (j + 1) cs)) (append_assoc pre (c ∷ []) cs) (owned (pre ++ c ∷ []) cs (j + 1) (length_push pre c ∙ ap (λ i. i + 1) e)))
  where
    hs : List HeadTree
    hs = map head_tree (pre ++ c ∷ cs)

    inside : j < length (map head_tree (pre ++ c ∷ cs))
    inside = let l = length-map (pre ++ c ∷ cs) head_tree in let a = length-append pre (c ∷ cs) in omega arith

    this : get_or (map head_tree (pre ++ c ∷ cs)) j no_head ≡ head_tree c
    this = ap (λ l. get_or l j no_head) (map-append head_tree pre (c ∷ cs)) ∙ get_or_at (map head_tree pre) (head_tree c) (map head_tree cs) no_head j (length-map pre head_tree ∙ e)

    state : (i : ℕ) → i < 0 + length c.states → i < length (head_tree c).states
    state i l = let n = length-map c.states (λ x. x.ident) in omega arith

module _ (cs : List ContractTree) (st : Stated cs) (clean : Clean [] (file_words cs)) where
  module _ (us : List ContractTree) (c : ContractTree) (vs : List ContractTree) (e : cs ≡ us ++ c ∷ vs) where
    stated-at : Stated (us ++ c ∷ vs)
    stated-at = subst Stated e st

    clean_of : Clean [] (file_words (us ++ c ∷ vs))
    clean_of = subst (λ l. Clean [] (file_words l)) e clean

    pub contract-at : Admitted c.ident (map (λ x. x.ident) us) 8
    contract-at = contract-admitted us c vs stated-at clean_of

    pub message-at : (ms : List Message) (x : Message) (ns : List Message) → c.messages ≡ ms ++ x ∷ ns → Admitted x.ident (map (λ y. y.ident) ms) 16
    message-at = message-admitted us c vs stated-at clean_of

    pub state-at : (ms : List StateTree) (x : StateTree) (ns : List StateTree) → c.states ≡ ms ++ x ∷ ns → Admitted x.ident (map (λ y. y.ident) ms) 16
    state-at = state-admitted us c vs stated-at clean_of

    small_at : Small (head_tree c)
    unfolding Small
    small_at = (
      few (λ x. x.ident) 16 c.messages message-at,
      (let l = length-map c.states (λ x. x.ident) in let b = few (λ (x : StateTree). x.ident) 16 c.states state-at in omega arith),
    )

  small : (i : ℕ) → Small (get_or (map head_tree cs) i no_head)
  unfolding Small
  small = each_mapped head_tree Small no_head (omega arith, omega arith) [] cs small_at

  few-contracts : length (map head_tree cs) ≤ 8
  few-contracts = let l = length-map cs head_tree in let b = few (λ (x : ContractTree). x.ident) 8 cs contract-at in omega arith

pub ranged : (ws : List Sign) (cs : List ContractTree) → Spells ws cs → Clean [] ws → Ranged (parts_of cs)
unfolding Small Owned
ranged ws cs h clean = record {
  contracts = few-contracts cs h.stated kept;
  messages = λ i. (small cs h.stated kept i).0;
  states = λ i. (small cs h.stated kept i).1;
  owners = λ i l. each_at (Owned (map head_tree cs)) (numbered move_entries 0 cs) i no_move (owned [] cs 0 refl) l;
}
  where
    kept : Clean [] (file_words cs)
    kept = subst (λ l. Clean [] l) h.words clean
