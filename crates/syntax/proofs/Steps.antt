-- Each word that may stand next: the trees that it leads to, the words so far, and what a check says of it.
use Rattle.std.proofs.Common.{◌≡◌, ℕ, List, [], ◌∷◌, ◌++◌, map, refl, sym, ap, append_assoc, append-nil}
use Rattle.words.specs.declared.name.Ident.{Ident}
use Rattle.words.specs.Signs.{Sign}
use Rattle.words.specs.Signs as s
use Rattle.grammar.specs.Table.{admission}
use Rattle.grammar.proofs.Admissions.{told as admitted}
use Rattle.grammar.proofs.Grammars.{Says, Steps}
use Rattle.grammar.proofs.Spelled.{each-push, pushed}
use Rattle.grammar.proofs.Tables.{Edges}
use Rattle.syntax.specs.declared.tree.Mark.TheVariants.{Out, In}
use Rattle.syntax.specs.declared.tree.Role.TheVariants.{Exporting, Importing}
use Rattle.syntax.specs.declared.tree.Payload.TheVariants.{Nothing, Block, End}
use Rattle.syntax.specs.Trees.{ContractTree, head_tree, parts_of}
use Rattle.syntax.specs.Grammar.{Spells}
use Rattle.syntax.specs.Laws.{Family, contracts, Held}
use Rattle.syntax.specs.Laws as family
use Rattle.syntax.specs.Machine.{ask}
use Rattle.syntax.specs.Machine as q
use Rattle.syntax.proofs.Trails.{Trail, start, heading, opening, messages, message, called, carrying, stating, closing, state, entering, moves, move, marked, aiming, aimed, states, more, spelled, at, state_of, with_move, with_message, contract_of, begin, add_state_lem, add_move_lem, end-contract, stated-push}

-- the check of the next name of a family
pub told : (ws : List Sign) (ns : List Ident) (limit : ℕ) → Family ws ns limit → (n : Ident) → Says Held (admission limit ns n) (s.Name n) ws
told ws ns limit f n = admitted Held ws n ns limit (λ b. (n, ns, limit, refl, f, b)) (λ h. (n, ns, limit, refl, f, h))

pub heads-named : (cs : List ContractTree) → map (λ h. h.ident) (map head_tree cs) ≡ map (λ c. c.ident) cs
heads-named [] = refl
heads-named (c ∷ cs) = ap (λ l. c.ident ∷ l) (heads-named cs)

abbrev pub edges : (N : Trail) → Edges (ask (at N)) (Steps Spells Held parts_of at spelled N)
edges start = ((record { to = heading [] tt; stands = refl; adds = refl }, tt), tt)
edges (heading cs st) =
    ((λ n. (record { to = opening cs st n; stands = refl; adds = simp append_assoc }, tt, told (spelled (heading cs st)) _ 8 (contracts cs st refl (heads-named cs) refl) n)), tt)
edges (opening cs st n) =
    ((record { to = messages (record { before = cs; stated = st; ident = n; messages = [] }); stands = ap q.messages (sym (begin cs st n)); adds = simp append_assoc }, tt), tt)
edges (messages h) = (
  (record { to = message h Out; stands = refl; adds = simp (append_assoc, append-nil) }, tt),
  (
    (record { to = message h In; stands = refl; adds = simp (append_assoc, append-nil) }, tt),
    ((record { to = state h []; stands = refl; adds = simp (append_assoc, append-nil) }, tt), tt),
  ),
)
edges (message h way) = (
  (λ n. (
    record { to = called h way n; stands = refl; adds = simp append_assoc },
    tt,
    told (spelled (message h way)) _ 16 (family.messages h.before h.ident h.messages way h.stated refl refl refl) n,
  )),
  tt,
)
edges (called h way n) = (
  (record { to = closing h (record { mark = way; ident = n; payload = Block }); stands = refl; adds = simp append_assoc }, tt),
  (
    (record { to = carrying h way n Exporting; stands = refl; adds = simp append_assoc }, tt),
    (
      (record { to = carrying h way n Importing; stands = refl; adds = simp append_assoc }, tt),
      ((record { to = messages (with_message h (record { mark = way; ident = n; payload = Nothing })); stands = refl; adds = simp (append_assoc, append-nil, each-push) }, tt), tt),
    ),
  ),
)
edges (carrying h way n role) = ((λ c. (record { to = stating h way n role c; stands = refl; adds = simp append_assoc }, tt)), tt)
edges (stating h way n role c) = ((λ x. (record { to = closing h (record { mark = way; ident = n; payload = End role c x }); stands = refl; adds = simp append_assoc }, tt)), tt)
edges (closing h x) = ((record { to = messages (with_message h x); stands = refl; adds = simp (append_assoc, append-nil, each-push) }, tt), tt)
edges (state h ss) = (
  (λ n. (
    record { to = entering h ss n; stands = ap q.entering (sym (add_state_lem h ss n)); adds = simp append_assoc },
    tt,
    told (spelled (state h ss)) _ 16 (family.states h.before h.ident h.messages ss h.stated refl refl refl) n,
  )),
  tt,
)
edges (entering h ss n) = ((record { to = moves h ss (state_of n []); stands = refl; adds = simp append_assoc }, tt), tt)
edges (moves h ss x) = (
  (λ n. (record { to = move h ss x n; stands = refl; adds = simp append_assoc }, tt)),
  ((record { to = states h (ss ++ x ∷ []) (pushed ss x); stands = refl; adds = simp (append_assoc, each-push) }, tt), tt),
)
edges (move h ss x n) = (
  (record { to = marked h ss x n Out; stands = refl; adds = simp append_assoc }, tt),
  ((record { to = marked h ss x n In; stands = refl; adds = simp append_assoc }, tt), tt),
)
edges (marked h ss x n way) = ((record { to = aiming h ss x n way; stands = refl; adds = simp append_assoc }, tt), tt)
edges (aiming h ss x n way) = ((λ t. (record { to = aimed h ss x (record { message = n; mark = way; target = t }); stands = refl; adds = simp append_assoc }, tt)), tt)
edges (aimed h ss x v) = ((record { to = moves h ss (with_move x v); stands = ap q.moves (sym (add_move_lem h ss x v)); adds = simp (append_assoc, append-nil, each-push) }, tt), tt)
edges (states h ss e) = (
  (record { to = state h ss; stands = refl; adds = simp append_assoc }, tt),
  (
    (
      record {
        to = more (h.before ++ contract_of h ss ∷ []) (stated-push h.before (contract_of h ss) h.stated e) (pushed h.before (contract_of h ss));
        stands = ap q.more (sym (end-contract h ss));
        adds = simp (append_assoc, each-push);
      },
      tt,
    ),
    tt,
  ),
)
edges (more cs st e) = ((record { to = heading cs st; stands = refl; adds = refl }, tt), ((refl, cs, record { words = refl; some = e; stated = st }, refl), tt))
