-- The grammar of contract files: the words of each part. `*` is none or more, `+` one or more, brackets optional.
--   file     = contract+
--   contract = "contract" name "{" message* state+ "}"
--   message  = ("out"|"in") name ["block" | ("exp"|"imp") name name] ";"
--   state    = "state" name "{" move* "}"
--   move     = name ("!"|"?") "->" name ";"
--   Spells ws cs      the words ws are the file of the contracts cs
use Rattle.std.specs.Prelude.{◌≡◌, List, [], ◌∷◌, ◌++◌, ◌≢◌}
use Rattle.words.specs.declared.word.Keyword.TheVariants as k
use Rattle.words.specs.declared.word.Mark.TheVariants as m
use Rattle.words.specs.Signs.{Sign}
use Rattle.words.specs.Signs as s
use Rattle.grammar.specs.Spelling.{each}
use Rattle.syntax.specs.declared.tree.Mark.{Mark}
use Rattle.syntax.specs.declared.tree.Mark.TheVariants.{Out, In}
use Rattle.syntax.specs.declared.tree.Role.{Role}
use Rattle.syntax.specs.declared.tree.Role.TheVariants.{Exporting, Importing}
use Rattle.syntax.specs.declared.tree.Payload.{Payload}
use Rattle.syntax.specs.declared.tree.Payload.TheVariants.{Nothing, Block, End}
use Rattle.syntax.specs.declared.tree.Message.{Message}
use Rattle.syntax.specs.declared.tree.Move.{Move}
use Rattle.syntax.specs.Trees.{StateTree, ContractTree}

-- "!"|"?"
abbrev pub mark_word : Mark → Sign
mark_word Out = s.Mark m.Bang
mark_word In = s.Mark m.Question

-- "out"|"in"
abbrev pub way_word : Mark → Sign
way_word Out = s.Key k.Out
way_word In = s.Key k.In

-- "exp"|"imp"
abbrev pub role_word : Role → Sign
role_word Exporting = s.Key k.Exp
role_word Importing = s.Key k.Imp

abbrev pub move_words : Move → List Sign
move_words v = s.Name v.message ∷ mark_word v.mark ∷ s.Mark m.Arrow ∷ s.Name v.target ∷ s.Mark m.Semicolon ∷ []

abbrev pub state_words : StateTree → List Sign
state_words x = s.Key k.State ∷ s.Name x.ident ∷ s.Mark m.OpenBrace ∷ (each move_words x.moves ++ s.Mark m.CloseBrace ∷ [])

-- ["block" | ("exp"|"imp") name name]
abbrev pub payload_words : Payload → List Sign
payload_words Nothing = []
payload_words Block = s.Key k.Block ∷ []
payload_words (End role contract state) = role_word role ∷ s.Name contract ∷ s.Name state ∷ []

abbrev pub message_words : Message → List Sign
message_words x = way_word x.mark ∷ s.Name x.ident ∷ (payload_words x.payload ++ s.Mark m.Semicolon ∷ [])

abbrev pub contract_words : ContractTree → List Sign
contract_words c =
    s.Key k.Contract ∷ s.Name c.ident ∷ s.Mark m.OpenBrace
    ∷ (each message_words c.messages ++ (each state_words c.states ++ s.Mark m.CloseBrace ∷ []))

abbrev pub file_words : List ContractTree → List Sign
file_words cs = each contract_words cs

-- each contract has a state
abbrev pub Stated : List ContractTree → Type 0
Stated [] = Unit {0}
Stated (c ∷ cs) = (c.states ≢ []) × Stated cs

pub record Spells (ws : List Sign) (cs : List ContractTree) : Type 0 where
  pub words : ws ≡ file_words cs
  pub some : cs ≡ [] → ⊥
  pub stated : Stated cs
