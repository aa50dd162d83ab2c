-- What a contract file may say, and what is at fault in one that may not stand.
--   head_words n ms         a contract with the name n and the messages ms, up to its states
--   Family ws ns limit     the word after ws is the next name of a family that has the names ns and room for limit
--   Held l ws x            the limit l refuses the word x after ws: 6 where its family has no room for a name, 7 where the name stands there before
--   Clean seen xs          no word of xs, which follow those seen, is at fault
--   Right t o              o is the file that the words t spell, or the fault at the first spot of t from the left
--   Exact t o              where the words t spell a file and none is at fault, o is that file
--   outcome r              what was read, in place of the tree that holds it
use Rattle.std.specs.Prelude.{◌≡◌, ℕ, List, [], ◌∷◌, ◌++◌, map, Ok, Err, Result}
use Rattle.words.specs.declared.name.Ident.{Ident}
use Rattle.words.specs.declared.word.Keyword.TheVariants as k
use Rattle.words.specs.declared.word.Mark.TheVariants as m
use Rattle.words.specs.declared.fault.Source.TheVariants.{Contracts}
use Rattle.words.specs.Signs.{Sign}
use Rattle.words.specs.Signs as s
use Rattle.words.specs.Stream.{Stream}
use Rattle.grammar.specs.declared.fault.GrammarFault.{GrammarFault}
use Rattle.grammar.specs.Families.{Beyond, Second}
use Rattle.grammar.specs.Laws.{Limit, range, room, once}
use Rattle.grammar.specs.Laws as law
use Rattle.grammar.specs.Spelling.{each}
use Rattle.syntax.specs.declared.tree.Mark.{Mark}
use Rattle.syntax.specs.declared.tree.Message.{Message}
use Rattle.syntax.specs.declared.tree.Tree.{Tree}
use Rattle.syntax.specs.Trees.{StateTree, ContractTree, Parts, parts_of, parts}
use Rattle.syntax.specs.Grammar.{way_word, message_words, state_words, file_words, Stated, Spells}

abbrev pub head_words : Ident → List Message → List Sign
head_words n ms = s.Key k.Contract ∷ s.Name n ∷ s.Mark m.OpenBrace ∷ each message_words ms

-- the contracts of the file, the messages of a contract, the states of a contract
pub data Family (ws : List Sign) (ns : List Ident) (limit : ℕ) : Type 0 where
  contracts : (cs : List ContractTree) → Stated cs
      → ws ≡ file_words cs ++ s.Key k.Contract ∷ [] → ns ≡ map (λ c. c.ident) cs → limit ≡ 8 → Family ws ns limit
  messages : (cs : List ContractTree) (n : Ident) (ms : List Message) (way : Mark) → Stated cs
      → ws ≡ file_words cs ++ (head_words n ms ++ way_word way ∷ []) → ns ≡ map (λ x. x.ident) ms → limit ≡ 16 → Family ws ns limit
  states : (cs : List ContractTree) (n : Ident) (ms : List Message) (ss : List StateTree) → Stated cs
      → ws ≡ file_words cs ++ (head_words n ms ++ (each state_words ss ++ s.Key k.State ∷ [])) → ns ≡ map (λ x. x.ident) ss → limit ≡ 16 → Family ws ns limit

-- no word is a number, so none is outside its range
abbrev pub Held : Limit → List Sign → Sign → Type 0
Held range ws x = ⊥
Held room ws x = Beyond Family ws x
Held once ws x = Second Family ws x

abbrev pub Clean : List Sign → List Sign → Type 0
Clean seen xs = law.Clean Spells Held seen xs

abbrev pub Right : Stream → Result Parts GrammarFault → Type 0
Right t o = law.Right Spells Held Contracts parts_of t o

abbrev pub Exact : Stream → Result Parts GrammarFault → Type 0
Exact t o = law.Exact Spells Held parts_of t o

abbrev pub outcome : Result Tree GrammarFault → Result Parts GrammarFault
outcome (Ok t) = Ok (parts t)
outcome (Err f) = Err f
