-- What a text may say by a grammar, and what is at fault in one that may not stand. A grammar has files; Spells ws f says that
-- the words ws are the file f, and Held l ws x that the limit l refuses the word x after the words ws.
--   Limit                  what may refuse a word that the grammar allows: a number's range (5), the room for one more (6), or that a name stands once (7)
--   limit_number, limit_fault     the number and the fault of a limit
--   joins ws r             the words ws, and then r
--   signs ws               what the words ws say
--   span_of from w          where a word stands
--   Viable ws              the words ws can be continued to a file
--   Unallowed ws x         4: no file begins with ws and x
--   Passed ws x            x is allowed after ws, and no limit refuses it
--   Clean seen xs          each of the words xs, which follow those seen, has passed
--   Lowest from ws w f     f is the fault with the lowest number that holds of the word w after ws
--   Wrong from ws r f      f is the fault at what follows the words ws
--   Right from result t o  o is the result of the file that the words t spell, or the fault at the first spot of t from the left
--   Exact result t o       where the words t spell a file and each has passed, o is the result of that file
use Rattle.std.specs.Prelude.{◌≡◌, ℕ, ◌<◌, List, [], ◌∷◌, ◌++◌, map, Ok, Err, Result}
use Rattle.words.specs.declared.fault.Source.{Source}
use Rattle.words.specs.declared.fault.Span.{Span}
use Rattle.words.specs.declared.fault.WordFault.TheVariants.{NoWord}
use Rattle.words.specs.Signs.{Sign, Word, size_of}
use Rattle.words.specs.Stream.{Stream, stop, bad, word}
use Rattle.grammar.specs.declared.fault.GrammarFault.{GrammarFault}
use Rattle.grammar.specs.declared.fault.GrammarFault.TheVariants as fault

pub data Limit : Type 0 where
  range : Limit
  room : Limit
  once : Limit

abbrev pub limit_number : Limit → ℕ
limit_number range = 5
limit_number room = 6
limit_number once = 7

abbrev pub limit_fault : Limit → Span → GrammarFault
limit_fault range sp = fault.OutOfRange sp
limit_fault room sp = fault.TooMany sp
limit_fault once sp = fault.Repeated sp

abbrev pub joins : List Word → Stream → Stream
joins [] r = r
joins (w ∷ ws) r = word w (joins ws r)

abbrev pub signs : List Word → List Sign
signs = map (λ w. w.sign)

abbrev pub span_of : Source → Word → Span
span_of from w = record { source = from; place = w.place; len = size_of w.sign }

module _ {F : Type 0} (Spells : List Sign → F → Type 0) where
  abbrev pub Viable : List Sign → Type 0
  Viable ws = (more : List Sign) × (f : F) × Spells (ws ++ more) f

  abbrev pub Unallowed : List Sign → Sign → Type 0
  Unallowed ws x = Viable (ws ++ x ∷ []) → ⊥

module _ {F : Type 0} (Spells : List Sign → F → Type 0) (Held : Limit → List Sign → Sign → Type 0) where
  pub record Passed (ws : List Sign) (x : Sign) : Type 0 where
    pub allowed : Viable Spells (ws ++ x ∷ [])
    pub kept : (l : Limit) → Held l ws x → ⊥

  abbrev pub Clean : List Sign → List Sign → Type 0
  Clean seen [] = Unit {0}
  Clean seen (x ∷ xs) = Passed seen x × Clean (seen ++ x ∷ []) xs

  -- what stands before can be continued to a file; with the word it cannot, or a limit refuses the word
  pub data Lowest (from : Source) (ws : List Sign) (w : Word) (f : GrammarFault) : Type 0 where
    unexpected : f ≡ fault.Unexpected (span_of from w) → Viable Spells ws → Unallowed Spells ws w.sign → Lowest from ws w f
    limited : (l : Limit) → f ≡ limit_fault l (span_of from w) → Viable Spells (ws ++ w.sign ∷ []) → Held l ws w.sign
        → ((k : Limit) → limit_number k < limit_number l → Held k ws w.sign → ⊥) → Lowest from ws w f

  -- at the text's end: what stands there can be continued to a file, and is none
  abbrev pub Wrong : Source → List Sign → Stream → GrammarFault → Type 0
  Wrong from ws (stop p) f =
      (f ≡ fault.Unexpected (record { source = from; place = p; len = 0 })) × Viable Spells ws × ((x : F) → Spells ws x → ⊥)
  Wrong from ws (bad p n) f = f ≡ fault.Word (NoWord (record { source = from; place = p; len = n }))
  Wrong from ws (word w r) f = Lowest from ws w f

  abbrev pub Right : {R : Type 0} → Source → (F → R) → Stream → Result R GrammarFault → Type 0
  Right from result t (Ok read) =
      (ws : List Word) × (p : ℕ) × (f : F) × (t ≡ joins ws (stop p)) × Clean [] (signs ws) × Spells (signs ws) f × (read ≡ result f)
  Right from result t (Err e) = (ws : List Word) × (r : Stream) × (t ≡ joins ws r) × Clean [] (signs ws) × Wrong from (signs ws) r e

  abbrev pub Exact : {R : Type 0} → (F → R) → Stream → Result R GrammarFault → Type 0
  Exact result t o =
      (ws : List Word) (p : ℕ) (f : F) → t ≡ joins ws (stop p) → Clean [] (signs ws) → Spells (signs ws) f → o ≡ Ok (result f)
