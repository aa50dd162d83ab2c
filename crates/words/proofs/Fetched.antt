-- What a reader fetches at a place, in the words of its contract.
use Rattle.std.proofs.Common.{◌≡◌, ℕ, ◌<◌, List, length, drop, Ok, refl, arith}
use Rattle.std.proofs.lemmas.List.{length-drop}
use Rattle.words.specs.declared.word.Word.{Word as CodeWord}
use Rattle.words.specs.declared.word.Word.TheVariants as c
use Rattle.words.specs.Signs.{said}
use Rattle.words.specs.Stream.{one, lexeme}
use Rattle.words.specs.Reading.{placed, ShortName}
use Rattle.words.proofs.Lexemes.{Fitting, lexeme_fits}
use Rattle.words.proofs.Streams.{taken_fits}

short_from_fitting : (n p : ℕ) (w : CodeWord) → Fitting n p (one (said w).sign) → ShortName w
short_from_fitting n p (c.Keyword q x) f = tt
short_from_fitting n p (c.Mark q x) f = tt
short_from_fitting n p (c.Name q bs) f = (f.2 _ refl).1
short_from_fitting n p (c.Number q bs) f = tt
short_from_fitting n p (c.End q) f = tt

pub short-word : (text : List ℕ) (place : ℕ) (w : CodeWord) → place < length text
    → Ok (said w) ≡ placed place (lexeme (drop place text) place) → ShortName w
short-word text place w h e =
    let bs = drop place text in
    short_from_fitting (length bs) place w
    (taken_fits (length bs) place (lexeme bs place) (said w) e (lexeme_fits bs place (omega (arith, length-drop place text))))
