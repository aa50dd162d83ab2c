use Rattle.std.proofs.Common.{◌≡◌, ℕ, List, [], ◌∷◌, map, refl, arith}
use Rattle.std.proofs.Output.{has_written_of_eq}
use Rattle.listing.specs.Lines.{printed_byte, shown_byte}
use Rattle.listing.proofs.shown.ShownBytesDisplay.fmt.Goals as goal

one_printed : (b : ℕ) → printed_byte 32 b ≡ shown_byte b
one_printed b = grind arith

all_printed : (bs : List ℕ) → map (printed_byte 32) bs ≡ map shown_byte bs
all_printed [] = refl
all_printed (b ∷ bs) = λ i. one_printed b i ∷ all_printed bs i

pub returns-clause-writes : goal.returns-clause-writes
returns-clause-writes g c = λ plain ok. has_written_of_eq _ _ _ _ _ (all_printed _) (c.write_printed.ensures plain ok)
