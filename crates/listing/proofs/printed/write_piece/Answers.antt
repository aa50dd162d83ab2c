use Rattle.std.proofs.Common.{ℕ, zero, suc, ◌<◌, List, [], ◌∷◌, map, lit<, sym, subst, arith}
use Rattle.std.specs.Str.{IsAscii, IsUtf8}
use Rattle.std.proofs.lemmas.Str.{IsUtf8-from_ascii}
use Rattle.listing.specs.Lines.{printed_byte}
use Rattle.listing.proofs.printed.write_piece.Goals as goal

one_ascii : (e b : ℕ) → e < 128 → printed_byte e b < 128
one_ascii e b h = grind arith

printed_ascii : (e : ℕ) → e < 128 → (bs : List ℕ) → IsAscii (map (printed_byte e) bs)
printed_ascii e h [] i = lit< tt
printed_ascii e h (b ∷ bs) zero = one_ascii e b h
printed_ascii e h (b ∷ bs) (suc i) = printed_ascii e h bs i

pub unreachable-requires : goal.unreachable-requires
unreachable-requires g c =
    c.in-Err.ensures.cases.0 (subst IsUtf8 (sym c.print.ensures) (IsUtf8-from_ascii _ (printed_ascii c.args.line_end c.requires.ascii _)))
