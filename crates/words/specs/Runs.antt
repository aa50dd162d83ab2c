-- What a byte of a text is.
--   blank b, letter b, digit b, in_name b      what a byte is
use Rattle.std.specs.Prelude.{ℕ, Bool, ◌&&◌, ◌||◌, ◌==◌, nat_le}

-- tab, line feed, carriage return and space separate words
abbrev pub blank : ℕ → Bool
blank b = b == 9 || (b == 10 || (b == 13 || b == 32))

abbrev pub letter : ℕ → Bool
letter b = (nat_le 65 b && nat_le b 90) || (nat_le 97 b && nat_le b 122)

abbrev pub digit : ℕ → Bool
digit b = nat_le 48 b && nat_le b 57

-- a byte that a name goes on with: a letter, a digit or an underscore
abbrev pub in_name : ℕ → Bool
in_name b = letter b || (digit b || b == 95)
