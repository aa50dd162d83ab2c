-- What people read of a fault.
--   is_line_feed b, in_line b    the byte b ends a line, or does not
--   LineStart front r         the last line of front begins at r
--   position_of file l c       "FILE:LINE:COLUMN"
--   underline n q              n spaces, and then as many marks as a word of q bytes has, or one
--   page_of                    the lines of a refusal
--   Explains file text f s    s has the fault line, file, line and column, the line with the word underlined, and some words
--   shown_byte b               what is printed for b: itself, or a space where it cannot be printed
--   on_one_line b             what is printed for b where a text is shown on one line: a bar where a line ends
--   printed_byte e b          the same with e in the place of the bar
--   is_digit b, digit_value b    b is a hexadecimal digit; the number that it stands for
--   pairs_of ds               the digits that have a second
--   bytes_of vs               the bytes that numbers below 16 stand for by pairs, the high half first; a last one alone stands for none
use Rattle.std.specs.Prelude.{◌≡◌, ℕ, ◌+◌, ◌-◌, ◌^◌, ◌<◌, ◌≤◌, min, max, Bool, cond, not, ◌&&◌, ◌⊎◌, List, ◌++◌, map, length, take, drop, replicate, codes, decimal, count_by, ◌==◌, ◌≢◌, nat_le, nat_lt, slice_index, ◌||◌, ◌*◌, ◌/◌, [], ◌∷◌}
use Rattle.std.specs.List.{prefix_len}
use Rattle.words.specs.declared.fault.Report.{Report}
use Rattle.words.specs.Faults.{report_text}

abbrev pub is_line_feed : ℕ → Bool
is_line_feed b = b == 10

abbrev pub in_line : ℕ → Bool
in_line b = not (b == 10)

pub record LineStart (front : List ℕ) (r : ℕ) : Type 0 where
  pub within : r ≤ length front
  pub behind : (r ≡ 0) ⊎ (slice_index front (r - 1) ≡ 10)
  pub last : (i : ℕ) → r ≤ i → i < length front → slice_index front i ≢ 10

abbrev pub shown_byte : ℕ → ℕ
shown_byte b = cond (nat_le 32 b && nat_lt b 127) b 32

abbrev pub on_one_line : ℕ → ℕ
on_one_line b = cond (b == 10) 124 (shown_byte b)

abbrev pub printed_byte : ℕ → ℕ → ℕ
printed_byte line_end b = cond (b == 10) line_end (shown_byte b)

abbrev pub position_of : List ℕ → ℕ → ℕ → List ℕ
position_of file line column = file ++ (codes ":" ++ (decimal line ++ (codes ":" ++ decimal column)))

abbrev pub underline : ℕ → ℕ → List ℕ
underline indent len = replicate indent 32 ++ replicate (max len 1) 94

abbrev pub page_of : List ℕ → List ℕ → List ℕ → List ℕ → ℕ → List ℕ → List ℕ
page_of fault place row mark number words =
    fault ++ (codes "\n" ++ (place ++ (codes "\n" ++ (row ++ (codes "\n" ++ (mark ++ (codes "\nrefused " ++ (decimal number ++ (codes ": "
    ++ (words ++ codes "\n"))))))))))

-- line and column count from 1; numbers stop at the largest that the machine has
pub record Explains (file text : List ℕ) (f : Report) (s : List ℕ) : Type 0 where
  pub start : ℕ
  pub words : List ℕ
  pub starts : LineStart (take f.place text) start
  pub says : s ≡ page_of (report_text f)
      (position_of file (min (count_by is_line_feed (take f.place text) + 1) (2 ^ 64 - 1)) (min (length (take f.place text) - start + 1) (2 ^ 64 - 1)))
      (map shown_byte (take (prefix_len in_line (drop start text)) (drop start text)))
      (underline (length (take f.place text) - start) f.len) f.number words

abbrev pub is_digit : ℕ → Bool
is_digit b = (nat_le 48 b && nat_le b 57) || (nat_le 97 b && nat_le b 102)

abbrev pub pairs_of : List ℕ → List ℕ
pairs_of ds = take (length ds / 2 * 2) ds

abbrev pub digit_value : ℕ → ℕ
digit_value b = cond (nat_le 97 b) (b - 97 + 10) (b - 48)

abbrev pub bytes_of : List ℕ → List ℕ
bytes_of (h ∷ l ∷ vs) = (h * 16 + l) ∷ bytes_of vs
bytes_of _ = []
