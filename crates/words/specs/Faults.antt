-- A word fault as the station shows it.
--   text_number s        0 for the contracts, 1 for the scripts
--   report_at n l sp     number n and layer l at a part of a text
--   word_report f        what a word fault shows: 2 or 3, layer 1
--   report_text r        a fault on one line
use Rattle.std.specs.Prelude.{ℕ, List, ◌++◌, codes, decimal}
use Rattle.words.specs.declared.fault.Source.{Source}
use Rattle.words.specs.declared.fault.Source.TheVariants.{Contracts, Scripts}
use Rattle.words.specs.declared.fault.Span.{Span}
use Rattle.words.specs.declared.fault.Report.{Report}
use Rattle.words.specs.declared.fault.WordFault.{WordFault}
use Rattle.words.specs.declared.fault.WordFault.TheVariants.{TooLarge, NoWord}

abbrev pub text_number : Source → ℕ
text_number Contracts = 0
text_number Scripts = 1

abbrev pub report_at : ℕ → ℕ → Span → Report
report_at n l sp = record { number = n; layer = l; text = text_number sp.source; place = sp.place; len = sp.len }

abbrev pub word_report : WordFault → Report
word_report (TooLarge sp) = report_at 2 1 sp
word_report (NoWord sp) = report_at 3 1 sp

abbrev pub report_text : Report → List ℕ
report_text r =
    codes "fault " ++ (decimal r.number ++ (codes " layer " ++ (decimal r.layer ++ (codes " text " ++ (decimal r.text
    ++ (codes " place " ++ (decimal r.place ++ (codes " length " ++ decimal r.len))))))))
