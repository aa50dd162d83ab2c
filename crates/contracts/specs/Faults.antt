-- A rule fault as the station shows it.
--   rule_report f     what a rule fault shows: its grammar fault's report, or 8 to 14 with layer 3
use Rattle.words.specs.declared.fault.Report.{Report}
use Rattle.words.specs.Faults.{report_at}
use Rattle.grammar.specs.Faults.{grammar_report}
use Rattle.contracts.specs.declared.fault.RuleFault.{RuleFault}
use Rattle.contracts.specs.declared.fault.RuleFault.TheVariants.{Grammar, Undeclared, WrongMark, SecondMove, MixedMarks, Unreachable, OneWayCycle, SilentEnd}

abbrev pub rule_report : RuleFault → Report
rule_report (Grammar f) = grammar_report f
rule_report (Undeclared sp) = report_at 8 3 sp
rule_report (WrongMark sp) = report_at 9 3 sp
rule_report (SecondMove sp) = report_at 10 3 sp
rule_report (MixedMarks sp) = report_at 11 3 sp
rule_report (Unreachable sp) = report_at 12 3 sp
rule_report (OneWayCycle sp) = report_at 13 3 sp
rule_report (SilentEnd sp) = report_at 14 3 sp
