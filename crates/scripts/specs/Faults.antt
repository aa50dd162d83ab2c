-- A script fault as the station shows it.
--   script_report f     what a script fault shows: its grammar fault's report, or 8, 15 or 16 with layer 3
use Rattle.words.specs.declared.fault.Report.{Report}
use Rattle.words.specs.Faults.{report_at}
use Rattle.grammar.specs.Faults.{grammar_report}
use Rattle.scripts.specs.declared.fault.ScriptFault.{ScriptFault}
use Rattle.scripts.specs.declared.fault.ScriptFault.TheVariants.{Grammar, Undeclared, WrongPayload, JumpOutside}

abbrev pub script_report : ScriptFault → Report
script_report (Grammar f) = grammar_report f
script_report (Undeclared sp) = report_at 8 3 sp
script_report (WrongPayload sp) = report_at 15 3 sp
script_report (JumpOutside sp) = report_at 16 3 sp
