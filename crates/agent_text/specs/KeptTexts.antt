-- The bytes that histories keep, and the texts of reports that are made. Only the code's contracts cite these definitions.
use Rattle.std.specs.Prelude.{◌≡◌, ◌⊎◌, ℕ, List, map, All, IfSome, Option}
use Rattle.report_text.specs.Reports.{report_text}
use Rattle.agent_text.specs.declared.history.History.{History}
use Rattle.agent_text.specs.declared.made_reports.MadeReports.{MadeReports}
use Rattle.agent_text.specs.Histories.{AreHistories, PlainHistory, shown_history}
use Rattle.agent_text.specs.HistoryLines.{history_text}
use Rattle.agent_text.specs.MadeTexts.{IsMadeOf, PlainMade, made_with}
use Rattle.agent_text.specs.MostBytes.{history_bytes, report_bytes}

-- bytes that a history keeps are its lines
abbrev pub KeepsText : History → Type 0
KeepsText h = IfSome h.text (λ text. text ≡ history_text (shown_history h))

abbrev pub KeepsTextIf : Option History → Type 0
KeepsTextIf h = IfSome h KeepsText

-- histories that can be saved, whose bytes are their lines, and the lines of the first of them
pub record AreKept (items : List History) (first : PlainMade) : Type 0 where
  pub are : AreHistories (map shown_history items)
  pub texts : All KeepsText items
  pub made : IsMadeOf history_text history_bytes (map shown_history items) first

-- the lines of the history at this place are there too, or nothing has changed
abbrev pub Joins : ℕ → PlainHistory → PlainMade → PlainMade → Type 0
Joins place h old new = (new ≡ old) ⊎ ((old.count ≡ place) × (new ≡ made_with (history_text h) (history_bytes h) old))

-- the texts of the first of the reports
abbrev pub AreMade : MadeReports → Type 0
AreMade reports = IsMadeOf report_text report_bytes reports.reports.now reports.made.now
