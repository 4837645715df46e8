-- What a report is known by: its key, and the digest of its text.
use Rattle.std.specs.Prelude.{ℕ, nat_eq, Bool, ◌&&◌, List, map}
use Rattle.std.specs.declared.option.Option.{Option}
use Rattle.std.specs.Cmp.Lexicographic.{pointwise}
use Rattle.std.specs.List.{IsDistinct}
use Rattle.std.specs.Map.{lookup}
use Rattle.sha2.specs.Sha256.{sha256}
use Rattle.report_text.specs.declared.report.Report.{Report}
use Rattle.report_text.specs.Reports.{report_text}

-- the key of a report: the name of its computer, and its number
pub record ReportKey : Type 0 where
  pub computer : List ℕ
  pub seq : ℕ

abbrev pub key_of : Report → ReportKey
key_of report = record { computer = report.computer; seq = report.seq }

-- whether two keys are the same
abbrev pub same_key : ReportKey → ReportKey → Bool
same_key key other = nat_eq key.seq other.seq && pointwise nat_eq key.computer other.computer

-- No two of these reports have one computer and number.
abbrev pub HasDistinctKeys : List Report → Type 0
HasDistinctKeys reports = IsDistinct same_key (map key_of reports)

-- the digest of a report: SHA-256 of its text
abbrev pub report_digest : Report → List ℕ
report_digest report = sha256 (report_text report)

-- a report's key with its digest
abbrev pub digested : Report → ReportKey × List ℕ
digested report = (key_of report, report_digest report)

-- the digest that the server is known to hold under this key, if the key is among these known ones
abbrev pub held_digest : List (ReportKey × List ℕ) → ReportKey → Option (List ℕ)
held_digest held key = lookup (same_key key) held

-- the digest of the report of this key in the queue, if there is one
abbrev pub queued_digest : List Report → ReportKey → Option (List ℕ)
queued_digest queue key = lookup (same_key key) (map digested queue)
