use Rattle.std.proofs.Common.{◌<◌, ◌++◌, List, ℕ, length, map, ap, subst, sym}
use Rattle.std.proofs.lemmas.Result.{err_from_is_err_and}
use Rattle.line_forms.specs.LineStates.{LineState}
use Rattle.desk_rounds.specs.Listing.{listed_line}
use Rattle.desk_rounds.specs.Replies.{AreListed}
use Rattle.desk_rounds.proofs.Listing.{ended_versions, listed_none, missed_versions, never_unended}
use Rattle.desk_rounds.proofs.listed.read_versions.Goals as goal

pub lines-init : goal.lines-init
lines-init c = record {
  listed = subst AreListed (sym c.new-sites.ensures) listed_none;
  ahead = λ i. map listed_line (sym c.new-sites.ensures i) ++ (sym c.new-lines.ensures i).lines;
  unended = ap (λ (s : LineState). s.unended) (sym c.new-lines.ensures);
}

pub returns-in_err-take_version-in-Line : goal.returns-in_err-take_version-in-Line
returns-in_err-take_version-in-Line c =
    let p = err_from_is_err_and c.from_residual.result c.from_residual.ensures.1 in
    rw (p.1, p.2) (missed_versions c.args.text.now c.lines.sites c.in-Line.line.now c.lines.lines.lines c.take_line.new.self.lines
    c.in_err-take_version-in-Line.field-0.0 c.take_version.new.sites c.lines.invariant.listed c.lines.invariant.ahead c.in-Line.ensures.0
    c.in_err-take_version-in-Line.ensures)

pub returns-in-End : goal.returns-in-End
returns-in-End c =
    ended_versions c.args.text.now c.lines.sites c.lines.lines.lines c.lines.lines.unended c.lines.invariant.listed c.lines.invariant.ahead
    c.lines.invariant.unended c.in-End.ensures.0.0 c.in-End.ensures.0.1

pub returns-in-Unended : goal.returns-in-Unended
returns-in-Unended c =
    never_unended c.args.text.now (subst (λ (l : List ℕ). 0 < length l) (sym c.lines.invariant.unended) c.in-Unended.ensures.0.1)
