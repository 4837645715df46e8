use Rattle.std.proofs.Common.{◌≡◌, ◌++◌, map, length}
use Rattle.line_forms.specs.LineStates.{lines_of, unended_of}
use Rattle.desk_rounds.specs.Listing.{listed_line}
use Rattle.desk_rounds.specs.Replies.{AreListed}
use Rattle.desk_rounds.proofs.listed.read_versions.Given as goal

-- the lines so far are those of listed sites
abbrev pub invariant-lines : goal.invariant-lines
invariant-lines l = record {
  listed : AreListed l.sites;
  ahead : lines_of l.text ≡ map listed_line l.sites ++ l.lines.lines;
  unended : unended_of l.text ≡ l.lines.unended;
}

abbrev pub decreases-lines : goal.decreases-lines
decreases-lines l = length l.lines.lines
