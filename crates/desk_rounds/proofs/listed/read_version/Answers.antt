use Rattle.std.proofs.Common.{ℕ, List, subst, sym}
use Rattle.line_forms.specs.Names.{IsName}
use Rattle.desk_rounds.proofs.Listing.{cut_same, line_from, no_space}
use Rattle.desk_rounds.proofs.listed.read_version.Goals as goal

pub returns-in_default : goal.returns-in_default
returns-in_default c = λ site is e. no_space c.args.line.now site c.in_default.ensures is e

pub returns-in_default-read_name : goal.returns-in_default-read_name
returns-in_default-read_name c = λ site is e.
    let same = cut_same c.args.line.now c.in-Some.cut.first.now c.in-Some.cut.rest.now site c.in-Some.ensures is e in
    let P : List ℕ → Type 0 = IsName in
    c.in_default-read_name.ensures (subst P (sym same.0) is.name)

pub returns-in_default-read_id : goal.returns-in_default-read_id
returns-in_default-read_id c = λ site is e.
    let same = cut_same c.args.line.now c.in-Some.cut.first.now c.in-Some.cut.rest.now site c.in-Some.ensures is e in
    c.in_default-read_id.ensures site.version is.version same.1

pub returns : goal.returns
returns c =
    let P : List ℕ → Type 0 = IsName in
    let name = c.in-Some-read_name in
    let version = c.in-Some-read_id in (
      record { name = subst P (sym name.ensures.1) name.ensures.0; version = version.ensures.0 },
      line_from c.args.line.now c.in-Some.cut.first.now c.in-Some.cut.rest.now name.name.now version.version c.in-Some.ensures name.ensures.1 version.ensures.1,
    )
