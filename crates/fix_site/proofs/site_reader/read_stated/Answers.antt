use Rattle.std.proofs.Common.{ℕ, List, sym, subst}
use Rattle.std.proofs.lemmas.Result.{err_from_is_err_and}
use Rattle.line_forms.specs.Readers.{Passes}
use Rattle.fix_site.specs.declared.site.Site.{Site}
use Rattle.fix_site.specs.Sites.{IsSite, IsDigestValue, lines_with}
use Rattle.fix_site.proofs.SiteStops.{site_first, site_last, site_whole}
use Rattle.fix_site.proofs.SiteAnswers.{stated_wrong}
use Rattle.fix_site.proofs.site_reader.read_stated.Goals as goal

pub returns-in_default : goal.returns-in_default
returns-in_default c = (c.number.ensures, site_first c.args.lines.now c.take_site.new.lines c.in_default.ensures)

pub returns-in_err-blocks : goal.returns-in_err-blocks
returns-in_err-blocks c =
    let p = err_from_is_err_and c.from_residual.result c.from_residual.ensures.1 in
    rw (p.1, p.2) (stated_wrong c.in-Some.head.name.now c.in-Some.head.id c.args.lines.now c.take_site.new.lines c.take_blocks.new.lines _ c.in-Some.ensures.0 c.in-Some.ensures.1 c.in-Some.ensures.2 c.in_err-blocks.ensures)

pub returns-in_default-take_digest : goal.returns-in_default-take_digest
returns-in_default-take_digest c =
    let taken = c.in_ok-blocks.ensures in
    (c.number-in_default-take_digest.ensures, site_last c.in-Some.head.name.now c.in-Some.head.id c.in_ok-blocks.blocks c.args.lines.now c.take_site.new.lines c.take_blocks.new.lines c.take_digest.new.lines c.in-Some.ensures.0 c.in-Some.ensures.1 c.in-Some.ensures.2 taken.0 taken.1 taken.2 taken.3 c.in_default-take_digest.ensures)

pub returns : goal.returns
returns c =
    let taken = c.in_ok-blocks.ensures in
    let digest : List ℕ = c.in-Some-take_digest.digest in
    let P : List ℕ → Type 0 = λ name.
    let site : Site = record { name = name; version = c.in-Some.head.id; blocks = c.in_ok-blocks.blocks } in
    IsSite site × IsDigestValue digest × Passes c.args.lines.now c.take_digest.new.lines (lines_with site digest) in
    subst P (sym c.in_ok-from_str.ensures) (
      record { name = c.in-Some.ensures.0; version = c.in-Some.ensures.1; blocks = taken.0 },
      c.in-Some-take_digest.ensures.0,
      site_whole c.in-Some.head.name.now c.in-Some.head.id c.in_ok-blocks.blocks digest c.args.lines.now c.take_site.new.lines c.take_blocks.new.lines c.take_digest.new.lines c.in-Some.ensures.2 taken.1 c.in-Some-take_digest.ensures.1,
    )
