use Rattle.std.proofs.Common.{subst}
use Rattle.std.specs.Prelude.{Err}
use Rattle.fix_site.specs.declared.error.SiteError.{SiteError}
use Rattle.fix_site.specs.Answers.{ReadsSite}
use Rattle.server_text.proofs.Refusing.{bad_line, digest_line, twice_line}
use Rattle.server_text.proofs.reading.unread_site.Goals as goal

pub returns-in-BadLine : goal.returns-in-BadLine
returns-in-BadLine c =
    let P : SiteError → Type 0 = λ e. ReadsSite c.args.text.now (Err e) in
    bad_line c.args.text.now c.in-BadLine.line (subst P c.in-BadLine.is c.requires)

pub returns-in-TwiceId : goal.returns-in-TwiceId
returns-in-TwiceId c =
    let P : SiteError → Type 0 = λ e. ReadsSite c.args.text.now (Err e) in
    twice_line c.args.text.now c.in-TwiceId.line (subst P c.in-TwiceId.is c.requires)

pub returns-in-WrongDigest : goal.returns-in-WrongDigest
returns-in-WrongDigest c =
    let P : SiteError → Type 0 = λ e. ReadsSite c.args.text.now (Err e) in
    digest_line c.args.text.now c.in-WrongDigest.stated c.in-WrongDigest.found c.line_count.result (subst P c.in-WrongDigest.is c.requires) c.line_count.ensures
