use Rattle.std.proofs.Common.{◌≡◌, ◌+◌, ◌-◌, ℕ, List, length, Ok, ap, subst, ◌∙◌, arith}
use Rattle.std.proofs.lemmas.Result.{err_from_is_err_and}
use Rattle.line_forms.specs.LineStates.{LineState}
use Rattle.line_forms.specs.Lines.{lines_text}
use Rattle.std.proofs.lemmas.Bool.{iff_false}
use Rattle.line_forms.proofs.Passing.{text_is}
use Rattle.fix_site.specs.Sites.{lines_with}
use Rattle.fix_site.specs.Readings.{ReadsStated}
use Rattle.fix_site.proofs.SiteAnswers.{site_refused, site_left, text_length, found_digest, digests_differ, digests_same}
use Rattle.fix_site.proofs.site_reader.read_site.Goals as goal

pub returns-in_err-stated : goal.returns-in_err-stated
returns-in_err-stated c =
    let p = err_from_is_err_and c.from_residual.result c.from_residual.ensures.1 in
    rw (p.1, p.2) (site_refused c.args.text.now c.new-lines.result c.read_stated.new.lines _ c.new-lines.ensures (omega arith) c.in_err-stated.ensures)

pub returns-then-not-is_over : goal.returns-then-not-is_over
returns-then-not-is_over c =
    let Q : LineState → Type 0 = λ s. ReadsStated s c.read_stated.new.lines (Ok c.in_ok-stated.stated) in
    let read = subst Q c.new-lines.ensures c.in_ok-stated.ensures in
    (omega arith, site_left c.args.text.now c.read_stated.new.lines c.in_ok-stated.stated.site c.in_ok-stated.stated.digest c.number.result read.0 read.1 read.2 (iff_false c.is_over.ensures c.if-not-is_over.true) c.number.ensures)

pub slice_bounds-digest-count : goal.slice_bounds-digest-count
slice_bounds-digest-count c =
    let Q : LineState → Type 0 = λ s. ReadsStated s c.read_stated.new.lines (Ok c.in_ok-stated.stated) in
    let read = subst Q c.new-lines.ensures c.in_ok-stated.ensures in
    let is : c.args.text.now ≡ lines_text (lines_with c.in_ok-stated.stated.site c.in_ok-stated.stated.digest) = text_is c.args.text.now (lines_with c.in_ok-stated.stated.site c.in_ok-stated.stated.digest) c.read_stated.new.lines read.2 (c.is_over.ensures.0 c.if-not-is_over.false) in
    omega (arith, text_length c.args.text.now c.in_ok-stated.stated.site c.in_ok-stated.stated.digest read.1 is)

pub returns-then-ne : goal.returns-then-ne
returns-then-ne c =
    let Q : LineState → Type 0 = λ s. ReadsStated s c.read_stated.new.lines (Ok c.in_ok-stated.stated) in
    let read = subst Q c.new-lines.ensures c.in_ok-stated.ensures in
    let is : c.args.text.now ≡ lines_text (lines_with c.in_ok-stated.stated.site c.in_ok-stated.stated.digest) = text_is c.args.text.now (lines_with c.in_ok-stated.stated.site c.in_ok-stated.stated.digest) c.read_stated.new.lines read.2 (c.is_over.ensures.0 c.if-not-is_over.false) in
    let sized = text_length c.args.text.now c.in_ok-stated.stated.site c.in_ok-stated.stated.digest read.1 is in
    let count : length c.args.text.now - 72 + 72 ≡ length c.args.text.now = omega (arith, sized) in
    let found = c.digest-found.ensures ∙ found_digest c.args.text.now c.in_ok-stated.stated.site c.in_ok-stated.stated.digest (length c.args.text.now - 72) read.1 is count in (
      omega arith,
      record {
        site = c.in_ok-stated.stated.site;
        good = read.0;
        digest = read.1;
        lines = is;
        right = found;
        wrong = λ same. digests_differ c.in_ok-stated.stated.digest c.digest-found.result c.ne.result c.ne.ensures c.if-ne.true same;
      },
    )

pub returns : goal.returns
returns c =
    let Q : LineState → Type 0 = λ s. ReadsStated s c.read_stated.new.lines (Ok c.in_ok-stated.stated) in
    let read = subst Q c.new-lines.ensures c.in_ok-stated.ensures in
    let is : c.args.text.now ≡ lines_text (lines_with c.in_ok-stated.stated.site c.in_ok-stated.stated.digest) = text_is c.args.text.now (lines_with c.in_ok-stated.stated.site c.in_ok-stated.stated.digest) c.read_stated.new.lines read.2 (c.is_over.ensures.0 c.if-not-is_over.false) in
    let sized = text_length c.args.text.now c.in_ok-stated.stated.site c.in_ok-stated.stated.digest read.1 is in
    let count : length c.args.text.now - 72 + 72 ≡ length c.args.text.now = omega (arith, sized) in
    let found = c.digest-found.ensures ∙ found_digest c.args.text.now c.in_ok-stated.stated.site c.in_ok-stated.stated.digest (length c.args.text.now - 72) read.1 is count in
    (omega arith, read.0, is ∙ ap (λ (d : List ℕ). lines_text (lines_with c.in_ok-stated.stated.site d)) (digests_same c.in_ok-stated.stated.digest c.digest-found.result c.ne.result c.ne.ensures c.if-ne.false ∙ found))
