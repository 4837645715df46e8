use Rattle.std.proofs.Common.{◌≢◌, ◌∙◌, Err, IsTrue, List, Ok, codes, ℕ, subst, sym}
use Rattle.std.proofs.lemmas.Result.{err_from_is_err_and}
use Rattle.desk_rounds.specs.Listing.{ReadsNamed}
use Rattle.desk_rounds.proofs.Judging.{missed_site, named_site, no_site, same_site}
use Rattle.desk_rounds.proofs.replies.site_in.Goals as goal

pub returns-then-reply-ne200 : goal.returns-then-reply-ne200
returns-then-reply-ne200 c = no_site c.args.name.now c.args.reply.now.status c.args.reply.now.body c.if-reply-ne200.true

pub returns-then-is_same : goal.returns-then-is_same
returns-then-is_same c =
    same_site c.args.name.now c.args.reply.now.status c.args.reply.now.body c.if-reply-ne200.false
    (sym c.as_slice-body.ensures ∙ c.is_same.ensures.0 c.if-is_same.true)

pub returns-in_err-read_named : goal.returns-in_err-read_named
returns-in_err-read_named c =
    let p = err_from_is_err_and c.from_residual.result c.from_residual.ensures.1 in
    let why = c.in_err-read_named.field-0.0 in
    let other : c.args.reply.now.body ≢ codes "same\n" = λ e.
    let same : IsTrue c.is_same.result = c.is_same.ensures.1 (c.as_slice-body.ensures ∙ e) in
    cc (same, c.if-is_same.false) in
    rw (p.1, p.2) (missed_site c.args.name.now c.args.reply.now.status c.args.reply.now.body why other
    (subst (λ (t : List ℕ). ReadsNamed c.args.name.now t (Err why)) c.as_slice-body.ensures c.in_err-read_named.ensures))

pub returns : goal.returns
returns c =
    let site = c.in_ok-read_named.field-0 in
    named_site c.args.name.now c.args.reply.now.status c.args.reply.now.body site c.if-reply-ne200.false
    (subst (λ (t : List ℕ). ReadsNamed c.args.name.now t (Ok site)) c.as_slice-body.ensures c.in_ok-read_named.ensures)
