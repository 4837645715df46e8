use Rattle.std.proofs.Common.{◌≡◌, ◌<◌, All, length, sym, ap, ◌∙◌, subst, arith}
use Rattle.std.specs.Option.{option_copied}
use Rattle.desk_keep.specs.Keys.{Key, asked_key}
use Rattle.desk_keep.specs.Forms.{Fits}
use Rattle.desk_keep.specs.Tables.{row_at}
use Rattle.desk_keep.specs.Inside.{shown_key}
use Rattle.desk_keep.proofs.Entries.{lookup-entries}
use Rattle.desk_keep.proofs.Ranges.{none_at_long}
use Rattle.desk_keep.proofs.ordered_rows.OrderedRows.get.Goals as goal

pub returns-in_err-key : goal.returns-in_err-key
returns-in_err-key c =
    let key = asked_key c.args.find.now in
    let long : 64 < length key.name = subst (λ (k : Key). 64 < length k.name) c.key.ensures.parts c.in_err-key.ensures in
    let fit : All Fits c.args.self.now = subst (All Fits) c.self.view_is c.self.invariant.rows.fit in
    ap option_copied c.from_residual.ensures ∙ sym (none_at_long key c.args.self.now fit (λ two. let short = c.key.ensures.short two in absurd (omega (arith, long, short))) long)

pub returns : goal.returns
returns c =
    let key : shown_key c.in_ok-key.key ≡ asked_key c.args.find.now = c.in_ok-key.ensures ∙ c.key.ensures.parts in
    c.get.ensures.value
    ∙ lookup-entries c.in_ok-key.key c.self.inside.rows.entries c.self.invariant.entries
    ∙ (λ i. row_at (key i) (c.self.view_is i))
