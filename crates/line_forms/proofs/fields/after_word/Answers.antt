use Rattle.std.proofs.Common.{[], ◌∷◌}
use Rattle.std.proofs.lemmas.Bool.Decides.{Decides-eqb}
use Rattle.std.proofs.lemmas.Slice.Eq.{strip_prefix_is}
use Rattle.std.proofs.lemmas.Option.{MatchOption-at_some}
use Rattle.line_forms.proofs.Cutting.{Follows-none, Follows-from}
use Rattle.line_forms.proofs.fields.after_word.Goals as goal

pub returns-in_err-strip_prefix : goal.returns-in_err-strip_prefix
returns-in_err-strip_prefix c =
    let word = c.args.word.now in
    let line = c.args.line.now in
    let cases = strip_prefix_is Decides-eqb line word c.strip_prefix.result c.strip_prefix.ensures.cases in
    rw c.from_residual.ensures (Follows-none word line c.strip_prefix.result cases c.in_err-strip_prefix.was)

pub returns : goal.returns
returns c =
    let word = c.args.word.now in
    let line = c.args.line.now in
    let inner = c.in_ok-strip_prefix.field-0.now in
    let cases = strip_prefix_is Decides-eqb line word c.strip_prefix.result c.strip_prefix.ensures.cases in
    let begins = MatchOption-at_some _ _ c.in_ok-strip_prefix.field-0 c.in_ok-strip_prefix.was cases in
    Follows-from word line inner c.strip_prefix-2.result begins (strip_prefix_is Decides-eqb inner (32 ∷ []) c.strip_prefix-2.result c.strip_prefix-2.ensures.cases)
