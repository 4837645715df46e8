use Rattle.std.proofs.Common.{[], ◌∷◌, sym, ◌∙◌}
use Rattle.std.proofs.lemmas.Bool.{false≢true}
use Rattle.std.proofs.lemmas.Bool.Decides.{Decides-eqb}
use Rattle.std.proofs.lemmas.Option.{MatchOption-at_some}
use Rattle.std.proofs.lemmas.Slice.Eq.{slice_eq-Decides, strip_prefix_is}
use Rattle.line_forms.proofs.PathLemmas.{form_from_root}
use Rattle.line_forms.proofs.path.has_path_form.Goals as goal

pub returns : goal.returns
returns c =
    let text = c.args.text.now in
    let cases = strip_prefix_is Decides-eqb text (47 ∷ []) c.strip_prefix.result c.strip_prefix.ensures.cases in
    let begins = MatchOption-at_some _ _ c.in-Some.parts c.in-Some.is cases in
    let same = slice_eq-Decides Decides-eqb text c.as_slice.result.now c.eq.result c.eq.ensures in
    form_from_root text c.in-Some.parts.now c.are_parts-2.result (λ root. false≢true (sym c.if-eq.false ∙ same.1 (root ∙ sym c.as_slice.ensures))) begins c.are_parts-2.ensures
