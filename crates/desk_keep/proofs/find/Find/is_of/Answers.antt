use Rattle.std.proofs.Common.{◌≡◌, sym, ap, ◌∙◌}
use Rattle.std.specs.Ordering.{is_eq}
use Rattle.desk_keep.specs.Keys.{key_of, asked_key, key_cmp, same_key}
use Rattle.desk_keep.proofs.KeyOrder.{same_exact, same_itself}
use Rattle.desk_keep.proofs.find.Find.is_of.Goals as goal

pub returns : goal.returns
returns c =
    let asked = asked_key c.args.self.now in
    let key = key_of c.args.row.now in
    let same : c.is_eq.result ≡ same_key asked key = c.is_eq.ensures ∙ ap is_eq (c.compare.ensures ∙ (λ i. key_cmp (c.key.ensures.parts i) (c.key-2.ensures.parts i))) in
    (λ holds. sym (same_exact asked key (sym same ∙ holds)), λ is. same ∙ ap (same_key asked) is ∙ same_itself asked)
