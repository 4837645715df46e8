use Rattle.std.proofs.Common.{◌≡◌, ◌+◌, ◌≤◌, List, ◌++◌, cond, length, sym, ap, subst, ◌∙◌}
use Rattle.std.specs.Prelude.{is_ok}
use Rattle.group_text.specs.declared.property.Property.{Property}
use Rattle.group_core.specs.Books.{BookState, new_ones}
use Rattle.group_core.proofs.AddLemmas.{after_append}
use Rattle.group_core.proofs.book.Book.append.Goals as goal

pub invariant_of-self : goal.invariant_of-self
invariant_of-self c =
    let kept : List Property = c.self.inside.properties.items in
    let ps : List Property = c.args.properties.now in
    let new : c.in_ok-new.new.items ≡ new_ones kept ps = c.in_ok-new.ensures ∙ ap (λ (l : List Property). new_ones l ps) c.as_slice.ensures.value in
    let items : c.append.new.self.items ≡ cond (is_ok c.append.result) (kept ++ new_ones kept ps) kept = c.append.ensures.items ∙ (λ i. cond (is_ok c.append.result) (kept ++ new i) kept) in
    let F : BookState → Type 0 = λ b. length b.properties + length (new_ones b.properties ps) ≤ b.limit in
    let after = after_append c.append.result kept ps c.append.new.self.items c.self.inside.limit c.self.invariant.properties c.requires.good c.self.invariant.few_properties (subst F (sym c.self.view_is) c.requires.few) items in
    record {
      properties = after.0;
      few_properties = after.1;
      few_groups = c.self.invariant.few_groups;
      distinct = c.self.invariant.distinct;
      computers = c.self.invariant.computers;
      table = c.self.invariant.table;
      members = c.self.invariant.members;
    }
