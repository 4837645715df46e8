use Rattle.std.proofs.Common.{List, [], All, map, length, sym, ap, subst, ◌∙◌, arith}
use Rattle.std.specs.List.{IsDistinct}
use Rattle.std.specs.Str.{bytes_eq}
use Rattle.std.proofs.lemmas.List.Elements.{All-nil}
use Rattle.group_text.specs.declared.property.Property.{Property}
use Rattle.group_text.specs.Properties.{AreProperties, IsQuestion}
use Rattle.group_sample.specs.declared.sample.Sample.{Sample}
use Rattle.group_core.specs.declared.computers.Computer.{Computer}
use Rattle.group_core.specs.declared.kept_group.KeptGroup.{KeptGroup}
use Rattle.group_core.specs.Lists.{AreComputers, Ascends, computer_name, row_at, row_name}
use Rattle.group_core.specs.Members.{AreMembers}
use Rattle.group_core.specs.Tables.{table_row}
use Rattle.group_core.proofs.Sorting.{ascends_none}
use Rattle.group_core.proofs.book.Book.new.Goals as goal

no_properties : AreProperties []
unfolding IsDistinct
no_properties = record { distinct = tt; questions = All-nil (λ (p : Property). IsQuestion p.question) }

none_distinct : IsDistinct bytes_eq []
unfolding IsDistinct
none_distinct = tt

no_computers : AreComputers []
no_computers = record { ascending = ascends_none computer_name; rows = All-nil (λ (c : Computer). Ascends row_name c.rows.items) }

pub invariant_of-result : goal.invariant_of-result
invariant_of-result c =
    let G : List KeptGroup → Type 0 = λ l. IsDistinct bytes_eq (map (λ (kept : KeptGroup). kept.group.name) l) in
    let M : List KeptGroup → Type 0 = All (λ (kept : KeptGroup). AreMembers c.new-4.result kept.group kept.members.items) in
    record {
      properties = subst AreProperties (sym c.new.ensures.items) no_properties;
      few_properties = omega (arith, ap (length {A = Property}) c.new.ensures.items);
      few_groups = omega (arith, ap (length {A = KeptGroup}) c.new-2.ensures.items);
      distinct = subst G (sym c.new-2.ensures.items) none_distinct;
      computers = subst AreComputers (sym c.new-3.ensures.items) no_computers;
      table = λ computer property. ap (λ (l : List Computer). row_at l computer property) c.new-3.ensures.items ∙ sym (ap (λ (l : List Sample). table_row l computer property) c.new-4.ensures);
      members = subst M (sym c.new-2.ensures.items) (All-nil (λ (kept : KeptGroup). AreMembers c.new-4.result kept.group kept.members.items));
    }
