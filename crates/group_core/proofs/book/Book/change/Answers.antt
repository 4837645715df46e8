use Rattle.std.proofs.Common.{◌≡◌, ◌<◌, ◌^◌, ℕ, Bool, List, [], ◌∷◌, ◌++◌, All, bytes_eq, map, length, rules, sym, ap, subst, ◌∙◌, arith}
use Rattle.std.specs.List.{IsDistinct}
use Rattle.std.specs.Vec.{with_items}
use Rattle.std.proofs.lemmas.List.{nil_from_length, with_items_is}
use Rattle.group_sample.specs.declared.sample.Sample.{Sample}
use Rattle.group_sample.specs.declared.sample.Sampled.{Sampled}
use Rattle.group_core.specs.declared.kept_group.KeptGroup.{KeptGroup}
use Rattle.group_core.specs.declared.kept_row.KeptRow.{KeptRow}
use Rattle.group_core.specs.Books.{BookState, changed_rows, is_newer}
use Rattle.group_core.specs.Keeping.{IsReady, groups_of, newer_rows, settled, shown}
use Rattle.group_core.specs.Lists.{one_of, row_at, row_name, rows_at, with_all}
use Rattle.group_core.specs.Members.{AreMembers}
use Rattle.group_core.specs.Tables.{table_row}
use Rattle.group_core.proofs.Booking.{AreMembersOf, all_shown, members_after, members_unchanged, newer_count, newer_few, putting, some_row, table_after}
use Rattle.group_core.proofs.ChangeLemmas.{distinct_same, groups_after, groups_same, long_same, on_err}
use Rattle.group_core.proofs.KeepLemmas.{kept_names}
use Rattle.group_core.proofs.Membering.{nothing_new}
use Rattle.group_core.proofs.Tabling.{distinct_newer}
use Rattle.group_core.proofs.book.Book.change.Goals as goal

pub overflow_cast-count : goal.overflow_cast-count
overflow_cast-count c =
    let s : Sample = c.args.sample.now in
    let kept : List KeptRow = rows_at c.self.inside.computers.items s.computer in
    let fresh : c.in_ok-fresh.fresh.items ≡ newer_rows kept s =
    c.in_ok-fresh.ensures ∙ ap (λ (l : List KeptRow). newer_rows l s) (c.rows_of-kept.ensures.rows ∙ (λ i. rows_at (c.as_slice.ensures.value i) (c.as_str.ensures i))) in
    let fits : c.len-count.result < 2 ^ 32 = omega (arith, c.len-count.ensures, c.in_ok-fresh.fresh.ok.0, ap (length {A = KeptRow}) fresh, newer_few kept s, c.requires.few) in
    search (rules, fits)

pub invariant_of-self : goal.invariant_of-self
invariant_of-self c =
    let s : Sample = c.args.sample.now in
    let ss : List Sample = c.self.inside.samples in
    let kept : List KeptRow = rows_at c.self.inside.computers.items s.computer in
    let fresh : c.in_ok-fresh.fresh.items ≡ newer_rows kept s =
    c.in_ok-fresh.ensures ∙ ap (λ (l : List KeptRow). newer_rows l s) (c.rows_of-kept.ensures.rows ∙ (λ i. rows_at (c.as_slice.ensures.value i) (c.as_str.ensures i))) in
    let zero : length (newer_rows kept s) ≡ 0 = omega (arith, c.if-count-eq0.true, c.len-count.ensures, c.in_ok-fresh.fresh.ok.0, ap (length {A = KeptRow}) fresh) in
    let none : newer_rows kept s ≡ [] = nil_from_length (newer_rows kept s) zero in
    let known = putting c.self.inside s c.self.invariant c.requires in
    let T : List Sample → Type 0 = λ l. (computer property : List ℕ) → row_at c.self.inside.computers.items computer property ≡ table_row l computer property in
    let M : List Sample → Type 0 = λ l. All (λ (g : KeptGroup). AreMembers l g.group g.members.items) c.self.inside.groups.items in
    record {
      properties = c.self.invariant.properties;
      few_properties = c.self.invariant.few_properties;
      few_groups = c.self.invariant.few_groups;
      distinct = c.self.invariant.distinct;
      computers = c.self.invariant.computers;
      table = subst T (sym c.push.ensures) (λ computer property. c.self.invariant.table computer property ∙ sym (nothing_new ss s kept known none computer property));
      members = subst M (sym c.push.ensures) (members_unchanged ss s kept c.self.inside.groups.items known none c.self.invariant.members);
    }

pub invariant_of-self-in_err-take_rows : goal.invariant_of-self-in_err-take_rows
invariant_of-self-in_err-take_rows c =
    let v = c.self.inside.groups in
    let ws : List KeptGroup = c.take_rows.new.groups in
    let same : map shown ws ≡ map shown v.items = c.in_err-take_rows.ensures.err_groups ∙ ap (map shown) c.deref_mut.ensures.value in
    let groups = groups_same v.items ws same in
    let long : length ws ≡ v.len = omega (arith, long_same v.items ws groups, v.ok.0) in
    let items = with_items_is v ws long in
    let D : List KeptGroup → Type 0 = λ l. IsDistinct bytes_eq (kept_names l) in
    let A : List KeptGroup → Type 0 = All (λ (g : KeptGroup). AreMembers c.self.inside.samples g.group g.members.items) in
    record {
      properties = c.self.invariant.properties;
      few_properties = c.self.invariant.few_properties;
      few_groups = omega (arith, c.self.invariant.few_groups, ap (length {A = KeptGroup}) items, long_same v.items ws groups);
      distinct = subst D (sym items) (distinct_same v.items ws groups c.self.invariant.distinct);
      computers = c.in_err-take_rows.ensures.ordered;
      table = λ computer property. ap (one_of row_name property) (c.in_err-take_rows.ensures.err_rows computer) ∙ c.self.invariant.table computer property;
      members = subst A (sym items) (all_shown (AreMembersOf c.self.inside.samples) v.items ws same c.self.invariant.members);
    }

pub returns-in_err-take_rows-clause-err : goal.returns-in_err-take_rows-clause-err
returns-in_err-take_rows-clause-err c =
    let v = c.self.inside.groups in
    let ws : List KeptGroup = c.take_rows.new.groups in
    let same : map shown ws ≡ map shown v.items = c.in_err-take_rows.ensures.err_groups ∙ ap (map shown) c.deref_mut.ensures.value in
    let kept = groups_same v.items ws same in
    let long : length ws ≡ v.len = omega (arith, long_same v.items ws kept, v.ok.0) in
    let groups : groups_of (with_items v ws).items ≡ c.args.self.now.groups = ap groups_of (with_items_is v ws long) ∙ kept ∙ ap (λ (b : BookState). b.groups) c.self.view_is in
    on_err c.from_residual-in_err-take_rows.result
    (λ i. record { limit = (c.self.view_is i).limit; properties = (c.self.view_is i).properties; groups = groups i; samples = (c.self.view_is i).samples })

pub invariant_of-self-2 : goal.invariant_of-self-2
invariant_of-self-2 c =
    let s : Sample = c.args.sample.now in
    let ss : List Sample = c.self.inside.samples in
    let name : List ℕ = s.computer in
    let kept : List KeptRow = rows_at c.self.inside.computers.items name in
    let newer : List KeptRow = newer_rows kept s in
    let fresh : c.in_ok-fresh.fresh.items ≡ newer =
    c.in_ok-fresh.ensures ∙ ap (λ (l : List KeptRow). newer_rows l s) (c.rows_of-kept.ensures.rows ∙ (λ i. rows_at (c.as_slice.ensures.value i) (c.as_str.ensures i))) in
    let count : c.len-count.result ≡ length newer = omega (arith, c.len-count.ensures, c.in_ok-fresh.fresh.ok.0, ap (length {A = KeptRow}) fresh) in
    let known = putting c.self.inside s c.self.invariant c.requires in
    let v = c.self.inside.groups in
    let ws : List KeptGroup = c.take_rows.new.groups in
    let made = c.in_ok-take_rows.ensures.groups in
    let given : groups_of c.deref_mut.result.now ≡ groups_of v.items = ap groups_of c.deref_mut.ensures.value in
    let after = groups_after _ _ _ _ c.deref_mut.result.now ws made ∙ given in
    let long : length ws ≡ v.len = omega (arith, long_same v.items ws after, v.ok.0) in
    let items = with_items_is v ws long in
    let own : rows_at c.take_rows.new.computers.items name ≡ with_all row_name newer kept = c.in_ok-take_rows.ensures.own ∙ ap (λ (l : List KeptRow). with_all row_name l kept) fresh in
    let test : Sampled → Bool = λ row. is_newer s.seq (one_of row_name row.property kept) in
    let some = some_row kept newer (distinct_newer s.seq test s.rows c.requires.distinct) (λ e. omega (arith, c.if-count-eq0.false, count, e)) in
    let R : List KeptRow → Type 0 = λ l. All (IsReady name kept l) made.ready in
    let D : List KeptGroup → Type 0 = λ l. IsDistinct bytes_eq (kept_names l) in
    let T : List Sample → Type 0 = λ l. (computer property : List ℕ) → row_at c.take_rows.new.computers.items computer property ≡ table_row l computer property in
    let M : List Sample → Type 0 = λ l. All (λ (g : KeptGroup). AreMembers l g.group g.members.items) ws in
    let A : List KeptGroup → Type 0 = All (λ (g : KeptGroup). AreMembers c.push-2.new.self g.group g.members.items) in
    record {
      properties = c.self.invariant.properties;
      few_properties = c.self.invariant.few_properties;
      few_groups = omega (arith, c.self.invariant.few_groups, ap (length {A = KeptGroup}) items, long_same v.items ws after);
      distinct = subst D (sym items) (distinct_same v.items ws after c.self.invariant.distinct);
      computers = c.in_ok-take_rows.ensures.ordered;
      table = subst T (sym c.push-2.ensures)
          (table_after ss s kept (rows_at c.take_rows.new.computers.items) known (λ computer property differs. ap (one_of row_name property) (c.in_ok-take_rows.ensures.others computer differs) ∙ c.self.invariant.table computer property) own);
      members = subst A (sym items) (subst M (sym c.push-2.ensures)
          (members_after ss s kept v.items made.ready ws known some c.self.invariant.members (made.same ∙ ap (map shown) c.deref_mut.ensures.value) (subst R fresh made.made)
          (made.shows ∙ ap (λ (l : List KeptRow). map (settled l) made.ready) own)));
    }

pub returns-clause-ok : goal.returns-clause-ok
returns-clause-ok c =
    let s : Sample = c.args.sample.now in
    let kept : List KeptRow = rows_at c.self.inside.computers.items s.computer in
    let fresh : c.in_ok-fresh.fresh.items ≡ newer_rows kept s =
    c.in_ok-fresh.ensures ∙ ap (λ (l : List KeptRow). newer_rows l s) (c.rows_of-kept.ensures.rows ∙ (λ i. rows_at (c.as_slice.ensures.value i) (c.as_str.ensures i))) in
    let count : c.len-count.result ≡ length (newer_rows kept s) = omega (arith, c.len-count.ensures, c.in_ok-fresh.fresh.ok.0, ap (length {A = KeptRow}) fresh) in
    let v = c.self.inside.groups in
    let ws : List KeptGroup = c.take_rows.new.groups in
    let given : groups_of c.deref_mut.result.now ≡ groups_of v.items = ap groups_of c.deref_mut.ensures.value in
    let after = groups_after _ _ _ _ c.deref_mut.result.now ws c.in_ok-take_rows.ensures.groups ∙ given in
    let long : length ws ≡ v.len = omega (arith, long_same v.items ws after, v.ok.0) in
    let groups : groups_of (with_items v ws).items ≡ c.args.self.now.groups = ap groups_of (with_items_is v ws long) ∙ after ∙ ap (λ (b : BookState). b.groups) c.self.view_is in
    let samples : c.push-2.new.self ≡ c.args.self.now.samples ++ s ∷ [] = c.push-2.ensures ∙ ap (λ (b : BookState). b.samples ++ s ∷ []) c.self.view_is in (
      count ∙ newer_count c.self.inside s c.self.invariant ∙ ap (λ (b : BookState). length (changed_rows b.samples s)) c.self.view_is,
      λ i. record { limit = (c.self.view_is i).limit; properties = (c.self.view_is i).properties; groups = groups i; samples = samples i },
    )
