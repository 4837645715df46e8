use Rattle.std.proofs.Common.{◌≡◌, ◌∙◌, [], List, ℕ, Bool, All, IfOk, ap, map, subst, sym}
use Rattle.std.specs.Map.{keys_of}
use Rattle.line_forms.specs.Paths.{IsPart}
use Rattle.bf_world.specs.declared.answer.Answer.TheVariants as answer
use Rattle.desk_keep.specs.declared.change.Change.{Change}
use Rattle.session_tables.specs.Inside.{named_entry, with_names}
use Rattle.session_tables.proofs.EntryLemmas.{with_parts}
use Rattle.session_tables.proofs.entries.row_entries.Goals as goal

pub entries_of-requires : goal.entries_of-requires
entries_of-requires c =
    subst (λ (l : List (List ℕ × Bool)). All IsPart (keys_of l)) (sym c.in_ok-names.ensures) (with_parts c.into_vec.result.items)

pub returns-clause-entries : goal.returns-clause-entries
returns-clause-entries c =
    let same = c.in_ok-names.ensures ∙ ap (λ (rows : List Change). with_names rows []) c.into_vec.ensures in
    subst (λ (l : List (List ℕ × Bool)). IfOk c.entries_of.result (λ a. a ≡ answer.Entries (map named_entry l))) same c.entries_of.ensures.entries
