use Rattle.std.proofs.Common.{◌≡◌, List, ℕ, Bool, All, IfOk, map, subst, sym}
use Rattle.std.specs.Map.{keys_of}
use Rattle.line_forms.specs.Paths.{IsPart}
use Rattle.bf_world.specs.declared.answer.Answer.TheVariants as answer
use Rattle.session_tables.specs.Inside.{named_entry}
use Rattle.session_tables.proofs.EntryLemmas.{root_parts}
use Rattle.session_tables.proofs.entries.root_entries.Goals as goal

pub entries_of-requires : goal.entries_of-requires
entries_of-requires c = subst (λ (l : List (List ℕ × Bool)). All IsPart (keys_of l)) (sym c.in_ok-names.ensures) root_parts

pub returns-clause-entries : goal.returns-clause-entries
returns-clause-entries c =
    subst (λ (l : List (List ℕ × Bool)). IfOk c.entries_of.result (λ a. a ≡ answer.Entries (map named_entry l))) c.in_ok-names.ensures
    c.entries_of.ensures.entries
