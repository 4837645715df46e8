use Rattle.std.proofs.Common.{List, All, ap, map, subst, sym}
use Rattle.std.specs.List.Sorted.{IsStrictlySortedBy}
use Rattle.line_forms.specs.Paths.{IsPart}
use Rattle.bf_world.specs.declared.answer.Answer.TheVariants as answer
use Rattle.bf_world.specs.declared.answer.Entry.{Entry}
use Rattle.bf_world.specs.Maps.{byte_order}
use Rattle.session_tables.proofs.EntryLemmas.{ascending_entries, good_entries}
use Rattle.session_tables.proofs.entries.entries_of.Goals as goal

pub returns-clause-entries : goal.returns-clause-entries
returns-clause-entries c = ap answer.Entries c.in_ok-entries.ensures.entries

pub returns-clause-good : goal.returns-clause-good
returns-clause-good c =
    subst (λ (l : List Entry). All (λ (e : Entry). IsPart e.name) l) (sym c.in_ok-entries.ensures.entries) (good_entries c.args.names.now c.requires)

pub returns-clause-ascending : goal.returns-clause-ascending
returns-clause-ascending c =
    subst (λ (l : List Entry). IsStrictlySortedBy byte_order (map (λ (e : Entry). e.name) l)) (sym c.in_ok-entries.ensures.entries)
    (ascending_entries c.args.names.now c.in_ok-entries.ensures.ordered)
