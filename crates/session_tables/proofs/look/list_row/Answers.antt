use Rattle.std.proofs.Common.{◌≡◌, ◌∙◌, [], Ok, ap, filter, is_some, map, refl, sym, subst, true}
use Rattle.bf_world.specs.declared.answer.Answer.TheVariants as answer
use Rattle.bf_world.specs.declared.key.Key.TheVariants as key
use Rattle.bf_world.specs.Shown.{shown}
use Rattle.desk_keep.specs.declared.find.Find.{Find}
use Rattle.desk_keep.specs.Keys.{asked_key}
use Rattle.desk_keep.specs.Tables.{is_result_of, row_at}
use Rattle.session_tables.specs.Inside.{named_entry, with_names}
use Rattle.session_tables.specs.Paths.{is_shown, path_of}
use Rattle.session_tables.specs.Worlds.{tables_world}
use Rattle.session_tables.proofs.Learning.{known, learned_after, not_some}
use Rattle.session_tables.proofs.Showing.{list_absent, list_computer_row, list_file, no_computer_key}
use Rattle.session_tables.proofs.look.list_row.Goals as goal

pub returns-in_default-clause-learns : goal.returns-in_default-clause-learns
returns-in_default-clause-learns g c =
    known (λ rows. shown (tables_world rows) (key.List (path_of c.args.find.now))) (g.K.Keeper.told c.args.keeper.now) answer.Nothing
    (list_file c.args.find.now c.requires (no_computer_key c.args.find.now c.in_default.not-Computer))

pub returns-then-not-there-clause-learns : goal.returns-then-not-there-clause-learns
returns-then-not-there-clause-learns g c =
    let view = g.K.Keeper.told c.has_row.new.keeper in
    learned_after (λ rows. is_some (row_at (asked_key c.args.find.now) rows)) (λ rows. answer.Nothing)
    (λ rows. shown (tables_world rows) (key.List (path_of c.args.find.now)))
    (g.K.Keeper.told c.args.keeper.now) view view c.in_ok-there.there (Ok answer.Nothing) c.in_ok-there.ensures
    (known (λ rows. answer.Nothing) view answer.Nothing (λ rows. refl))
    (λ rows there.
    list_absent c.args.find.now c.requires rows (not_some (row_at (asked_key c.args.find.now) rows) (sym there ∙ c.if-not-there.true)))

pub returns-clause-learns : goal.returns-clause-learns
returns-clause-learns g c =
    let name = c.in-Computer.name in
    let shown_name = subst (λ (f : Find). is_shown f ≡ true) c.in-Computer.is c.requires in
    learned_after (λ rows. is_some (row_at (asked_key c.args.find.now) rows))
    (λ rows. answer.Entries (map named_entry (with_names (filter (is_result_of name) rows) [])))
    (λ rows. shown (tables_world rows) (key.List (path_of c.args.find.now)))
    (g.K.Keeper.told c.args.keeper.now) (g.K.Keeper.told c.has_row.new.keeper) (g.K.Keeper.told c.list_results.new.keeper)
    c.in_ok-there.there c.list_results.result c.in_ok-there.ensures c.list_results.ensures.learns
    (λ rows there.
    list_computer_row name shown_name rows
    (ap (λ (f : Find). is_some (row_at (asked_key f) rows)) (sym c.in-Computer.is) ∙ sym there ∙ c.if-not-there.false)
    ∙ ap (λ (f : Find). shown (tables_world rows) (key.List (path_of f))) (sym c.in-Computer.is))
