use Rattle.std.proofs.Common.{◌∙◌, ap, subst, sym}
use Rattle.bf_world.specs.declared.answer.Answer.TheVariants as answer
use Rattle.bf_world.specs.declared.key.Key.TheVariants as key
use Rattle.bf_world.specs.Answers.{HasAscendingNames}
use Rattle.bf_world.specs.Shown.{shown}
use Rattle.session_tables.specs.Worlds.{tables_world}
use Rattle.session_tables.proofs.Goodness.{no_names_ascend, no_packages_ascend, no_settings_ascend}
use Rattle.session_tables.proofs.Learning.{known, shown_at}
use Rattle.session_tables.proofs.look.show.Goals as goal

pub returns-in-Stat-clause-learns : goal.returns-in-Stat-clause-learns
returns-in-Stat-clause-learns g c =
    shown_at (g.K.Keeper.told c.args.keeper.now) c.stat.result (g.K.Keeper.told c.stat.new.keeper) (key.Stat c.as_str.result.now) c.args.key.now
    (ap key.Stat c.as_str.ensures ∙ sym c.in-Stat.is) c.stat.ensures.learns

pub returns-in-List-clause-learns : goal.returns-in-List-clause-learns
returns-in-List-clause-learns g c =
    shown_at (g.K.Keeper.told c.args.keeper.now) c.list.result (g.K.Keeper.told c.list.new.keeper) (key.List c.as_str-in-List.result.now) c.args.key.now
    (ap key.List c.as_str-in-List.ensures ∙ sym c.in-List.is) c.list.ensures.learns

pub returns-in-Read-clause-learns : goal.returns-in-Read-clause-learns
returns-in-Read-clause-learns g c =
    shown_at (g.K.Keeper.told c.args.keeper.now) c.read.result (g.K.Keeper.told c.read.new.keeper) (key.Read c.as_str-in-Read.result.now) c.args.key.now
    (ap key.Read c.as_str-in-Read.ensures ∙ sym c.in-Read.is) c.read.ensures.learns

pub returns-in_ok-system-in-System-clause-learns : goal.returns-in_ok-system-in-System-clause-learns
unfolding tables_world
returns-in_ok-system-in-System-clause-learns g c =
    known (λ rows. shown (tables_world rows) c.args.key.now) (g.K.Keeper.told c.args.keeper.now) c.in_ok-system-in-System.field-0
    (λ rows. c.in_ok-system-in-System.ensures.is ∙ ap (shown (tables_world rows)) (sym c.in-System.is))

pub returns-in_ok-from_str-in-ComputerName-clause-learns : goal.returns-in_ok-from_str-in-ComputerName-clause-learns
unfolding tables_world
returns-in_ok-from_str-in-ComputerName-clause-learns g c =
    known (λ rows. shown (tables_world rows) c.args.key.now) (g.K.Keeper.told c.args.keeper.now) (answer.Name c.in_ok-from_str-in-ComputerName.field-0)
    (λ rows. ap answer.Name c.in_ok-from_str-in-ComputerName.ensures ∙ ap (shown (tables_world rows)) (sym c.in-ComputerName.is))

pub returns-in-Processes-clause-learns : goal.returns-in-Processes-clause-learns
unfolding tables_world
returns-in-Processes-clause-learns g c =
    known (λ rows. shown (tables_world rows) c.args.key.now) (g.K.Keeper.told c.args.keeper.now) (answer.Names c.from_vec.result)
    (λ rows. ap answer.Names (c.from_vec.ensures ∙ c.new.ensures.items) ∙ ap (shown (tables_world rows)) (sym c.in-Processes.is))

pub returns-in-Packages-clause-learns : goal.returns-in-Packages-clause-learns
unfolding tables_world
returns-in-Packages-clause-learns g c =
    known (λ rows. shown (tables_world rows) c.args.key.now) (g.K.Keeper.told c.args.keeper.now) (answer.Packages c.from_vec-in-Packages.result)
    (λ rows. ap answer.Packages (c.from_vec-in-Packages.ensures ∙ c.new-in-Packages.ensures.items) ∙ ap (shown (tables_world rows)) (sym c.in-Packages.is))

pub returns-in-Settings-clause-learns : goal.returns-in-Settings-clause-learns
unfolding tables_world
returns-in-Settings-clause-learns g c =
    known (λ rows. shown (tables_world rows) c.args.key.now) (g.K.Keeper.told c.args.keeper.now) (answer.Settings c.from_vec-in-Settings.result)
    (λ rows. ap answer.Settings (c.from_vec-in-Settings.ensures ∙ c.new-in-Settings.ensures.items) ∙ ap (shown (tables_world rows)) (sym c.in-Settings.is))

pub returns-in-Processes-clause-ascending : goal.returns-in-Processes-clause-ascending
returns-in-Processes-clause-ascending g c =
    subst HasAscendingNames (sym (ap answer.Names (c.from_vec.ensures ∙ c.new.ensures.items))) no_names_ascend

pub returns-in-Packages-clause-ascending : goal.returns-in-Packages-clause-ascending
returns-in-Packages-clause-ascending g c =
    subst HasAscendingNames (sym (ap answer.Packages (c.from_vec-in-Packages.ensures ∙ c.new-in-Packages.ensures.items))) no_packages_ascend

pub returns-in-Settings-clause-ascending : goal.returns-in-Settings-clause-ascending
returns-in-Settings-clause-ascending g c =
    subst HasAscendingNames (sym (ap answer.Settings (c.from_vec-in-Settings.ensures ∙ c.new-in-Settings.ensures.items))) no_settings_ascend
