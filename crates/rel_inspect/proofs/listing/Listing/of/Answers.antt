use Rattle.std.proofs.Common.{List, All, sym, subst}
use Rattle.rel_inspect.specs.declared.listing.Listing.TheVariants as listing
use Rattle.rel_sources.specs.Traces.{Item}
use Rattle.rel_sources.specs.Draws.{IsSoundItem}
use Rattle.rel_inspect.proofs.Soundness.{listed-sound}
use Rattle.rel_inspect.proofs.listing.Listing.of.Goals as goal

pub returns-in-Entries-clause-sound : goal.returns-in-Entries-clause-sound
returns-in-Entries-clause-sound c = subst (λ (l : List Item). All IsSoundItem l) (sym c.entries_of.ensures) (listed-sound (listing.Entries c.in-Entries.folders c.in-Entries.path) c.args.answer c.requires)

pub returns-in-Lines-clause-sound : goal.returns-in-Lines-clause-sound
returns-in-Lines-clause-sound c = subst (λ (l : List Item). All IsSoundItem l) (sym c.lines_of.ensures) (listed-sound (listing.Lines c.in-Lines.wanted) c.args.answer c.requires)

pub returns-in-Processes-clause-sound : goal.returns-in-Processes-clause-sound
returns-in-Processes-clause-sound c = subst (λ (l : List Item). All IsSoundItem l) (sym c.processes_of.ensures) (listed-sound (listing.Processes c.in-Processes.wanted) c.args.answer c.requires)

pub returns-in-Packages-clause-sound : goal.returns-in-Packages-clause-sound
returns-in-Packages-clause-sound c = subst (λ (l : List Item). All IsSoundItem l) (sym c.packages_of.ensures) (listed-sound (listing.Packages c.in-Packages.wanted) c.args.answer c.requires)

pub returns-in-Settings-clause-sound : goal.returns-in-Settings-clause-sound
returns-in-Settings-clause-sound c = subst (λ (l : List Item). All IsSoundItem l) (sym c.settings_of.ensures) (listed-sound (listing.Settings c.in-Settings.wanted) c.args.answer c.requires)
