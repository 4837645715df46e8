use Rattle.std.proofs.Common.{true, sym, subst}
use Rattle.agent_core.specs.declared.kept_state.KeptState.{KeptState}
use Rattle.agent_core.specs.Inside.{IsSoundKept}
use Rattle.agent_state.specs.Outboxes.{OutboxState}
use Rattle.agent_state.proofs.Dropping.{outbox_without, seq_of, shown_within}
use Rattle.line_forms.proofs.Rising.{Rises, rises_from_increasing}
use Rattle.agent_core.proofs.kept_state.KeptState.drop_report.Goals as goal

pub drop_report-requires : goal.drop_report-requires
drop_report-requires c = c.requires.sound.saved.reports.ascending

pub returns-clause-sound : goal.returns-clause-sound
returns-clause-sound c =
    let a : KeptState = c.args.self.now in
    let s = c.requires.sound in
    let up : Rises seq_of a.outbox.reports = rises_from_increasing seq_of a.outbox.reports s.saved.reports.ascending in
    subst (λ (x : OutboxState). IsSoundKept (record a { outbox = x; unsaved = true })) (sym c.if-not-drop_report.ensures.1)
    (record {
      sound = record {
        saved = record {
          computer = s.saved.computer;
          next = s.saved.next;
          histories = s.saved.histories;
          reports = outbox_without a.name a.next c.args.seq a.outbox.reports s.saved.reports;
        };
        shown = shown_within c.args.seq a.outbox.shown a.outbox.reports up s.shown;
        held = s.held;
        sites = s.sites;
      };
      tallies = c.requires.tallies;
    })
