use Rattle.std.proofs.Common.{◌≡◌, length, ap, ◌∙◌}
use Rattle.agent_text.specs.SavedTexts.{most_bytes}
use Rattle.agent_core.specs.declared.kept_state.KeptState.{KeptState}
use Rattle.agent_core.specs.Inside.{state_of}
use Rattle.agent_state.specs.States.{saved_of, text_of}
use Rattle.agent_core.proofs.Flowing.{within}
use Rattle.agent_core.proofs.kept_state.KeptState.save.Goals as goal

pub save_in-requires-clause-within : goal.save_in-requires-clause-within
save_in-requires-clause-within g c =
    let a : KeptState = c.args.self.now in
    let size : c.in-Some.size ≡ most_bytes a.histories a.outbox.reports = c.in-Some.ensures ∙ ap (most_bytes a.histories) c.made.ensures.reports in
    within (length (text_of (state_of a))) _ _ _ (c.saved_texts_are_short.ensures (saved_of (state_of a)) c.requires.sound.saved) size c.in-Ok.ensures.1
