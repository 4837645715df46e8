-- Actions that are asked one after another on a machine.
use Rattle.std.specs.Prelude.{◌≡◌, ◌⊎◌, ℕ, List, [], ◌∷◌}
use Rattle.fix_site.specs.declared.action.Action.{Action}
use Rattle.fix_site.specs.declared.site.Site.{Site}
use Rattle.script_run.specs.Asking.{When}
use Rattle.agent_text.specs.Histories.{PlainHistory, rows_at}
use Rattle.agent_attempt.specs.declared.found.Found.{Found}
use Rattle.agent_attempt.specs.declared.found.Found.TheVariants.{Yes, No}
use Rattle.agent_attempt.specs.ActionContents.{content_of}
use Rattle.agent_attempt.specs.Relevance.{Asking, ContentIs, IsDue}
use Rattle.agent_core.specs.Devices.{Devices}

-- The machine was asked this, and this was found; the pocket tells what it told.
pub record Finds (ask : Asking) (d : Devices) (found : Found) (d2 : Devices) : Type 0 where
  pub asked : ask d.machine found d2.machine
  pub pocket : d2.pocket ≡ d.pocket

-- whether the content of an action is relevant, as it is gathered
abbrev pub ActionIsRelevant : When → List Site → Action → Asking
ActionIsRelevant at sites action = ContentIs at (content_of action sites)

-- whether an action is due on the computer of this name, with its content as it is gathered and its rows among these histories
abbrev pub ActionIsDue : When → List ℕ → List Site → List PlainHistory → Action → Asking
ActionIsDue at computer sites hs action = IsDue at computer action (content_of action sites) (rows_at action.id hs)

-- These actions were asked in this order, each once, whether they are relevant. Those of these ids, in the same order, aren't, and the
-- others are.
abbrev pub AreNotRelevant : When → List Site → List Action → List ℕ → Devices → Devices → Type 0
AreNotRelevant at sites [] ids d d2 = (ids ≡ []) × (d2 ≡ d)
AreNotRelevant at sites (action ∷ actions) ids d d2 =
    (between : Devices)
    × ((Finds (ActionIsRelevant at sites action) d Yes between × AreNotRelevant at sites actions ids between d2)
    ⊎ (Finds (ActionIsRelevant at sites action) d No between
    × ((others : List ℕ) × (ids ≡ action.id ∷ others) × AreNotRelevant at sites actions others between d2)))

-- These actions were asked in this order, each once, whether they are due, and none is.
abbrev pub AreNotDue : When → List ℕ → List Site → List PlainHistory → List Action → Devices → Devices → Type 0
AreNotDue at computer sites hs [] d d2 = d2 ≡ d
AreNotDue at computer sites hs (action ∷ actions) d d2 =
    (between : Devices) × Finds (ActionIsDue at computer sites hs action) d No between
    × AreNotDue at computer sites hs actions between d2
