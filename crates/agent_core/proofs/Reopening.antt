-- An agent that is opened from what was saved.
use Rattle.std.proofs.Common.{◌≡◌, inl, inr, ◌⊎◌, Some, Ok, Err, refl, sym, ap, subst, ◌∙◌}
use Rattle.std.specs.declared.result.Result.{Result}
use Rattle.agent_text.specs.declared.saved.Saved.{Saved}
use Rattle.agent_text.specs.declared.error.SavedError.{SavedError}
use Rattle.agent_text.specs.declared.error.SavedError.TheVariants.{Memory}
use Rattle.agent_text.specs.SavedTexts.{IsSaved, ReadsSaved, saved_text}
use Rattle.agent_core.specs.declared.opening.Opened.TheVariants as opening
use Rattle.agent_core.specs.Agents.{AgentState, shown_state}
use Rattle.agent_core.specs.Opens.{IsAgentOf, OpensAgent, opened_state}
use Rattle.agent_state.specs.States.{IsSound, State, saved_of, text_of}

-- a text is read again
abbrev ReadAgain : Type 0
ReadAgain = (saved : Saved) (answer : Result Saved SavedError) → IsSaved saved → ReadsSaved saved.computer (saved_text saved) answer → (answer ≡ Ok saved) ⊎ (answer ≡ Err Memory)

read_as : (what saved : Saved) (answer : Result Saved SavedError) → answer ≡ Ok what → (answer ≡ Ok saved) ⊎ (answer ≡ Err Memory) → what ≡ saved
read_as what saved answer is (inl e) = cc
read_as what saved answer is (inr e) = absurd (cc)

pub opened_again : ReadAgain → (s : State) (agent : AgentState) → IsSound s → OpensAgent s.computer (Some (Some (text_of s))) (opening.Agent agent) → shown_state agent ≡ opened_state (saved_of s)
opened_again again s agent sound opens =
    let is : IsAgentOf s.computer (Some (text_of s)) (shown_state agent) = subst (λ o. IsAgentOf s.computer o (shown_state agent)) (sym opens.1) opens.2 in
    is.2 ∙ ap opened_state (read_as is.0 (saved_of s) (Ok is.0) refl (again (saved_of s) (Ok is.0) sound.saved is.1))
