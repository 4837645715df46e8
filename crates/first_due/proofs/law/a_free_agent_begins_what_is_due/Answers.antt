use Rattle.std.proofs.Common.{◌≡◌, ℕ, ◌⊎◌, inl, inr}
use Rattle.script_run.specs.Asking.{When}
use Rattle.agent_state.specs.States.{IsSound, State}
use Rattle.agent_core.specs.declared.turned.Turned.{Turned}
use Rattle.agent_core.specs.declared.turned.Turned.TheVariants.{Idle}
use Rattle.agent_core.specs.Devices.{Devices}
use Rattle.first_due.specs.Beginnings.{BeginsLeast, FindsNone, SaysBegan}
use Rattle.first_due.proofs.Beginning.{Promises, turn_promises}
use Rattle.first_due.proofs.law.a_free_agent_begins_what_is_due.Goals as goal

ends_by : (at : When) (s s2 : State) (d d2 : Devices) (answer : Turned) (sound : IsSound s) → Promises at s d answer s2 d2 sound answer
    → (answer ≡ Idle) ⊎ ((id : ℕ) × SaysBegan id answer)
    → ((answer ≡ Idle) × FindsNone at s d s2 d2) ⊎ ((id : ℕ) × SaysBegan id answer × BeginsLeast at s d id answer s2 d2)
ends_by at s s2 d d2 answer sound p (inl e) = inl (e, p.idle e)
ends_by at s s2 d d2 answer sound p (inr h) = inr (h.0, h.1, p.begun h.0 h.1)

pub returns : goal.returns
returns c at s s2 d d2 answer sound turn free whole machine pocket memory =
    let p = turn_promises at s d answer s2 d2 sound turn in
    ends_by at s s2 d d2 answer sound p (p.ends free whole machine pocket memory)
