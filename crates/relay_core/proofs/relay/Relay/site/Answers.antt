use Rattle.std.proofs.Common.{sym, ◌∙◌, subst}
use Rattle.std.specs.List.{Contains}
use Rattle.relay_core.specs.Relays.{RelayState}
use Rattle.relay_core.proofs.relay.Relay.site.Goals as goal

pub returns-in-Ok : goal.returns-in-Ok
returns-in-Ok c = (
  λ kept is. c.in_default.ensures kept (subst (λ (s : RelayState). Contains s.sites kept) (sym c.self.view_is) is.0, is.1 ∙ sym c.as_str.ensures),
  c.in-Ok.ensures.ok,
)
