-- The words `measure` and `target` are steps of the delivery of reports: none, and one that asks the server.
use Rattle.std.proofs.Common.{◌≡◌, ℕ, ℤ, inl, inr, List, [], ◌∷◌, Some, refl, sym, ap, subst}
use Rattle.agent_core.specs.Schedules.{IsMailOf}
use Rattle.server_text.specs.declared.request.Request.TheVariants as request
use Rattle.office_rules.specs.GroupWords.{Measures, TargetsGroup, aimed}
use Rattle.office_rules.specs.Offices.{Office, PlayedComputer, carriers_of}
use Rattle.office_rules.specs.WordSteps.{AreOfTarget}
use Rattle.office_rules.proofs.DeedSteps.{IsStepsFrom, asking, no_acting}
use Rattle.office_rules.proofs.Networks.{Ends, computer_there, finds_like, mail_follows, no_steps}
use Rattle.office_rules.proofs.UnderNames.{unchanged}
use Rattle.std.specs.Prelude.{codes}

pub measuring : (name : List ℕ) (moment : ℤ) (old : Office) → IsStepsFrom old (Measures name moment) (λ before steps. steps ≡ [])
measuring name moment old coming later n said new f p =
    let found = finds_like name f.front old.computers p.computer p.here f.like in
    let there = computer_there coming later name n old.accepted old.messages (carriers_of old.relays) old.computers p.computer f found in
    let is = p.measures.new_is in
    let mail = subst (λ (c : PlayedComputer). IsMailOf found.there.mail c.agent (Some c.saved)) (sym is) found.mail in (
      [],
      refl,
      subst (λ (o : Office). Ends coming later n [] o) (sym p.new_is) (record {
        schedule = tt;
        follows = mail_follows coming later name n n old.accepted old.messages (carriers_of old.relays) old.computers p.computer p.measured found.there.mail p.here f found refl refl refl
            (unchanged name n.computers found.there there) mail (ap (λ (c : PlayedComputer). c.relay) is) (ap (λ (c : PlayedComputer). c.agent.computer) is);
      }),
    )

pub targeting : (name text : List ℕ) (old : Office) → IsStepsFrom old (TargetsGroup name text) (AreOfTarget name text)
targeting name text old coming later n said new f (inl (none, is, same)) = ([], inl (none, refl), no_steps coming later n old new same f)
targeting name text old coming later n said new f (inr (first, more, are, asks)) =
    let whole : List ℕ = aimed (first ∷ more) text in
    let asked = asking (codes "target") (request.Act whole) (no_acting whole) old coming later n said new f asks in
    (asked.0, inr (first, more, are, asked.1), asked.2)
