use Rattle.std.proofs.Common.{◌≡◌, ◌<◌, List, ℕ, ℤ, length, to_z, of_z, w64, sym, ap, subst, ◌∙◌}
use Rattle.std.specs.Prelude.{Ok, Err, OnOk, Result, get_or, map, slice_set}
use Rattle.std.proofs.lemmas.List.{get_or_default, length-map}
use Rattle.std.proofs.lemmas.Int.{to_z-of_z}
use Rattle.std.proofs.lemmas.Result.{on_ok_weaker}
use Rattle.desk_base.specs.Moments.{IsMoment}
use Rattle.fix_site.specs.declared.site.Site.{Site}
use Rattle.relay_core.specs.Relays.{RelayState}
use Rattle.office_play.specs.Kept.{HasAccepted}
use Rattle.office_play.specs.Links.{IsGoodComputer, IsNamed, IsPlaceOf}
use Rattle.office_play.specs.States.{ComputerState, OfficeState, kept_of, shown_computer, shown_entry}
use Rattle.office_play.specs.Turning.{TurnsOver}
use Rattle.office_play.proofs.ComputerWords.{turns}
use Rattle.office_play.proofs.Names.{keeps_computer_set}
use Rattle.office_play.proofs.Places.{named_holds}
use Rattle.office_play.proofs.Seen.{computer_turned, entry_seen}
use Rattle.office_play.proofs.office.Office.turn.Goals as goal

on_ok_three : {T E A B C D : Type 0} (r : Result T E) → (A → B → C → D) → OnOk r A → OnOk r B → OnOk r C → OnOk r D
on_ok_three (Ok done) f a b c = f a b c
on_ok_three (Err e) f a b c = tt

-- what stands at one place, read twice
same_entry : (es : List (List ℕ × ComputerState)) (p : ℕ) (a b : List ℕ × ComputerState) → p < length es → a ≡ get_or es p a → b ≡ get_or es p b
    → a ≡ b
same_entry es p a b within first second = first ∙ get_or_default es p a b within ∙ sym second

within_seen : (es : List (List ℕ × ComputerState)) (p : ℕ) → p < length (map shown_entry es) → p < length es
within_seen es p within = subst (λ n. p < n) (length-map es shown_entry) within

pub relay_place-at-requires : goal.relay_place-at-requires
relay_place-at-requires c =
    let old : OfficeState = c.args.self.now in
    let place = c.computer_place-place.result in
    let entry : List ℕ × ComputerState = c.index.result.now in
    let is : entry ≡ get_or old.computers place entry = c.index.ensures ∙ ap (λ (o : OfficeState). get_or o.computers place entry) c.self.view_is in
    let good = named_holds (IsGoodComputer old.relays) c.args.name.now (kept_of old).computers place (shown_entry entry) c.computer_place-place.ensures
    (entry_seen old.computers place entry is) c.requires.good.computers in
    record {
      good = c.requires.good;
      name = subst (λ (e : List ℕ × ComputerState). IsNamed e.1.relay old.relays) (sym c.behind-self.view_is) good.relay;
    }

pub turn-requires : goal.turn-requires
turn-requires c =
    let old : OfficeState = c.args.self.now in
    let name = c.args.name.now in
    let place = c.computer_place-place.result in
    let entry : List ℕ × ComputerState = c.index_mut.result.now in
    let is : entry ≡ get_or old.computers place entry =
    c.index_mut.ensures.value ∙ ap (λ (o : OfficeState). get_or o.computers place entry) c.self.view_is in
    let seen = entry_seen old.computers place entry is in
    let good = named_holds (IsGoodComputer old.relays) name (kept_of old).computers place (shown_entry entry) c.computer_place-place.ensures seen c.requires.good.computers in
    record {
      moment = subst IsMoment (sym (to_z-of_z w64 c.args.moment c.ranges.moment)) c.requires.moment;
      sites = c.sites-sites.ensures.kept.good;
      sound = good.sound;
      mail = good.mail;
      accepted = subst (λ (o : OfficeState). HasAccepted o.rows) (sym c.self.view_is) c.requires.accepted;
    }

pub returns-clause-plays : goal.returns-clause-plays
returns-clause-plays c =
    let old : OfficeState = c.args.self.now in
    let name = c.args.name.now in
    let place = c.computer_place-place.result in
    let entry : List ℕ × ComputerState = c.index_mut.result.now in
    let is : entry ≡ get_or old.computers place entry =
    c.index_mut.ensures.value ∙ ap (λ (o : OfficeState). get_or o.computers place entry) c.self.view_is in
    let seen = entry_seen old.computers place entry is in
    let at = c.relay_place-at.result in
    let relay : List ℕ × RelayState = c.index-2.result.now in
    let from : relay ≡ get_or old.relays at relay = c.index-2.ensures ∙ ap (λ (o : OfficeState). get_or o.relays at relay) c.self.view_is in
    let own : List ℕ × ComputerState = c.index.result.now in
    let own_is : own ≡ get_or old.computers place own = c.index.ensures ∙ ap (λ (o : OfficeState). get_or o.computers place own) c.self.view_is in
    let here : IsPlaceOf entry.1.relay old.relays at =
    subst (λ (e : List ℕ × ComputerState). IsPlaceOf e.1.relay old.relays at) (c.behind-self.view_is ∙ same_entry old.computers place own entry (within_seen old.computers place c.computer_place-place.ensures.within) own_is is)
    c.relay_place-at.ensures in
    let sites : c.sites-sites.result.now ≡ relay.1.sites =
    c.sites-sites.ensures.sites ∙ ap (λ (r : List ℕ × RelayState). r.1.sites) c.behind-self-2.view_is in
    let then : List ℕ × ComputerState = c.turn.new.self in
    on_ok_three c.turn.result
    (λ did sound mail. turns (kept_of old) _ name c.args.moment place at (shown_entry entry) relay (shown_entry then) c.args.out.now c.turn.new.out
    c.computer_place-place.ensures seen here from c.requires.good c.requires.accepted sound mail c.turn.ensures.name
    (subst (λ (m : ℤ). TurnsOver m old.rows relay.1.sites (shown_entry entry) c.args.out.now (shown_entry then) c.turn.new.out)
    (to_z-of_z w64 c.args.moment c.ranges.moment)
    (subst (λ (s : List Site). TurnsOver (to_z w64 (of_z w64 c.args.moment)) old.rows s (shown_entry entry) c.args.out.now (shown_entry then) c.turn.new.out) sites
    (subst (λ (o : OfficeState). TurnsOver (to_z w64 (of_z w64 c.args.moment)) o.rows c.sites-sites.result.now (shown_entry entry) c.args.out.now (shown_entry then) c.turn.new.out) c.self.view_is did)))
    (computer_turned _ old place then c.turn.new.keeper c.self.view_is c.turn.ensures.rows))
    c.turn.ensures.turns c.turn.ensures.sound c.turn.ensures.mail

pub returns-clause-names : goal.returns-clause-names
returns-clause-names c =
    let old : OfficeState = c.args.self.now in
    let name = c.args.name.now in
    let place = c.computer_place-place.result in
    let entry : List ℕ × ComputerState = c.index_mut.result.now in
    let is : entry ≡ get_or old.computers place entry =
    c.index_mut.ensures.value ∙ ap (λ (o : OfficeState). get_or o.computers place entry) c.self.view_is in
    let seen = entry_seen old.computers place entry is in
    let then : List ℕ × ComputerState = c.turn.new.self in
    on_ok_weaker c.turn.result
    (λ did. keeps_computer_set name (kept_of old) _ place (shown_entry entry) (shown_computer then.1) c.computer_place-place.ensures seen
    (computer_turned _ old place then c.turn.new.keeper c.self.view_is c.turn.ensures.rows
    ∙ ap (λ (n : List ℕ). record (kept_of old) { computers = slice_set (kept_of old).computers place (n, shown_computer then.1) }) c.turn.ensures.name))
    c.turn.ensures.turns
