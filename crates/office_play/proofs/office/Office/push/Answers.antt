use Rattle.std.proofs.Common.{◌≡◌, ◌<◌, ◌≤◌, List, ℕ, [], ◌∷◌, ◌++◌, length, take, codes, Some, arith, refl, sym, ap, subst, ◌∙◌}
use Rattle.std.specs.Prelude.{get_or}
use Rattle.std.proofs.lemmas.List.{take_all}
use Rattle.std.proofs.lemmas.Result.{on_ok_weaker}
use Rattle.report_text.specs.declared.report.Report.{Report}
use Rattle.relay_core.specs.Relays.{RelayState}
use Rattle.delivery.specs.Messages.{named}
use Rattle.office_rules.specs.Deeds.{DoesEach}
use Rattle.office_rules.specs.OfficeLines.{nothing_line}
use Rattle.office_play.specs.Links.{IsPlaceOf}
use Rattle.office_play.specs.Messages.{DispatchesToServer}
use Rattle.office_play.specs.Played.{Plays}
use Rattle.office_play.specs.States.{OfficeState, kept_of}
use Rattle.office_play.proofs.Deeds.{plays_none, still_good}
use Rattle.office_play.proofs.Names.{keeps_both, keeps_same}
use Rattle.office_play.proofs.Places.{at_place, some_is}
use Rattle.office_play.proofs.Queues.{push_more, pushes_all, pushes_nothing, some_queued}
use Rattle.office_play.proofs.office.Office.push.Goals as goal

-- the relay at the place of its name
found_at : (old seen : OfficeState) (name : List ℕ) (place : ℕ) (entry : List ℕ × RelayState) → seen ≡ old
    → entry ≡ get_or seen.relays place entry → IsPlaceOf name old.relays place → named name old.relays ≡ Some entry.1
found_at old seen name place entry same is at =
    (at_place name old.relays place entry at.first (is ∙ ap (λ (o : OfficeState). get_or o.relays place entry) same)).1

pub returns-then-queued-eq0-clause-plays : goal.returns-then-queued-eq0-clause-plays
returns-then-queued-eq0-clause-plays c =
    let entry : List ℕ × RelayState = c.index.result.now in
    let found = found_at c.args.self.now _ c.args.name.now c.relay_place-place.result entry c.self.view_is c.index.ensures c.relay_place-place.ensures in
    let queue : c.queue-queued.result.now ≡ entry.1.queue = c.queue-queued.ensures.queue ∙ ap (λ (e : List ℕ × RelayState). e.1.queue) c.behind-self.view_is in
    let none : length entry.1.queue ≡ 0 = sym (ap length queue) ∙ c.if-queued-eq0.true in
    on_ok_weaker c.say_about.result
    (λ said. pushes_nothing c.args.name.now entry.1 (kept_of c.args.self.now) c.args.out.now _ found none c.requires.good
    (said ∙ ap (λ n. c.args.out.now ++ nothing_line (codes "push" ∷ n ∷ [])) c.as_str.ensures))
    c.say_about.ensures

pub loop-at-init : goal.loop-at-init
loop-at-init c = record {
  relays = refl;
  names = keeps_same (kept_of c.args.self.now);
  plays = λ relay here. plays_none (DispatchesToServer c.args.name.now) (kept_of c.args.self.now) c.args.out.now c.requires.good;
}

pub push_one-requires-clause-good : goal.push_one-requires-clause-good
push_one-requires-clause-good c =
    let entry : List ℕ × RelayState = c.index.result.now in
    let found = found_at c.args.self.now _ c.args.name.now c.relay_place-place.result entry c.self.view_is c.index.ensures c.relay_place-place.ensures in
    still_good (DoesEach (DispatchesToServer c.args.name.now) (take c.loop-at.at entry.1.queue)) (kept_of c.args.self.now) (kept_of c.loop-at.self) c.args.out.now c.loop-at.out
    (c.loop-at.invariant.plays entry.1 found) c.requires.accepted

pub push_one-requires-clause-at : goal.push_one-requires-clause-at
push_one-requires-clause-at c =
    let entry : List ℕ × RelayState = c.index.result.now in
    let found = found_at c.args.self.now _ c.args.name.now c.relay_place-place.result entry c.self.view_is c.index.ensures c.relay_place-place.ensures in
    let queue : c.queue-queued.result.now ≡ entry.1.queue = c.queue-queued.ensures.queue ∙ ap (λ (e : List ℕ × RelayState). e.1.queue) c.behind-self.view_is in
    let within : c.loop-at.at < length entry.1.queue = subst (λ (l : List Report). c.loop-at.at < length l) queue c.loop-at-test.true in
    let one = some_queued entry.1.queue c.loop-at.at within in
    (one.0, (entry.1, ap (named c.args.name.now) c.loop-at.invariant.relays ∙ found, one.1))

pub loop-at-preserved : goal.loop-at-preserved
loop-at-preserved c =
    let so = c.loop-at.invariant in
    let name = c.args.name.now in
    let entry : List ℕ × RelayState = c.index.result.now in
    let found = found_at c.args.self.now _ name c.relay_place-place.result entry c.self.view_is c.index.ensures c.relay_place-place.ensures in
    let queue : c.queue-queued.result.now ≡ entry.1.queue = c.queue-queued.ensures.queue ∙ ap (λ (e : List ℕ × RelayState). e.1.queue) c.behind-self.view_is in
    record {
      relays = c.in_ok-push_one.ensures.relays ∙ so.relays;
      names = keeps_both (kept_of c.args.self.now) (kept_of c.loop-at.self) (kept_of c.push_one.new.self) so.names c.in_ok-push_one.ensures.names;
      plays = λ relay here.
          let same : entry.1 ≡ relay = some_is entry.1 relay (sym found ∙ here) in
          let within : c.loop-at.at < length relay.queue = subst (λ (l : List Report). c.loop-at.at < length l) (queue ∙ ap (λ (r : RelayState). r.queue) same) c.loop-at-test.true in
          let one = some_queued relay.queue c.loop-at.at within in
          push_more name relay.queue c.loop-at.at one.0 (kept_of c.args.self.now) (kept_of c.loop-at.self) (kept_of c.push_one.new.self) c.args.out.now c.loop-at.out c.push_one.new.out
          one.1 (so.plays relay here)
          (c.in_ok-push_one.ensures.plays one.0 (relay, ap (named name) so.relays ∙ here, one.1));
    }

pub returns-clause-plays : goal.returns-clause-plays
returns-clause-plays c =
    let entry : List ℕ × RelayState = c.index.result.now in
    let found = found_at c.args.self.now _ c.args.name.now c.relay_place-place.result entry c.self.view_is c.index.ensures c.relay_place-place.ensures in
    let queue : c.queue-queued.result.now ≡ entry.1.queue = c.queue-queued.ensures.queue ∙ ap (λ (e : List ℕ × RelayState). e.1.queue) c.behind-self.view_is in
    let long : length c.queue-queued.result.now ≡ length entry.1.queue = ap length queue in
    let some : 0 < length entry.1.queue = omega (arith, long, c.if-queued-eq0.false) in
    let past : length entry.1.queue ≤ c.loop-at.at = omega (arith, long, c.loop-at-test.false) in
    pushes_all c.args.name.now entry.1 (kept_of c.args.self.now) (kept_of c.loop-at.self) c.args.out.now c.loop-at.out found some
    (subst (λ (l : List Report). Plays (DoesEach (DispatchesToServer c.args.name.now) l) (kept_of c.args.self.now) c.args.out.now (kept_of c.loop-at.self) c.loop-at.out)
    (take_all c.loop-at.at entry.1.queue past) (c.loop-at.invariant.plays entry.1 found))
