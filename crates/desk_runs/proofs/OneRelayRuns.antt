-- A run of a relay is one thing, where its devices tell one thing and don't fail.
use Rattle.std.proofs.Common.{◌≡◌, ◌≢◌, ◌<◌, ◌-◌, ◌^◌, ℕ, List, [], ◌∷◌, Some, refl, sym, ap, ◌∙◌, subst, arith}
use Rattle.std.specs.declared.option.Option.{Option}
use Rattle.desk_base.specs.declared.sink.Put.TheVariants as put
use Rattle.desk_door.specs.Doors.{Comes, DoorView}
use Rattle.desk_door.specs.Lists.{with_first}
use Rattle.relay_core.specs.Relays.{RelayState}
use Rattle.desk_http.specs.declared.talk.Met.{Met}
use Rattle.desk_http.specs.declared.talk.Met.TheVariants as met
use Rattle.desk_rounds.specs.Lines.{Line}
use Rattle.desk_runs.specs.OneExchanges.{LinkTold}
use Rattle.desk_runs.specs.OneRelaying.{IsSteadyRelay, RelayTold, RelaysAlike, TellsDoor, TellsRelay}
use Rattle.desk_runs.specs.RelayRuns.{Begun, RelayRun, Runs, Then, talk_count}
use Rattle.desk_runs.specs.RelaySteps.{RelayScene, Talks, TellsRound, TellsTalk, host_of, upstream_of}
use Rattle.desk_runs.proofs.CountingRelays.{NoneFalls, runs_whole, talk_falls, talk_later, told_falls}
use Rattle.desk_runs.proofs.OneFiles.{FilesTold}
use Rattle.desk_runs.proofs.OneRelays.{RelayLaws, TalksAlike, round_once, talked_once}

-- ---- an upstream round
record SameRounds (lines lines' : List Line) (new new' : RelayScene) : Type 0 where
  same : lines ≡ lines'
  alike : RelaysAlike new new'

abbrev told_with : RelayTold → LinkTold → RelayState → RelayTold
told_with told link relay = record { coming = told.coming; written = told.written; link = link; relay = relay; cache = told.cache }

-- what the link tells, and the files that are kept
abbrev files_told : RelayTold → FilesTold
files_told told = record { link = told.link; cache = told.cache }

door_stays : (told : RelayTold) (old new : RelayScene) → new.door ≡ old.door → TellsRelay told old → TellsDoor told.coming told.written new.door
door_stays told old new same tells = let P : DoorView → Type 0 = λ d. TellsDoor told.coming told.written d in subst P (sym same) tells.door

round_told : RelayLaws → (told : RelayTold) (old old' new new' : RelayScene) (lines lines' : List Line) → TellsRelay told old → TellsRelay told old' → new.link.faults ≡ old.link.faults → new'.link.faults ≡ old'.link.faults
    → TellsRound old put.Done lines new → TellsRound old' put.Done lines' new' → SameRounds lines lines' new new'
round_told laws told old old' new new' lines lines' tells tells' steady steady' round round' =
    let once = round_once laws told.relay told.link (upstream_of old) (upstream_of old') round.then round'.then lines lines' (upstream_of new) (upstream_of new')
    (record { client = tells.relay; good = tells.kept; link = tells.link }) (record { client = tells'.relay; good = tells'.kept; link = tells'.link })
    round.whole round'.whole steady steady' round.round round'.round in
    record {
      same = once.lines_are;
      alike = (
        told_with told once.told once.k,
        record { door = door_stays told old new round.door tells; link = once.one.link; relay = once.one.client; cache = round.cache ∙ tells.cache; kept = once.one.good },
        record { door = door_stays told old' new' round'.door tells'; link = once.other.link; relay = once.other.client; cache = round'.cache ∙ tells'.cache; kept = once.other.good },
      );
    }

-- ---- the next conversation
next_comes : (coming : Option (List (List ℕ))) (said : List ℕ) (more : List (List ℕ)) (left_coming : Option (List (List ℕ))) (left : Option (List ℕ)) → coming ≡ Some (said ∷ more) → Comes coming left_coming left
    → (left_coming ≡ Some more) × (left ≡ Some said)
next_comes coming said more left_coming left is comes = let P : Option (List (List ℕ)) → Type 0 = λ c. Comes c left_coming left in subst P is comes

nobody : (coming left_coming : Option (List (List ℕ))) (left : Option (List ℕ)) → coming ≡ Some [] → Comes coming left_coming left → ⊥
nobody coming left_coming left is comes = let P : Option (List (List ℕ)) → Type 0 = λ c. Comes c left_coming left in subst P is comes

begun_holds : (old begun : Option (List (List ℕ))) (before : List (List ℕ)) → old ≡ Some before → begun ≡ with_first [] old → begun ≡ Some ([] ∷ before)
begun_holds old begun before holds is = is ∙ ap (λ (o : Option (List (List ℕ))). with_first [] o) holds

-- the door's count stayed while the conversation began, and in it
begun_steady : (old new : RelayScene) (ended : Met) (talks : Talks old ended new) → new.door.faults ≡ old.door.faults → (talks.begun.faults ≡ old.door.faults) × (new.door.faults ≡ talks.begun.faults)
begun_steady old new ended talks steady =
    let first = talks.begins.counts.later in
    let then = (talk_later talks.begun new.door (host_of old) (host_of new) ended talks.talks).door in
    (omega (arith, first, then, steady), omega (arith, first, then, steady))

-- what this conversation begins with
begins_so : (told : RelayTold) (said : List ℕ) (more : List (List ℕ)) (old new : RelayScene) (ended : Met) (talks : Talks old ended new) → told.coming ≡ said ∷ more → TellsRelay told old → IsSteadyRelay old new → ended ≢ met.Memory
    → TalksAlike said told.written told.relay (files_told told) talks.begun new.door (host_of old) (host_of new) ended
begins_so told said more old new ended talks is tells steady whole =
    let next = next_comes old.door.coming said more talks.begun.coming talks.begun.left (tells.door.comes ∙ ap (λ (l : List (List ℕ)). Some l) is) talks.begins.begins.0 in
    let begun = begun_steady old new ended talks steady.door in
    let rises = tells.door.rises in
    let first = begun.0 in
    record {
      says = next.1;
      holds = begun_holds old.door.written talks.begun.written told.written tells.door.holds talks.begins.begins.1;
      only = talks.only;
      stands = record { relay = tells.relay; good = tells.kept; files = record { link = tells.link; cache = tells.cache } };
      steady = steady.link;
      rises = omega (arith, rises, first);
      opened = begun.1;
      whole = whole;
      talks = talks.talks;
    }

-- who is still to come after it
still_comes : (told : RelayTold) (said : List ℕ) (more : List (List ℕ)) (old new : RelayScene) (ended : Met) (talks : Talks old ended new) → told.coming ≡ said ∷ more → TellsRelay told old → new.door.coming ≡ Some more
still_comes told said more old new ended talks is tells =
    talks.only.coming ∙ (next_comes old.door.coming said more talks.begun.coming talks.begun.left (tells.door.comes ∙ ap (λ (l : List (List ℕ)). Some l) is) talks.begins.begins.0).0

record SameTalks (ended ended' : Met) (new new' : RelayScene) : Type 0 where
  same : ended ≡ ended'
  alike : RelaysAlike new new'

door_rises : (told : RelayTold) (old new : RelayScene) → TellsRelay told old → IsSteadyRelay old new → new.door.faults < 2 ^ 64 - 1
door_rises told old new tells steady =
    let below = tells.door.rises in
    let same = steady.door in
    omega (arith, below, same)

talk_told : RelayLaws → (coming : List (List ℕ)) (told : RelayTold) (old old' new new' : RelayScene) (ended ended' : Met) → told.coming ≡ coming → TellsRelay told old → TellsRelay told old' → IsSteadyRelay old new → IsSteadyRelay old' new'
    → TellsTalk old put.Done ended new → TellsTalk old' put.Done ended' new' → SameTalks ended ended' new new'
talk_told laws [] told old old' new new' ended ended' is tells tells' steady steady' talk talk' =
    absurd (nobody old.door.coming talk.talks.begun.coming talk.talks.begun.left (tells.door.comes ∙ ap (λ (l : List (List ℕ)). Some l) is) talk.talks.begins.begins.0)
talk_told laws (said ∷ more) told old old' new new' ended ended' is tells tells' steady steady' talk talk' =
    let once = talked_once laws said told.written told.relay (files_told told) talk.talks.begun talk'.talks.begun new.door new'.door (host_of old) (host_of old') (host_of new) (host_of new') ended ended'
    (begins_so told said more old new ended talk.talks is tells steady talk.whole) (begins_so told said more old' new' ended' talk'.talks is tells' steady' talk'.whole) in
    let after : RelayTold = record { coming = more; written = once.written.0; link = once.hosts.told.link; relay = once.hosts.k; cache = once.hosts.told.cache } in
    let one : TellsRelay after new = record {
      door = record { comes = still_comes told said more old new ended talk.talks is tells; holds = once.written.1; rises = door_rises told old new tells steady };
      link = once.hosts.first.files.link;
      relay = once.hosts.first.relay;
      cache = once.hosts.first.files.cache;
      kept = once.hosts.first.good;
    } in
    let other : TellsRelay after new' = record {
      door = record { comes = still_comes told said more old' new' ended' talk'.talks is tells'; holds = once.written.2; rises = door_rises told old' new' tells' steady' };
      link = once.hosts.second.files.link;
      relay = once.hosts.second.relay;
      cache = once.hosts.second.files.cache;
      kept = once.hosts.second.good;
    } in
    record { same = once.same; alike = (after, one, other) }

-- ---- runs
-- two runs were one, and what they leave is the same
pub record OneRelayRun (run again : RelayRun) (one other : RelayScene) : Type 0 where
  pub same : run ≡ again
  pub alike : RelaysAlike one other

-- a run that didn't fail didn't on its way
record OnTheWay (old mid between new : RelayScene) : Type 0 where
  first : IsSteadyRelay old mid
  talk : IsSteadyRelay mid between
  round : new.link.faults ≡ between.link.faults

on_the_way : (old mid between new : RelayScene) → NoneFalls old mid → NoneFalls mid between → NoneFalls between new → IsSteadyRelay old new → OnTheWay old mid between new
on_the_way old mid between new a b c steady =
    let door = steady.door in
    let link = steady.link in
    let door_a = a.door in
    let door_b = b.door in
    let door_c = c.door in
    let link_a = a.link in
    let link_b = b.link in
    let link_c = c.link in
    record {
      first = record { door = omega (arith, door, door_a, door_b, door_c); link = omega (arith, link, link_a, link_b, link_c) };
      talk = record { door = omega (arith, door, door_a, door_b, door_c); link = omega (arith, link, link_a, link_b, link_c) };
      round = omega (arith, link, link_a, link_b, link_c);
    }

pub relayed_once : RelayLaws → (told : RelayTold) (old start one other : RelayScene) (run again : RelayRun) → TellsRelay told old → TellsRelay told start → Runs old run one → Runs start again other
    → talk_count run ≡ talk_count again → IsSteadyRelay old one → IsSteadyRelay start other → OneRelayRun run again one other
relayed_once laws told old start one other (Begun lines) (Begun lines') tells tells' round round' count steady steady' =
    let once = round_told laws told old start one other lines lines' tells tells' steady.link steady'.link round round' in
    record { same = ap Begun once.same; alike = once.alike }
relayed_once laws told old start one other (Begun lines) (Then again ended' lines') tells tells' round runs' count steady steady' = absurd (omega (arith, count))
relayed_once laws told old start one other (Then run ended lines) (Begun lines') tells tells' runs round' count steady steady' = absurd (omega (arith, count))
relayed_once laws told old start one other (Then run ended lines) (Then again ended' lines') tells tells' (mid, runs, (between, talk, round)) (mid', runs', (between', talk', round')) count steady steady' =
    let way = on_the_way old mid between one (runs_whole old mid run runs).falls (talk_falls mid between ended talk.talks) (told_falls between one put.Done lines round) steady in
    let way' = on_the_way start mid' between' other (runs_whole start mid' again runs').falls (talk_falls mid' between' ended' talk'.talks) (told_falls between' other put.Done lines' round') steady' in
    let before = relayed_once laws told old start mid mid' run again tells tells' runs runs' (omega (arith, count)) way.first way'.first in
    let here = before.alike.0 in
    let talked = talk_told laws here.coming here mid mid' between between' ended ended' refl before.alike.1 before.alike.2 way.talk way'.talk talk talk' in
    let last = round_told laws talked.alike.0 between between' one other lines lines' talked.alike.1 talked.alike.2 way.round way'.round round round' in
    record { same = λ i. Then (before.same i) (talked.same i) (last.same i); alike = last.alike }
