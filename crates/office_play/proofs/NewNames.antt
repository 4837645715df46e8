-- Relays and computers that are named.
use Rattle.std.proofs.Common.{◌≡◌, ℕ, Bool, true, false, List, [], ◌∷◌, ◌++◌, length, None, refl, sym, ap, subst, ◌∙◌, true≢false}
use Rattle.std.specs.Prelude.{bytes_eq, ◌||◌, map}
use Rattle.std.specs.List.{list_any}
use Rattle.std.specs.List.Sorted.{IsStrictlySortedBy}
use Rattle.std.specs.Map.{keys_of}
use Rattle.std.proofs.lemmas.List.{append-nil, length-map, map-append}
use Rattle.std.proofs.lemmas.List.Elements.{All-nil, All-push}
use Rattle.std.proofs.lemmas.List.Folds.{list_any-append}
use Rattle.std.proofs.lemmas.Map.Made.{is_some-lookup}
use Rattle.bf_world.specs.Maps.{put}
use Rattle.bf_world.specs.Worlds.{WorldState}
use Rattle.report_text.specs.declared.report.Report.{Report}
use Rattle.fix_site.specs.Sites.{IsSite}
use Rattle.relay_core.specs.Relays.{RelayState, desk_queue, empty_relay}
use Rattle.delivery.specs.Messages.{Message, ReportToRelay, ReportToServer, VerdictToComputer, ReplyToRelay, named}
use Rattle.office_rules.specs.ComputerWords.{NamesComputer}
use Rattle.office_rules.specs.Offices.{PlayedComputer, new_computer}
use Rattle.office_rules.specs.RelayWords.{NamesRelay}
use Rattle.office_play.specs.Kept.{AreRowsOf, KeptOffice, office_of}
use Rattle.office_play.specs.Links.{AddsNames, CanArrive, IsGoodComputer, IsGoodOffice, IsGoodRelay, IsNamed, IsReportOf}
use Rattle.office_play.specs.Played.{Plays}
use Rattle.office_play.specs.States.{ComputerState, OfficeState, kept_of, shown_computer, shown_entry}
use Rattle.office_play.proofs.Places.{finds_more}

left_true : (a b : Bool) → a ≡ true → (a || b) ≡ true
left_true true b h = refl
left_true false b h = absurd (true≢false (sym h))

-- Names stay in a longer list.
named_more : {V : Type 0} (q k : List ℕ) (v : V) (es : List (List ℕ × V)) → IsNamed q es → IsNamed q (es ++ (k, v) ∷ [])
named_more q k v es is =
    is_some-lookup (bytes_eq q) (es ++ (k, v) ∷ []) ∙ ap (list_any (bytes_eq q)) (map-append (λ e. e.0) es ((k, v) ∷ []))
    ∙ list_any-append (bytes_eq q) (keys_of es) (k ∷ [])
    ∙ left_true (list_any (bytes_eq q) (keys_of es)) (list_any (bytes_eq q) (k ∷ [])) (sym (is_some-lookup (bytes_eq q) es) ∙ is)

keys_more : {V : Type 0} (k : List ℕ) (v : V) (es : List (List ℕ × V)) → keys_of (es ++ (k, v) ∷ []) ≡ keys_of es ++ k ∷ []
keys_more k v es = map-append (λ e. e.0) es ((k, v) ∷ [])

-- ---- a relay
-- a relay that keeps nothing
pub fresh_relay : (computers : List (List ℕ × PlayedComputer)) → IsGoodRelay computers (empty_relay desk_queue)
unfolding IsStrictlySortedBy
fresh_relay computers = record { sites = record { good = All-nil IsSite; ascending = tt }; queue = All-nil (IsReportOf computers) }

relay_messages : (relays : List (List ℕ × RelayState)) (computers : List (List ℕ × PlayedComputer)) (name : List ℕ) (w : RelayState)
    (message : Message) → CanArrive relays computers message → CanArrive (relays ++ (name, w) ∷ []) computers message
relay_messages relays computers name w (ReportToRelay relay report) can = (named_more relay name w relays can.0, can.1)
relay_messages relays computers name w (ReportToServer relay report) can = (named_more relay name w relays can.0, can.1)
relay_messages relays computers name w (VerdictToComputer computer seq verdict) can = can
relay_messages relays computers name w (ReplyToRelay relay key digest answered) can = (named_more relay name w relays can.0, can.1)

pub names_relay : (old new : KeptOffice) (name out : List ℕ) → IsGoodOffice old → named name old.relays ≡ None → new ≡ record old {
  relays = old.relays ++ (name, empty_relay desk_queue) ∷ [];
  relay_places = put name (length old.relays) old.relay_places;
} → Plays (NamesRelay name) old out new out
names_relay old new name out good free is accepted rows = record {
  later = accepted;
  said = [];
  does = (refl, ap (office_of accepted) is);
  rows = subst (λ (o : KeptOffice). AreRowsOf accepted o.rows) (sym is) rows;
  out_is = sym (append-nil out);
  good = subst IsGoodOffice (sym is) (record {
    relays = All-push (λ (entry : List ℕ × RelayState). IsGoodRelay old.computers entry.1) old.relays (name, w) good.relays (fresh_relay old.computers);
    relays_found = finds_more old.relay_places (put name (length old.relays) old.relay_places) old.relays (old.relays ++ (name, w) ∷ []) name w
        good.relays_found free refl refl;
    computers = λ i d h.
        let c = good.computers i d h in
        record { sound = c.sound; name = c.name; mail = c.mail; relay = named_more _ name w old.relays c.relay };
    computers_found = good.computers_found;
    messages = λ i d h. relay_messages old.relays old.computers name w _ (good.messages i d h);
    book = good.book;
  });
}
  where
    w : RelayState
    w = empty_relay desk_queue

pub adds_relay : (old new : KeptOffice) (name : List ℕ) (w : RelayState) → new.relays ≡ old.relays ++ (name, w) ∷ []
    → new.computers ≡ old.computers → AddsNames (name ∷ []) [] old new
adds_relay old new name w more same = record {
  relays_are = ap keys_of more ∙ keys_more name w old.relays;
  computers_are = ap keys_of same ∙ sym (append-nil (keys_of old.computers));
}

-- ---- a computer
report_more : (name : List ℕ) (computers : List (List ℕ × PlayedComputer)) (w : PlayedComputer) (report : Report)
    → IsReportOf computers report → IsReportOf (computers ++ (name, w) ∷ []) report
report_more name computers w report is =
    record { good = is.good; computer = named_more report.computer name w computers is.computer }

computer_messages : (relays : List (List ℕ × RelayState)) (computers : List (List ℕ × PlayedComputer)) (name : List ℕ)
    (w : PlayedComputer) (message : Message) → CanArrive relays computers message → CanArrive relays (computers ++ (name, w) ∷ []) message
computer_messages relays computers name w (ReportToRelay relay report) can = (can.0, report_more name computers w report can.1)
computer_messages relays computers name w (ReportToServer relay report) can = (can.0, report_more name computers w report can.1)
computer_messages relays computers name w (VerdictToComputer computer seq verdict) can = named_more computer name w computers can
computer_messages relays computers name w (ReplyToRelay relay key digest answered) can = can

pub names_computer : (old new : KeptOffice) (name relay out : List ℕ) (world : WorldState) → IsGoodOffice old
    → named name old.computers ≡ None → IsGoodComputer old.relays (name, new_computer name relay world) → new ≡ record old {
      computers = old.computers ++ (name, new_computer name relay world) ∷ [];
      computer_places = put name (length old.computers) old.computer_places;
    } → Plays (NamesComputer name relay world) old out new out
names_computer old new name relay out world good free one is accepted rows = record {
  later = accepted;
  said = [];
  does = (refl, ap (office_of accepted) is);
  rows = subst (λ (o : KeptOffice). AreRowsOf accepted o.rows) (sym is) rows;
  out_is = sym (append-nil out);
  good = subst IsGoodOffice (sym is) (record {
    relays = λ i d h.
        let r = good.relays i d h in
        record { sites = r.sites; queue = λ k e g. report_more name old.computers w _ (r.queue k e g) };
    relays_found = good.relays_found;
    computers = All-push (IsGoodComputer old.relays) old.computers (name, w) good.computers one;
    computers_found = finds_more old.computer_places (put name (length old.computers) old.computer_places) old.computers (old.computers ++ (name, w) ∷ []) name w
        good.computers_found free refl refl;
    messages = λ i d h. computer_messages old.relays old.computers name w _ (good.messages i d h);
    book = good.book;
  });
}
  where
    w : PlayedComputer
    w = new_computer name relay world

pub adds_computer : (old new : KeptOffice) (name : List ℕ) (w : PlayedComputer) → new.relays ≡ old.relays
    → new.computers ≡ old.computers ++ (name, w) ∷ [] → AddsNames [] (name ∷ []) old new
adds_computer old new name w same more = record {
  relays_are = ap keys_of same ∙ sym (append-nil (keys_of old.relays));
  computers_are = ap keys_of more ∙ keys_more name w old.computers;
}

-- ---- in the code
pub relay_named : (seen old : OfficeState) (name : List ℕ) (relays : List (List ℕ × RelayState)) (places : List (List ℕ × ℕ)) (place : ℕ)
    → seen ≡ old → relays ≡ seen.relays ++ (name, empty_relay desk_queue) ∷ [] → places ≡ put name place seen.relay_places
    → place ≡ length seen.relays
    → record (kept_of seen) { relays = relays; relay_places = places }
    ≡ record (kept_of old) {
      relays = old.relays ++ (name, empty_relay desk_queue) ∷ [];
      relay_places = put name (length old.relays) old.relay_places;
    }
relay_named seen old name relays places place is pushed put_is at =
    (λ i. record (kept_of seen) { relays = pushed i; relay_places = put_is i })
    ∙ ap (λ (n : ℕ). record (kept_of seen) { relays = seen.relays ++ (name, empty_relay desk_queue) ∷ []; relay_places = put name n seen.relay_places }) at
    ∙ ap (λ (o : OfficeState). record (kept_of o) {
      relays = o.relays ++ (name, empty_relay desk_queue) ∷ [];
      relay_places = put name (length o.relays) o.relay_places;
    }) is

-- the computers with one more, as they are shown
pushed_shown : (before after : List (List ℕ × ComputerState)) (name : List ℕ) (w : ComputerState) (computer : PlayedComputer)
    → after ≡ before ++ (name, w) ∷ [] → shown_computer w ≡ computer
    → map shown_entry after ≡ map shown_entry before ++ (name, computer) ∷ []
pushed_shown before after name w computer pushed shown =
    ap (map shown_entry) pushed ∙ map-append shown_entry before ((name, w) ∷ [])
    ∙ ap (λ (c : PlayedComputer). map shown_entry before ++ (name, c) ∷ []) shown

pub computer_named : (seen old : OfficeState) (name : List ℕ) (w : ComputerState) (computer : PlayedComputer)
    (computers : List (List ℕ × ComputerState)) (places : List (List ℕ × ℕ)) (place : ℕ) → seen ≡ old
    → computers ≡ seen.computers ++ (name, w) ∷ [] → shown_computer w ≡ computer → places ≡ put name place seen.computer_places
    → place ≡ length seen.computers
    → record (kept_of seen) { computers = map shown_entry computers; computer_places = places }
    ≡ record (kept_of old) {
      computers = (kept_of old).computers ++ (name, computer) ∷ [];
      computer_places = put name (length (kept_of old).computers) old.computer_places;
    }
computer_named seen old name w computer computers places place is pushed shown put_is at =
    let more = pushed_shown seen.computers computers name w computer pushed shown in
    let long : place ≡ length (map shown_entry seen.computers) = at ∙ sym (length-map seen.computers shown_entry) in
    (λ i. record (kept_of seen) { computers = more i; computer_places = put_is i })
    ∙ ap (λ (n : ℕ). record (kept_of seen) { computers = map shown_entry seen.computers ++ (name, computer) ∷ []; computer_places = put name n seen.computer_places }) long
    ∙ ap (λ (o : OfficeState). record (kept_of o) {
      computers = map shown_entry o.computers ++ (name, computer) ∷ [];
      computer_places = put name (length (map shown_entry o.computers)) o.computer_places;
    }) is

pub adds_named : (seen old : OfficeState) (name : List ℕ) (w : ComputerState) (computer : PlayedComputer)
    (computers : List (List ℕ × ComputerState)) (places : List (List ℕ × ℕ)) → seen ≡ old
    → computers ≡ seen.computers ++ (name, w) ∷ [] → shown_computer w ≡ computer
    → AddsNames [] (name ∷ []) (kept_of old) (record (kept_of seen) { computers = map shown_entry computers; computer_places = places })
adds_named seen old name w computer computers places is pushed shown =
    adds_computer (kept_of old) (record (kept_of seen) { computers = map shown_entry computers; computer_places = places }) name computer
    (ap (λ (o : OfficeState). o.relays) is)
    (pushed_shown seen.computers computers name w computer pushed shown
    ∙ ap (λ (o : OfficeState). map shown_entry o.computers ++ (name, computer) ∷ []) is)
