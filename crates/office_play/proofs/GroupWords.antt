-- The words of analyses and groups.
use Rattle.std.proofs.Common.{◌≡◌, ◌≢◌, ℕ, ℤ, List, [], ◌∷◌, ◌++◌, Some, true, false, true≢false, arith, length, inl, inr, refl, sym, ap, subst, ◌∙◌}
use Rattle.std.specs.Prelude.{◌==◌, bytes_eq, codes, decimal, get_or, slice_set, Result, Ok, Err, OnOk}
use Rattle.std.specs.Fmt.{signed_decimal}
use Rattle.std.specs.Map.{keys_of, set_value}
use Rattle.std.proofs.lemmas.Bool.Decides.{nat_tests}
use Rattle.relay_core.specs.Relays.{RelayState}
use Rattle.server_text.specs.Entries.{Entry}
use Rattle.server_text.specs.declared.request.Request.TheVariants as request
use Rattle.group_text.specs.declared.analysis.Analysis.{Analysis}
use Rattle.group_text.specs.declared.group.Group.{Group}
use Rattle.group_text.specs.Properties.{AreProperties}
use Rattle.group_sample.specs.declared.analyst.Taken.{Taken}
use Rattle.group_sample.specs.declared.analyst.Taken.TheVariants as taken
use Rattle.group_sample.specs.Due.{AnalystState}
use Rattle.group_core.specs.declared.book.Added.{Added}
use Rattle.group_core.specs.declared.book.Added.TheVariants as added
use Rattle.group_core.specs.declared.book.Defined.{Defined}
use Rattle.group_core.specs.declared.book.Defined.TheVariants as defined
use Rattle.group_core.specs.Books.{AddsAnalysis, BookState, DefinesGroup, HasGroup, HasMembers}
use Rattle.office_rules.specs.Deeds.{Deed}
use Rattle.office_rules.specs.GroupWords.{HasNoMember, KeepsAnalysis, KeepsGroup, Measures, MeasuresComputer, PutsTaken, SaysMembers, TargetsGroup, added_words, aimed, defined_words, rows_taken}
use Rattle.office_rules.specs.OfficeLines.{about_line, nothing_line}
use Rattle.office_rules.specs.Offices.{PlayedComputer}
use Rattle.office_rules.specs.ServerWords.{AsksServer}
use Rattle.office_play.specs.Aiming.{IsAimedAt}
use Rattle.office_play.specs.Kept.{AreRowsOf, KeptOffice, office_of}
use Rattle.office_play.specs.Links.{IsGoodComputer, IsGoodOffice, IsPlaceOf, KeepsNames}
use Rattle.office_play.specs.Played.{Plays}
use Rattle.office_play.proofs.ComputerWords.{good_at}
use Rattle.office_play.proofs.Deeds.{plays_as}
use Rattle.office_play.proofs.GoodOffices.{book_changed, computer_set}
use Rattle.office_play.proofs.Places.{at_place, changed_to, keys_stay, set_entry}

pub on_ok_both : {T E A B C : Type 0} (r : Result T E) → (A → B → C) → OnOk r A → OnOk r B → OnOk r C
on_ok_both (Ok done) f a b = f a b
on_ok_both (Err e) f a b = tt

limit_of : (a b : BookState) → a ≡ b → a.limit ≡ b.limit
limit_of a b is = ap (λ (book : BookState). book.limit) is

-- ---- the book alone
-- A deed that changes the book alone, and not its limit.
plays_book : (Does : Deed) (old new : KeptOffice) (book : BookState) (said out written : List ℕ) → IsGoodOffice old
    → book.limit ≡ old.book.limit → new ≡ record old { book = book } → written ≡ out ++ said
    → ((accepted : List Entry) → Does (office_of accepted old) said (office_of accepted new)) → Plays Does old out new written
plays_book Does old new book said out written good limit is said_is does accepted rows = record {
  later = accepted;
  said = said;
  does = does accepted;
  rows = subst (λ (o : KeptOffice). AreRowsOf accepted o.rows) (sym is) rows;
  out_is = said_is;
  good = subst IsGoodOffice (sym is) (book_changed old book good limit);
}

-- Names stay where the book is changed.
pub keeps_book : (old new : KeptOffice) (book : BookState) → new ≡ record old { book = book } → KeepsNames old new
keeps_book old new book is = record {
  relays_are = ap (λ (o : KeptOffice). keys_of o.relays) is;
  computers_are = ap (λ (o : KeptOffice). keys_of o.computers) is;
}

-- A deed that changes nothing.
pub plays_same : (Does : Deed) (old : KeptOffice) (said out written : List ℕ) → IsGoodOffice old → written ≡ out ++ said
    → ((accepted : List Entry) → Does (office_of accepted old) said (office_of accepted old)) → Plays Does old out old written
plays_same Does old said out written good said_is does accepted rows =
    record { later = accepted; said = said; does = does accepted; rows = rows; out_is = said_is; good = good }

-- ---- analysis, group
adds_limit : (old : BookState) (analysis : Analysis) (answer : Added) (new : BookState) → AddsAnalysis old analysis answer new
    → new.limit ≡ old.limit
adds_limit old analysis added.Again new h = limit_of new old h.1
adds_limit old analysis (added.Taken name) new h = limit_of new old h.1
adds_limit old analysis (added.Full limit) new h = limit_of new old h.3
adds_limit old analysis added.Ok new h = ap (λ (book : BookState). book.limit) h.2
adds_limit old analysis added.Memory new h = limit_of new old h

defines_limit : (old : BookState) (group : Group) (answer : Defined) (new : BookState) → DefinesGroup old group answer new
    → new.limit ≡ old.limit
defines_limit old group defined.Again new h = limit_of new old h.1
defines_limit old group (defined.Full limit) new h = limit_of new old h.3
defines_limit old group defined.Ok new h = ap (λ (book : BookState). book.limit) h.2
defines_limit old group defined.Memory new h = limit_of new old h

pub keeps_analysis : (old new : KeptOffice) (analysis : Analysis) (answer : Added) (book : BookState) (out written : List ℕ)
    → IsGoodOffice old → AreProperties analysis.properties → AddsAnalysis old.book analysis answer book
    → new ≡ record old { book = book } → answer ≢ added.Memory
    → written ≡ out ++ about_line (codes "analysis" ∷ []) (added_words answer) → Plays (KeepsAnalysis analysis) old out new written
keeps_analysis old new analysis answer book out written good properties adds is memory said_is =
    plays_book (KeepsAnalysis analysis) old new book (about_line (codes "analysis" ∷ []) (added_words answer)) out written good
    (adds_limit old.book analysis answer book adds) is said_is (λ accepted. record {
      good = properties;
      answer = answer;
      book = book;
      adds = adds;
      memory = memory;
      said_is = refl;
      new_is = ap (office_of accepted) is;
    })

pub keeps_group : (old new : KeptOffice) (group : Group) (answer : Defined) (book : BookState) (out written : List ℕ) → IsGoodOffice old
    → DefinesGroup old.book group answer book → new ≡ record old { book = book } → answer ≢ defined.Memory
    → written ≡ out ++ about_line (codes "group" ∷ []) (defined_words answer) → Plays (KeepsGroup group) old out new written
keeps_group old new group answer book out written good defines is memory said_is =
    plays_book (KeepsGroup group) old new book (about_line (codes "group" ∷ []) (defined_words answer)) out written good
    (defines_limit old.book group answer book defines) is said_is (λ accepted. record {
      answer = answer;
      book = book;
      defines = defines;
      memory = memory;
      said_is = refl;
      new_is = ap (office_of accepted) is;
    })

-- ---- measure
puts_limit : (old : BookState) (answer : Taken) (new : BookState) → PutsTaken old answer new → new.limit ≡ old.limit
puts_limit old (taken.Sample sample) new h = ap (λ (book : BookState). book.limit) h.1.1
puts_limit old taken.Nothing new h = limit_of new old h
puts_limit old taken.Memory new h = absurd h

-- A good computer stays one whoever measures it.
measured_good : (relays : List (List ℕ × RelayState)) (name : List ℕ) (computer then : PlayedComputer) (analyst : AnalystState)
    → then ≡ record computer { analyst = analyst } → IsGoodComputer relays (name, computer) → IsGoodComputer relays (name, then)
measured_good relays name computer then analyst is good =
    subst (λ (c : PlayedComputer). IsGoodComputer relays (name, c)) (sym is) (record {
      sound = record { sound = good.sound.sound; waits = good.sound.waits };
      name = good.name;
      mail = good.mail;
      relay = good.relay;
    })

pub measured : (old new : KeptOffice) (name : List ℕ) (moment : ℤ) (place : ℕ) (entry : List ℕ × PlayedComputer) (then : PlayedComputer)
    (answer : Taken) (book : BookState) (out written : List ℕ) → IsPlaceOf name old.computers place
    → entry ≡ get_or old.computers place entry → IsGoodOffice old
    → MeasuresComputer moment old.book.properties entry.1 answer then → PutsTaken old.book answer book
    → new ≡ record old { computers = slice_set old.computers place (entry.0, then); book = book }
    → written ≡ out ++ about_line (codes "measure" ∷ name ∷ signed_decimal moment ∷ []) (decimal (rows_taken answer) ∷ codes "rows" ∷ [])
    → Plays (Measures name moment) old out new written
measured old new name moment place entry then answer book out written at is good measures puts new_is said_is accepted rows =
    let found = at_place name old.computers place entry at.first is in
    let moved : KeptOffice = record old { computers = set_value (bytes_eq name) old.computers then } in
    let set : new ≡ record moved { book = book } = new_is
    ∙ ap (λ (c : List (List ℕ × PlayedComputer)). record old { computers = c; book = book }) (set_entry name old.computers place entry then at.first is) in
    let one = measured_good old.relays name entry.1 then measures.analyst measures.new_is (good_at old name place entry at is good) in
    record {
      later = accepted;
      said = about_line (codes "measure" ∷ name ∷ signed_decimal moment ∷ []) (decimal (rows_taken answer) ∷ codes "rows" ∷ []);
      does = record {
        computer = entry.1;
        measured = then;
        answer = answer;
        book = book;
        here = found.1;
        measures = measures;
        puts = puts;
        said_is = refl;
        new_is = ap (office_of accepted) set
            ∙ ap (λ (c : List (List ℕ × PlayedComputer)). record (office_of accepted old) { computers = c; book = book }) (sym (changed_to name old.computers entry.1 then found.1));
      };
      rows = subst (λ (o : KeptOffice). AreRowsOf accepted o.rows) (sym set) rows;
      out_is = said_is;
      good = subst IsGoodOffice (sym set)
          (book_changed moved book (computer_set old name place then at.first good one) (puts_limit old.book answer book puts));
    }

pub keeps_measured : (old new : KeptOffice) (name : List ℕ) (place : ℕ) (entry : List ℕ × PlayedComputer) (then : PlayedComputer)
    (book : BookState) → IsPlaceOf name old.computers place → entry ≡ get_or old.computers place entry
    → new ≡ record old { computers = slice_set old.computers place (entry.0, then); book = book } → KeepsNames old new
keeps_measured old new name place entry then book at is new_is = record {
  relays_are = ap (λ (o : KeptOffice). keys_of o.relays) new_is;
  computers_are = ap (λ (o : KeptOffice). keys_of o.computers) new_is ∙ keys_stay name old.computers place entry then at.first is;
}

-- ---- members
pub says_none : (old : KeptOffice) (name out written : List ℕ) → IsGoodOffice old → ¬ HasGroup old.book.groups name
    → written ≡ out ++ nothing_line (codes "members" ∷ name ∷ []) → Plays (SaysMembers name) old out old written
says_none old name out written good none said_is =
    plays_same (SaysMembers name) old (nothing_line (codes "members" ∷ name ∷ [])) out written good said_is
    (λ accepted. (refl, inr (none, refl)))

-- ---- target
-- A group without members has none.
pub no_members : (book : BookState) (name : List ℕ) (members : List (List ℕ)) → HasMembers book name members
    → (length members == 0) ≡ true → HasNoMember book name
no_members book name [] has empty = inr has
no_members book name (first ∷ more) has empty = absurd (grind (arith, nat_tests))

-- The text is aimed at those that it has.
pub some_members : (book : BookState) (name text : List ℕ) (members : List (List ℕ)) (then : List ℕ) → HasMembers book name members
    → (length members == 0) ≡ false → then ≡ aimed members text → IsAimedAt book name text (Some then)
some_members book name text [] then has some is = absurd (true≢false some)
some_members book name text (first ∷ more) then has some is = (first, more, has, is)

pub targets : (old new : KeptOffice) (name text first : List ℕ) (more : List (List ℕ)) (then out written : List ℕ)
    → HasMembers old.book name (first ∷ more) → then ≡ aimed (first ∷ more) text
    → Plays (AsksServer (codes "target") (request.Act then)) old out new written → Plays (TargetsGroup name text) old out new written
targets old new name text first more then out written members is p =
    plays_as (AsksServer (codes "target") (request.Act then)) (TargetsGroup name text) old new out written
    (λ accepted said after d. inr (
      first,
      more,
      members,
      subst (λ t. AsksServer (codes "target") (request.Act t) (office_of accepted old) said after) is d,
    )) p

pub targets_none : (old : KeptOffice) (name text out written : List ℕ) → IsGoodOffice old → HasNoMember old.book name
    → written ≡ out ++ nothing_line (codes "target" ∷ []) → Plays (TargetsGroup name text) old out old written
targets_none old name text out written good none said_is =
    plays_same (TargetsGroup name text) old (nothing_line (codes "target" ∷ [])) out written good said_is
    (λ accepted. inl (none, refl, refl))
