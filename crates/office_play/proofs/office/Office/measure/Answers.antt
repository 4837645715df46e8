use Rattle.std.proofs.Common.{◌≡◌, ◌++◌, List, ℕ, ℤ, [], ◌∷◌, arith, to_z, of_z, w64, sym, ap, subst, ◌∙◌}
use Rattle.std.specs.Prelude.{codes, decimal, get_or, slice_set}
use Rattle.std.specs.Fmt.{signed_decimal}
use Rattle.std.proofs.lemmas.Int.{to_z-of_z}
use Rattle.std.proofs.lemmas.Result.{on_ok_weaker}
use Rattle.desk_base.specs.Moments.{IsMoment}
use Rattle.group_text.specs.declared.property.Property.{Property}
use Rattle.group_core.specs.Books.{BookState}
use Rattle.office_rules.specs.GroupWords.{MeasuresComputer, PutsTaken}
use Rattle.office_rules.specs.OfficeLines.{about_line}
use Rattle.office_rules.specs.Offices.{most_kept}
use Rattle.office_play.specs.Measuring.{taken_of}
use Rattle.office_play.specs.States.{ComputerState, OfficeState, kept_of, shown_computer, shown_entry}
use Rattle.office_play.proofs.GroupWords.{keeps_measured, measured}
use Rattle.office_play.proofs.Seen.{computer_measured, entry_seen}
use Rattle.office_play.proofs.office.Office.measure.Goals as goal

pub measure-requires : goal.measure-requires
measure-requires c =
    let limit : c.self.inside.book.limit ≡ most_kept = ap (λ (o : OfficeState). o.book.limit) c.self.view_is ∙ c.requires.good.book in
    record {
      properties = record {
        few = let few = c.properties-properties.ensures.few in omega (arith, few, limit);
        good = c.properties-properties.ensures.good;
      };
      moment = subst IsMoment (sym (to_z-of_z w64 c.args.moment c.ranges.moment)) c.requires.moment;
    }

pub returns-clause-plays : goal.returns-clause-plays
returns-clause-plays c =
    let old : OfficeState = c.args.self.now in
    let name = c.args.name.now in
    let out : List ℕ = c.args.out.now in
    let place = c.computer_place-place.result in
    let entry : List ℕ × ComputerState = c.index_mut.result.now in
    let is : entry ≡ get_or old.computers place entry =
    c.index_mut.ensures.value ∙ ap (λ (o : OfficeState). get_or o.computers place entry) c.self.view_is in
    let then : List ℕ × ComputerState = c.measure.new.self in
    let taken = taken_of c.in_ok-taken.taken in
    let rows = c.in_ok-rows.rows in
    let book : BookState = c.put_taken.new.book in
    let moment = to_z w64 (of_z w64 c.args.moment) in
    let same = to_z-of_z w64 c.args.moment c.ranges.moment in
    let properties : c.properties-properties.result.now ≡ old.book.properties =
    c.properties-properties.ensures.properties ∙ ap (λ (o : OfficeState). o.book.properties) c.self.view_is in
    let measures = subst (λ (m : ℤ). MeasuresComputer m old.book.properties (shown_computer entry.1) taken (shown_computer then.1)) same
    (subst (λ (p : List Property). MeasuresComputer moment p (shown_computer entry.1) taken (shown_computer then.1)) properties c.in_ok-taken.ensures.measures) in
    let puts = subst (λ (o : OfficeState). PutsTaken o.book taken book) c.self.view_is c.in_ok-rows.ensures.puts in
    on_ok_weaker c.say_about.result
    (λ said. measured (kept_of old) _ name c.args.moment place (shown_entry entry) (shown_computer then.1) taken book out c.say_about.new.out
    c.computer_place-place.ensures (entry_seen old.computers place entry is) c.requires.good measures puts
    (computer_measured _ old place then book c.self.view_is
    ∙ ap (λ (n : List ℕ). record (kept_of old) { computers = slice_set (kept_of old).computers place (n, shown_computer then.1); book = book }) c.measure.ensures.name)
    (said ∙ ap (λ n. out ++ about_line (codes "measure" ∷ n ∷ signed_decimal moment ∷ []) (decimal rows ∷ codes "rows" ∷ [])) c.as_str.ensures
    ∙ ap (λ (m : ℤ). out ++ about_line (codes "measure" ∷ name ∷ signed_decimal m ∷ []) (decimal rows ∷ codes "rows" ∷ [])) same
    ∙ ap (λ n. out ++ about_line (codes "measure" ∷ name ∷ signed_decimal c.args.moment ∷ []) (decimal n ∷ codes "rows" ∷ [])) c.in_ok-rows.ensures.rows))
    c.say_about.ensures

pub returns-clause-names : goal.returns-clause-names
returns-clause-names c =
    let old : OfficeState = c.args.self.now in
    let place = c.computer_place-place.result in
    let entry : List ℕ × ComputerState = c.index_mut.result.now in
    let is : entry ≡ get_or old.computers place entry =
    c.index_mut.ensures.value ∙ ap (λ (o : OfficeState). get_or o.computers place entry) c.self.view_is in
    let then : List ℕ × ComputerState = c.measure.new.self in
    let book : BookState = c.put_taken.new.book in
    on_ok_weaker c.say_about.result
    (λ said. keeps_measured (kept_of old) _ c.args.name.now place (shown_entry entry) (shown_computer then.1) book c.computer_place-place.ensures
    (entry_seen old.computers place entry is)
    (computer_measured _ old place then book c.self.view_is
    ∙ ap (λ (n : List ℕ). record (kept_of old) { computers = slice_set (kept_of old).computers place (n, shown_computer then.1); book = book }) c.measure.ensures.name))
    c.say_about.ensures
