use Rattle.std.proofs.Common.{◌≡◌, ◌≤◌, List, suc, length, Some, arith, refl, sym, ap, ◌∙◌}
use Rattle.std.specs.Prelude.{slice_get}
use Rattle.std.specs.Option.{option_map}
use Rattle.std.proofs.lemmas.List.{length-map}
use Rattle.std.proofs.lemmas.Option.{slice_get-map, slice_get_read}
use Rattle.office_play.specs.declared.message.Message.{Message as KeptMessage}
use Rattle.office_play.specs.Shown.{shown_message}
use Rattle.office_play.specs.States.{OfficeState}
use Rattle.office_play.proofs.MessageWords.{message_found, message_none}
use Rattle.office_play.proofs.office.Office.message.Goals as goal

pub returns-in_ok-copy-in-Some-get : goal.returns-in_ok-copy-in-Some-get
returns-in_ok-copy-in-Some-get c =
    let place = c.in-Some.place in
    let items : List KeptMessage = c.deref.result.now in
    let message : KeptMessage = c.in-Some-get.message.now in
    let lookup = c.in-Some-get.ensures.lookup in
    let next : c.args.number ≡ suc place = omega (arith, c.in-Some.ensures.0, c.in-Some.ensures.1) in
    let got : slice_get items place ≡ Some message = slice_get_read items (length items) place message refl lookup.3.0 lookup.1 in
    let there : slice_get c.args.self.now.messages place ≡ Some (shown_message message) =
    ap (λ (o : OfficeState). slice_get o.messages place) (sym c.self.view_is) ∙ slice_get-map shown_message c.self.inside.messages.items place
    ∙ ap (λ (l : List KeptMessage). option_map shown_message (slice_get l place)) (sym c.deref.ensures.value) ∙ ap (option_map shown_message) got in
    ap (λ (m : KeptMessage). Some (shown_message m)) c.in_ok-copy-in-Some-get.ensures
    ∙ message_found c.args.number place c.args.self.now.messages (shown_message message) next there

pub returns-in-None : goal.returns-in-None
returns-in-None c =
    let place = c.in-Some.place in
    let lookup = c.in-None.ensures.lookup in
    let next : c.args.number ≡ suc place = omega (arith, c.in-Some.ensures.0, c.in-Some.ensures.1) in
    let long : length c.args.self.now.messages ≡ length c.deref.result.now =
    ap (λ (o : OfficeState). length o.messages) (sym c.self.view_is) ∙ length-map c.self.inside.messages.items shown_message ∙ ap length (sym c.deref.ensures.value) in
    let past : length c.args.self.now.messages ≤ place = omega (arith, long, lookup.3) in
    message_none c.args.number place c.args.self.now.messages next past
