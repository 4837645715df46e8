use Rattle.std.proofs.Common.{ℕ, List, [], ◌∷◌, Option, subst}
use Rattle.line_forms.specs.Readers.{Passes, Spells}
use Rattle.office_text.specs.declared.order.Order.{Order}
use Rattle.office_text.specs.OrderLines.{first_line}
use Rattle.office_text.specs.OrderReadings.{IsShort}
use Rattle.office_text.proofs.short_reader.take_short.Goals as goal

pub returns : goal.returns
returns c =
    let S : Option Order → Type 0 = Spells (IsShort c.args.orders.now) first_line c.in-Some.line.now in
    let P : List ℕ → Type 0 = λ l. Passes c.args.lines.now c.skip_line.new.self (l ∷ []) in
    let read = subst S c.in-Some-2.is c.in_ok-order.ensures in
    (read.0, subst P read.1 (c.skip_line.ensures c.in-Some.line.now c.in-Some.ensures.0 c.in-Some.ensures.1))
