use Rattle.std.proofs.Common.{ℕ, [], ◌∷◌, map, refl, sym, subst}
use Rattle.std.specs.Prelude.{codes, decimal}
use Rattle.line_forms.specs.Readers.{Passes}
use Rattle.line_forms.proofs.Passing.{takes_rest}
use Rattle.agent_text.specs.Histories.{shown_history}
use Rattle.agent_text.specs.SavedTexts.{pending_line}
use Rattle.agent_text.proofs.PendingPlaces.{no_id, not_from, nowhere, too_early_id}
use Rattle.agent_text.proofs.history_reader.take_pending_line.Goals as goal

pub returns-in_default-read_id : goal.returns-in_default-read_id
returns-in_default-read_id c = (
  refl,
  no_id (map shown_history c.args.histories.now) c.args.from c.args.lines.now c.in-Some.rest.now c.in-Some.ensures.0 c.requires c.in-Some.ensures.1 c.in_default-read_id.ensures,
)

pub returns-in_default-place_of : goal.returns-in_default-place_of
returns-in_default-place_of c = (
  refl,
  not_from (map shown_history c.args.histories.now) c.args.from c.args.lines.now c.in-Some.rest.now c.in-Some.ensures.0 c.in-Some-read_id.action c.requires c.in-Some.ensures.1
      c.in-Some-read_id.ensures.0 c.in-Some-read_id.ensures.1 (nowhere (map shown_history c.args.histories.now) c.args.from c.in-Some-read_id.action c.in_default-place_of.ensures),
)

pub returns-then-place-from : goal.returns-then-place-from
returns-then-place-from c = (
  refl,
  not_from (map shown_history c.args.histories.now) c.args.from c.args.lines.now c.in-Some.rest.now c.in-Some.ensures.0 c.in-Some-read_id.action c.requires c.in-Some.ensures.1
      c.in-Some-read_id.ensures.0 c.in-Some-read_id.ensures.1
      (too_early_id (map shown_history c.args.histories.now) c.in-Some-place_of.place c.args.from c.in-Some-read_id.action c.in-Some-place_of.ensures.0 c.requires c.in-Some-place_of.ensures.1 c.in-Some-place_of.ensures.2 c.if-place-from.true),
)

pub returns : goal.returns
returns c =
    let P : ℕ → Type 0 = λ n. Passes c.args.lines.now c.skip_line.new.self (pending_line n ∷ []) in (
      c.if-place-from.false,
      (
        c.in-Some-place_of.ensures.0,
        c.in-Some-place_of.ensures.1,
        subst P (sym c.in-Some-place_of.ensures.2)
            (takes_rest c.args.lines.now c.skip_line.new.self (codes "pending") c.in-Some.rest.now (decimal c.in-Some-read_id.action) c.in-Some.ensures.0 c.in-Some.ensures.1 c.in-Some-read_id.ensures.1 c.skip_line.ensures),
      ),
    )
