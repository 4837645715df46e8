use Rattle.std.proofs.Common.{List, refl, sym, ap, ◌∙◌}
use Rattle.std.specs.Option.{option_map}
use Rattle.std.specs.List.{slice_get}
use Rattle.script_text.specs.declared.reader.Open.{Open}
use Rattle.script_text.proofs.Steps.{outermost_is, if_open, file_open, all_closed}
use Rattle.script_text.proofs.reader.Reader.finish.Goals as goal

pub returns-in-Some : goal.returns-in-Some
returns-in-Some c = λ p s. if_open p c.in-Some.line (outermost_is p c.args.self s ∙ ap (λ (l : List Open). option_map (λ (o : Open). o.line) (slice_get l 0)) (sym c.as_slice.ensures.value) ∙ sym c.outermost_line.ensures ∙ c.in-Some.is)

pub returns-in-Some-create : goal.returns-in-Some-create
returns-in-Some-create c = λ p s. file_open p c.in-Some-create.create (outermost_is p c.args.self s ∙ ap (λ (l : List Open). option_map (λ (o : Open). o.line) (slice_get l 0)) (sym c.as_slice.ensures.value) ∙ sym c.outermost_line.ensures ∙ c.in_default.is) (sym c.in-Some-create.is ∙ s.create)

pub returns-in-None : goal.returns-in-None
returns-in-None c = λ p s. all_closed p c.args.self _ (outermost_is p c.args.self s ∙ ap (λ (l : List Open). option_map (λ (o : Open). o.line) (slice_get l 0)) (sym c.as_slice.ensures.value) ∙ sym c.outermost_line.ensures ∙ c.in_default.is) (sym c.in-None.is ∙ s.create) s refl refl
