use Rattle.std.proofs.Common.{◌≡◌, ℕ, List, Some, Err, refl, ap, inl}
use Rattle.std.proofs.lemmas.Option.{same_Some}
use Rattle.rel_trace.specs.declared.kind.RelKind.TheVariants as of_kind
use Rattle.rel_eval.specs.declared.refusal.Located.{Located}
use Rattle.rel_eval.specs.declared.refusal.Refusal.{Refusal}
use Rattle.rel_eval.specs.declared.refusal.Refusal.TheVariants as refusals
use Rattle.rel_eval.specs.declared.told.OneText.TheVariants as one_text
use Rattle.rel_eval.specs.Answers.{Prepares}
use Rattle.rel_eval.specs.Questions.{refused, undefined}
use Rattle.rel_eval.specs.Refusals.{located}
use Rattle.script_run.specs.Fills.{Unread}
use Rattle.script_run.proofs.asking.unread.Goals as goal

told : (text : List ℕ) (refusal : Refusal) (found : Located) → Some found ≡ located refusal → Prepares text (Err refusal) → Unread text (one_text.Error found.kind found.place)
told text (refusals.At kind place) found is h =
    let same : Located = record { kind = kind; place = place } in
    λ world scene looked. inl (refused kind place, h, (ap (λ (x : Located). one_text.Error x.kind x.place) (same_Some found same is), refl))
told text (refusals.NotDefined place words) found is h =
    let same : Located = record { kind = of_kind.NotDefined; place = place } in
    λ world scene looked. inl (undefined place words, h, (ap (λ (x : Located). one_text.Error x.kind x.place) (same_Some found same is), refl))
told text refusals.Memory found is h = absurd (cc)

pub returns-in-Some-clause-reads : goal.returns-in-Some-clause-reads
returns-in-Some-clause-reads c = λ text h. told text c.args.refusal.now c.in-Some.found c.in-Some.ensures h
