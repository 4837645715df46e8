use Rattle.std.proofs.Common.{◌≡◌, ℤ, List, ap, subst, rules, SFits, w64}
use Rattle.std.proofs.lemmas.Int.{to_z-of_z}
use Rattle.bf_world.specs.declared.key.Key.{Key}
use Rattle.rel_sources.specs.declared.scene.Scene.{Scene}
use Rattle.rel_trace.specs.Trace.{Trace, each}
use Rattle.rel_eval.specs.Ones.{TellsOne}
use Rattle.rel_eval.specs.Singles.{TellsText, worded}
use Rattle.rel_eval.proofs.Singles.{words_at}
use Rattle.rel_eval.proofs.one_texts.one_text.Goals as goal

pub returns-clause-words : goal.returns-clause-words
returns-clause-words g c = λ p w h.
    let at = c.span-span.ensures in
    let offset = c.scene.inside.offset in
    let fits : SFits w64 offset = search rules in
    let same : offset ≡ c.args.scene.now.offset = ap (λ (s : Scene). s.offset) c.scene.view_is in
    let Tells : ℤ → Type 0 = λ z. (t : Trace) (looks : List Key) → TellsOne t c.one_value.result looks → TellsText (each t (worded c.span-span.result z)) c.told.result looks in
    let known : Tells offset = simp to_z-of_z at c.told.ensures.tells in
    words_at _ _ _ _ _ _ _ (ap (λ x. worded x c.args.scene.now.offset) at) (c.one_value.ensures.goes w h) (subst Tells same known)

pub returns-clause-cause : goal.returns-clause-cause
returns-clause-cause g c = rw c.told.ensures.failed c.one_value.ensures.cause
