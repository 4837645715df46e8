-- What an analyst takes is one thing.
use Rattle.std.proofs.Common.{ℕ, suc, ◌≡◌, inl, inr, ℤ, List, [], ◌∷◌, length, Some, refl, sym, ap, subst, ◌∙◌, arith}
use Rattle.bf_machine.specs.Views.{MachineView}
use Rattle.bf_world.specs.Worlds.{WorldState}
use Rattle.rel_types.specs.Plans.{PlainNode}
use Rattle.rel_eval.specs.Cuts.{meaning}
use Rattle.rel_eval.specs.Questions.{IsPlanOf, question}
use Rattle.rel_eval.proofs.OnePlan.{reading_is_one}
use Rattle.group_text.specs.declared.property.Property.{Property}
use Rattle.group_sample.specs.declared.analyst.Taken.{Taken}
use Rattle.group_sample.specs.declared.analyst.Taken.TheVariants as taken
use Rattle.group_sample.specs.declared.sample.Sample.{Sample}
use Rattle.group_sample.specs.declared.sample.Sampled.{Sampled}
use Rattle.group_sample.specs.Due.{AnalystState, after_sample, due_of}
use Rattle.group_sample.specs.Rows.{IsRowIn, IsRowOf, row_from, scene_at}
use Rattle.group_sample.specs.Samples.{GivesTaken, HasNone, HasNotFailed, HasSome, Measures, Takes}

-- a question has one plan
plan_one : (text : List ℕ) (a b : PlainNode) → IsPlanOf text a → IsPlanOf text b → a ≡ b
plan_one text a b is fine = let same = reading_is_one text (question a) (question b) is fine in cc

-- a property has one row in a world
row_one : (w : WorldState) (moment offset : ℤ) (p : Property) (a b : Sampled) → IsRowIn w moment offset p a → IsRowIn w moment offset p b → a ≡ b
row_one w moment offset p a b (plan, is, same) (other, fine, alike) =
    same ∙ ap (λ (x : PlainNode). row_from p moment offset (meaning w (scene_at moment offset) x)) (plan_one p.question plan other is fine) ∙ sym alike

-- rows of the same properties, none of which failed, are the same
rows_one : (IsRow : Property → Sampled → Type 0) → ((p : Property) (a b : Sampled) → IsRow p a → IsRow p b → a ≡ b) → (ps : List Property) (rows others : List Sampled) → Measures IsRow ps rows 0 → Measures IsRow ps others 0 → rows ≡ others
rows_one IsRow one [] rows others so also = so.0 ∙ sym also.0
rows_one IsRow one (p ∷ ps) rows others (inl (a, more, e, is, rest)) (inl (b, left, f, fine, left_rest)) =
    e ∙ ap (λ x. x ∷ more) (one p a b is fine) ∙ ap (λ l. b ∷ l) (rows_one IsRow one ps more left rest left_rest) ∙ sym f
rows_one IsRow one (p ∷ ps) rows others (inr (fewer, e, rest)) also = absurd (let k : 0 ≡ suc fewer = e in omega arith)
rows_one IsRow one (p ∷ ps) rows others (inl so) (inr (fewer, e, rest)) = absurd (let k : 0 ≡ suc fewer = e in omega arith)

-- nothing is due, or something is
apart : (analyst : AnalystState) (due : List Property) → HasSome analyst due → HasNone analyst due → ⊥
apart analyst due some (inl none) = let count : length due ≡ 0 = ap (length {A = Property}) none in omega (arith, some.any)
apart analyst due some (inr last) = omega (arith, some.left, last)

same_sample : (a b : Sample) → a.computer ≡ b.computer → a.seq ≡ b.seq → a.rows ≡ b.rows → a.failed ≡ b.failed → a ≡ b
same_sample a b c s r f = λ i. record { computer = c i; seq = s i; rows = r i; failed = f i }

given : (w : WorldState) (old new other : MachineView) (analyst after otherwise : AnalystState) (due : List Property) (moment offset : ℤ) (answer another : Taken) → old.world ≡ Some w
    → GivesTaken old analyst due moment offset answer new after → GivesTaken old analyst due moment offset another other otherwise → HasNotFailed answer → HasNotFailed another → (answer ≡ another) × (after ≡ otherwise)
given w old new other analyst after otherwise due moment offset (taken.Sample a) (taken.Sample b) told is fine x y =
    let M : Sample → ℕ → Type 0 = λ s n. Measures (IsRowOf old.world moment offset) due s.rows n in
    let rows = rows_one (IsRowOf old.world moment offset) (λ p r s has also. row_one w moment offset p r s (has.drawn w told) (also.drawn w told)) due a.rows b.rows (subst (M a) x is.rows) (subst (M b) y fine.rows) in
    let same : a ≡ b = same_sample a b (is.computer ∙ sym fine.computer) (is.seq ∙ sym fine.seq) rows (x ∙ sym y) in
    (ap taken.Sample same, is.after_is ∙ ap (after_sample analyst) same ∙ sym fine.after_is)
given w old new other analyst after otherwise due moment offset taken.Nothing taken.Nothing told is fine x y = (refl, is.2 ∙ sym fine.2)
given w old new other analyst after otherwise due moment offset (taken.Sample a) taken.Nothing told is fine x y = absurd (apart analyst due is.some fine.0)
given w old new other analyst after otherwise due moment offset taken.Nothing (taken.Sample b) told is fine x y = absurd (apart analyst due fine.some is.0)
given w old new other analyst after otherwise due moment offset taken.Memory another told is fine x y = absurd x
given w old new other analyst after otherwise due moment offset (taken.Sample a) taken.Memory told is fine x y = absurd y
given w old new other analyst after otherwise due moment offset taken.Nothing taken.Memory told is fine x y = absurd y

pub sample_one : (w : WorldState) (old new other : MachineView) (analyst after otherwise : AnalystState) (properties : List Property) (moment offset : ℤ) (answer another : Taken) → old.world ≡ Some w
    → Takes old analyst properties moment offset answer new after → Takes old analyst properties moment offset another other otherwise → HasNotFailed answer → HasNotFailed another → (answer ≡ another) × (after ≡ otherwise)
sample_one w old new other analyst after otherwise properties moment offset answer another told is fine x y =
    given w old new other analyst after otherwise (due_of analyst moment properties) moment offset answer another told is fine x y
