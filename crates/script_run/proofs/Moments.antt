-- Texts that are read as times.
use Rattle.std.proofs.Common.{◌≡◌, ◌≢◌, ℕ, ℤ, pos, List, length, Option, Some, None, refl, sym, ap, subst, ◌∙◌}
use Rattle.std.specs.Prelude.{Result, Ok, Err}
use Rattle.std.specs.declared.alloc.AllocError.{AllocError}
use Rattle.rel_value.specs.declared.cast_name.Cast.TheVariants as to
use Rattle.rel_value.specs.declared.fault.ValueFault.{ValueFault}
use Rattle.rel_value.specs.declared.value.Value.{Value}
use Rattle.rel_value.specs.declared.value.Value.TheVariants.{Text, rolls-Text}
use Rattle.rel_value.specs.declared.value.Value.TheOpen as layer
use Rattle.rel_value.specs.declared.value.Value.TheFolds.{fold-roll-Value}
use Rattle.rel_value.specs.Plain.{Plain, Parts, words}
use Rattle.rel_value.specs.Views.{value_step, values_step, shown}
use Rattle.rel_value.specs.Outcomes.{Answers}
use Rattle.rel_value.specs.Casts.{cast, time_read}
use Rattle.rel_value.specs.TimesRead.{time_of}
use Rattle.rel_value.proofs.TimeReads.{read-from, laid}
use Rattle.script_run.specs.Fills.{ReadsTime, ReadsMoment}

shown-text : (t : List ℕ) → shown (Text t) ≡ words t
shown-text t = ap shown (sym (rolls-Text t)) ∙ fold-roll-Value Plain Parts value_step values_step (layer.Text t)

-- a text is read as a time by its cast
pub cast_reads : (t : List ℕ) (answer : Result Value ValueFault) → Answers (cast to.Time (shown (Text t)) (pos 0)) answer → Answers (time_read (time_of t)) answer
cast_reads t answer h = let P : Plain → Type 0 = λ p. Answers (cast to.Time p (pos 0)) answer in subst P (shown-text t) h

-- each time text has 31 bytes
time_long : (t : List ℕ) (moment : ℕ) → time_of t ≡ Some moment → length t ≡ 31
time_long t moment h =
    let r = read-from t moment h in
    let l = laid t (pos moment) r.1.0 r.0 r.1.1 r.1.2 in l.long

pub not_time : (t : List ℕ) → length t ≢ 31 → time_of t ≡ None
not_time t other = by (time_of t) refl
  where
    by : (o : Option ℕ) → time_of t ≡ o → o ≡ None
    by None is = refl
    by (Some moment) is = absurd (other (time_long t moment is))

-- what is read of a text is its moment
pub moment_reads : (t : List ℕ) (result : Result (Option ℤ) AllocError) → ReadsMoment (time_of t) result → ReadsTime t result
moment_reads t (Ok (Some moment)) h = (rw h.2 ((read-from t h.0 h.1).0), h)
moment_reads t (Ok None) h = h
moment_reads t (Err error) h = tt
