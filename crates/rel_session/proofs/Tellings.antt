-- What can be told of a trace, and what is told over a stretch of it.
use Rattle.std.proofs.Common.{◌≡◌, ◌⊎◌, ℕ, zero, suc, ◌<◌, ◌≤◌, ℤ, List, [], ◌∷◌, ◌++◌, length, Err, None, Some, inl, inr, refl, sym, ap, ◌∙◌, append_assoc, subst, arith}
use Rattle.std.proofs.lemmas.Bool.{cases_order}
use Rattle.std.specs.declared.option.Option.{Option}
use Rattle.rel_lexer.specs.declared.place.Place.{Place}
use Rattle.bf_world.specs.declared.key.Key.{Key}
use Rattle.rel_value.specs.Plain.{Plain}
use Rattle.rel_value.specs.declared.fault.ValueFault.{ValueFault}
use Rattle.rel_value.specs.declared.fault.ValueFault.TheVariants as fault
use Rattle.rel_value.specs.Outcomes.{AnswersText}
use Rattle.rel_value.specs.Texts.{text_of}
use Rattle.rel_trace.specs.declared.kind.RelKind.{RelKind}
use Rattle.rel_trace.specs.declared.kind.RelKind.TheVariants.{TextTooLong}
use Rattle.rel_trace.specs.Steps.{LooksAt}
use Rattle.rel_trace.specs.Trace.{Stop, Error, Event, Look, Turn, Give, Trace, Ends, After}
use Rattle.rel_nodes.specs.Steps.{prepend, keys, gives}
use Rattle.rel_eval.specs.Pulls.{Skips}
use Rattle.rel_session.specs.declared.paused.Left.TheVariants as left
use Rattle.rel_session.specs.declared.paused.Step.{Step}
use Rattle.rel_session.specs.declared.paused.Step.TheVariants.{On, Out}
use Rattle.rel_session.specs.Printed.{said_value, said_error, said_more}
use Rattle.rel_session.specs.Tellings.{Telling, ended, faulted, paused, onto, GoesOn, Tells}
use Rattle.rel_session.specs.Waiting.{Comes, TellsValue}

-- Each trace has a telling in which no look fails, in each room.
abbrev CanBeTold : ℤ → Place → Option ℕ → Trace → Type 0
CanBeTold offset span room t = (told : Telling) × Tells offset span room t told × (told.faults ≡ 0)

goes_on_somehow : (offset : ℤ) (span : Place) (room : Option ℕ) (t : Trace) → ((left : Option ℕ) → CanBeTold offset span left t)
    → (u : Telling) × GoesOn room t (λ left. Tells offset span left t) u × (u.faults ≡ 0)
goes_on_somehow offset span None t rest = rest None
goes_on_somehow offset span (Some zero) t rest = (paused t, refl, refl)
goes_on_somehow offset span (Some (suc n)) t rest = rest (Some n)

-- a text is too long, or it isn't
by_order : (n : ℕ) → (1048576 ≡ n) ⊎ ((1048576 < n) ⊎ (n < 1048576)) → (1048576 < n) ⊎ (n ≤ 1048576)
by_order n (inl same) = inr (omega (arith, same))
by_order n (inr (inl long)) = inl long
by_order n (inr (inr short)) = inr (omega (arith, short))

value_somehow : (offset : ℤ) (span : Place) (room : Option ℕ) (v : Plain) (t : Trace) → (1048576 < length (text_of offset v)) ⊎ (length (text_of offset v) ≤ 1048576)
    → ((left : Option ℕ) → CanBeTold offset span left t) → CanBeTold offset span room (After (Give v) t)
unfolding Tells
value_somehow offset span room v t (inl long) rest = (ended (said_error TextTooLong span), inl (long, refl), refl)
value_somehow offset span room v t (inr short) rest =
    let u = goes_on_somehow offset span room t rest in
    (onto (said_value (text_of offset v)) [] u.0, inr (short, (u.0, u.1, refl)), u.2)

pub can_be_told : (offset : ℤ) (span : Place) (room : Option ℕ) (t : Trace) → (told : Telling) × Tells offset span room t told × (told.faults ≡ 0)
unfolding Tells
can_be_told offset span room (Ends Stop) = (ended [], refl, refl)
can_be_told offset span room (Ends (Error kind place)) = (ended (said_error kind place), refl, refl)
can_be_told offset span room (After (Look place key) t) = let u = can_be_told offset span room t in (onto [] (key ∷ []) u.0, inr (u.0, u.1, refl), u.2)
can_be_told offset span room (After (Turn place) t) = can_be_told offset span room t
can_be_told offset span room (After (Give v) t) = value_somehow offset span room v t (by_order (length (text_of offset v)) (cases_order 1048576 (length (text_of offset v)))) (λ left. can_be_told offset span left t)

-- over a stretch without a value
pub told_over : (offset : ℤ) (span : Place) (room : Option ℕ) (events : List Event) (t : Trace) (u : Telling) → gives events ≡ [] → Tells offset span room t u → Tells offset span room (prepend events t) (onto [] (keys events) u)
unfolding Tells
told_over offset span room [] t u quiet told = told
told_over offset span room (Look place key ∷ events) t u quiet told = inr (onto [] (keys events) u, told_over offset span room events t u quiet told, refl)
told_over offset span room (Turn place ∷ events) t u quiet told = told_over offset span room events t u quiet told
told_over offset span room (Give v ∷ events) t u quiet told = absurd (cc)

pub told_past : (offset : ℤ) (span : Place) (room : Option ℕ) (t : Trace) (looks : List Key) (later : Trace) (u : Telling) → Skips t looks later → Tells offset span room later u → Tells offset span room t (onto [] looks u)
told_past offset span room t looks later u skips told =
    let Whole : Trace → Type 0 = λ x. Tells offset span room x (onto [] looks u) in
    let Looks : List Key → Type 0 = λ l. Tells offset span room (prepend skips.events later) (onto [] l u) in
    subst Whole (sym skips.whole) (subst Looks (sym skips.looked) (told_over offset span room skips.events later u skips.quiet told))

-- the look that comes next may fail
pub told_fault : (offset : ℤ) (span : Place) (room : Option ℕ) (place : Place) (t : Trace) → LooksAt place t → Tells offset span room t (faulted place)
unfolding Tells
told_fault offset span room place t at = let Whole : Trace → Type 0 = λ x. Tells offset span room x (faulted place) in subst Whole (sym at.2) (inl refl)

pub told_stop : (offset : ℤ) (span : Place) (room : Option ℕ) → Tells offset span room (Ends Stop) (ended [])
unfolding Tells
told_stop offset span room = refl

pub told_error : (offset : ℤ) (span : Place) (room : Option ℕ) (kind : RelKind) (place : Place) → Tells offset span room (Ends (Error kind place)) (ended (said_error kind place))
unfolding Tells
told_error offset span room kind place = refl

-- ---- what comes of a step

-- a value was told, and then this came of what it leaves
value_comes : (offset : ℤ) (span : Place) (room : Option ℕ) (v : Plain) (step : Step) (said : List ℕ) → length (text_of offset v) ≤ 1048576
    → ((t : Trace) → Comes (λ next. Tells offset span next t) (GoesOn room t (λ left. Tells offset span left t)) step t said [] 0)
    → (t : Trace) → Comes (λ next. Tells offset span next t) (Tells offset span room (After (Give v) t)) step t (said_value (text_of offset v) ++ said) [] 0
unfolding Tells
value_comes offset span room v (On next) said short comes t =
    (λ u told. inr (short, (onto said [] u, (comes t).0 u told, ap (λ l. record u { bytes = l }) (append_assoc (said_value (text_of offset v)) said u.bytes))), refl)
value_comes offset span room v (Out why) said short comes t =
    let c = comes t in
    record {
      told = onto (said_value (text_of offset v)) [] c.told;
      is = inr (short, (c.told, c.is, refl));
      goes = c.goes;
      bytes = ap (λ l. said_value (text_of offset v) ++ l) c.bytes;
      looks = c.looks;
      failed = c.failed;
    }

pub comes_of_value : (offset : ℤ) (span : Place) (room : Option ℕ) (v : Plain) (step : Step) (old mid new : List ℕ) → length (text_of offset v) ≤ 1048576
    → mid ≡ old ++ said_value (text_of offset v) → TellsValue offset span (λ t. GoesOn room t (λ left. Tells offset span left t)) step mid new
    → TellsValue offset span (λ t. Tells offset span room (After (Give v) t)) step old new
comes_of_value offset span room v step old mid new short said rest = record {
  said = said_value (text_of offset v) ++ rest.said;
  comes = value_comes offset span room v step rest.said short rest.comes;
  appended = rest.appended ∙ ap (λ l. l ++ rest.said) said ∙ append_assoc old (said_value (text_of offset v)) rest.said;
}

-- a value that is too long
pub comes_of_long : (offset : ℤ) (span : Place) (room : Option ℕ) (v : Plain) (old new : List ℕ) → 1048576 < length (text_of offset v)
    → new ≡ old ++ said_error TextTooLong span → TellsValue offset span (λ t. Tells offset span room (After (Give v) t)) (Out left.Nothing) old new
unfolding Tells
comes_of_long offset span room v old new long said = record {
  said = said_error TextTooLong span;
  comes = λ t. record { told = ended (said_error TextTooLong span); is = inl (long, refl); goes = refl; bytes = refl; looks = refl; failed = refl };
  appended = said;
}

-- a page is full
pub comes_of_full : (offset : ℤ) (span : Place) (old new : List ℕ) → new ≡ old ++ said_more → TellsValue offset span (λ t. GoesOn (Some 0) t (λ left. Tells offset span left t)) (Out left.More) old new
comes_of_full offset span old new said = record {
  said = said_more;
  comes = λ t. record { told = paused t; is = refl; goes = refl; bytes = refl; looks = refl; failed = refl };
  appended = said;
}

-- a text that was refused for its length
pub too_long : (text : List ℕ) (why : ValueFault) → why ≡ fault.TextTooLong → AnswersText text (Err why) → 1048576 < length text
too_long text why is answers = let Refused : ValueFault → Type 0 = λ e. AnswersText text (Err e) in subst Refused is answers
