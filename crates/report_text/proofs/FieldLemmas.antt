-- Fields have no spaces, and each is that of one value. Other crates may cite these lemmas.
use Rattle.std.proofs.Common.{ℕ, ◌≡◌, ◌≢◌, ◌^◌, ◌<◌, ℤ, pos, negsuc, List, refl, sym, ap, ◌∙◌, arith, Option, Some, None}
use Rattle.std.specs.Prelude.{codes, IfSome}
use Rattle.std.proofs.lemmas.Int.{ints}
use Rattle.std.proofs.lemmas.Fmt.{decimal_injective, signed_decimal_injective}
use Rattle.line_forms.proofs.PlainLemmas.{IsPlain, dash_decimal, dash_signed, moment_mag, plain_by, plain_dash, plain_decimal, plain_signed}
use Rattle.act_rules.specs.declared.row.Outcome.{Outcome}
use Rattle.act_rules.specs.declared.row.Outcome.TheVariants.{Fixed, Failed, Interrupted}
use Rattle.report_text.specs.ReportRows.{IsExit, IsPlace}
use Rattle.report_text.specs.RowLines.{outcome_word, outcome_field, end_field, exit_field, component_field, line_field}
use Rattle.report_text.specs.FieldTexts.{IsEnd}
use lib.Signed.{mag}

-- a number that a field has fits 64 bits
pub exit_mag : (z : ℤ) → IsExit z → mag z < 2 ^ 63
exit_mag (pos n) h = omega (arith, ints, h.1)
exit_mag (negsuc n) h = omega (arith, ints, h.0)

-- a word is that of one outcome
outcome_one : (o p : Outcome) → outcome_word o ≡ outcome_word p → o ≡ p
outcome_one Fixed Fixed h = refl
outcome_one Fixed Failed h = cc
outcome_one Fixed Interrupted h = cc
outcome_one Failed Fixed h = cc
outcome_one Failed Failed h = refl
outcome_one Failed Interrupted h = cc
outcome_one Interrupted Fixed h = cc
outcome_one Interrupted Failed h = cc
outcome_one Interrupted Interrupted h = refl

not_running : (o : Outcome) → codes "running" ≡ outcome_word o → ⊥
not_running Fixed h = cc
not_running Failed h = cc
not_running Interrupted h = cc

-- an end has one outcome and one moment
pub end_one : (e f : Option (ℤ × Outcome)) → IsEnd e → IsEnd f → outcome_field e ≡ outcome_field f → end_field e ≡ end_field f → e ≡ f
end_one None None a b h k = refl
end_one None (Some (t, o)) a b h k = absurd (not_running o h)
end_one (Some (t, o)) None a b h k = absurd (not_running o (sym h))
end_one (Some (t, o)) (Some (u, p)) a b h k =
    let t_is = signed_decimal_injective t u (moment_mag t a) (moment_mag u b) k in
    let o_is = outcome_one o p h in
    ap (λ x. Some (x, o)) t_is ∙ ap (λ x. Some (u, x)) o_is

-- a field is that of one exit code, if there is one
pub exit_one : (e f : Option ℤ) → IfSome e IsExit → IfSome f IsExit → exit_field e ≡ exit_field f → e ≡ f
exit_one None None a b h = refl
exit_one None (Some y) a b h = absurd (dash_signed y (exit_mag y b) h)
exit_one (Some x) None a b h = absurd (dash_signed x (exit_mag x a) (sym h))
exit_one (Some x) (Some y) a b h = ap Some (signed_decimal_injective x y (exit_mag x a) (exit_mag y b) h)

-- two fields are those of one place, if there is one
pub place_one : (p q : Option (ℕ × ℕ)) → IfSome p IsPlace → IfSome q IsPlace → component_field p ≡ component_field q → line_field p ≡ line_field q → p ≡ q
place_one None None a b h k = refl
place_one None (Some (c, l)) a b h k = absurd (dash_decimal c (omega (arith, b.0)) h)
place_one (Some (c, l)) None a b h k = absurd (dash_decimal c (omega (arith, a.0)) (sym h))
place_one (Some (c, l)) (Some (d, m)) a b h k =
    let c_is = decimal_injective c d (omega (arith, a.0)) (omega (arith, b.0)) h in
    let l_is = decimal_injective l m (omega (arith, a.1)) (omega (arith, b.1)) k in
    ap (λ x. Some (x, l)) c_is ∙ ap (λ x. Some (d, x)) l_is

-- all fields are plain
plain_word : (o : Outcome) → IsPlain (outcome_word o)
plain_word Fixed = plain_by (codes "fixed") refl
plain_word Failed = plain_by (codes "failed") refl
plain_word Interrupted = plain_by (codes "interrupted") refl

pub plain_outcome : (e : Option (ℤ × Outcome)) → IsPlain (outcome_field e)
plain_outcome None = plain_by (codes "running") refl
plain_outcome (Some e) = plain_word e.1

pub plain_end : (e : Option (ℤ × Outcome)) → IsEnd e → IsPlain (end_field e)
plain_end None h = plain_dash
plain_end (Some e) h = plain_signed e.0 (moment_mag e.0 h)

pub plain_exit : (e : Option ℤ) → IfSome e IsExit → IsPlain (exit_field e)
plain_exit None h = plain_dash
plain_exit (Some x) h = plain_signed x (exit_mag x h)

pub plain_component : (p : Option (ℕ × ℕ)) → IfSome p IsPlace → IsPlain (component_field p)
plain_component None h = plain_dash
plain_component (Some p) h = plain_decimal p.0 (omega (arith, h.0))

pub plain_line : (p : Option (ℕ × ℕ)) → IfSome p IsPlace → IsPlain (line_field p)
plain_line None h = plain_dash
plain_line (Some p) h = plain_decimal p.1 (omega (arith, h.1))

pub no_word : (word : List ℕ) → word ≢ codes "fixed" → word ≢ codes "failed" → word ≢ codes "interrupted" → (o : Outcome) → word ≡ outcome_word o → ⊥
no_word word a b c Fixed h = a h
no_word word a b c Failed h = b h
no_word word a b c Interrupted h = c h

-- a component and no line
pub half_place : (component line : List ℕ) → component ≡ codes "-" → line ≢ codes "-" → (p : Option (ℕ × ℕ)) → IfSome p IsPlace → component ≡ component_field p → line ≡ line_field p → ⊥
half_place component line e other None h a b = other b
half_place component line e other (Some p) h a b = dash_decimal p.0 (omega (arith, h.0)) (sym e ∙ a)
