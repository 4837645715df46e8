use Rattle.std.proofs.Common.{◌≡◌, ◌++◌, ℕ, pos, true, false, nat_eq, Some, sym, ap, ◌∙◌, arith, unsigned_abs, FitsSigned, w64}
use Rattle.std.specs.Option.{option_map}
use Rattle.std.specs.Cmp.Lexicographic.{pointwise}
use Rattle.std.proofs.lemmas.Int.{ints, to_z-of_z}
use Rattle.rel_value.specs.Spellings.{time_text}
use Rattle.rel_value.specs.TimesRead.{time_of}
use Rattle.rel_value.proofs.TimeReads.{Shows, read-none, read-some, bytes-same, bytes-from, not-true, not-false, moment-of, moment-fits, offset-fits}
use Rattle.rel_value.proofs.time_read.time_of.Goals as goal

pub returns-in_default : goal.returns-in_default
returns-in_default c =
    ap (option_map (λ (n : ℕ). pos n)) (sym (read-none c.args.text.now (λ m o shows. (let e = c.in_default.ensures.whole m o shows.0 shows.1 (c.as_bytes.ensures.value ∙ shows.2) in cc))))

pub returns-then-ne : goal.returns-then-ne
returns-then-ne c =
    let s = c.in-Some.shown in
    let fm : FitsSigned w64 s.moment = moment-fits s.moment c.in-Some.ensures.moment in
    let fo : FitsSigned w64 s.offset = offset-fits s.offset c.in-Some.ensures.offset in
    let w = simp to_z-of_z at c.in_ok-write_time.ensures in
    let again : c.as_str.result.now ≡ time_text s.moment s.offset = c.as_str.ensures ∙ w ∙ ap (λ l. l ++ time_text s.moment s.offset) c.in_ok-again.ensures in
    let differ : pointwise nat_eq c.as_str.result.now c.args.text.now ≡ false = not-true _ (sym c.ne.ensures ∙ c.if-ne.true) in
    ap (option_map (λ (n : ℕ). pos n)) (sym (read-none c.args.text.now (λ m o shows. (
    let e = moment-of s m o (c.in-Some.ensures.whole m o shows.0 shows.1 (c.as_bytes.ensures.value ∙ shows.2)) in
    let same : pointwise nat_eq c.as_str.result.now c.args.text.now ≡ true = bytes-same _ _ (again ∙ sym (shows.2 ∙ ap (λ z. time_text z o) e.0 ∙ ap (time_text s.moment) e.1)) in
    cc))))

pub returns : goal.returns
returns c =
    let s = c.in-Some.shown in
    let fm : FitsSigned w64 s.moment = moment-fits s.moment c.in-Some.ensures.moment in
    let fo : FitsSigned w64 s.offset = offset-fits s.offset c.in-Some.ensures.offset in
    let w = simp to_z-of_z at c.in_ok-write_time.ensures in
    let again : c.as_str.result.now ≡ time_text s.moment s.offset = c.as_str.ensures ∙ w ∙ ap (λ l. l ++ time_text s.moment s.offset) c.in_ok-again.ensures in
    let equal : pointwise nat_eq c.as_str.result.now c.args.text.now ≡ true = not-false _ (sym c.ne.ensures ∙ c.if-ne.false) in
    let shows : Shows c.args.text.now s.moment s.offset = (c.in-Some.ensures.moment, c.in-Some.ensures.offset, sym (bytes-from _ _ equal) ∙ again) in
    let found = read-some c.args.text.now s.moment s.offset shows (λ m o other. (moment-of s m o (c.in-Some.ensures.whole m o other.0 other.1 (c.as_bytes.ensures.value ∙ other.2))).0) in
    let whole : pos (unsigned_abs s.moment) ≡ s.moment = omega (arith, ints, c.in-Some.ensures.moment.0) in
    let e : Some s.moment ≡ option_map (λ (n : ℕ). pos n) (time_of c.args.text.now) = ap Some (sym whole) ∙ sym (ap (option_map (λ (n : ℕ). pos n)) found) in
    ap Some (to_z-of_z w64 s.moment fm) ∙ e
