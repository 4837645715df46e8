use Rattle.std.proofs.Common.{◌≡◌, ◌<◌, ◌+◌, ◌++◌, ◌∷◌, [], List, ℕ, get_or, length, sym, ap, subst, ◌∙◌, arith, map, take, rules}
use Rattle.std.proofs.lemmas.List.{append-nil, take_all}
use Rattle.std.proofs.lemmas.Result.{err_from_is_err_and}
use Rattle.rel_value.specs.declared.value.Value.{Value, the_lemmas}
use Rattle.rel_value.specs.Operands.{AreSound, IsSound}
use Rattle.rel_value.specs.Plain.{Parts, no_parts}
use Rattle.rel_value.specs.Texts.{text_of, texts_of, enclosed}
use Rattle.rel_value.specs.Views.{shown, shown_parts, parted, value_items}
use Rattle.rel_value.proofs.Shown.{parts-out}
use Rattle.rel_value.proofs.Written.{sound-part, part-written, part-too-long, too-long, comma-first, comma-more, fault-moves}
use Rattle.rel_value.proofs.texts.+write.Goals as goal
use Rattle.rel_value.proofs.texts.+write.Goals.{write_parts-then-i-gt0+in_ok-push, write_parts-else-i-gt0}

pub write_parts-write_part-requires : goal.write_parts-write_part-requires
write_parts-write_part-requires t c =
    let xs = value_items c.args.parts.now in
    let P : List Value → Type 0 = λ l. (c.loop-i.i < length l) × (c.part-item.result ≡ get_or l c.loop-i.i c.part-item.result) in
    let at = subst P c.deref-part-items.ensures.value (c.loop-i-test.true, c.part-item.is) in
    let Q : Parts → Type 0 = AreSound in
    let sound : IsSound (shown c.part-item.result) = sound-part no_parts xs c.loop-i.i c.part-item.result (subst Q (parts-out c.args.parts.now) c.requires.sound) at.0 at.1 in
    (search (rules, the_lemmas), (sound, c.requires.offset_in))

pub write_parts-returns-in_err-write_part : goal.write_parts-returns-in_err-write_part
write_parts-returns-in_err-write_part t c =
    let p = err_from_is_err_and c.from_residual-in_err-write_part.result c.from_residual-in_err-write_part.ensures.1 in
    let xs = value_items c.args.parts.now in
    let P : List Value → Type 0 = λ l. (c.loop-i.i < length l) × (c.part-item.result ≡ get_or l c.loop-i.i c.part-item.result) in
    let at = subst P c.deref-part-items.ensures.value (c.loop-i-test.true, c.part-item.is) in
    let start = c.args.out.now in
    let o = c.args.zone.offset in
    let v = c.part-item.result in
    let T : Parts → Type 0 = λ ps. 1048576 < length start + length (texts_of o ps) in
    let long : 1048576 < length c.if-i-gt0.out + length (enclosed (shown v) (text_of o (shown v))) → 1048576 < length start + length (texts_of o (shown_parts c.args.parts.now)) = λ h.
    subst T (sym (parts-out c.args.parts.now)) (elim c.if-i-gt0.branch [
      | write_parts-then-i-gt0+in_ok-push w ↦
          part-too-long start c.loop-i.out (44 ∷ 32 ∷ []) c.if-i-gt0.out o xs c.loop-i.i v c.loop-i.invariant at.0 at.1 (comma-more xs c.loop-i.i w.if-i-gt0.true at.0) (w.out-is ∙ w.in_ok-push.ensures.ok) h
      | write_parts-else-i-gt0 w ↦
          part-too-long start c.loop-i.out [] c.if-i-gt0.out o xs c.loop-i.i v c.loop-i.invariant at.0 at.1 (comma-first xs c.loop-i.i w.if-i-gt0.false) (w.out-is ∙ sym (append-nil c.loop-i.out)) h
    ]) in
    rw (p.1, p.2) (fault-moves c.if-i-gt0.out (enclosed (shown v) (text_of o (shown v))) start (texts_of o (shown_parts c.args.parts.now)) c.write_part.new.out c.in_err-write_part.field-0.0 long c.in_err-write_part.ensures)

pub write_parts-returns-then-as_str-gt-LONGEST : goal.write_parts-returns-then-as_str-gt-LONGEST
write_parts-returns-then-as_str-gt-LONGEST t c =
    let xs = value_items c.args.parts.now in
    let P : List Value → Type 0 = λ l. (c.loop-i.i < length l) × (c.part-item.result ≡ get_or l c.loop-i.i c.part-item.result) in
    let at = subst P c.deref-part-items.ensures.value (c.loop-i-test.true, c.part-item.is) in
    let start = c.args.out.now in
    let o = c.args.zone.offset in
    let v = c.part-item.result in
    let long : 1048576 < length c.write_part.new.out = omega (arith, ap (length {A = ℕ}) c.as_str.ensures, c.if-as_str-gt-LONGEST.true) in
    let T : Parts → Type 0 = λ ps. 1048576 < length start + length (texts_of o ps) in
    let written : c.write_part.new.out ≡ start ++ texts_of o (parted no_parts (map shown (take (c.loop-i.i + 1) xs))) =
    elim c.if-i-gt0.branch [
      | write_parts-then-i-gt0+in_ok-push w ↦
          part-written start c.loop-i.out (44 ∷ 32 ∷ []) c.if-i-gt0.out c.write_part.new.out o xs c.loop-i.i v c.loop-i.invariant at.0 at.1 (comma-more xs c.loop-i.i w.if-i-gt0.true at.0) (w.out-is ∙ w.in_ok-push.ensures.ok) c.in_ok-write_part.ensures
      | write_parts-else-i-gt0 w ↦
          part-written start c.loop-i.out [] c.if-i-gt0.out c.write_part.new.out o xs c.loop-i.i v c.loop-i.invariant at.0 at.1 (comma-first xs c.loop-i.i w.if-i-gt0.false) (w.out-is ∙ sym (append-nil c.loop-i.out)) c.in_ok-write_part.ensures
    ] in
    subst T (sym (parts-out c.args.parts.now)) (too-long start c.write_part.new.out o xs (c.loop-i.i + 1) written long)

pub write_parts-loop-i-preserved : goal.write_parts-loop-i-preserved
write_parts-loop-i-preserved t c =
    let xs = value_items c.args.parts.now in
    let P : List Value → Type 0 = λ l. (c.loop-i.i < length l) × (c.part-item.result ≡ get_or l c.loop-i.i c.part-item.result) in
    let at = subst P c.deref-part-items.ensures.value (c.loop-i-test.true, c.part-item.is) in
    let start = c.args.out.now in
    let o = c.args.zone.offset in
    let v = c.part-item.result in
    elim c.if-i-gt0.branch [
      | write_parts-then-i-gt0+in_ok-push w ↦
          part-written start c.loop-i.out (44 ∷ 32 ∷ []) c.if-i-gt0.out c.write_part.new.out o xs c.loop-i.i v c.loop-i.invariant at.0 at.1 (comma-more xs c.loop-i.i w.if-i-gt0.true at.0) (w.out-is ∙ w.in_ok-push.ensures.ok) c.in_ok-write_part.ensures
      | write_parts-else-i-gt0 w ↦
          part-written start c.loop-i.out [] c.if-i-gt0.out c.write_part.new.out o xs c.loop-i.i v c.loop-i.invariant at.0 at.1 (comma-first xs c.loop-i.i w.if-i-gt0.false) (w.out-is ∙ sym (append-nil c.loop-i.out)) c.in_ok-write_part.ensures
    ]

pub write_parts-returns : goal.write_parts-returns
write_parts-returns t c =
    let xs = value_items c.args.parts.now in
    let all : take c.loop-i.i xs ≡ xs = take_all c.loop-i.i xs (omega (arith, ap (length {A = Value}) c.deref-part-items.ensures.value, c.loop-i-test.false)) in
    c.loop-i.invariant ∙ ap (λ l. c.args.out.now ++ texts_of c.args.zone.offset (parted no_parts (map shown l))) all ∙ ap (λ ps. c.args.out.now ++ texts_of c.args.zone.offset ps) (sym (parts-out c.args.parts.now))
