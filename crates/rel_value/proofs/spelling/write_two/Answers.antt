use Rattle.std.proofs.Common.{◌≡◌, ap, subst, ◌∙◌, ◌++◌, [], ◌∷◌, List, ℕ, append_assoc, OnOk, decimal}
use Rattle.rel_value.specs.Spellings.{two}
use Rattle.rel_value.proofs.Digits.{two-small, two-large}
use Rattle.rel_value.proofs.spelling.write_two.Goals as goal
use Rattle.rel_value.proofs.spelling.write_two.Goals.{then-number-lt10+in_ok-push, else-number-lt10}

pub returns : goal.returns
returns c =
    let n = c.args.number in
    let P : List ℕ → Type 0 = λ l. OnOk c.write_number.result (c.write_number.new.out ≡ l) in
    elim c.if-number-lt10.branch [
      | then-number-lt10+in_ok-push w ↦
          let e : c.if-number-lt10.out ++ decimal n ≡ c.args.out.now ++ two n =
          ap (λ l. l ++ decimal n) (w.out-is ∙ w.in_ok-push.ensures.ok)
          ∙ append_assoc c.args.out.now (48 ∷ []) (decimal n)
          ∙ ap (λ l. c.args.out.now ++ l) (two-small n w.if-number-lt10.true) in
          subst P e c.write_number.ensures
      | else-number-lt10 w ↦
          let e : c.if-number-lt10.out ++ decimal n ≡ c.args.out.now ++ two n =
          ap (λ l. l ++ decimal n) w.out-is ∙ ap (λ l. c.args.out.now ++ l) (two-large n w.if-number-lt10.false c.requires) in
          subst P e c.write_number.ensures
    ]
