use Rattle.std.proofs.Common.{rules, ◌≡◌, ◌≤◌, [], ◌∷◌, arith, sym, ap, ◌∙◌, length}
use Rattle.std.specs.Prelude.{codes, decimal}
use Rattle.desk_top.proofs.WordsOfServe.{none_more}
use Rattle.desk_top.proofs.words.number_to_make.Goals as goal

pub returns : goal.returns
returns c =
    let least : 1 ≤ c.in-Some-read_number.number = omega (arith, c.if-number-eq0.false) in
    let spelled : c.in-Some.word.now ≡ codes "make" = search (c.as_str.ensures, c.if-ne.ensures, rules) in
    let none : length c.in-Some-split_first.words.now ≡ 0 = search (c.if-not-is_empty.ensures, rules) in
    let digits : c.in-Some-split_first.number.now ≡ decimal c.in-Some-read_number.number =
    sym c.as_str-2.ensures ∙ sym c.as_bytes.ensures.value ∙ c.in-Some-read_number.ensures.0.1 in
    let rest : c.in-Some.words.now ≡ decimal c.in-Some-read_number.number ∷ [] =
    c.in-Some-split_first.ensures.cases.0 ∙ ap (λ w. w ∷ c.in-Some-split_first.words.now) digits ∙ ap (λ l. decimal c.in-Some-read_number.number ∷ l) (none_more c.in-Some-split_first.words.now none) in
    ((least, c.in-Some-read_number.ensures.0.0), c.in-Some.ensures.cases.0 ∙ ap (λ w. w ∷ c.in-Some.words.now) spelled ∙ ap (λ l. codes "make" ∷ l) rest)
